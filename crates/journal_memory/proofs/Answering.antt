-- What a hold answers, as one event, from what it promises by itself.
use Rattle.std.proofs.Common.{◌≡◌, ◌≤◌, ◌+◌, ◌↔◌, ⊎_elim, ℕ, Bool, true, false, IsTrue, IsSome, IfSome, Some, None, Option, Result, Ok, Err, IfOk, IfErr, OnOk, OnErr, [], inr, refl}
use Rattle.std.proofs.lemmas.Bool.{false≢true}
use Rattle.std.proofs.Math.Nat.{lt_of_not-le}
use Rattle.journal_world.specs.declared.address.Addr.{Addr}
use Rattle.journal_world.specs.declared.refusal.Refusal.{Refusal}
use Rattle.journal_world.specs.Addresses.{Value, Shape}
use Rattle.journal_world.specs.Maps.{Agrees, value_at, is_object}
use Rattle.journal_world.specs.Histories.{is_trusted, is_fenced, commits_of, latest, count, floor}
use Rattle.journal_block.specs.Block.{Bytes}
use Rattle.journal_block.specs.Updates.{updates_block}
use Rattle.journal_tail.specs.ObjectTails.{known_at, known_updates, missing_blocks}
use Rattle.journal_history.specs.Tokens.{SessionState, CommitPlace, IsExact, OnlyExtends}
use Rattle.journal_memory.specs.declared.volatile_commit.CommitStep.{CommitStep}
use Rattle.journal_memory.specs.declared.volatile_commit.CommitStep.TheVariants.{Done, Missing}
use Rattle.journal_memory.specs.Causes.{CauseState}
use Rattle.journal_memory.specs.Ledgers.{IsNumberRefusal, IsStaleRefusal}
use Rattle.journal_memory.specs.Fences.{SetsFence, IsFenceRefusal}
use Rattle.journal_memory.specs.Outsets.{MayRead, CanCommit, IsCommitRefusal, GoesOn}
use Rattle.journal_memory.specs.Waits.{MayWait, IsWaitRefusal, IsFlushRefusal}
use Rattle.journal_memory.specs.Transactions.{TransactionState, ReadResultState}
use Rattle.journal_memory.specs.Fetches.{FetchedState}
use Rattle.journal_memory.specs.Volatiles.{VolatileState, IsVolatile, IsReadRefusal, IsFrontRefusal, outset_of, usable}
use Rattle.journal_memory.specs.VolatileCommits.{IsCommitted, IfDone, IfMissing, with_room}
use Rattle.journal_memory.specs.declared.bit_scan.BitScan.{BitScan}
use Rattle.journal_memory.specs.Bits.{AreBitsOf}
use Rattle.journal_memory.specs.Scans.{MayScan}
use Rattle.journal_memory.specs.VolatileHolds.{AnswersRead, AnswersScan, AnswersCommit, AnswersSession, AnswersFence, LacksMark, AnswersWait, AnswersFlush, AnswersShow}

module _ (n : Shape) (old new : VolatileState) where
  pub answers_read : (t : TransactionState) (a : Addr) (f : FetchedState) (r : Result (Option ReadResultState) (Refusal CauseState)) (x : Value) → new ≡ old
      → OnOk r (MayRead n (outset_of old) t a) → IfOk r (λ found. IfSome found (λ found. found ≡ record { addr = a; seen = old.ledger.history }))
      → (IsTrue (is_trusted old.ledger.history) → IfOk r (λ found. IsSome found → x ≡ value_at (latest old.ledger.history) a))
      → IfOk r (λ found. IsSome found → IsTrue (is_object n (a, x))) → IfOk r (λ found. found ≡ None → known_at n (usable old f) old.tail a ≡ None)
      → IfErr r (IsReadRefusal n old t a f) → AnswersRead n old t a f r x new
  answers_read t a f (Ok (Some found)) x same may is value object lacks refusal = record {
    may = may;
    found = is;
    value = λ trusted. value trusted refl;
    object = object refl;
    same = same;
  }
  answers_read t a f (Ok None) x same may is value object lacks refusal = record { may = may; lacks = lacks refl; same = same }
  answers_read t a f (Err why) x same may is value object lacks refusal = record { refusal = refusal; same = same }

  pub answers_commit_in : (s after : SessionState) (t : TransactionState) (f : FetchedState) (r : Result (CommitStep CommitPlace) (Refusal CauseState)) → IsVolatile n new
      → OnOk r (CanCommit (outset_of old) s t) → IfOk r (IfDone (λ place. IsCommitted t.reads t.writes s after old new))
      → OnOk r (IsTrue (is_trusted old.ledger.history) → Agrees (latest old.ledger.history) t.reads)
      → IfOk r (IfMissing (λ blocks. blocks ≡ missing_blocks n (known_updates (usable old f) old.tail) t.writes))
      → IfOk r (IfMissing (λ blocks. (new ≡ with_room old new.tail.log.room) × OnlyExtends s after))
      → IfErr r (IsCommitRefusal (outset_of old) s t) → OnErr r (new ≡ with_room old new.tail.log.room) → AnswersCommit n old s t f r new after
  answers_commit_in s after t f (Ok (Done place)) kept can committed agrees missing waits refusal same = record {
    can = can;
    committed = committed;
    agrees = agrees;
    kept = kept;
  }
  answers_commit_in s after t f (Ok (Missing blocks)) kept can committed agrees missing waits refusal same = record {
    can = can;
    missing = missing;
    same = waits.0;
    kept = kept;
  }
  answers_commit_in s after t f (Err why) kept can committed agrees missing waits refusal same = record { refusal = refusal; same = same; kept = kept }

  pub answers_session_in : (r : Result SessionState (Refusal CauseState)) → IfOk r (λ s. s ≡ record { number = old.ledger.next; mine = old.ledger.history; seen = old.ledger.history })
      → commits_of old.ledger.next old.ledger.history ≡ [] → is_fenced old.ledger.next old.ledger.history ≡ false
      → OnOk r (new ≡ record old { ledger = record old.ledger { next = old.ledger.next + 1 } }) → IfErr r (IsNumberRefusal old.ledger.next) → OnErr r (new ≡ old)
      → AnswersSession old r new
  answers_session_in (Ok s) is fresh free others refusal same = record { is = is; fresh = fresh; unfenced = free; others = others }
  answers_session_in (Err why) is fresh free others refusal same = record { refusal = refusal; same = same }

  pub answers_fence_in : (session : ℕ) (r : Result (Unit {0}) (Refusal CauseState)) → IsVolatile n new → OnOk r (SetsFence session old.ledger new.ledger)
      → new ≡ record old { ledger = new.ledger } → IfErr r (IsFenceRefusal session (outset_of old)) → OnErr r (new ≡ old) → AnswersFence n session old r new
  answers_fence_in session (Ok done) kept did others refusal same = record { did = did; others = others; kept = kept }
  answers_fence_in session (Err why) kept did others refusal same = record { refusal = refusal; same = same }

-- a scan, once it was checked
pub answers_scan : (n : Shape) (v : VolatileState) (session after : SessionState) (s : BitScan) (f : FetchedState) (r : Result Bool (Refusal CauseState)) (copy : Bytes)
    → MayScan n (outset_of v) session s
    → (IsTrue (is_trusted v.ledger.history) → IfOk r (λ found. IsTrue found → AreBitsOf (latest v.ledger.history) s.block copy))
    → IfOk r (λ found. found ≡ false → updates_block (known_updates (usable v f) v.tail) s.block ≡ false)
    → IfOk r (λ found. IsTrue found → after.seen ≡ v.ledger.history) → OnlyExtends session after → IfOk r (λ found. found ≡ false → after ≡ session)
    → OnErr r (after ≡ session) → IfErr r (IsFrontRefusal v.ledger.history f.front) → AnswersScan n v session s f r copy after
answers_scan n v session after s f (Ok true) copy may bits lacks shown extends stays same refusal = record {
  may = may;
  bits = λ trusted. bits trusted refl;
  shown = shown refl;
  extends = extends;
}
answers_scan n v session after s f (Ok false) copy may bits lacks shown extends stays same refusal = record {
  may = may;
  lacks = lacks refl;
  stays = stays refl;
}
answers_scan n v session after s f (Err why) copy may bits lacks shown extends stays same refusal = record { refusal = inr (may, refusal); stays = same }

module _ (v : VolatileState) (s after : SessionState) where
  lacks : (n : ℕ) → (n ≤ floor v.ledger.history → ⊥) → MayWait (outset_of v) n → LacksMark v n
  lacks n unmarked goes_on = record { unmarked = lt_of_not-le unmarked; goes_on = ⊎_elim (λ (on : GoesOn (outset_of v)). on) (λ (marked : n ≤ floor v.ledger.history). absurd (unmarked marked)) goes_on }

  pub answers_wait : (n : ℕ) (r : Result Bool (Refusal CauseState)) → IfOk r (λ marked. IsTrue marked ↔ (n ≤ floor v.ledger.history)) → OnOk r (MayWait (outset_of v) n)
      → OnOk r (after.seen ≡ v.ledger.history) → OnOk r (IsExact after) → OnlyExtends s after → IfErr r (IsWaitRefusal (outset_of v) s n) → OnErr r (after ≡ s)
      → AnswersWait v s n r after
  answers_wait n (Ok true) answer goes_on shown exact extends refusal stays = (answer.0 refl, record { shown = shown; exact = exact; extends = extends })
  answers_wait n (Ok false) answer goes_on shown exact extends refusal stays =
      (lacks n (λ marked. false≢true (answer.1 marked)) goes_on, record { shown = shown; exact = exact; extends = extends })
  answers_wait n (Err why) answer goes_on shown exact extends refusal stays = (refusal, stays)

  pub answers_flush : (r : Result Bool (Refusal CauseState)) → IfOk r (λ marked. IsTrue marked ↔ (count s.seen ≤ floor v.ledger.history)) → OnOk r (MayWait (outset_of v) (count s.seen))
      → IfOk r (λ marked. IsTrue marked → after.seen ≡ v.ledger.history) → IfOk r (λ marked. IsTrue marked → IsExact after) → IfOk r (λ marked. marked ≡ false → after ≡ s)
      → OnlyExtends s after → IfErr r (IsFlushRefusal (outset_of v) s after) → AnswersFlush v s r after
  answers_flush (Ok true) answer goes_on shown exact stays extends refusal = (answer.0 refl, record { shown = shown refl; exact = exact refl; extends = extends })
  answers_flush (Ok false) answer goes_on shown exact stays extends refusal = (lacks (count s.seen) (λ marked. false≢true (answer.1 marked)) goes_on, stays refl)
  answers_flush (Err why) answer goes_on shown exact stays extends refusal = (refusal, extends)

  pub answers_show : (r : Result (Unit {0}) (Refusal CauseState)) → OnOk r (after.seen ≡ v.ledger.history) → OnlyExtends s after → IfErr r (IsStaleRefusal v.ledger.history) → AnswersShow v s r after
  answers_show (Ok done) shown extends refusal = (shown, extends)
  answers_show (Err why) shown extends refusal = (refusal, extends)
