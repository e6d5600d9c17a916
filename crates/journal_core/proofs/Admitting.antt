-- A commit of the volatile part, as the core's.
use Rattle.std.proofs.Common.{◌≡◌, ◌⊎◌, inl, ⊎_elim, ◌≤◌, ◌+◌, ◌^◌, ℕ, max, List, length, Result, Ok, Err, IfErr, OnErr, refl, sym, ap, subst, ◌∙◌, arith}
use Rattle.std.proofs.lemmas.Bool.{false≢true}
use Rattle.journal_world.specs.declared.refusal.Refusal.{Refusal}
use Rattle.journal_world.specs.declared.refusal.Refusal.TheVariants.{NoMemory, BadAddress, BadSize, TooLarge, Busy, DeviceFailed, BadLog, BadSuper, Stale, Stranger, Worn, Full, Closed, Fenced}
use Rattle.journal_world.specs.Addresses.{Shape}
use Rattle.journal_world.specs.Maps.{Pair, Transaction}
use Rattle.journal_world.specs.Histories.{Entry, commits_of, is_fenced}
use Rattle.journal_memlog.specs.Logs.{tail_of}
use Rattle.journal_memlog.specs.Laws.{tail_of-appended}
use Rattle.journal_tail.specs.Tails.{TailState, cut_points}
use Rattle.journal_objlog.specs.ObjectLogs.{OnlyReads as OnlyReadsLog}
use Rattle.journal_tail.specs.Writes.{fresh_among}
use Rattle.journal_objlog.proofs.Openings.{OnlyReads-refl}
use Rattle.journal_history.specs.Tokens.{SessionState, OnlyExtends, CommitPlace, IsReceiptFor, made, next_transaction as numbered}
use Rattle.journal_memory.specs.Causes.{CauseState}
use Rattle.journal_memory.specs.Ledgers.{IsUnknown}
use Rattle.journal_memory.specs.Transactions.{TransactionState}
use Rattle.journal_memory.specs.Outsets.{Outset, CanCommit, IsCommitRefusal as IsRefusedFrom}
use Rattle.journal_parts.specs.Durables.{DurableState, IsCallRefusal}
use Rattle.journal_memory.specs.Volatiles.{VolatileState, IsVolatile}
use Rattle.journal_memory.specs.VolatileCommits.{IsCommitted as IsCommittedIn, with_room}
use Rattle.journal_parts.specs.Pairs.{Tied}
use Rattle.journal_parts.specs.CoreStates.{CoreState, IsRunning, OnlyReads, is_faulted}
use Rattle.journal_parts.specs.CoreParts.{IsPair, core_of, outset}
use Rattle.journal_core.specs.Steps.{IsDeviceRefusal}
use Rattle.journal_core.specs.Commits.{IsCommitted, IsCommitRefusal}
use Rattle.journal_memory.proofs.Committing.{commits_from}
use Rattle.journal_parts.proofs.Pairing.{tied_committed}
use Rattle.journal_parts.proofs.Faults.{failed}
use Rattle.journal_core.proofs.Joining.{fails_as}

module _ (layout : Shape) (v : VolatileState) (d : DurableState) (pair : IsPair layout v d) (w : VolatileState) where
  -- it was committed in memory, and the disk was read at most
  pub committed_as : (e : DurableState) (reads writes : List Pair) (s after : SessionState) → OnlyReadsLog d.objects e.objects → e ≡ record d { objects = e.objects }
      → IsCommittedIn reads writes s after v w → IsCommitted reads writes s after (core_of v d) (core_of w e)
  committed_as e reads writes s after read same it = record {
    committed = it.committed;
    logs = record {
      updates = it.logs.updates;
      named = it.logs.named;
      number = it.logs.number;
      reads = read;
      appends = ap (λ (t : TailState). tail_of t.log) it.logs.appends ∙ tail_of-appended v.tail.log it.logs.updates start_to_cut pair.volatile.cut_to_next;
    };
    others = λ i. core_of (it.others i) (same i);
  }
    where
      start_to_cut : v.tail.log.start ≤ v.tail.log.cut
      start_to_cut = (pair.volatile.cuts 0 (record { end = 0; commits = 0 }) (omega arith)).below

  pub pair_committed : (reads writes : List Pair) (s after : SessionState) → IsVolatile layout w → IsCommittedIn reads writes s after v w → IsPair layout w d
  pair_committed reads writes s after kept it = record {
    volatile = kept;
    durable = pair.durable;
    tied = tied_committed v w d (numbered s reads writes) it.committed.added (ap (λ (x : VolatileState). x.ledger.cut) it.others)
        (ap (λ (t : TailState). t.trimmed) it.logs.appends) (ap cut_points it.logs.appends) (ap (λ (t : TailState). t.log.cut) it.logs.appends) pair.tied;
    fault = ap (λ (x : VolatileState). x.faulted) it.others ∙ pair.fault;
  }

  -- only more room was made
  pub pair_roomed : (room : ℕ) → IsVolatile layout w → w ≡ with_room v room → IsPair layout w d
  pair_roomed room kept same = record {
    volatile = kept;
    durable = pair.durable;
    tied = subst (λ (x : VolatileState). Tied x d) (sym same) (record {
      begins = pair.tied.begins;
      marked = pair.tied.marked;
      trimmed = pair.tied.trimmed;
      cut = pair.tied.cut;
      position = pair.tied.position;
      logged = pair.tied.logged;
    });
    fault = ap (λ (x : VolatileState). x.faulted) same ∙ pair.fault;
  }

-- why a commit in memory is refused
refused_as : (c now : CoreState) (s : SessionState) (t : TransactionState) (why : Refusal CauseState) → now ≡ c → IsRefusedFrom (outset c) s t why → IsCommitRefusal c s t now why
refused_as c now s t (Closed cause) same it = record { unexplained = it.0; closed = it.1; same = same }
refused_as c now s t (DeviceFailed cause) same it = record {
  unexplained = it.0;
  not_closed = it.1;
  fault = inl it.2;
  faulted = ap is_faulted same ∙ it.2;
  others = ap (λ (x : CoreState). record x { objects = now.objects }) same;
}
refused_as c now s t NoMemory same it = it
refused_as c now s t BadAddress same it = it
refused_as c now s t BadSize same it = it
refused_as c now s t TooLarge same it = it
refused_as c now s t Busy same it = it
refused_as c now s t BadLog same it = it
refused_as c now s t BadSuper same it = it
refused_as c now s t (Stale cause) same it = it
refused_as c now s t (Stranger cause) same it = it
refused_as c now s t (Worn cause) same it = it
refused_as c now s t (Full cause) same it = it
refused_as c now s t Fenced same it = it

pub refused_first : (c now : CoreState) (o : Outset) (s : SessionState) (t : TransactionState) (why : Refusal CauseState) → o ≡ outset c → now ≡ c → IsRefusedFrom o s t why
    → IsCommitRefusal c s t now why
refused_first c now o s t why judged same it = refused_as c now s t why same (subst (λ (p : Outset). IsRefusedFrom p s t why) judged it)

-- why it is refused at another try, where nothing but memory and the device could: the session has
-- only seen more
module _ (c now : CoreState) (s mid : SessionState) (t : TransactionState) (extends : OnlyExtends s mid) (can : CanCommit (outset c) s t) where
  unknown_not : (cause : CauseState) → IsUnknown c.history mid cause → ⊥
  unknown_not cause it =
      let same : made mid ≡ made s = λ i. length (commits_of (extends.number i) (extends.mine i)) in
      omega (arith, it.1, can.may.own, ap (λ (n : ℕ). length (commits_of n c.history)) extends.number, same)

  pub refused_again : (why : Refusal CauseState) → IsRefusedFrom (outset c) mid t why → IsCommitRefusal c s t now why
  refused_again (Stale cause) it = it
  refused_again NoMemory it = can
  refused_again (Stranger cause) it = absurd (unknown_not cause it.2)
  refused_again TooLarge it = absurd (omega (arith, it.1, can.writes.few))
  refused_again (Worn cause) it = absurd (can.writes.unworn (subst
      (λ (n : ℕ). (2 ^ 62 ≤ length c.history + 1) ⊎ (2 ^ 62 ≤ n) ⊎ (2 ^ 62 ≤ (outset c).next + fresh_among (outset c).tail t.writes)) extends.number it.2))
  refused_again (Full cause) it = absurd (can.writes.room it.3)
  refused_again (Closed cause) it = absurd (false≢true (sym can.may.running.0 ∙ it.1))
  refused_again (DeviceFailed cause) it = absurd (false≢true (sym can.may.running.1 ∙ it.2))
  refused_again BadAddress it = absurd it
  refused_again BadSize it = absurd it
  refused_again Busy it = absurd it
  refused_again BadLog it = absurd it
  refused_again BadSuper it = absurd it
  refused_again Fenced it = absurd (false≢true (sym (ap (λ (n : ℕ). is_fenced n c.history) extends.number ∙ can.may.unfenced) ∙ it.1.fenced))

-- the device failed as the blocks were fetched
module _ (layout : Shape) (v : VolatileState) (d : DurableState) (pair : IsPair layout v d) (running : IsRunning (core_of v d)) (e : DurableState)
    (s : SessionState) (t : TransactionState) (can : CanCommit (outset (core_of v d)) s t) where
  refused_fetch : (w : VolatileState) (why : Refusal CauseState) → core_of w e ≡ core_of (failed v) e → IsCallRefusal d e why → IsCommitRefusal (core_of v d) s t (core_of w e) why
  refused_fetch w (DeviceFailed cause) same it =
      subst (λ (c : CoreState). IsDeviceRefusal (CanCommit (outset (core_of v d)) s t) (core_of v d) c cause) (sym same)
      (fails_as layout v d pair running e (CanCommit (outset (core_of v d)) s t) cause can it)
  refused_fetch w NoMemory same it = absurd it
  refused_fetch w BadAddress same it = absurd it
  refused_fetch w BadSize same it = absurd it
  refused_fetch w TooLarge same it = absurd it
  refused_fetch w Busy same it = absurd it
  refused_fetch w BadLog same it = absurd it
  refused_fetch w BadSuper same it = absurd it
  refused_fetch w (Stale cause) same it = absurd it
  refused_fetch w (Stranger cause) same it = absurd it
  refused_fetch w (Worn cause) same it = absurd it
  refused_fetch w (Full cause) same it = absurd it
  refused_fetch w (Closed cause) same it = absurd it
  refused_fetch w Fenced same it = absurd it

  -- why a commit with fetched blocks is refused
  pub refused_fetched : {T : Type 0} (w : VolatileState) (mid : SessionState) (o : Outset) (r : Result T (Refusal CauseState)) → OnlyExtends s mid → o ≡ outset (core_of v d)
      → (IfErr r (λ why. IsCallRefusal d e why → core_of w e ≡ core_of (failed v) e))
      → IfErr r (λ why. IsCallRefusal d e why ⊎ IsRefusedFrom o mid t why) → IfErr r (IsCommitRefusal (core_of v d) s t (core_of w e))
  refused_fetched w mid o (Ok value) extends judged same it = tt
  refused_fetched w mid o (Err why) extends judged same it = ⊎_elim
      (λ call. refused_fetch w why (same call) call)
      (λ again. refused_again (core_of v d) (core_of w e) s mid t extends can why (subst (λ (p : Outset). IsRefusedFrom p mid t why) judged again))
      it

-- what a session that has seen more commits is what it would have committed
module _ (reads writes : List Pair) (s mid : SessionState) (extends : OnlyExtends s mid) where
  same_next : numbered mid reads writes ≡ numbered s reads writes
  same_next = λ i. record { session = extends.number i; number = length (commits_of (extends.number i) (extends.mine i)); reads = reads; writes = writes }

  pub committed_since : (after : SessionState) (old new : CoreState) → IsCommitted reads writes mid after old new → IsCommitted reads writes s after old new
  committed_since after old new it = record {
    committed = commits_from reads writes s mid after old.history new.history extends it.committed;
    logs = it.logs;
    others = it.others ∙ (λ i. record old { objects = new.objects; history = new.history; next = max old.next (extends.number i + 1) });
  }

  pub receipt_since : (history : List Entry) (place : ℕ) (receipt : CommitPlace) → IsReceiptFor (numbered mid reads writes) history place receipt
      → IsReceiptFor (numbered s reads writes) history place receipt
  receipt_since history place receipt it = subst (λ (t : Transaction). IsReceiptFor t history place receipt) same_next it

-- where only more room was made in memory, seen from outside
module _ (v : VolatileState) (d : DurableState) (now : CoreState) (is : core_of v d ≡ now) (w : VolatileState) (room : ℕ) (same : w ≡ with_room v room) where
  pub roomed_is : core_of w d ≡ now
  roomed_is = ap (λ (x : VolatileState). core_of x d) same ∙ is

  pub roomed_same : core_of w d ≡ record now { objects = (core_of w d).objects }
  roomed_same = ap (λ (c : CoreState). record c { objects = (core_of w d).objects }) roomed_is

  pub roomed_reads : OnlyReads now.objects (core_of w d).objects
  roomed_reads = subst (λ (c : CoreState). OnlyReads now.objects c.objects) (sym roomed_is)
      (record { wal = OnlyReads-refl now.objects.wal; tail = refl })

-- where what was fetched did not do, nothing but the disk has changed
module _ (w : VolatileState) (d : DurableState) (x : VolatileState) (e : DurableState) where
  failed_same : core_of x e ≡ record (core_of w d) { objects = (core_of x e).objects } → OnlyReads (core_of w d).objects (core_of x e).objects
      → core_of x e ≡ core_of (failed w) e
  failed_same same left =
      same ∙ (λ i. record (core_of w d) { objects = record { wal = e.objects; tail = left.tail i }; logged = sym (ap (λ (c : CoreState). c.logged) same) i })

  pub fails_same : {T : Type 0} (r : Result T (Refusal CauseState)) → OnErr r (core_of x e ≡ record (core_of w d) { objects = (core_of x e).objects })
      → OnErr r (OnlyReads (core_of w d).objects (core_of x e).objects) → IfErr r (λ why. IsCallRefusal d e why → core_of x e ≡ core_of (failed w) e)
  fails_same (Ok value) same left = tt
  fails_same (Err why) same left = λ call. failed_same same left
