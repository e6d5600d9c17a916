-- What a commit of the core says to a transaction and to its session.
use Rattle.std.proofs.Common.{◌≡◌, ◌≢◌, ℕ, IsTrue, List, [], ◌∷◌, ◌++◌, length, Some, slice_get, Result, Ok, Err, IfOk, IfErr, IsErrAnd, OnOk, OnErr, sym, ap, subst, ◌∙◌}
use mathlib.Core.List.{IsPrefix}
use Rattle.journal_world.specs.declared.refusal.Refusal.{Refusal}
use Rattle.journal_world.specs.Addresses.{Shape}
use Rattle.journal_world.specs.Maps.{Map, Transaction, Agrees}
use Rattle.journal_world.specs.Histories.{Entry, is_trusted, latest, commits_of, opened}
use Rattle.journal_world.specs.Histories.Entry.{commit}
use Rattle.journal_world.proofs.Prefixes.{IsPrefix-trans}
use Rattle.journal_history.specs.Soundness.{IsSound}
use Rattle.journal_history.specs.Tokens.{SessionState, CommitPlace, IsExact, OnlyExtends, next_transaction, Commits, IsReceiptFor}
use Rattle.journal_memory.specs.Causes.{CauseState}
use Rattle.journal_memory.specs.Transactions.{TransactionState}
use Rattle.journal_memory.specs.declared.volatile_commit.CommitStep.{CommitStep}
use Rattle.journal_memory.specs.declared.volatile_commit.CommitStep.TheVariants.{Done, Missing}
use Rattle.journal_memory.specs.Outsets.{CanCommit}
use Rattle.journal_memory.specs.Volatiles.{VolatileState, outset_of}
use Rattle.journal_memory.specs.VolatileCommits.{IfDone}
use Rattle.journal_memory.specs.VolatileCommits.{IsCommitted as IsCommittedInMemory}
use Rattle.journal_twophase.specs.Journals.{IsKnown}
use Rattle.journal_twophase.specs.Commits.{IsCommitted}
use Rattle.journal_twophase.specs.declared.waiting.WaitFault.{WaitFault}
use Rattle.journal_twophase.specs.declared.waiting.WaitFault.TheVariants.{Refused, Unsure}
use Rattle.journal_twophase.specs.Waits.{CommitsAndWaits, IsUnsure, IsWaitFault}
use Rattle.journal_twophase.proofs.Knowing.{some_before, ruled_before, layout_before}

module _ (rule : Map → Type 0) (layout : Shape) where
  -- what the core's histories before and after its commit, and what is known of the latter, say of
  -- the transaction
  from_histories : (t : TransactionState) (s new : SessionState) (found history : List Entry) (place : CommitPlace)
      → Commits (next_transaction s t.reads t.writes) s new found history
      → IsReceiptFor (next_transaction s t.reads t.writes) history (length found) place
      → IsPrefix t.seen found → (IsTrue (is_trusted found) → Agrees (latest found) t.reads) → IsKnown rule layout new.seen
      → IsCommitted rule layout t.seen t s new place
  from_histories t s new found history place commits receipt later agrees known =
      let u : Transaction = next_transaction s t.reads t.writes in
      let whole : new.seen ≡ history = ap (λ (n : SessionState). n.seen) commits.session in
      let mine : new.mine ≡ history = ap (λ (n : SessionState). n.mine) commits.session in
      let here : history ≡ found ++ commit u ∷ [] = commits.added in
      let sound : IsSound rule (found ++ commit u ∷ []) = subst (IsSound rule) (whole ∙ here) known.sound in
      let stands : slice_get (found ++ commit u ∷ []) (length found) ≡ Some (commit u) =
      subst (λ (h : List Entry). slice_get h (length found) ≡ Some (commit u)) here receipt.stands in
      let some : found ≢ [] = some_before rule found u sound stands in
      record {
        found = found;
        after_begin = later;
        after_reads = later;
        agrees = agrees;
        ruled = ruled_before rule found u some sound;
        on_disk = layout_before rule layout found u some (subst (λ (h : List Entry). (opened h).layout ≡ layout) (whole ∙ here) known.on_disk);
        committed = subst (λ (h : List Entry). Commits u s new found h) (sym whole) commits;
        exact = ap (commits_of new.number) (whole ∙ sym mine);
        known = known;
        receipt = subst (λ (h : List Entry). IsReceiptFor u h (length found) place) (sym whole) receipt;
      }

  pub committed : (t : TransactionState) (s new : SessionState) (old volatile : VolatileState) (answer : Result (CommitStep CommitPlace) (Refusal CauseState))
      → IfOk answer (IfDone (λ _. IsCommittedInMemory t.reads t.writes s new old volatile))
      → IfOk answer (IfDone (IsReceiptFor (next_transaction s t.reads t.writes) volatile.ledger.history (length old.ledger.history)))
      → OnOk answer (CanCommit (outset_of old) s t)
      → OnOk answer (IsTrue (is_trusted old.ledger.history) → Agrees (latest old.ledger.history) t.reads)
      → IsKnown rule layout new.seen
      → IfOk answer (IfDone (IsCommitted rule layout t.seen t s new))
  committed t s new old volatile (Err why) commits receipt can agrees known = tt
  committed t s new old volatile (Ok (Missing blocks_of)) commits receipt can agrees known = tt
  committed t s new old volatile (Ok (Done place)) commits receipt can agrees known =
      from_histories t s new old.ledger.history volatile.ledger.history place commits.committed receipt can.may.seen.later agrees known

  -- a transaction whose reads came after its beginning is committed after that
  -- a session that has only seen more commits the same
  pub committed_later : (began : List Entry) (t : TransactionState) (s mid new : SessionState) (answer : Result CommitPlace (Refusal CauseState)) → OnlyExtends s mid
      → IfOk answer (IsCommitted rule layout began t mid new) → IfOk answer (IsCommitted rule layout began t s new)
  committed_later began t s mid new (Err why) extends is = tt
  committed_later began t s mid new (Ok place) extends is =
      let same : next_transaction mid t.reads t.writes ≡ next_transaction s t.reads t.writes =
      (λ i. record { session = extends.number i; number = length (commits_of (extends.number i) (extends.mine i)); reads = t.reads; writes = t.writes }) in
      record {
        found = is.found;
        after_begin = is.after_begin;
        after_reads = is.after_reads;
        agrees = is.agrees;
        ruled = is.ruled;
        on_disk = is.on_disk;
        committed = record {
          added = is.committed.added ∙ ap (λ (u : Transaction). is.found ++ commit u ∷ []) same;
          session = is.committed.session ∙ ap (λ (n : ℕ). record { number = n; mine = new.seen; seen = new.seen }) extends.number;
          later = IsPrefix-trans s.seen mid.seen is.found extends.seen is.committed.later;
          one_more = sym (ap (λ (n : ℕ). commits_of n new.seen) extends.number) ∙ is.committed.one_more
              ∙ (λ i. commits_of (extends.number i) (extends.mine i) ++ same i ∷ []);
        };
        exact = is.exact;
        known = is.known;
        receipt = subst (λ (u : Transaction). IsReceiptFor u new.seen (length is.found) place) same is.receipt;
      }

  pub since_begin : (began : List Entry) (t : TransactionState) (s new : SessionState) (answer : Result CommitPlace (Refusal CauseState)) → IsPrefix began t.seen
      → IfOk answer (IsCommitted rule layout t.seen t s new) → IfOk answer (IsCommitted rule layout began t s new)
  since_begin began t s new (Err why) begins is = tt
  since_begin began t s new (Ok place) begins is = record {
    found = is.found;
    after_begin = IsPrefix-trans began t.seen is.found begins is.after_reads;
    after_reads = is.after_reads;
    agrees = is.agrees;
    ruled = is.ruled;
    on_disk = is.on_disk;
    committed = is.committed;
    exact = is.exact;
    known = is.known;
    receipt = is.receipt;
  }

  -- and then its session waited, and has seen more
  waits_after : (began : List Entry) (t : TransactionState) (s mid new : SessionState) (place : CommitPlace) → IsPrefix began t.seen
      → IsCommitted rule layout t.seen t s mid place → OnlyExtends mid new → IsExact new → IsKnown rule layout new.seen → CommitsAndWaits rule layout began t s new place
  waits_after began t s mid new place begins commits later exact known = record {
    then = mid;
    committed = since_begin began t s mid (Ok place) begins commits;
    later = later;
    exact = exact;
    known = known;
  }

  pub waited : {N E : Type 0} (began : List Entry) (t : TransactionState) (s mid new : SessionState) (place : CommitPlace) (answer : Result (CommitPlace × N) E) → IsPrefix began t.seen
      → IsCommitted rule layout t.seen t s mid place → OnlyExtends mid new → IsExact new → IsKnown rule layout new.seen
      → IfOk answer (λ done. done.0 ≡ place) → IfOk answer (λ done. CommitsAndWaits rule layout began t s new done.0)
  waited began t s mid new place (Ok done) begins commits later exact known is =
      subst (CommitsAndWaits rule layout began t s new) (sym is) (waits_after began t s mid new place begins commits later exact known)
  waited began t s mid new place (Err fault) begins commits later exact known is = tt

  pub unsure : {T : Type 0} (began : List Entry) (t : TransactionState) (s mid new : SessionState) (place : CommitPlace) (answer : Result T (WaitFault CommitPlace CauseState)) → IsPrefix began t.seen
      → IsCommitted rule layout t.seen t s mid place → OnlyExtends mid new → IsExact new → IsKnown rule layout new.seen
      → IfErr answer (IsUnsure place new) → IfErr answer (IsWaitFault rule layout began t s new)
  unsure began t s mid new place (Ok done) begins commits later exact known is = tt
  unsure began t s mid new place (Err (Refused why)) begins commits later exact known is = absurd is
  unsure began t s mid new place (Err (Unsure at why)) begins commits later exact known is =
      (subst (CommitsAndWaits rule layout began t s new) (sym is.0) (waits_after began t s mid new place begins commits later exact known), is.1, is.2)

-- what a refused call shows a session that had only seen more
pub session_later : {T E : Type 0} (r : Result T E) (s mid new : SessionState) → OnlyExtends s mid → OnErr r (OnlyExtends mid new) → OnErr r (OnlyExtends s new)
session_later (Ok value) s mid new first second = tt
session_later (Err why) s mid new first second = record {
  number = second.number ∙ first.number;
  mine = second.mine ∙ first.mine;
  seen = IsPrefix-trans s.seen mid.seen new.seen first.seen second.seen;
}

-- what a refusal leaves, of an answer that is one
pub of_refused : {T E P : Type 0} (holds : E → Type 0) (r : Result T E) → IsErrAnd r holds → OnErr r P → P
of_refused holds (Ok value) is left = absurd is
of_refused holds (Err why) is left = left
