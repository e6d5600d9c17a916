-- A call in the history, from the commit of its transaction.
use Rattle.std.proofs.Common.{ℕ, ◌≡◌, ◌+◌, IsTrue, List, [], ◌∷◌, ◌++◌, length, take, slice_get, Some, refl, sym, ap, subst, ◌∙◌, arith, length-append}
use Rattle.std.proofs.Math.Seq.{take-append_seam}
use Rattle.std.proofs.lemmas.List.{take_all}
use Rattle.journal_world.specs.Addresses.{Shape}
use Rattle.journal_world.specs.Maps.{Map, Transaction, overwritten}
use Rattle.journal_world.specs.Histories.{Entry, is_trusted, commits, commits_of, count, opened, at, latest}
use Rattle.journal_world.specs.Histories.Entry.{commit}
use Rattle.journal_world.proofs.Prefixes.{IsPrefix-trans, IsPrefix-length}
use Rattle.journal_world.proofs.LongerHistories.{after-layout}
use Rattle.journal_history.specs.Tokens.{SessionState, OnlyExtends, CommitPlace}
use Rattle.journal_twophase.specs.Transactions.{TxnState, core_of}
use Rattle.journal_twophase.specs.Commits.{IsCommitted}
use Rattle.journal_attempts.specs.Commits.{DoesCase, IsCommitAt, IsCommitOf}

-- an entry that is no opening says nothing of trust
trusted_before : (found : List Entry) (t : Transaction) (rest : List Entry) → is_trusted (found ++ commit t ∷ rest) ≡ is_trusted found
trusted_before [] t rest = refl
trusted_before (e ∷ es) t rest = refl

at_seam : {A : Type 0} (xs : List A) (y : A) (ys : List A) → slice_get (xs ++ y ∷ ys) (length xs) ≡ Some y
at_seam [] y ys = refl
at_seam (x ∷ xs) y ys = at_seam xs y ys

-- A commit of what does the case
module _ (rule : Map → Type 0) (layout : Shape) (sound : Map → Type 0) (case : Map → Map → Type 0) (large : Type 0) (t : TxnState) (does : DoesCase rule layout sound case large t.reads t.writes) (old new : SessionState) (receipt : CommitPlace) (k : IsCommitted rule layout t.began (core_of t) old new receipt) where
  abbrev u : Transaction
  u = record { session = old.number; number = length (commits_of old.number old.mine); reads = t.reads; writes = t.writes }

  added : new.seen ≡ k.found ++ commit u ∷ []
  added = k.committed.added

  same_number : new.number ≡ old.number
  same_number = ap (λ (s : SessionState). s.number) k.committed.session

  commit-at : IsCommitAt sound case old new (length k.found)
  commit-at = record {
    made = u;
    stands = ap (λ h. slice_get h (length k.found)) added ∙ at_seam k.found (commit u) [];
    later = IsPrefix-length old.seen k.found k.committed.later;
    extends = IsPrefix-trans old.seen k.found new.seen k.committed.later (commit u ∷ [], sym added);
    number = same_number;
    one_more = ap (λ h. commits_of new.number h) (ap (λ (s : SessionState). s.mine) k.committed.session) ∙ ap (λ n. commits_of n new.seen) same_number ∙ k.committed.one_more;
    call_is = λ trusted.
        let trusted_found : IsTrue (is_trusted k.found) = sym (trusted_before k.found u []) ∙ ap is_trusted (sym added) ∙ trusted in
        let front : take (length k.found) new.seen ≡ k.found = ap (take (length k.found)) added ∙ take-append_seam k.found _ in
        subst (λ h. case (latest h) (overwritten (latest h) t.writes)) (sym front)
        (does.call_is (latest k.found) k.on_disk (k.ruled trusted_found) (k.agrees trusted_found));
    ruled = λ trusted n.
        does.rules (at new.seen n) (after-layout (opened new.seen) (take n (commits new.seen)) ∙ k.known.on_disk) (k.known.sound.ruled trusted n);
  }

  pub commit-of : IsCommitOf sound case old new receipt
  commit-of =
      let long : length new.seen ≡ length k.found + 1 = ap length added ∙ length-append k.found _ in
      let place : receipt.place ≡ length k.found = ap (λ (r : CommitPlace). r.place) k.receipt.told in
      record {
        made = subst (λ p. IsCommitAt sound case old new p) (sym place) commit-at;
        exact = k.exact;
        front = ap (λ (r : CommitPlace). r.front) k.receipt.told;
        counted =
            ap (λ (r : CommitPlace). r.count) k.receipt.told
            ∙ sym (ap (λ p. count (take (p + 1) new.seen)) place ∙ ap count (take_all (length k.found + 1) new.seen (omega (arith, long))));
      }

-- a session that had only seen more before
module _ (sound : Map → Type 0) (case : Map → Map → Type 0) (old middle new : SessionState) (more : OnlyExtends old middle) where
  pub commit-at-later : (place : ℕ) → IsCommitAt sound case middle new place → IsCommitAt sound case old new place
  commit-at-later place is = record {
    made = is.made;
    stands = is.stands;
    later = omega (arith, IsPrefix-length old.seen middle.seen more.seen, is.later);
    extends = IsPrefix-trans old.seen middle.seen new.seen more.seen is.extends;
    number = is.number ∙ more.number;
    one_more = is.one_more ∙ ap (λ s. commits_of s middle.mine ++ is.made ∷ []) more.number ∙ ap (λ es. commits_of old.number es ++ is.made ∷ []) more.mine;
    call_is = is.call_is;
    ruled = is.ruled;
  }

  pub commit-later : (receipt : CommitPlace) → IsCommitOf sound case middle new receipt → IsCommitOf sound case old new receipt
  commit-later receipt is = record {
    made = commit-at-later receipt.place is.made;
    exact = is.exact;
    front = is.front;
    counted = is.counted;
  }
