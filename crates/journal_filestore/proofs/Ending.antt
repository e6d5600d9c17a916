-- An operation in the history, from the commit of its transaction.
use Rattle.std.proofs.Common.{ℕ, zero, suc, ◌≡◌, ◌≢◌, ◌≤◌, ◌+◌, Bool, true, false, IsTrue, Result, Ok, Err, OnOk, List, [], ◌∷◌, ◌++◌, take, slice_get, Some, None, refl, sym, ap, subst, ◌∙◌, arith}
use Rattle.std.proofs.lemmas.Bool.{false≢true}
use Rattle.std.proofs.lemmas.List.{take-append-le}
use Rattle.std.proofs.lemmas.Option.{slice_get_past, slice_get_within}
use Rattle.journal_world.specs.declared.refusal.Refusal.{Refusal}
use Rattle.journal_world.specs.Addresses.{Shape}
use Rattle.journal_world.specs.Maps.{Pair, apply}
use Rattle.journal_world.specs.Histories.{is_trusted, commits_of, count, floor, at, latest}
use Rattle.journal_world.specs.Histories.Entry.{commit}
use Rattle.journal_world.proofs.Prefixes.{IsPrefix-trans}
use Rattle.journal_world.proofs.MapsOfHistories.{is_trusted-append}
use Rattle.journal_history.specs.Tokens.{SessionState, OnlyExtends, CommitPlace, IsExact}
use Rattle.journal_memory.specs.Causes.{CauseState}
use Rattle.journal_twophase.specs.Transactions.{TxnState, core_of}
use Rattle.journal_twophase.specs.Commits.{IsCommitted}
use Rattle.journal_attempts.specs.Commits.{DoesCase, IsCommitOf}
use Rattle.journal_attempts.proofs.Committing.{commit-of, commit-at-later}
use Rattle.journal_inode.specs.declared.version.FormatVersion.{FormatVersion}
use Rattle.journal_inode.specs.Sound.{HasSoundFiles}
use Rattle.journal_file_types.specs.declared.fault.Fault.{Fault}
use Rattle.journal_file_types.specs.declared.fault.Fault.TheVariants.{Refused, Unsure}
use Rattle.journal_file_types.specs.declared.pending_wait.PendingWait.{PendingWait}
use Rattle.journal_file_types.specs.declared.pending_wait.PendingWait.TheVariants.{Nothing, Wait}
use Rattle.journal_file_types.specs.declared.pending_wait.Committed.{Committed}
use Rattle.journal_file_types.specs.declared.status.Status.{Status}
use Rattle.journal_filestore.specs.Files.{Files, files_of}
use Rattle.journal_filestore.specs.Doing.{IsCaseOn, Does}
use Rattle.journal_filestore.specs.Done.{IsMadeAt, IsDone, IsOperationFault, IsAnswered, IsReceiptOf, IsWaitOf, IsCommittedBy, IsAnsweredNoWait, IsWaitOver, IsWait, pending_wait_for}

pub OnlyExtends-trans : (old middle new : SessionState) → OnlyExtends old middle → OnlyExtends middle new → OnlyExtends old new
OnlyExtends-trans old middle new first second = record {
  number = second.number ∙ first.number;
  mine = second.mine ∙ first.mine;
  seen = IsPrefix-trans old.seen middle.seen new.seen first.seen second.seen;
}

none_true : {A E : Type 0} (r : Result A E) → OnOk r (IsTrue false) → OnOk r ⊥
none_true (Ok x) is = false≢true is
none_true (Err e) is = tt

module _ {A : Type 0} {version : FormatVersion} (case : Files → Result A Status → Files → Type 0) (answer : Result A Status) where
  -- an operation on files is one on the maps
  DoesCase-files : (layout : Shape) (reads writes : List Pair) → Does version layout case reads writes answer → DoesCase (HasSoundFiles version) layout (HasSoundFiles version) (IsCaseOn version case answer) ⊥ reads writes
  DoesCase-files layout reads writes does = record {
    keeps = does.sound;
    call_is = does.answers;
    rules = λ m on holds. holds;
    few = λ more. omega (arith, more, does.few);
  }

  -- its receipt is owed where the transaction waits: where the operation does, and is answered Ok
  pub IsCommittedBy-ended : (layout : Shape) (t : TxnState) (waits waited : Bool) (old new : SessionState) (receipt : CommitPlace) (wait : PendingWait CommitPlace) → (IsTrue waits → OnOk answer (IsTrue waited)) → (IsTrue waited → IsTrue waits) → wait ≡ pending_wait_for waited receipt
      → IsCommitted (HasSoundFiles version) layout t.began (core_of t) old new receipt → Does version layout case t.reads t.writes answer → IsCommittedBy version waits case old new (record { answer = answer; wait = wait })
  IsCommittedBy-ended layout t waits waited old new receipt wait when only owes c does =
      let is = commit-of (HasSoundFiles version) layout _ _ _ t (DoesCase-files layout t.reads t.writes does) old new receipt c in
      record {
        place = receipt.place;
        made = is.made;
        exact = is.exact;
        wait = subst (λ o. IsWaitOf waits answer new.seen receipt.place o) (sym owes) (owing is waited when only);
      }
    where
      owing : IsCommitOf (HasSoundFiles version) (IsCaseOn version case answer) old new receipt → (w : Bool) → (IsTrue waits → OnOk answer (IsTrue w)) → (IsTrue w → IsTrue waits) → IsWaitOf waits answer new.seen receipt.place (pending_wait_for w receipt)
      owing is true when only = (only refl, record { front = is.front; place = refl; counted = is.counted })
      owing is false when only = λ waiting. none_true answer (when waiting)

stands_on : {A : Type 0} (xs ys : List A) (n : ℕ) (y : A) → slice_get xs n ≡ Some y → slice_get (xs ++ ys) n ≡ Some y
stands_on [] ys n y is = let none : None ≡ Some y = sym (slice_get_past [] n (omega arith)) ∙ is in cc
stands_on (x ∷ xs) ys zero y is = is
stands_on (x ∷ xs) ys (suc n) y is = stands_on xs ys n y is

begun : {A : Type 0} (xs : List A) (n : ℕ) (y : A) → slice_get xs n ≡ Some y → xs ≢ []
begun xs n y is none = let past : None ≡ Some y = sym (slice_get_past [] n (omega arith)) ∙ ap (λ h. slice_get h n) (sym none) ∙ is in cc

-- A session that has seen more since
module _ {A : Type 0} {version : FormatVersion} (case : Files → Result A Status → Files → Type 0) (old middle new : SessionState) (more : OnlyExtends middle new) (sound : IsTrue (is_trusted new.seen) → (n : ℕ) → HasSoundFiles version (at new.seen n)) where
  front_is : (answer : Result A Status) (place : ℕ) → IsMadeAt version case old middle answer place → (n : ℕ) → n ≤ place + 1 → take n new.seen ≡ take n middle.seen
  front_is answer place is n low =
      ap (take n) (sym more.seen.1) ∙ take-append-le n middle.seen more.seen.0 (omega (arith, low, slice_get_within middle.seen place (commit is.made) is.stands))

  IsMadeAt-seen : (answer : Result A Status) (place : ℕ) → IsMadeAt version case old middle answer place → IsMadeAt version case old new answer place
  IsMadeAt-seen answer place is = record {
    made = is.made;
    stands = ap (λ h. slice_get h place) (sym more.seen.1) ∙ stands_on middle.seen more.seen.0 place (commit is.made) is.stands;
    later = is.later;
    extends = IsPrefix-trans old.seen middle.seen new.seen is.extends more.seen;
    number = more.number ∙ is.number;
    one_more = ap (λ h. commits_of new.number h) more.mine ∙ ap (λ n. commits_of n middle.mine) more.number ∙ is.one_more;
    call_is = λ trusted.
        let trusted_middle : IsTrue (is_trusted middle.seen) = sym (is_trusted-append middle.seen more.seen.0 (begun middle.seen place (commit is.made) is.stands)) ∙ ap is_trusted more.seen.1 ∙ trusted in
        subst (λ h. case (files_of version (latest h)) answer (files_of version (apply is.made (latest h)))) (sym (front_is answer place is place (omega arith))) (is.call_is trusted_middle);
    ruled = sound;
  }

  -- what was owed is paid
  pub IsDone-paid : (waits : Bool) (done : Committed A CommitPlace) → IsCommittedBy version waits case old middle done → IsWaitOver done.wait new → IsExact new → IsDone version waits case old new done.answer
  IsDone-paid waits done is paid exact = record {
    place = is.place;
    made = IsMadeAt-seen done.answer is.place is.made;
    exact = exact;
    stable = λ waiting. stable_where done.wait is.wait paid waiting;
  }
    where
      covered : (receipt : CommitPlace) → IsReceiptOf middle.seen is.place receipt → receipt.count ≤ floor new.seen → count (take (is.place + 1) new.seen) ≤ floor new.seen
      covered receipt of marked = subst (λ n. n ≤ floor new.seen) (of.counted ∙ sym (ap count (front_is done.answer is.place is.made (is.place + 1) (omega arith)))) marked

      always : (r : Result A Status) (P : Type 0) → P → OnOk r P
      always (Ok x) P p = p
      always (Err e) P p = tt

      never : (r : Result A Status) (P : Type 0) → OnOk r ⊥ → OnOk r P
      never (Ok x) P none = absurd none
      never (Err e) P none = tt

      stable_where : (wait : PendingWait CommitPlace) → IsWaitOf waits done.answer middle.seen is.place wait → IsWaitOver wait new → IsTrue waits → OnOk done.answer (count (take (is.place + 1) new.seen) ≤ floor new.seen)
      stable_where Nothing owes paid waiting = never done.answer _ (owes waiting)
      stable_where (Wait receipt) owes paid waiting = always done.answer _ (covered receipt owes.1 paid)

  -- what was owed is refused
  pub IsFault-unpaid : (waits : Bool) (done : Committed A CommitPlace) (why : Refusal CauseState) → IsCommittedBy version waits case old middle done → IsWait done.wait → IsOperationFault version waits case old new (Unsure why)
  IsFault-unpaid waits done why is wait = (waiting done.wait is.wait wait, (done.answer, is.place, IsMadeAt-seen done.answer is.place is.made))
    where
      waiting : (wait : PendingWait CommitPlace) → IsWaitOf waits done.answer middle.seen is.place wait → IsWait wait → IsTrue waits
      waiting Nothing owes wait = absurd wait
      waiting (Wait receipt) owes wait = owes.0

-- a session that had only seen more before
pub IsSoon-later : {A : Type 0} (version : FormatVersion) (case : Files → Result A Status → Files → Type 0) (old middle new : SessionState) (more : OnlyExtends old middle) (waits : Bool) (r : Result (Committed A CommitPlace) (Refusal CauseState))
    → IsAnsweredNoWait version waits case middle new r → IsAnsweredNoWait version waits case old new r
IsSoon-later version case old middle new more waits (Ok done) is = record {
  place = is.place;
  made = commit-at-later _ _ old middle new more is.place is.made;
  exact = is.exact;
  wait = is.wait;
}
IsSoon-later version case old middle new more waits (Err why) is = OnlyExtends-trans old middle new more is

-- the same, said otherwise
module _ {A : Type 0} (version : FormatVersion) (case other : Files → Result A Status → Files → Type 0) (like : (answer : Result A Status) (F F2 : Files) → case F answer F2 → other F answer F2) where
  IsMadeAt-like : (old new : SessionState) (answer : Result A Status) (place : ℕ) → IsMadeAt version case old new answer place → IsMadeAt version other old new answer place
  IsMadeAt-like old new answer place is = record {
    made = is.made;
    stands = is.stands;
    later = is.later;
    extends = is.extends;
    number = is.number;
    one_more = is.one_more;
    call_is = λ trusted. like answer _ _ (is.call_is trusted);
    ruled = is.ruled;
  }

  pub IsAnswered-like : (waits : Bool) (old new : SessionState) (r : Result (Result A Status) (Fault CauseState)) → IsAnswered version waits case old new r → IsAnswered version waits other old new r
  IsAnswered-like waits old new (Ok answer) done = record {
    place = done.place;
    made = IsMadeAt-like old new answer done.place done.made;
    exact = done.exact;
    stable = done.stable;
  }
  IsAnswered-like waits old new (Err (Refused why)) is = is
  IsAnswered-like waits old new (Err (Unsure why)) is = (is.0, (is.1.0, is.1.1, IsMadeAt-like old new is.1.0 is.1.1 is.1.2))

  pub IsSoon-like : (waits : Bool) (old new : SessionState) (r : Result (Committed A CommitPlace) (Refusal CauseState)) → IsAnsweredNoWait version waits case old new r → IsAnsweredNoWait version waits other old new r
  IsSoon-like waits old new (Ok done) is = record {
    place = is.place;
    made = IsMadeAt-like old new done.answer is.place is.made;
    exact = is.exact;
    wait = is.wait;
  }
  IsSoon-like waits old new (Err why) is = is
