-- How far answers are, and what becomes of those that are owed a wait.
use Rattle.std.proofs.Common.{◌≡◌, ℕ, ◌+◌, ◌≤◌, Bool, false, IsTrue, List, Option, Some, None, Result, Ok, Err, OnOk, take, refl, sym, subst, arith}
use Rattle.std.proofs.lemmas.Bool.{false≢true}
use Rattle.journal_world.specs.declared.refusal.Refusal.{Refusal}
use Rattle.journal_world.specs.Histories.{Entry, count, floor, is_trusted, at}
use Rattle.journal_history.specs.Tokens.{SessionState, OnlyExtends, IsExact, CommitPlace}
use Rattle.journal_memory.specs.Causes.{CauseState}
use Rattle.journal_inode.specs.declared.version.FormatVersion.{FormatVersion}
use Rattle.journal_inode.specs.declared.node.Time.{Time}
use Rattle.journal_inode.specs.Sound.{HasSoundFiles}
use Rattle.journal_file_types.specs.declared.fault.Fault.{Fault}
use Rattle.journal_file_types.specs.declared.fault.Fault.TheVariants.{Refused, Unsure}
use Rattle.journal_file_types.specs.declared.pending_wait.Committed.{Committed}
use Rattle.journal_file_types.specs.declared.pending_wait.PendingWait.{PendingWait}
use Rattle.journal_file_types.specs.declared.pending_wait.PendingWait.TheVariants.{Nothing, Wait}
use Rattle.journal_file_types.specs.declared.status.Status.{Status}
use Rattle.journal_filestore.specs.Files.{Files}
use Rattle.journal_filestore.specs.Done.{IsAnswered, IsWaitOf, IsCommittedBy, IsAnsweredNoWait, IsWaitOver}
use Rattle.journal_filestore.proofs.Ending.{IsDone-paid, IsFault-unpaid}
use Rattle.journal_nfs3_wire.specs.declared.results.NfsError.{NfsError}
use Rattle.journal_nfs3_wire.specs.Arguments.{Operation, Null, GetAttributes, SetAttributes, Lookup, Read, Write, Create, Remove, Commit}
use Rattle.journal_nfs3_wire.specs.Handles.{FileHandle}
use Rattle.journal_nfs3_wire.specs.Results.{Results}
use Rattle.journal_nfs3_wire.specs.Profile.{refused_results}
use Rattle.journal_nfs3.specs.Served.{refusal_error, committed_answer, committed_wait, Standing, marked, awaiting, HasNoWait, IsDoneAs, IsAnsweredAs, TellsOutcome, Performs, ServesAs}
use Rattle.journal_nfs3.specs.Answers.{procedure_for}

-- ---- answers of the file store

-- what does not wait is owed nothing
pub unwaited : {A : Type 0} (version : FormatVersion) (case : Files → Result A Status → Files → Type 0) (old new : SessionState) (answer : Result (Result A Status) (Fault CauseState))
    → IsAnswered version false case old new answer → IsAnsweredAs version (awaiting Nothing) false case old new answer
unwaited version case old new (Ok answer) d = record { place = d.place; made = d.made; exact = d.exact; so_far = λ wt. absurd (false≢true wt) }
unwaited version case old new (Err (Refused why)) d = (d, refl)
unwaited version case old new (Err (Unsure why)) d = absurd (false≢true d.0)

pub unpaid : {A : Type 0} (version : FormatVersion) (waits : Bool) (case : Files → Result A Status → Files → Type 0) (old new : SessionState) (answer : Result (Committed A CommitPlace) (Refusal CauseState))
    → IsAnsweredNoWait version waits case old new answer → IsAnsweredAs version (awaiting (committed_wait answer)) waits case old new (committed_answer answer)
unpaid version waits case old new (Ok done) d = record { place = d.place; made = d.made; exact = d.exact; so_far = d.wait }
unpaid version waits case old new (Err why) d = (d, refl)

always : {A E : Type 0} (r : Result A E) (P : Type 0) → P → OnOk r P
always (Ok x) P p = p
always (Err e) P p = tt

never : {A E : Type 0} (r : Result A E) (P : Type 0) → OnOk r ⊥ → OnOk r P
never (Ok x) P none = absurd none
never (Err e) P none = tt

on_ok : {A E P Q : Type 0} (r : Result A E) → (P → Q) → OnOk r P → OnOk r Q
on_ok (Ok x) f p = f p
on_ok (Err e) f p = tt

-- what was owed is paid
so_far_paid : {A : Type 0} (waits : Bool) (answer : Result A Status) (seen : List Entry) (place : ℕ) (wait : PendingWait CommitPlace) (then : SessionState)
    → IsWaitOf waits answer seen place wait → IsWaitOver wait then → IsTrue waits → OnOk answer (count (take (place + 1) seen) ≤ floor then.seen)
so_far_paid waits answer seen place Nothing then owes paid wt = never answer _ (owes wt)
so_far_paid waits answer seen place (Wait receipt) then owes paid wt = always answer _ (subst (λ (n : ℕ). n ≤ floor then.seen) owes.1.counted paid)

answer_paid : {A : Type 0} (version : FormatVersion) (waits : Bool) (case : Files → Result A Status → Files → Type 0) (old new then : SessionState) (wait : PendingWait CommitPlace) (answer : Result (Result A Status) (Fault CauseState))
    → IsWaitOver wait then → IsAnsweredAs version (awaiting wait) waits case old new answer → IsAnsweredAs version (marked then.seen) waits case old new answer
answer_paid version waits case old new then wait (Ok answer) paid d = record { place = d.place; made = d.made; exact = d.exact; so_far = λ wt. so_far_paid waits answer new.seen d.place wait then d.so_far paid wt }
answer_paid version waits case old new then wait (Err (Refused why)) paid d = (d.0, tt)
answer_paid version waits case old new then wait (Err (Unsure why)) paid d = absurd d

-- marks only grow
answer_stays : {A : Type 0} (version : FormatVersion) (waits : Bool) (case : Files → Result A Status → Files → Type 0) (old new : SessionState) (history longer : List Entry) (answer : Result (Result A Status) (Fault CauseState))
    → floor history ≤ floor longer → IsAnsweredAs version (marked history) waits case old new answer → IsAnsweredAs version (marked longer) waits case old new answer
answer_stays version waits case old new history longer (Ok answer) grows d = record {
  place = d.place;
  made = d.made;
  exact = d.exact;
  so_far = λ wt. on_ok answer (λ (low : count (take (d.place + 1) new.seen) ≤ floor history). omega (arith, low, grows)) (d.so_far wt);
}
answer_stays version waits case old new history longer (Err (Refused why)) grows d = (d.0, tt)
answer_stays version waits case old new history longer (Err (Unsure why)) grows d = d

not_nothing : (receipt : CommitPlace) → HasNoWait (awaiting (Wait receipt)) → ⊥
not_nothing receipt e = absurd cc

-- what was owed is refused
answer_refused : {A : Type 0} (version : FormatVersion) (waits : Bool) (case : Files → Result A Status → Files → Type 0) (old new : SessionState) (receipt : CommitPlace) (history : List Entry) (why : Refusal CauseState) (answer : Result (Result A Status) (Fault CauseState))
    → IsAnsweredAs version (awaiting (Wait receipt)) waits case old new answer → IsAnsweredAs version (marked history) waits case old new (Err (Unsure why))
answer_refused version waits case old new receipt history why (Ok answer) d = (d.so_far.0, (answer, d.place, d.made))
answer_refused version waits case old new receipt history why (Err (Refused other)) d = absurd (not_nothing receipt d.1)
answer_refused version waits case old new receipt history why (Err (Unsure other)) d = absurd d

-- A session that has seen more since
module _ (version : FormatVersion) (old middle new : SessionState) (receipt : CommitPlace) (more : OnlyExtends middle new) (sound : IsTrue (is_trusted new.seen) → (n : ℕ) → HasSoundFiles version (at new.seen n)) where
  committed : {A : Type 0} (waits : Bool) (case : Files → Result A Status → Files → Type 0) (answer : Result A Status) → IsDoneAs version (awaiting (Wait receipt)) waits case old middle answer
      → IsCommittedBy version waits case old middle (record { answer = answer; wait = Wait receipt })
  committed waits case answer d = record { place = d.place; made = d.made; exact = d.exact; wait = d.so_far }

  answer_waited : {A : Type 0} (waits : Bool) (case : Files → Result A Status → Files → Type 0) (answer : Result (Result A Status) (Fault CauseState)) → receipt.count ≤ floor new.seen → IsExact new
      → IsAnsweredAs version (awaiting (Wait receipt)) waits case old middle answer → IsAnsweredAs version (marked new.seen) waits case old new answer
  answer_waited waits case (Ok answer) paid exact d =
      let done = IsDone-paid case old middle new more sound waits _ (committed waits case answer d) paid exact in
      record { place = done.place; made = done.made; exact = done.exact; so_far = done.stable }
  answer_waited waits case (Err (Refused why)) paid exact d = absurd (not_nothing receipt d.1)
  answer_waited waits case (Err (Unsure why)) paid exact d = absurd d

  answer_unsure : {A : Type 0} (waits : Bool) (case : Files → Result A Status → Files → Type 0) (history : List Entry) (why : Refusal CauseState) (answer : Result (Result A Status) (Fault CauseState))
      → IsAnsweredAs version (awaiting (Wait receipt)) waits case old middle answer → IsAnsweredAs version (marked history) waits case old new (Err (Unsure why))
  answer_unsure waits case history why (Ok answer) d = IsFault-unpaid case old middle new more sound waits _ why (committed waits case answer d) tt
  answer_unsure waits case history why (Err (Refused other)) d = absurd (not_nothing receipt d.1)
  answer_unsure waits case history why (Err (Unsure other)) d = absurd d

-- ---- operations

-- what is owed by another name
pub tells_due : {A : Type 0} (version : FormatVersion) (o p : PendingWait CommitPlace) (handle : Option FileHandle) (waits : Bool) (case : FileHandle → Files → Result A Status → Files → Type 0) (old new : SessionState) (outcome : Result A NfsError) → p ≡ o
    → TellsOutcome version (awaiting o) handle waits case old new outcome → TellsOutcome version (awaiting p) handle waits case old new outcome
tells_due version o p handle waits case old new outcome is h = subst (λ (q : PendingWait CommitPlace). TellsOutcome version (awaiting q) handle waits case old new outcome) (sym is) h

-- From one way to answer to another, in each row
module _ (version : FormatVersion) (from to : Standing) (old middle new : SessionState) (answers : (A : Type 0) (waits : Bool) (case : Files → Result A Status → Files → Type 0) (answer : Result (Result A Status) (Fault CauseState)) → IsAnsweredAs version from waits case old middle answer → IsAnsweredAs version to waits case old new answer)
    (idle : middle ≡ old → HasNoWait from → (new ≡ old) × HasNoWait to) where
  tells : {A : Type 0} (handle : Option FileHandle) (waits : Bool) (case : FileHandle → Files → Result A Status → Files → Type 0) (outcome : Result A NfsError)
      → TellsOutcome version from handle waits case old middle outcome → TellsOutcome version to handle waits case old new outcome
  tells None waits case outcome h = let i = idle h.1 h.2 in (h.0, i.0, i.1)
  tells (Some handle) waits case outcome h = (h.0, answers _ waits (case handle) h.0 h.1, h.2)

  performs : {A : Type 0} (handle : Option FileHandle) (waits : Bool) (case : FileHandle → Files → Result A Status → Files → Type 0) (as_results : Result A NfsError → Results) (r : Results)
      → Performs version from handle waits case as_results old r middle → Performs version to handle waits case as_results old r new
  performs handle waits case as_results r h = (h.0, tells handle waits case h.0 h.1, h.2)

  pub serves_moved : (verifier : List ℕ) (now : Time) (operation : Operation) (r : Results) → ServesAs version from verifier now operation old r middle → ServesAs version to verifier now operation old r new
  serves_moved verifier now Null r h = let i = idle h.1 h.2 in (h.0, i.0, i.1)
  serves_moved verifier now (GetAttributes k) r h = performs _ _ _ _ r h
  serves_moved verifier now (SetAttributes k a guard) r h = performs _ _ _ _ r h
  serves_moved verifier now (Lookup e) r h = performs _ _ _ _ r h
  serves_moved verifier now (Read k offset n) r h = performs _ _ _ _ r h
  serves_moved verifier now (Write k offset n how bytes) r h = performs _ _ _ _ r h
  serves_moved verifier now (Create e how) r h = performs _ _ _ _ r h
  serves_moved verifier now (Remove e) r h = performs _ _ _ _ r h
  serves_moved verifier now (Commit k offset n) r h = performs _ _ _ _ r h

-- Where the wait was refused
module _ (version : FormatVersion) (from to : Standing) (old middle new : SessionState) (why : Refusal CauseState) (answers : (A : Type 0) (waits : Bool) (case : Files → Result A Status → Files → Type 0) (answer : Result (Result A Status) (Fault CauseState)) → IsAnsweredAs version from waits case old middle answer → IsAnsweredAs version to waits case old new (Err (Unsure why)))
    (owes : HasNoWait from → ⊥) where
  tells_unsure : {A : Type 0} (handle : Option FileHandle) (waits : Bool) (case : FileHandle → Files → Result A Status → Files → Type 0) (outcome : Result A NfsError)
      → TellsOutcome version from handle waits case old middle outcome → TellsOutcome version to handle waits case old new (Err (refusal_error why))
  tells_unsure None waits case outcome h = absurd (owes h.2)
  tells_unsure (Some handle) waits case outcome h = (Err (Unsure why), answers _ waits (case handle) h.0 h.1, refl)

  performs_unsure : {A : Type 0} (handle : Option FileHandle) (waits : Bool) (case : FileHandle → Files → Result A Status → Files → Type 0) (as_results : Result A NfsError → Results) (r : Results)
      → Performs version from handle waits case as_results old r middle → Performs version to handle waits case as_results old (as_results (Err (refusal_error why))) new
  performs_unsure handle waits case as_results r h = (Err (refusal_error why), tells_unsure handle waits case h.0 h.1, refl)

  pub serves_refused : (verifier : List ℕ) (now : Time) (operation : Operation) (r : Results) → ServesAs version from verifier now operation old r middle
      → ServesAs version to verifier now operation old (refused_results (procedure_for operation) (refusal_error why)) new
  serves_refused verifier now Null r h = absurd (owes h.2)
  serves_refused verifier now (GetAttributes k) r h = performs_unsure _ _ _ _ r h
  serves_refused verifier now (SetAttributes k a guard) r h = performs_unsure _ _ _ _ r h
  serves_refused verifier now (Lookup e) r h = performs_unsure _ _ _ _ r h
  serves_refused verifier now (Read k offset n) r h = performs_unsure _ _ _ _ r h
  serves_refused verifier now (Write k offset n how bytes) r h = performs_unsure _ _ _ _ r h
  serves_refused verifier now (Create e how) r h = performs_unsure _ _ _ _ r h
  serves_refused verifier now (Remove e) r h = performs_unsure _ _ _ _ r h
  serves_refused verifier now (Commit k offset n) r h = performs_unsure _ _ _ _ r h

pub serves_paid : (version : FormatVersion) (verifier : List ℕ) (now : Time) (operation : Operation) (old new then : SessionState) (wait : PendingWait CommitPlace) (r : Results) → IsWaitOver wait then
    → ServesAs version (awaiting wait) verifier now operation old r new → ServesAs version (marked then.seen) verifier now operation old r new
serves_paid version verifier now operation old new then wait r paid h =
    serves_moved version (awaiting wait) (marked then.seen) old new new (λ A waits case answer. answer_paid version waits case old new then wait answer paid) (λ same none. (same, tt)) verifier now operation r h

pub serves_stays : (version : FormatVersion) (verifier : List ℕ) (now : Time) (operation : Operation) (old new : SessionState) (history longer : List Entry) (r : Results) → floor history ≤ floor longer
    → ServesAs version (marked history) verifier now operation old r new → ServesAs version (marked longer) verifier now operation old r new
serves_stays version verifier now operation old new history longer r grows h =
    serves_moved version (marked history) (marked longer) old new new (λ A waits case answer. answer_stays version waits case old new history longer answer grows) (λ same none. (same, tt)) verifier now operation r h

pub serves_waited : (version : FormatVersion) (verifier : List ℕ) (now : Time) (operation : Operation) (old middle new : SessionState) (receipt : CommitPlace) (r : Results) → OnlyExtends middle new
    → (IsTrue (is_trusted new.seen) → (n : ℕ) → HasSoundFiles version (at new.seen n)) → receipt.count ≤ floor new.seen → IsExact new
    → ServesAs version (awaiting (Wait receipt)) verifier now operation old r middle → ServesAs version (marked new.seen) verifier now operation old r new
serves_waited version verifier now operation old middle new receipt r more sound paid exact h =
    serves_moved version (awaiting (Wait receipt)) (marked new.seen) old middle new (λ A waits case answer. answer_waited version old middle new receipt more sound waits case answer paid exact)
    (λ same none. absurd (not_nothing receipt none)) verifier now operation r h

pub serves_takes_place : (version : FormatVersion) (verifier : List ℕ) (now : Time) (operation : Operation) (old new : SessionState) (receipt : CommitPlace) (history : List Entry) (why : Refusal CauseState) (r : Results)
    → ServesAs version (awaiting (Wait receipt)) verifier now operation old r new → ServesAs version (marked history) verifier now operation old (refused_results (procedure_for operation) (refusal_error why)) new
serves_takes_place version verifier now operation old new receipt history why r h =
    serves_refused version (awaiting (Wait receipt)) (marked history) old new new why (λ A waits case answer. answer_refused version waits case old new receipt history why answer)
    (not_nothing receipt) verifier now operation r h

pub serves_unsure : (version : FormatVersion) (verifier : List ℕ) (now : Time) (operation : Operation) (old middle new : SessionState) (receipt : CommitPlace) (history : List Entry) (why : Refusal CauseState) (r : Results) → OnlyExtends middle new
    → (IsTrue (is_trusted new.seen) → (n : ℕ) → HasSoundFiles version (at new.seen n))
    → ServesAs version (awaiting (Wait receipt)) verifier now operation old r middle → ServesAs version (marked history) verifier now operation old (refused_results (procedure_for operation) (refusal_error why)) new
serves_unsure version verifier now operation old middle new receipt history why r more sound h =
    serves_refused version (awaiting (Wait receipt)) (marked history) old middle new why (λ A waits case answer. answer_unsure version old middle new receipt more sound waits case history why answer)
    (not_nothing receipt) verifier now operation r h
