-- What waits and is answered OK is marked.
use Rattle.std.proofs.Common.{◌≡◌, ℕ, ◌+◌, ◌≤◌, take, Bool, true, IsTrue, List, Option, Some, None, Result, Ok, Err, refl, ap, subst, ◌∙◌}
use Rattle.std.specs.Result.{is_ok}
use Rattle.journal_world.specs.Histories.{Entry, count, floor}
use Rattle.journal_history.specs.Tokens.{SessionState}
use Rattle.journal_memory.specs.Causes.{CauseState}
use Rattle.journal_inode.specs.declared.version.FormatVersion.{FormatVersion}
use Rattle.journal_inode.specs.declared.node.Time.{Time}
use Rattle.journal_file_types.specs.declared.fault.Fault.{Fault}
use Rattle.journal_file_types.specs.declared.fault.Fault.TheVariants.{Refused, Unsure}
use Rattle.journal_file_types.specs.declared.status.Status.{Status}
use Rattle.journal_filestore.specs.Files.{Files}
use Rattle.journal_nfs3_wire.specs.declared.results.NfsError.{NfsError}
use Rattle.journal_nfs3_wire.specs.Arguments.{Operation, Null, GetAttributes, SetAttributes, Lookup, Read, Write, Create, Remove, Commit}
use Rattle.journal_nfs3_wire.specs.Handles.{FileHandle}
use Rattle.journal_nfs3_wire.specs.Results.{Results}
use Rattle.journal_nfs3_wire.specs.Profile.{outcome_of, change_of, unchanged_of, no_change, write_of, create_of, commit_of}
use Rattle.journal_nfs3.specs.Served.{to_nfs, waits, marked, IsDoneAs, IsAnsweredAs, TellsOutcome, Performs, ServesAs, Serves, has_to_wait, is_accepted, CommitsOnceAt, IsMarked}

-- the session has one more commit, and the history has a mark of it
abbrev pub HasMarked : List Entry → SessionState → SessionState → Type 0
HasMarked history old new = (place : ℕ) × CommitsOnceAt old new place × (count (take (place + 1) new.seen) ≤ floor history)

module _ (version : FormatVersion) (history : List Entry) where
  done_marked : {A : Type 0} (w : Bool) (case : Files → Result A Status → Files → Type 0) (old new : SessionState) (v : A) → IsTrue w → IsDoneAs version (marked history) w case old new (Ok v) → HasMarked history old new
  done_marked w case old new v wt d =
      let m = d.made in
      (d.place, record { made = m.made; stands = m.stands; later = m.later; one_more = m.one_more }, d.so_far wt)

  answer_marked : {A : Type 0} (w : Bool) (case : Files → Result A Status → Files → Type 0) (old new : SessionState) (answer : Result (Result A Status) (Fault CauseState)) → IsTrue w → IsAnsweredAs version (marked history) w case old new answer → IsTrue (is_ok (to_nfs answer)) → HasMarked history old new
  answer_marked w case old new (Ok (Ok v)) wt d ok = done_marked w case old new v wt d
  answer_marked w case old new (Ok (Err why)) wt d ok = absurd (cc ok)
  answer_marked w case old new (Err (Refused why)) wt d ok = absurd (cc ok)
  answer_marked w case old new (Err (Unsure why)) wt d ok = absurd (cc ok)

  tells_marked : {A : Type 0} (handle : Option FileHandle) (w : Bool) (case : FileHandle → Files → Result A Status → Files → Type 0) (old new : SessionState) (outcome : Result A NfsError) → IsTrue w → TellsOutcome version (marked history) handle w case old new outcome → IsTrue (is_ok outcome) → HasMarked history old new
  tells_marked None w case old new outcome wt h ok = absurd (cc (subst (λ (o : Result _ NfsError). IsTrue (is_ok o)) h.0 ok))
  tells_marked (Some handle) w case old new outcome wt h ok = answer_marked w (case handle) old new h.0 wt h.1 (subst (λ (o : Result _ NfsError). IsTrue (is_ok o)) h.2 ok)

  performs_marked : {A : Type 0} (handle : Option FileHandle) (w : Bool) (case : FileHandle → Files → Result A Status → Files → Type 0) (as_results : Result A NfsError → Results) (old new : SessionState) (r : Results) → ((o : Result A NfsError) → is_accepted (as_results o) ≡ is_ok o) → IsTrue w → IsTrue (is_accepted r) → Performs version (marked history) handle w case as_results old r new → HasMarked history old new
  performs_marked handle w case as_results old new r same wt accepted h =
      tells_marked handle w case old new h.0 wt h.1 (subst IsTrue (ap is_accepted h.2 ∙ same h.0) accepted)

  same_ok : {A B C : Type 0} (view : A → B) (nothing : C) (o : Result A NfsError) → is_ok (outcome_of view nothing o) ≡ is_ok o
  same_ok view nothing (Ok v) = refl
  same_ok view nothing (Err why) = refl

  pub serves_marked_in : (verifier : List ℕ) (now : Time) (operation : Operation) (old new : SessionState) (r : Results) → IsTrue (has_to_wait operation) → IsTrue (is_accepted r) → ServesAs version (marked history) verifier now operation old r new → HasMarked history old new
  serves_marked_in verifier now Null old new r wt ok h = absurd (cc wt)
  serves_marked_in verifier now (GetAttributes k) old new r wt ok h = absurd (cc wt)
  serves_marked_in verifier now (Lookup e) old new r wt ok h = absurd (cc wt)
  serves_marked_in verifier now (Read k offset n) old new r wt ok h = absurd (cc wt)
  serves_marked_in verifier now (SetAttributes k a guard) old new r wt ok h = performs_marked _ true _ _ old new r (same_ok (change_of version) no_change) wt ok h
  serves_marked_in verifier now (Write k offset n how bytes) old new r wt ok h = performs_marked _ (waits how) _ _ old new r (same_ok (write_of version n how verifier) no_change) wt ok h
  serves_marked_in verifier now (Create e how) old new r wt ok h = performs_marked _ true _ _ old new r (same_ok (create_of version) no_change) wt ok h
  serves_marked_in verifier now (Remove e) old new r wt ok h = performs_marked _ true _ _ old new r (same_ok (unchanged_of version) no_change) wt ok h
  serves_marked_in verifier now (Commit k offset n) old new r wt ok h = performs_marked _ true _ _ old new r (same_ok (commit_of version verifier) no_change) wt ok h

pub serves_marked : (version : FormatVersion) (verifier : List ℕ) (now : Time) (operation : Operation) (old new : SessionState) (r : Results) → IsTrue (has_to_wait operation) → IsTrue (is_accepted r) → Serves version verifier now operation old r new
    → (place : ℕ) × CommitsOnceAt old new place × IsMarked new.seen place
serves_marked version verifier now operation old new r wt ok h = serves_marked_in version new.seen verifier now operation old new r wt ok h
