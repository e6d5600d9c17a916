-- The effect and the answer of an operation.
use Rattle.std.specs.Prelude.{ℕ, ◌≡◌, ◌≤◌, ◌+◌, Bool, true, false, IsTrue, List, [], ◌∷◌, ◌++◌, length, take, slice_get, Option, Some, None, Result, Ok, Err, OnOk}
use Rattle.std.specs.Result.{is_ok}
use Rattle.journal_world.specs.declared.refusal.Refusal.{Refusal}
use Rattle.journal_world.specs.declared.refusal.Refusal.TheVariants.{Busy, DeviceFailed}
use Rattle.journal_world.specs.Maps.{Transaction}
use Rattle.journal_world.specs.Histories.{Entry, commits_of, count, floor}
use Rattle.journal_world.specs.Histories.Entry.{commit}
use Rattle.journal_history.specs.Tokens.{SessionState, OnlyExtends, IsExact, CommitPlace}
use Rattle.journal_memory.specs.Causes.{CauseState}
use Rattle.journal_inode.specs.declared.node.Time.{Time}
use Rattle.journal_inode.specs.declared.version.FormatVersion.{FormatVersion}
use Rattle.journal_file_types.specs.declared.fault.Fault.{Fault}
use Rattle.journal_file_types.specs.declared.fault.Fault.TheVariants.{Refused, Unsure}
use Rattle.journal_file_types.specs.declared.pending_wait.Committed.{Committed}
use Rattle.journal_file_types.specs.declared.pending_wait.PendingWait.{PendingWait}
use Rattle.journal_file_types.specs.declared.pending_wait.PendingWait.TheVariants.{Nothing}
use Rattle.journal_file_types.specs.declared.settings.Settings.{Settings}
use Rattle.journal_file_types.specs.declared.settings.CreateMode as file_mode
use Rattle.journal_file_types.specs.declared.settings.CreateMode.TheVariants as file_modes
use Rattle.journal_file_types.specs.declared.status.Status.{Status}
use Rattle.journal_file_types.specs.declared.status.Status.TheVariants as status
use Rattle.journal_filestore.specs.Files.{Files}
use Rattle.journal_filestore.specs.Operations.{Op, Call as call, Reply as reply}
use Rattle.journal_filestore.specs.Done.{IsMadeAt, IsWaitOf}
use Rattle.journal_nfs3_wire.specs.declared.arguments.NewAttributes.{NewAttributes}
use Rattle.journal_nfs3_wire.specs.declared.arguments.StableHow.{StableHow}
use Rattle.journal_nfs3_wire.specs.declared.arguments.StableHow.TheVariants.{Unstable, DataSync, FileSync}
use Rattle.journal_nfs3_wire.specs.declared.results.NfsError.{NfsError}
use Rattle.journal_nfs3_wire.specs.declared.results.NfsError.TheVariants.{NoEntry, Io, Exists, NotDirectory, Invalid, TooBig, NoSpace, Stale, BadHandle, NotSync, NotSupported, ServerFault, Jukebox}
use Rattle.journal_nfs3_wire.specs.Arguments.{How, Unchecked, Guarded, Exclusive, Operation, Operation as operation}
use Rattle.journal_nfs3_wire.specs.Handles.{FileHandle, handle_in}
use Rattle.journal_nfs3_wire.specs.Results.{Results, Null, GetAttributes, SetAttributes, Lookup, Read, Write, Create, Remove, Commit}
use Rattle.journal_nfs3_wire.specs.Profile.{fattr_of, change_of, unchanged_of, no_change, lookup_of, read_results_of, write_of, create_of, commit_of, outcome_of}

-- ---- what the file store is asked

-- mode, owner, group and time of access are not kept
abbrev pub settings_of : NewAttributes → Settings
settings_of a = record { size = a.size; mtime = a.mtime }

abbrev pub create_mode_of : How → file_mode.CreateMode
create_mode_of (Unchecked a) = file_modes.Unchecked (settings_of a)
create_mode_of (Guarded a) = file_modes.Guarded (settings_of a)
create_mode_of (Exclusive v) = file_modes.Exclusive

-- a write waits until it is stable, unless it is asked not to
abbrev pub waits : StableHow → Bool
waits Unstable = false
waits DataSync = true
waits FileSync = true

-- ---- statuses

abbrev pub error_of : Status → NfsError
error_of status.NoEntry = NoEntry
error_of status.Exists = Exists
error_of status.NotDirectory = NotDirectory
error_of status.Invalid = Invalid
error_of status.TooBig = TooBig
error_of status.NoSpace = NoSpace
error_of status.Stale = Stale
error_of status.NotSync = NotSync
error_of status.NotSupported = NotSupported

-- a refusal of the journal: a slot was held once more after the last attempt, the device failed, or
-- anything else
abbrev pub refusal_error : {C : Type 0} → Refusal C → NfsError
refusal_error Busy = Jukebox
refusal_error (DeviceFailed cause) = Io
refusal_error other = ServerFault

-- an answer of the file store, in the protocol's words
abbrev pub answer_to_nfs : {A : Type 0} → Result A Status → Result A NfsError
answer_to_nfs (Ok value) = Ok value
answer_to_nfs (Err why) = Err (error_of why)

-- the same, or that it has none
abbrev pub to_nfs : {A C : Type 0} → Result (Result A Status) (Fault C) → Result A NfsError
to_nfs (Ok answer) = answer_to_nfs answer
to_nfs (Err (Refused why)) = Err (refusal_error why)
to_nfs (Err (Unsure why)) = Err (refusal_error why)

-- an answer that is not waited for: as one that was, and what is owed for it
abbrev pub committed_answer : {A P C : Type 0} → Result (Committed A P) (Refusal C) → Result (Result A Status) (Fault C)
committed_answer (Ok done) = Ok done.answer
committed_answer (Err why) = Err (Refused why)

abbrev pub committed_wait : {A P C : Type 0} → Result (Committed A P) (Refusal C) → PendingWait P
committed_wait (Ok done) = done.wait
committed_wait (Err why) = Nothing

-- ---- what is stable of an answer

-- How far an answer is: a mark in this history covers it, or this wait is pending
pub data Standing : Type 0 where
  marked : List Entry → Standing
  awaiting : PendingWait CommitPlace → Standing

abbrev pub HasNoWait : Standing → Type 0
HasNoWait (marked history) = Unit {0}
HasNoWait (awaiting wait) = wait ≡ Nothing

-- The progress of an answer whose commit is at this place of the history that is seen then
abbrev pub IsSoFar : {A : Type 0} → Standing → Bool → Result A Status → List Entry → ℕ → Type 0
IsSoFar (marked history) waits answer seen place = IsTrue waits → OnOk answer (count (take (place + 1) seen) ≤ floor history)
IsSoFar (awaiting wait) waits answer seen place = IsWaitOf waits answer seen place wait

-- The operation was done, and answered
pub record IsDoneAs {A : Type 0} (version : FormatVersion) (standing : Standing) (waits : Bool) (case : Files → Result A Status → Files → Type 0) (old new : SessionState) (answer : Result A Status) : Type 0 where
  pub place : ℕ
  pub made : IsMadeAt version case old new answer place
  -- the session has no other commits
  pub exact : IsExact new
  pub so_far : IsSoFar standing waits answer new.seen place

-- Refused, it was not done. In doubt, it was done with some answer that the case gives, and is not
-- known to be stable
abbrev pub IsFaultAs : {A : Type 0} → FormatVersion → Standing → Bool → (Files → Result A Status → Files → Type 0) → SessionState → SessionState → Fault CauseState → Type 0
IsFaultAs version standing waits case old new (Refused why) = OnlyExtends old new × HasNoWait standing
IsFaultAs {A} version (marked history) waits case old new (Unsure why) = IsTrue waits × ((answer : Result A Status) × (place : ℕ) × IsMadeAt version case old new answer place)
IsFaultAs version (awaiting wait) waits case old new (Unsure why) = ⊥

abbrev pub IsAnsweredAs : {A : Type 0} → FormatVersion → Standing → Bool → (Files → Result A Status → Files → Type 0) → SessionState → SessionState → Result (Result A Status) (Fault CauseState) → Type 0
IsAnsweredAs version standing waits case old new (Ok answer) = IsDoneAs version standing waits case old new answer
IsAnsweredAs version standing waits case old new (Err fault) = IsFaultAs version standing waits case old new fault

-- ---- operations

-- The result of an operation on a handle's target: that there is none, or the answer of the file
-- store by this case
abbrev pub TellsOutcome : {A : Type 0} → FormatVersion → Standing → Option FileHandle → Bool → (FileHandle → Files → Result A Status → Files → Type 0) → SessionState → SessionState → Result A NfsError → Type 0
TellsOutcome version standing None waits case old new outcome = (outcome ≡ Err BadHandle) × (new ≡ old) × HasNoWait standing
TellsOutcome {A} version standing (Some handle) waits case old new outcome =
    (answer : Result (Result A Status) (Fault CauseState)) × IsAnsweredAs version standing waits (case handle) old new answer × (outcome ≡ to_nfs answer)

-- the same, with the results that are made of it
abbrev pub Performs : {A : Type 0} → FormatVersion → Standing → Option FileHandle → Bool → (FileHandle → Files → Result A Status → Files → Type 0) → (Result A NfsError → Results) → SessionState → Results → SessionState → Type 0
Performs {A} version standing handle waits case as_results old results new = (outcome : Result A NfsError) × TellsOutcome version standing handle waits case old new outcome × (results ≡ as_results outcome)

-- The effect of an operation at a moment, from the history that its session had seen to the one
-- that it then has seen, its results, and how far they are
abbrev pub ServesAs : FormatVersion → Standing → List ℕ → Time → Operation → SessionState → Results → SessionState → Type 0
ServesAs version standing verifier now operation.Null old results new = (results ≡ Null) × (new ≡ old) × HasNoWait standing
ServesAs version standing verifier now (operation.GetAttributes h) old results new =
    Performs version standing (handle_in h) false (λ k F r F2. (t : Time) → Op version (call.getattr k.number k.generation) t F (reply.got r) F2)
    (λ r. GetAttributes (outcome_of (fattr_of version) tt r)) old results new
ServesAs version standing verifier now (operation.SetAttributes h a guard) old results new =
    Performs version standing (handle_in h) true (λ k F r F2. Op version (call.setattr k.number k.generation (settings_of a) guard) now F (reply.set r) F2)
    (λ r. SetAttributes (outcome_of (change_of version) no_change r)) old results new
ServesAs version standing verifier now (operation.Lookup e) old results new =
    Performs version standing (handle_in e.directory) false (λ k F r F2. (t : Time) → Op version (call.lookup k.number k.generation e.called) t F (reply.found r) F2)
    (λ r. Lookup (outcome_of (lookup_of version) None r)) old results new
ServesAs version standing verifier now (operation.Read h offset count) old results new =
    Performs version standing (handle_in h) false (λ k F r F2. (t : Time) → Op version (call.read k.number k.generation offset count) t F (reply.bytes_read r) F2)
    (λ r. Read (outcome_of (read_results_of version) None r)) old results new
ServesAs version standing verifier now (operation.Write h offset count how bytes) old results new =
    Performs version standing (handle_in h) (waits how) (λ k F r F2. Op version (call.write k.number k.generation offset count bytes) now F (reply.wrote r) F2)
    (λ r. Write (outcome_of (write_of version count how verifier) no_change r)) old results new
ServesAs version standing verifier now (operation.Create e how) old results new =
    Performs version standing (handle_in e.directory) true (λ k F r F2. Op version (call.create k.number k.generation e.called (create_mode_of how)) now F (reply.made r) F2)
    (λ r. Create (outcome_of (create_of version) no_change r)) old results new
ServesAs version standing verifier now (operation.Remove e) old results new =
    Performs version standing (handle_in e.directory) true (λ k F r F2. (t : Time) → Op version (call.remove k.number k.generation e.called) t F (reply.removed r) F2)
    (λ r. Remove (outcome_of (unchanged_of version) no_change r)) old results new
ServesAs version standing verifier now (operation.Commit h offset count) old results new =
    Performs version standing (handle_in h) true (λ k F r F2. (t : Time) → Op version (call.commit k.number k.generation) t F (reply.committed r) F2)
    (λ r. Commit (outcome_of (commit_of version verifier) no_change r)) old results new

-- the same of an operation that has waited: a mark in the history that the session then has seen
-- covers it
abbrev pub Serves : FormatVersion → List ℕ → Time → Operation → SessionState → Results → SessionState → Type 0
Serves version verifier now operation old results new = ServesAs version (marked new.seen) verifier now operation old results new

-- ---- what is stable once it is answered

-- the operation waits until it is stable, where it is answered OK
abbrev pub has_to_wait : Operation → Bool
has_to_wait (operation.SetAttributes h a guard) = true
has_to_wait (operation.Write h offset count how bytes) = waits how
has_to_wait (operation.Create e how) = true
has_to_wait (operation.Remove e) = true
has_to_wait (operation.Commit h offset count) = true
has_to_wait other = false

-- its results are not a refusal's
abbrev pub is_accepted : Results → Bool
is_accepted Null = true
is_accepted (GetAttributes r) = is_ok r
is_accepted (SetAttributes r) = is_ok r
is_accepted (Lookup r) = is_ok r
is_accepted (Read r) = is_ok r
is_accepted (Write r) = is_ok r
is_accepted (Create r) = is_ok r
is_accepted (Remove r) = is_ok r
is_accepted (Commit r) = is_ok r

-- The session has one more commit, which is at this place in the history that it has then seen,
-- after all that it had seen
pub record CommitsOnceAt (old new : SessionState) (place : ℕ) : Type 0 where
  pub made : Transaction
  pub stands : slice_get new.seen place ≡ Some (commit made)
  pub later : length old.seen ≤ place
  pub one_more : commits_of new.number new.mine ≡ commits_of old.number old.mine ++ made ∷ []

-- a mark of the history covers the commits up to this place
abbrev pub IsMarked : List Entry → ℕ → Type 0
IsMarked history place = count (take (place + 1) history) ≤ floor history
