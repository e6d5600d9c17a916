-- The work for a call beside the nine procedures, and its answer.
use Rattle.std.specs.Prelude.{◌≡◌, ℕ, ◌-◌, ◌*◌, ◌+◌, ◌==◌, if◌then◌else◌, MatchBool, bit_and, true, false, List, [], ◌∷◌, length, Some, None, Result, Ok, Err}
use Rattle.journal_world.specs.declared.layout.TheConstants.{BLOCK_BYTES, FIRST_DATA}
use Rattle.journal_history.specs.Tokens.{SessionState}
use Rattle.journal_inode.specs.declared.node.Time.{Time}
use Rattle.journal_inode.specs.declared.version.FormatVersion.{FormatVersion}
use Rattle.journal_inode.specs.Versions.{most_bytes}
use Rattle.journal_file_types.specs.declared.pending_wait.PendingWait.TheVariants.{Nothing}
use Rattle.journal_file_types.specs.declared.reply.Attributes.{Attributes}
use Rattle.journal_file_types.specs.declared.reply.Found.{Found}
use Rattle.journal_file_types.specs.declared.status.Status.{Status}
use Rattle.journal_filestore.specs.Files.{Files}
use Rattle.journal_filestore.specs.Operations.{Op, Call as call, Reply as reply}
use Rattle.journal_nfs3_wire.specs.declared.results.NfsError.{NfsError}
use Rattle.journal_nfs3_wire.specs.declared.results.NfsError.TheVariants.{NotDirectory}
use Rattle.journal_nfs3_wire.specs.Handles.{FileHandle, handle_in}
use Rattle.journal_nfs3_wire.specs.Profile.{fattr_of, used_bytes}
use Rattle.journal_nfs3_wire.specs.Queries.{Query, Access, ReadDirectory, ReadDirectoryPlus, FileSystemStatus, FileSystemInformation, PathConfiguration}
use Rattle.journal_nfs3_wire.specs.QueryResults.{entry, AccessResults, PageResults, StatusResults, InformationResults, ConfigurationResults}
use Rattle.journal_nfs3.specs.Served.{awaiting, TellsOutcome}
use Rattle.journal_mount3.specs.Entries.{entry_plus}
use Rattle.journal_mount3.specs.Roots.{attributes_at}
use Rattle.journal_mount3.specs.Listings.{Listed, LooksAllUp, AreKnown, found_among, IsCutShort, Seen, SeesPage, plain_of, plus_of, page_of, FitsCount, FitsNames}
use Rattle.journal_mount3.specs.Results as results

-- a GETATTR of what a handle names, between two states of the files
abbrev pub IsGetAttributes : FormatVersion → FileHandle → Files → Result Attributes Status → Files → Type 0
IsGetAttributes version k F r F2 = (t : Time) → Op version (call.getattr k.number k.generation) t F (reply.got r) F2

-- what is told of a handle: as GETATTR tells it, at a place of its own behind all that the session
-- had seen
abbrev pub TellsOf : FormatVersion → List ℕ → SessionState → SessionState → Result Attributes NfsError → Type 0
TellsOf version handle old new told = TellsOutcome version (awaiting Nothing) (handle_in handle) false (IsGetAttributes version) old new told

-- results that are made of the attributes of the handle's file
abbrev pub shown : {A : Type 0} → (Attributes → A) → Time → Result Attributes NfsError → results.Told A
shown as_results now (Ok a) = Ok (as_results (attributes_at now a))
shown as_results now (Err why) = Err (why, None)

-- ---- ACCESS

-- READ 1, LOOKUP 2, MODIFY 4, EXTEND 8 and DELETE 16 of the root; READ, MODIFY and EXTEND of a
-- file. None may be executed
abbrev pub rights_of : Attributes → ℕ
rights_of a = if a.number == 1 then 31 else 13

abbrev pub access_of : FormatVersion → ℕ → Attributes → AccessResults
access_of version asked a = record { attributes = Some (fattr_of version a); granted = bit_and asked (rights_of a) }

-- ---- FSINFO and PATHCONF

abbrev pub information_of : FormatVersion → Attributes → InformationResults
information_of version a = record {
  attributes = Some (fattr_of version a);
  read_most = 8192;
  read_best = 8192;
  read_multiple = 1;
  write_most = 8192;
  write_best = 8192;
  write_multiple = 4096;
  list_best = 8192;
  file_most = most_bytes version;
  time_delta = record { secs = 0; nanos = 1 };
  properties = 24;
}

abbrev pub configuration_of : FormatVersion → Attributes → ConfigurationResults
configuration_of version a = record {
  attributes = Some (fattr_of version a);
  links_most = 1;
  name_most = 4;
  refuses_longer = true;
  keeps_owners = true;
  ignores_case = false;
  keeps_case = true;
}

-- ---- FSSTAT

-- what the files that were found use
abbrev pub used_by : FormatVersion → List Listed → ℕ
used_by version [] = 0
used_by version (e ∷ es) = used_bytes version e.attributes.size + used_by version es

abbrev pub status_of : FormatVersion → ℕ → List Listed → Attributes → StatusResults
status_of version blocks files a = record {
  attributes = Some (fattr_of version a);
  total_bytes = BLOCK_BYTES * (blocks - FIRST_DATA);
  free_bytes = BLOCK_BYTES * (blocks - FIRST_DATA) - used_by version files;
  available_bytes = BLOCK_BYTES * (blocks - FIRST_DATA) - used_by version files;
  total_files = 510;
  free_files = 510 - length files;
  available_files = 510 - length files;
  stays_for = 0;
}

-- each of the 510 files was looked up, so many were found, and these use so much
pub record FindsAll (version : FormatVersion) (old new : SessionState) (files used : ℕ) : Type 0 where
  pub found : List (Result Found NfsError)
  pub all : length found ≡ 510
  pub looked : LooksAllUp version 2 found old new
  pub known : AreKnown found
  pub files_are : files ≡ length (found_among 2 found)
  pub used_is : used ≡ used_by version (found_among 2 found)

-- each of the 510 files was looked up, and is counted where it was found
pub record Measures (version : FormatVersion) (blocks : ℕ) (old new : SessionState) (a : Attributes) (told : StatusResults) : Type 0 where
  pub found : List (Result Found NfsError)
  pub all : length found ≡ 510
  pub looked : LooksAllUp version 2 found old new
  pub known : AreKnown found
  pub is : told ≡ status_of version blocks (found_among 2 found) a

abbrev pub MeasuresOr : FormatVersion → ℕ → Attributes → SessionState → SessionState → results.Told StatusResults → Type 0
MeasuresOr version blocks a old new (Ok told) = Measures version blocks old new a told
MeasuresOr version blocks a old new (Err why) = IsCutShort version 2 old new why.0 × (why.1 ≡ None)

-- ---- READDIR and READDIRPLUS

-- A listing of what a handle names: of the root, at the moment of the call; a file is no directory
abbrev pub Lists : FormatVersion → Time → ℕ → (List Listed → Type 0) → Result Attributes NfsError → SessionState → SessionState → Result Seen NfsError → Type 0
Lists version now cookie Fits (Err why) old new outcome = (new ≡ old) × (outcome ≡ Err why)
Lists version now cookie Fits (Ok a) old new outcome =
    MatchBool (a.number == 1) (SeesPage version cookie Fits (attributes_at now a) old new outcome) ((new ≡ old) × (outcome ≡ Err NotDirectory))

-- the results of what was seen
abbrev pub page_told : {E : Type 0} → (Listed → E) → Result Seen NfsError → results.Told (PageResults E)
page_told as_entry (Ok seen) = Ok (page_of as_entry seen.page seen.is_end)
page_told as_entry (Err why) = Err (why, None)

-- ---- what each query does

-- What is told of the handle first, at a place of its own, and then the rest
abbrev pub TellsThen : FormatVersion → List ℕ → SessionState → (Result Attributes NfsError → SessionState → Type 0) → Type 0
TellsThen version handle old goes_on = (told : Result Attributes NfsError) × (mid : SessionState) × TellsOf version handle old mid told × goes_on told mid

-- what is told of the handle, with the moment as the root's times
abbrev pub at_moment : Time → Result Attributes NfsError → Result Attributes NfsError
at_moment now (Ok a) = Ok (attributes_at now a)
at_moment now (Err why) = Err why

abbrev pub TellsNow : FormatVersion → Time → List ℕ → SessionState → SessionState → Result Attributes NfsError → Type 0
TellsNow version now handle old new outcome = (told : Result Attributes NfsError) × TellsOf version handle old new told × (outcome ≡ at_moment now told)

abbrev pub StatusOf : FormatVersion → ℕ → Time → Result Attributes NfsError → SessionState → SessionState → results.Told StatusResults → Type 0
StatusOf version blocks now (Err why) old new told = (new ≡ old) × (told ≡ Err (why, None))
StatusOf version blocks now (Ok a) old new told = MeasuresOr version blocks (attributes_at now a) old new told

abbrev pub Queries : FormatVersion → ℕ → Time → Query → SessionState → results.QueryResults → SessionState → Type 0
Queries version blocks now (Access h asked) old r new =
    TellsThen version h old (λ told mid. (new ≡ mid) × (r ≡ results.Access (shown (access_of version asked) now told)))
Queries version blocks now (ReadDirectory p) old r new =
    TellsThen version p.directory old (λ told mid.
    (seen : Result Seen NfsError) × Lists version now p.cookie (FitsCount entry plain_of p.count) told mid new seen × (r ≡ results.ReadDirectory (page_told plain_of seen)))
Queries version blocks now (ReadDirectoryPlus p) old r new =
    TellsThen version p.directory old
    (λ told mid.
    (seen : Result Seen NfsError) × Lists version now p.cookie (λ es. FitsCount entry_plus (plus_of version) p.count es × FitsNames p.names_count es) told mid new seen
    × (r ≡ results.ReadDirectoryPlus (page_told (plus_of version) seen)))
Queries version blocks now (FileSystemStatus h) old r new =
    TellsThen version h old (λ told mid. (status : results.Told StatusResults) × StatusOf version blocks now told mid new status × (r ≡ results.FileSystemStatus status))
Queries version blocks now (FileSystemInformation h) old r new =
    TellsThen version h old (λ told mid. (new ≡ mid) × (r ≡ results.FileSystemInformation (shown (information_of version) now told)))
Queries version blocks now (PathConfiguration h) old r new =
    TellsThen version h old (λ told mid. (new ≡ mid) × (r ≡ results.PathConfiguration (shown (configuration_of version) now told)))
