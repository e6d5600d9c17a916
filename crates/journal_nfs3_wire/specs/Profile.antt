-- The files, as results describe them.
use Rattle.std.specs.Prelude.{ℕ, ◌==◌, min, if◌then◌else◌, List, [], ◌++◌, length, Some, None, Result, Ok, Err}
use Rattle.journal_inode.specs.declared.version.FormatVersion.{FormatVersion}
use Rattle.journal_inode.specs.Versions.{most_bytes, room_of}
use Rattle.journal_file_types.specs.declared.reply.Attributes.{Attributes}
use Rattle.journal_file_types.specs.declared.reply.Changed.{Changed}
use Rattle.journal_file_types.specs.declared.reply.Found.{Found}
use Rattle.journal_file_types.specs.Portions.{PortionState}
use Rattle.journal_nfs3_wire.specs.declared.arguments.StableHow.{StableHow}
use Rattle.journal_nfs3_wire.specs.declared.arguments.StableHow.TheVariants.{Unstable, DataSync, FileSync}
use Rattle.journal_nfs3_wire.specs.declared.procedure.Procedure.{Procedure}
use Rattle.journal_nfs3_wire.specs.declared.procedure.Procedure.TheVariants as procedure
use Rattle.journal_nfs3_wire.specs.declared.results.NfsError.{NfsError}
use Rattle.journal_nfs3_wire.specs.declared.results.Results as code_results
use Rattle.journal_nfs3_wire.specs.declared.results.Results.TheVariants as code_result
use Rattle.journal_nfs3_wire.specs.declared.writing.Untold.{Untold}
use Rattle.journal_nfs3_wire.specs.declared.writing.Untold.TheVariants as untold
use Rattle.journal_nfs3_wire.specs.Handles.{FileHandle}
use Rattle.journal_nfs3_wire.specs.Results.{status, post_op_attributes, change, Fattr, Before, Change, LookupResults, ReadResults, WriteResults, CreateResults, CommitResults, Results, Null, GetAttributes, SetAttributes, Lookup, Read, Write, Create, Remove, Commit}

-- how many bytes the blocks of a file of this size have, of which no file has more than its
-- version's most: in version 1 they are 4096
abbrev pub used_bytes : FormatVersion → ℕ → ℕ
used_bytes version size = room_of version (min size (most_bytes version))

-- The attributes of the root, whose number is 1, or of a file
abbrev pub fattr_of : FormatVersion → Attributes → Fattr
fattr_of version a = record {
  kind = if a.number == 1 then 2 else 1;
  mode = if a.number == 1 then 493 else 420;
  links = if a.number == 1 then 2 else 1;
  uid = 0;
  gid = 0;
  size = a.size;
  used = if a.number == 1 then 0 else used_bytes version a.size;
  device = (0, 0);
  fsid = 1;
  fileid = a.number;
  atime = a.mtime;
  mtime = a.mtime;
  ctime = a.mtime;
}

-- the attributes before a change
abbrev pub before_of : Attributes → Before
before_of a = record { size = a.size; mtime = a.mtime; ctime = a.mtime }

abbrev pub change_of : FormatVersion → Changed → Change
change_of version c = record { before = Some (before_of c.before); after = Some (fattr_of version c.after) }

-- nothing changed
abbrev pub unchanged_of : FormatVersion → Attributes → Change
unchanged_of version a = change_of version (record { before = a; after = a })

-- a change of which nothing is described
abbrev pub no_change : Change
no_change = record { before = None; after = None }

-- the handle of a file that was found or made
abbrev pub found_handle : Found → FileHandle
found_handle f = record { number = f.file.number; generation = f.generation }

abbrev pub lookup_of : FormatVersion → Found → LookupResults
lookup_of version f = record { object = found_handle f; attributes = Some (fattr_of version f.file); directory = Some (fattr_of version f.root) }

abbrev pub read_results_of : FormatVersion → PortionState → ReadResults
read_results_of version p = record { attributes = Some (fattr_of version p.file); count = length p.bytes; is_end = p.is_end; bytes = p.bytes }

-- a write that waited is as stable as can be
abbrev pub stability_told : StableHow → StableHow
stability_told Unstable = Unstable
stability_told DataSync = FileSync
stability_told FileSync = FileSync

abbrev pub write_of : FormatVersion → ℕ → StableHow → List ℕ → Changed → WriteResults
write_of version count how verifier c = record { change = change_of version c; count = count; committed = stability_told how; verifier = verifier }

-- a new file does not change the root
abbrev pub create_of : FormatVersion → Found → CreateResults
create_of version f = record { object = Some (found_handle f); attributes = Some (fattr_of version f.file); directory = unchanged_of version f.root }

abbrev pub commit_of : FormatVersion → List ℕ → Attributes → CommitResults
commit_of version verifier a = record { change = unchanged_of version a; verifier = verifier }

-- results, or an error, after which no fact follows
abbrev pub outcome_of : {A B C : Type 0} → (A → B) → C → Result A NfsError → Result B (NfsError × C)
outcome_of told nothing (Ok v) = Ok (told v)
outcome_of told nothing (Err why) = Err (why, nothing)

-- the spelling of left out facts
abbrev pub untold_text : Untold → List ℕ
untold_text untold.Nothing = []
untold_text untold.Attributes = post_op_attributes.spelling None
untold_text untold.Change = change.spelling no_change

-- the spelling of an outcome's status, and after one that refuses of left out facts
abbrev pub status_text : {A : Type 0} → Untold → Result A NfsError → List ℕ
status_text u (Ok v) = status.spelling None
status_text u (Err why) = status.spelling (Some why) ++ untold_text u

abbrev pub results_of : FormatVersion → code_results.Results → Results
results_of version code_result.Null = Null
results_of version (code_result.GetAttributes r) = GetAttributes (outcome_of (fattr_of version) tt r)
results_of version (code_result.SetAttributes r) = SetAttributes (outcome_of (change_of version) no_change r)
results_of version (code_result.Lookup r) = Lookup (outcome_of (lookup_of version) None r)
results_of version (code_result.Read r) = Read (outcome_of (read_results_of version) None r)
results_of version (code_result.Write r count how verifier) = Write (outcome_of (write_of version count how verifier.0) no_change r)
results_of version (code_result.Create r) = Create (outcome_of (create_of version) no_change r)
results_of version (code_result.Remove r) = Remove (outcome_of (unchanged_of version) no_change r)
results_of version (code_result.Commit r verifier) = Commit (outcome_of (commit_of version verifier.0) no_change r)

-- the results of a procedure that is refused for this reason, which describe nothing
abbrev pub refused_results : Procedure → NfsError → Results
refused_results procedure.Null why = Null
refused_results procedure.GetAttributes why = GetAttributes (Err (why, tt))
refused_results procedure.SetAttributes why = SetAttributes (Err (why, no_change))
refused_results procedure.Lookup why = Lookup (Err (why, None))
refused_results procedure.Read why = Read (Err (why, None))
refused_results procedure.Write why = Write (Err (why, no_change))
refused_results procedure.Create why = Create (Err (why, no_change))
refused_results procedure.Remove why = Remove (Err (why, no_change))
refused_results procedure.Commit why = Commit (Err (why, no_change))
