-- The results of a call of the tree, by its reply.
use Rattle.std.specs.Prelude.{ℕ, List, None, Result, Ok, Err}
use Rattle.journal_tree.specs.declared.status.Status.{Status}
use Rattle.journal_tree.specs.Op.{Call, mknod, link, write, Reply, got, set, found, accessed, link_read, bytes_read, wrote, made, removed, renamed, listed, listed_plus, space, facts, name_facts, committed, not_done}
use Rattle.journal_nfs3_wire.specs.declared.arguments.StableHow.{StableHow}
use Rattle.journal_nfs3_wire.specs.declared.results.NfsError.{NfsError}
use Rattle.journal_nfs3_wire.specs.Profile.{no_change}
use Rattle.journal_treewire.specs.Profile.{fattr_of, change_of, found_of, access_of, link_of, read_of, write_of, made_of, renamed_of, no_changes, list_of, list_plus_of, status_of, information_of, configuration_of, commit_of}
use Rattle.journal_treewire.specs.Results.{Results, Null, Attributes, Changed, Found, Access, LinkText, Read, Write, Made, Renamed, NotLinked, Directory, DirectoryPlus, FileSystemStatus, FileSystemInformation, PathConfiguration, Commit}
use Rattle.journal_treewire.specs.Values.{error_of}

-- an answer, or a refusal with its number, after which no fact follows
abbrev pub told_or : {A B C : Type 0} → (A → B) → C → Result A Status → Result B (NfsError × C)
told_or told nothing (Ok v) = Ok (told v)
told_or told nothing (Err status) = Err (error_of status, nothing)

-- how many bytes a WRITE is to write
abbrev pub count_of : Call → ℕ
count_of (write h offset count bytes) = count
count_of _ = 0

-- a call that the tree does not have
abbrev pub not_done_results : Call → NfsError → Results
not_done_results (mknod h name) why = Made (Err (why, no_change))
not_done_results (link h k name) why = NotLinked why (None, no_change)
not_done_results _ why = Null

abbrev pub refused_results : Call → Result ⊥ Status → Results
refused_results call (Ok never) = Null
refused_results call (Err status) = not_done_results call (error_of status)

-- The results on a disk, by a server's verifier, of a call that was answered so. `how` says how
-- stable a WRITE is asked to be
abbrev pub answer_of : ℕ → List ℕ → StableHow → Call → Reply → Results
answer_of disk verifier how call (got r) = Attributes (told_or (fattr_of disk) tt r)
answer_of disk verifier how call (set r) = Changed (told_or (change_of disk) no_change r)
answer_of disk verifier how call (found r) = Found (told_or (found_of disk) None r)
answer_of disk verifier how call (accessed r) = Access (told_or (access_of disk) None r)
answer_of disk verifier how call (link_read r) = LinkText (told_or (link_of disk) None r)
answer_of disk verifier how call (bytes_read r) = Read (told_or (read_of disk) None r)
answer_of disk verifier how call (wrote r) = Write (told_or (write_of disk (count_of call) how verifier) no_change r)
answer_of disk verifier how call (made r) = Made (told_or (made_of disk) no_change r)
answer_of disk verifier how call (removed r) = Changed (told_or (change_of disk) no_change r)
answer_of disk verifier how call (renamed r) = Renamed (told_or (renamed_of disk) no_changes r)
answer_of disk verifier how call (listed r) = Directory (told_or (list_of disk) None r)
answer_of disk verifier how call (listed_plus r) = DirectoryPlus (told_or (list_plus_of disk) None r)
answer_of disk verifier how call (space r) = FileSystemStatus (told_or (status_of disk) None r)
answer_of disk verifier how call (facts r) = FileSystemInformation (told_or (information_of disk) None r)
answer_of disk verifier how call (name_facts r) = PathConfiguration (told_or (configuration_of disk) None r)
answer_of disk verifier how call (committed r) = Commit (told_or (commit_of disk verifier) no_change r)
answer_of disk verifier how call (not_done r) = refused_results call r
