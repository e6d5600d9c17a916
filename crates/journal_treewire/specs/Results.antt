-- The results of the procedures, as items (RFC 1813, sections 2.5 and 3.3).
use Rattle.std.specs.Prelude.{ℕ, List, [], Option, Some, Result}
use Rattle.journal_xdr.specs.Items.{Item, pair, mapped_item, coded}
use Rattle.journal_xdr.specs.Basic.{opaque, optional}
use Rattle.journal_nfs3_wire.specs.declared.results.NfsError.{NfsError}
use Rattle.journal_nfs3_wire.specs.Whole.{whole}
use Rattle.journal_nfs3_wire.specs.Results.{Fattr, fattr, post_op_attributes, Change, change, ReadResults, read_results, WriteResults, write_results, CommitResults, commit_results, outcome, status, nothing}
use Rattle.journal_nfs3_wire.specs.QueryResults.{Entry, entry, AccessResults, access_results, PageResults, page_results, StatusResults, status_results, InformationResults, information_results, ConfigurationResults, configuration_results}
use Rattle.journal_treewire.specs.Directories.{path}
use Rattle.journal_treewire.specs.Handles.{DiskHandle, disk_handle}

-- nfs_fh3, of a handle's 16 bytes
unfoldable pub given_handle : Item DiskHandle
given_handle = coded (opaque 64) (whole disk_handle) disk_handle.spelling

-- LOOKUP3resok
pub record FoundResults : Type 0 where
  pub object : DiskHandle
  pub attributes : Option Fattr
  pub directory : Option Fattr

unfoldable pub found_results : Item FoundResults
found_results = mapped_item (pair given_handle (pair post_op_attributes post_op_attributes)) (λ p. record { object = p.0; attributes = p.1.0; directory = p.1.1 }) (λ r. (r.object, (r.attributes, r.directory)))

-- READLINK3resok
pub record LinkResults : Type 0 where
  pub attributes : Option Fattr
  pub text : List ℕ

unfoldable pub link_results : Item LinkResults
link_results = mapped_item (pair post_op_attributes path) (λ p. record { attributes = p.0; text = p.1 }) (λ r. (r.attributes, r.text))

-- CREATE3resok, MKDIR3resok, SYMLINK3resok and MKNOD3resok
pub record MadeResults : Type 0 where
  pub object : Option DiskHandle
  pub attributes : Option Fattr
  pub directory : Change

unfoldable pub made_results : Item MadeResults
made_results = mapped_item (pair (optional given_handle) (pair post_op_attributes change)) (λ p. record { object = p.0; attributes = p.1.0; directory = p.1.1 }) (λ r. (r.object, (r.attributes, r.directory)))

-- entryplus3
pub record EntryPlus : Type 0 where
  pub entry : Entry
  pub attributes : Option Fattr
  pub object : Option DiskHandle

unfoldable pub entry_plus : Item EntryPlus
entry_plus = mapped_item (pair entry (pair post_op_attributes (optional given_handle)))
    (λ p. record { entry = p.0; attributes = p.1.0; object = p.1.1 })
    (λ e. (e.entry, (e.attributes, e.object)))

-- RENAME3resok and RENAME3resfail: the directory from which a node goes, and the one to which it
-- goes
pub record TwoChanges : Type 0 where
  pub source : Change
  pub goal : Change

unfoldable pub two_changes : Item TwoChanges
two_changes = mapped_item (pair change change) (λ p. record { source = p.0; goal = p.1 }) (λ c. (c.source, c.goal))

-- LINK3resfail: the file and the directory
abbrev pub file_and_change : Item (Option Fattr × Change)
file_and_change = pair post_op_attributes change

-- Results, by their form. The four procedures that make a node have one form, and so have SETATTR,
-- REMOVE and RMDIR. LINK is always refused
pub data Results : Type 0 where
  Null : Results
  Attributes : Result Fattr (NfsError × Unit {0}) → Results
  Changed : Result Change (NfsError × Change) → Results
  Found : Result FoundResults (NfsError × Option Fattr) → Results
  Access : Result AccessResults (NfsError × Option Fattr) → Results
  LinkText : Result LinkResults (NfsError × Option Fattr) → Results
  Read : Result ReadResults (NfsError × Option Fattr) → Results
  Write : Result WriteResults (NfsError × Change) → Results
  Made : Result MadeResults (NfsError × Change) → Results
  Renamed : Result TwoChanges (NfsError × TwoChanges) → Results
  NotLinked : NfsError → Option Fattr × Change → Results
  Directory : Result (PageResults Entry) (NfsError × Option Fattr) → Results
  DirectoryPlus : Result (PageResults EntryPlus) (NfsError × Option Fattr) → Results
  FileSystemStatus : Result StatusResults (NfsError × Option Fattr) → Results
  FileSystemInformation : Result InformationResults (NfsError × Option Fattr) → Results
  PathConfiguration : Result ConfigurationResults (NfsError × Option Fattr) → Results
  Commit : Result CommitResults (NfsError × Change) → Results

-- a status that refuses, and what follows it
abbrev pub refusal : {A : Type 0} → Item A → Item (Option NfsError × A)
refusal a = pair status a

-- how results are spelled
abbrev pub results_text : Results → List ℕ
results_text Null = []
results_text (Attributes r) = (outcome fattr nothing).spelling r
results_text (Changed r) = (outcome change change).spelling r
results_text (Found r) = (outcome found_results post_op_attributes).spelling r
results_text (Access r) = (outcome access_results post_op_attributes).spelling r
results_text (LinkText r) = (outcome link_results post_op_attributes).spelling r
results_text (Read r) = (outcome read_results post_op_attributes).spelling r
results_text (Write r) = (outcome write_results change).spelling r
results_text (Made r) = (outcome made_results change).spelling r
results_text (Renamed r) = (outcome two_changes two_changes).spelling r
results_text (NotLinked why a) = (refusal file_and_change).spelling (Some why, a)
results_text (Directory r) = (outcome (page_results entry) post_op_attributes).spelling r
results_text (DirectoryPlus r) = (outcome (page_results entry_plus) post_op_attributes).spelling r
results_text (FileSystemStatus r) = (outcome status_results post_op_attributes).spelling r
results_text (FileSystemInformation r) = (outcome information_results post_op_attributes).spelling r
results_text (PathConfiguration r) = (outcome configuration_results post_op_attributes).spelling r
results_text (Commit r) = (outcome commit_results change).spelling r

-- Each of their values is one of the grammar's
abbrev pub AreInGrammar : Results → Type 0
AreInGrammar Null = Unit {0}
AreInGrammar (Attributes r) = (outcome fattr nothing).Has r
AreInGrammar (Changed r) = (outcome change change).Has r
AreInGrammar (Found r) = (outcome found_results post_op_attributes).Has r
AreInGrammar (Access r) = (outcome access_results post_op_attributes).Has r
AreInGrammar (LinkText r) = (outcome link_results post_op_attributes).Has r
AreInGrammar (Read r) = (outcome read_results post_op_attributes).Has r
AreInGrammar (Write r) = (outcome write_results change).Has r
AreInGrammar (Made r) = (outcome made_results change).Has r
AreInGrammar (Renamed r) = (outcome two_changes two_changes).Has r
AreInGrammar (NotLinked why a) = (refusal file_and_change).Has (Some why, a)
AreInGrammar (Directory r) = (outcome (page_results entry) post_op_attributes).Has r
AreInGrammar (DirectoryPlus r) = (outcome (page_results entry_plus) post_op_attributes).Has r
AreInGrammar (FileSystemStatus r) = (outcome status_results post_op_attributes).Has r
AreInGrammar (FileSystemInformation r) = (outcome information_results post_op_attributes).Has r
AreInGrammar (PathConfiguration r) = (outcome configuration_results post_op_attributes).Has r
AreInGrammar (Commit r) = (outcome commit_results change).Has r
