-- The answers of queries (RFC 1813, sections 3.3.4 and 3.3.16 to 3.3.20).
use Rattle.std.specs.Prelude.{ℕ, List, Option, Result}
use Rattle.journal_xdr.specs.Items.{Item}
use Rattle.journal_nfs3_wire.specs.declared.results.NfsError.{NfsError}
use Rattle.journal_nfs3_wire.specs.Results.{Fattr, post_op_attributes, outcome}
use Rattle.journal_nfs3_wire.specs.QueryResults.{Entry, entry, AccessResults, access_results, PageResults, page_results, StatusResults, status_results, InformationResults, information_results, ConfigurationResults, configuration_results}
use Rattle.journal_mount3.specs.Entries.{EntryPlus, entry_plus}

-- The answer of a procedure that only tells of the files. Behind a status that refuses stand no
-- attributes
abbrev pub Told : Type 0 → Type 0
Told A = Result A (NfsError × Option Fattr)

pub data QueryResults : Type 0 where
  Access : Told AccessResults → QueryResults
  ReadDirectory : Told (PageResults Entry) → QueryResults
  ReadDirectoryPlus : Told (PageResults EntryPlus) → QueryResults
  FileSystemStatus : Told StatusResults → QueryResults
  FileSystemInformation : Told InformationResults → QueryResults
  PathConfiguration : Told ConfigurationResults → QueryResults

abbrev pub told : {A : Type 0} → Item A → Item (Told A)
told a = outcome a post_op_attributes

-- how results are spelled
abbrev pub query_text : QueryResults → List ℕ
query_text (Access r) = (told access_results).spelling r
query_text (ReadDirectory r) = (told (page_results entry)).spelling r
query_text (ReadDirectoryPlus r) = (told (page_results entry_plus)).spelling r
query_text (FileSystemStatus r) = (told status_results).spelling r
query_text (FileSystemInformation r) = (told information_results).spelling r
query_text (PathConfiguration r) = (told configuration_results).spelling r
