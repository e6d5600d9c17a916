-- The meaning of the code's values.
use Rattle.std.specs.Prelude.{◌≡◌, ℕ, ◌-◌, ◌≤◌, List, ◌++◌, length, map, Option, Some, None, Result, Ok, Err}
use Rattle.journal_inode.specs.declared.version.FormatVersion.{FormatVersion}
use Rattle.journal_rpc.specs.declared.replies.CallRefused.{CallRefused}
use Rattle.journal_nfs3_wire.specs.declared.procedure.Procedure.{Procedure}
use Rattle.journal_nfs3_wire.specs.declared.results.NfsError.{NfsError}
use Rattle.journal_xdr.specs.Basic.{boolean, fixed}
use Rattle.journal_xdr.specs.Lists.{list_text}
use Rattle.journal_nfs3_wire.specs.Results.{status, post_op_attributes, results_text, procedure_of_results}
use Rattle.journal_nfs3_wire.specs.QueryResults.{Entry, AccessResults, PageResults, StatusResults}
use Rattle.journal_nfs3_wire.specs.Profile.{fattr_of, results_of}
use Rattle.journal_nfs3.specs.Answers.{IsCallOf}
use Rattle.journal_nfs3_wire.specs.Arguments.{Operation}
use Rattle.journal_nfs3.specs.declared.pending.ReplyWait.{ReplyWait}
use Rattle.journal_file_types.specs.declared.pending_wait.PendingWait.{PendingWait}
use Rattle.journal_file_types.specs.declared.pending_wait.PendingWait.TheVariants.{Nothing, Wait}
use Rattle.journal_mount3.specs.declared.page.Entry as code_entry
use Rattle.journal_mount3.specs.declared.entry.PlainEntry as code_plain
use Rattle.journal_mount3.specs.declared.entry.PlusEntry as code_plus
use Rattle.journal_mount3.specs.declared.page.Listing.{Listing}
use Rattle.journal_mount3.specs.declared.results.SpaceUse.{SpaceUse}
use Rattle.journal_mount3.specs.declared.results.Granted.{Granted}
use Rattle.journal_mount3.specs.declared.results.QueryResults as code_query
use Rattle.journal_mount3.specs.declared.results.QueryResults.TheVariants as code_queries
use Rattle.journal_mount3.specs.declared.results.Told as code_told
use Rattle.journal_mount3.specs.declared.results.Told.TheVariants as code_tellings
use Rattle.journal_mount3.specs.Entries.{EntryPlus, entry_of, entry_plus_of}
use Rattle.journal_mount3.specs.Listings.{Listed, Seen, page_of, cookie_verifier}
use Rattle.journal_mount3.specs.Served.{information_of, configuration_of}
use Rattle.journal_mount3.specs.Results.{query_text}
use Rattle.journal_mount3.specs.Results as results

abbrev pub listed_of : code_entry.Entry → Listed
listed_of e = record { cookie = e.cookie; generation = e.generation; attributes = e.attributes }

abbrev pub seen_of : {E : Type 0} → (E → code_entry.Entry) → Listing E → Seen
seen_of entry_in l = record { page = map (λ e. listed_of (entry_in e)) l.entries.items; is_end = l.is_end }

abbrev pub outcome_seen : {A B : Type 0} → (A → B) → Result A NfsError → Result B NfsError
outcome_seen f (Ok x) = Ok (f x)
outcome_seen f (Err why) = Err why

-- there is room for so many entries, or not even for a page without any
abbrev pub HasRoom : Option ℕ → List Listed → Type 0
HasRoom None es = ⊥
HasRoom (Some room) es = length es ≤ room

-- ---- results

abbrev pub access_seen : FormatVersion → Granted → AccessResults
access_seen version g = record { attributes = Some (fattr_of version g.attributes); granted = g.rights }

abbrev pub status_seen : FormatVersion → SpaceUse → StatusResults
status_seen version s = record {
  attributes = Some (fattr_of version s.attributes);
  total_bytes = s.bytes;
  free_bytes = s.bytes - s.used;
  available_bytes = s.bytes - s.used;
  total_files = 510;
  free_files = 510 - s.files;
  available_files = 510 - s.files;
  stays_for = 0;
}

-- results, or an error, behind which no attributes are told
abbrev pub told_of : {A B : Type 0} → (A → B) → Result A NfsError → results.Told B
told_of f (Ok x) = Ok (f x)
told_of f (Err why) = Err (why, None)

-- the entries of a listing as they are told
abbrev pub plain_entry_of : code_plain.PlainEntry → Entry
plain_entry_of e = entry_of e.0

abbrev pub plus_entry_of : code_plus.PlusEntry → EntryPlus
plus_entry_of e = entry_plus_of e.version e.entry

abbrev pub page_seen : {E X : Type 0} → (E → X) → Listing E → PageResults X
page_seen shown l = page_of shown l.entries.items l.is_end

abbrev pub query_results_of : FormatVersion → code_query.QueryResults → results.QueryResults
query_results_of version (code_queries.Access r) = results.Access (told_of (access_seen version) r)
query_results_of version (code_queries.ReadDirectory r) = results.ReadDirectory (told_of (page_seen plain_entry_of) r)
query_results_of version (code_queries.ReadDirectoryPlus r) = results.ReadDirectoryPlus (told_of (page_seen plus_entry_of) r)
query_results_of version (code_queries.FileSystemStatus r) = results.FileSystemStatus (told_of (status_seen version) r)
query_results_of version (code_queries.FileSystemInformation r) = results.FileSystemInformation (told_of (information_of version) r)
query_results_of version (code_queries.PathConfiguration r) = results.PathConfiguration (told_of (configuration_of version) r)

-- How what a call is told is spelled. A reply of MOUNT is seen as its text
abbrev pub told_text : code_told.Told → List ℕ
told_text (code_tellings.Nine r) = results_text (results_of r.version r.results)
told_text (code_tellings.Query version r) = query_text (query_results_of version r)
told_text (code_tellings.Mount text) = text

abbrev pub texts_of : Result code_told.Told CallRefused → Result (List ℕ) CallRefused
texts_of (Ok r) = Ok (told_text r)
texts_of (Err why) = Err why

-- how a listing is spelled whose entries are spelled so
abbrev pub listing_text : {E : Type 0} → (E → List ℕ) → Result (Listing E) NfsError → List ℕ
listing_text spelling (Err why) = status.spelling (Some why) ++ post_op_attributes.spelling None
listing_text spelling (Ok l) =
    status.spelling None ++ post_op_attributes.spelling None ++ (fixed 8).spelling cookie_verifier ++ list_text spelling l.entries.items ++ boolean.spelling l.is_end

-- the procedure of a reply, if it is one of the nine
abbrev pub procedure_of : Result code_told.Told CallRefused → Option Procedure
procedure_of (Ok (code_tellings.Nine r)) = Some (procedure_of_results (results_of r.version r.results))
procedure_of told = None

-- the wait of a reply, with its procedure
abbrev pub wait_of : {P : Type 0} → Option Procedure → PendingWait P → Option (ReplyWait P)
wait_of (Some procedure) (Wait receipt) = Some (record { procedure = procedure; receipt = receipt })
wait_of procedure wait = None

abbrev pub reply_wait_of : {P : Type 0} → Result code_told.Told CallRefused → PendingWait P → Option (ReplyWait P)
reply_wait_of told wait = wait_of (procedure_of told) wait

-- the wait is of one of the nine procedures, which was asked; any other reply has none
abbrev pub IsWaitFor : {P : Type 0} → Result code_told.Told CallRefused → PendingWait P → Result Operation CallRefused → Type 0
IsWaitFor (Ok (code_tellings.Nine r)) wait asked = IsCallOf (procedure_of_results (results_of r.version r.results)) asked
IsWaitFor told wait asked = wait ≡ Nothing
