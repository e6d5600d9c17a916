-- The session has seen all that it had seen.
use Rattle.std.proofs.Common.{ℕ, suc, Bool, true, false, List, [], ◌∷◌, Some, Result, Ok, Err, inl, inr}
use Rattle.std.specs.Prelude.{◌==◌, MatchBool}
use mathlib.Core.List.{IsPrefix}
use Rattle.journal_history.specs.Tokens.{SessionState}
use Rattle.journal_inode.specs.declared.node.Time.{Time}
use Rattle.journal_inode.specs.declared.version.FormatVersion.{FormatVersion}
use Rattle.journal_file_types.specs.declared.pending_wait.PendingWait.TheVariants.{Nothing}
use Rattle.journal_file_types.specs.declared.reply.Attributes.{Attributes}
use Rattle.journal_file_types.specs.declared.reply.Found.{Found}
use Rattle.journal_nfs3_wire.specs.declared.results.NfsError.{NfsError}
use Rattle.journal_nfs3_wire.specs.Handles.{handle_in}
use Rattle.journal_nfs3.specs.Served.{awaiting}
use Rattle.journal_nfs3_wire.specs.Queries.{Query, Access, ReadDirectory, ReadDirectoryPlus, FileSystemStatus, FileSystemInformation, PathConfiguration}
use Rattle.journal_nfs3_wire.specs.QueryResults.{StatusResults}
use Rattle.journal_mount3.specs.Listings.{IsLookup, Listed, LooksUp, LooksAllUp, IsPage, IsCutShort, Seen, SeesPage}
use Rattle.journal_mount3.specs.Served.{IsGetAttributes, TellsThen, Lists, StatusOf, MeasuresOr, Queries}
use Rattle.journal_mount3.specs.Mounts.{root_handle}
use Rattle.journal_mount3.specs.Roots.{attributes_at}
use Rattle.journal_mount3.specs.Results as results
use Rattle.journal_protocol.specs.Grows.{grows-same, grows-trans}
use Rattle.journal_server.specs.NineLaws.{tells_grows}

abbrev Grows : SessionState → SessionState → Type 0
Grows old new = IsPrefix old.seen new.seen

look_grows : (version : FormatVersion) (number : ℕ) (old new : SessionState) (told : Result Found NfsError) → LooksUp version number old new told → Grows old new
look_grows version number old new told h = tells_grows version (awaiting Nothing) (Some root_handle) false (IsLookup version number) old new told h

looks_grow : (version : FormatVersion) (first : ℕ) (told : List (Result Found NfsError)) (old new : SessionState) → LooksAllUp version first told old new → Grows old new
looks_grow version first [] old new h = grows-same old new h
looks_grow version first (t ∷ ts) old new h = grows-trans old h.0 new (look_grows version first old h.0 t h.1) (looks_grow version (suc first) ts h.0 new h.2)

cut_grows : (version : FormatVersion) (first : ℕ) (old new : SessionState) (why : NfsError) → IsCutShort version first old new why → Grows old new
cut_grows version first old new why h =
    grows-trans old h.mid new (looks_grow version first h.told old h.mid h.looked) (look_grows version _ h.mid new (Err why) h.refused)

page_grows : (version : FormatVersion) (cookie : ℕ) (Fits : List Listed → Type 0) (root : Attributes) (old new : SessionState) (page : List Listed) (is_end : Bool) → IsPage version cookie Fits root old new page is_end → Grows old new
page_grows version cookie Fits root old new page is_end h = looks_grow version _ h.learned.told old new h.learned.looked

sees_grows : (version : FormatVersion) (cookie : ℕ) (Fits : List Listed → Type 0) (root : Attributes) (old new : SessionState) (outcome : Result Seen NfsError) → SeesPage version cookie Fits root old new outcome → Grows old new
sees_grows version cookie Fits root old new (Ok seen) h = page_grows version cookie Fits root old new seen.page seen.is_end h.0
sees_grows version cookie Fits root old new (Err why) (inl h) = grows-same old new h.2
sees_grows version cookie Fits root old new (Err why) (inr (inl h)) = page_grows version cookie Fits root old new [] false h.1
sees_grows version cookie Fits root old new (Err why) (inr (inr h)) = cut_grows version _ old new why h

either_grows : (b : Bool) (old new : SessionState) (P Q : Type 0) → MatchBool b P Q → (P → Grows old new) → (Q → Grows old new) → Grows old new
either_grows true old new P Q h p q = p h
either_grows false old new P Q h p q = q h

lists_grows : (version : FormatVersion) (now : Time) (cookie : ℕ) (Fits : List Listed → Type 0) (told : Result Attributes NfsError) (old new : SessionState) (outcome : Result Seen NfsError) → Lists version now cookie Fits told old new outcome → Grows old new
lists_grows version now cookie Fits (Err why) old new outcome h = grows-same old new h.0
lists_grows version now cookie Fits (Ok a) old new outcome h =
    either_grows (a.number == 1) old new _ _ h (λ s. sees_grows version cookie Fits (attributes_at now a) old new outcome s) (λ s. grows-same old new s.0)

measures_grow : (version : FormatVersion) (blocks : ℕ) (a : Attributes) (old new : SessionState) (told : results.Told StatusResults) → MeasuresOr version blocks a old new told → Grows old new
measures_grow version blocks a old new (Ok told) h = looks_grow version 2 h.found old new h.looked
measures_grow version blocks a old new (Err why) h = cut_grows version 2 old new why.0 h.0

status_grows : (version : FormatVersion) (blocks : ℕ) (now : Time) (told : Result Attributes NfsError) (old new : SessionState) (status : results.Told StatusResults) → StatusOf version blocks now told old new status → Grows old new
status_grows version blocks now (Err why) old new status h = grows-same old new h.0
status_grows version blocks now (Ok a) old new status h = measures_grow version blocks _ old new status h

-- what is told of the handle first, and then the rest
then_grows : (version : FormatVersion) (handle : List ℕ) (old new : SessionState) (Rest : Result Attributes NfsError → SessionState → Type 0)
    → TellsThen version handle old Rest → ((told : Result Attributes NfsError) (mid : SessionState) → Rest told mid → Grows mid new) → Grows old new
then_grows version handle old new Rest h rest = grows-trans old h.1 new (tells_grows version (awaiting Nothing) (handle_in handle) false (IsGetAttributes version) old h.1 h.0 h.2) (rest h.0 h.1 h.3)

pub query_grows : (version : FormatVersion) (blocks : ℕ) (now : Time) (query : Query) (old new : SessionState) (r : results.QueryResults) → Queries version blocks now query old r new → Grows old new
query_grows version blocks now (Access k asked) old new r h = then_grows version k old new _ h (λ told mid s. grows-same mid new s.0)
query_grows version blocks now (ReadDirectory p) old new r h = then_grows version p.directory old new _ h (λ told mid s. lists_grows version now p.cookie _ told mid new s.0 s.1)
query_grows version blocks now (ReadDirectoryPlus p) old new r h = then_grows version p.directory old new _ h (λ told mid s. lists_grows version now p.cookie _ told mid new s.0 s.1)
query_grows version blocks now (FileSystemStatus k) old new r h = then_grows version k old new _ h (λ told mid s. status_grows version blocks now told mid new s.0 s.1)
query_grows version blocks now (FileSystemInformation k) old new r h = then_grows version k old new _ h (λ told mid s. grows-same mid new s.0)
query_grows version blocks now (PathConfiguration k) old new r h = then_grows version k old new _ h (λ told mid s. grows-same mid new s.0)
