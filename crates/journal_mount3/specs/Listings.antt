-- Listings: what is told of the names of the root, a page at a time.
use Rattle.std.specs.Prelude.{◌≡◌, ◌≢◌, ℕ, suc, ◌+◌, ◌-◌, ◌≤◌, max, nat_le, MatchBool, Bool, true, false, IsTrue, ◌↔◌, List, [], ◌∷◌, ◌++◌, length, map, drop, ◌⊎◌, Option, Some, None, Result, Ok, Err}
use Rattle.std.specs.List.{flat_map}
use mathlib.Core.List.{IsPrefix}
use Rattle.journal_history.specs.Tokens.{SessionState}
use Rattle.journal_xdr.specs.Items.{Item}
use Rattle.journal_inode.specs.declared.node.Time.{Time}
use Rattle.journal_inode.specs.declared.version.FormatVersion.{FormatVersion}
use Rattle.journal_file_types.specs.declared.pending_wait.PendingWait.TheVariants.{Nothing}
use Rattle.journal_file_types.specs.declared.reply.Attributes.{Attributes}
use Rattle.journal_file_types.specs.declared.reply.Found.{Found}
use Rattle.journal_file_types.specs.declared.status.Status.{Status}
use Rattle.journal_filestore.specs.Files.{Files}
use Rattle.journal_filestore.specs.Operations.{Op, Call as call, Reply as reply}
use Rattle.journal_nfs3_wire.specs.declared.results.NfsError.{NfsError}
use Rattle.journal_nfs3_wire.specs.declared.results.NfsError.TheVariants.{NoEntry, TooSmall}
use Rattle.journal_nfs3_wire.specs.Handles.{FileHandle}
use Rattle.journal_nfs3_wire.specs.QueryResults.{Entry, entry, PageResults, page_results}
use Rattle.journal_nfs3_wire.specs.Profile.{fattr_of}
use Rattle.journal_nfs3.specs.Served.{awaiting, TellsOutcome}
use Rattle.journal_mount3.specs.Entries.{EntryPlus, entry_name, file_name}
use Rattle.journal_mount3.specs.Mounts.{root_handle}

-- ---- looking names up

-- a LOOKUP of the file of a number in a directory, between two states of the files
abbrev pub IsLookup : FormatVersion → ℕ → FileHandle → Files → Result Found Status → Files → Type 0
IsLookup version number k F r F2 = (t : Time) → Op version (call.lookup k.number k.generation (file_name number)) t F (reply.found r) F2

-- what a LOOKUP of the file of a number in the root tells, at a place of its own behind all that
-- the session had seen
abbrev pub LooksUp : FormatVersion → ℕ → SessionState → SessionState → Result Found NfsError → Type 0
LooksUp version number old new told = TellsOutcome version (awaiting Nothing) (Some root_handle) false (IsLookup version number) old new told

-- the same of the files from a number on, one after another: what each LOOKUP told. So the places
-- rise
abbrev pub LooksAllUp : FormatVersion → ℕ → List (Result Found NfsError) → SessionState → SessionState → Type 0
LooksAllUp version first [] old new = new ≡ old
LooksAllUp version first (told ∷ rest) old new = (mid : SessionState) × LooksUp version first old mid told × LooksAllUp version (suc first) rest mid new

-- a LOOKUP answered that a file is there, or that none is
abbrev pub IsKnown : Result Found NfsError → Type 0
IsKnown (Ok f) = Unit {0}
IsKnown (Err why) = why ≡ NoEntry

abbrev pub AreKnown : List (Result Found NfsError) → Type 0
AreKnown [] = Unit {0}
AreKnown (told ∷ rest) = IsKnown told × AreKnown rest

-- ---- entries

-- The entry of a name on a page: its cookie, and the attributes and the generation of what it names
pub record Listed : Type 0 where
  pub cookie : ℕ
  pub generation : ℕ
  pub attributes : Attributes

-- . and .., which are both the root
abbrev pub dots : Attributes → List Listed
dots root = record { cookie = 1; generation = 1; attributes = root } ∷ record { cookie = 2; generation = 1; attributes = root } ∷ []

abbrev pub with_found : ℕ → Result Found NfsError → List Listed → List Listed
with_found i (Ok f) rest = record { cookie = i + 1; generation = f.generation; attributes = f.file } ∷ rest
with_found i (Err why) rest = rest

-- the files that were found, of those from a number on
abbrev pub found_among : ℕ → List (Result Found NfsError) → List Listed
found_among first [] = []
found_among first (told ∷ rest) = with_found first told (found_among (suc first) rest)

-- the first number of a file whose cookie is above this one
abbrev pub first_number : ℕ → ℕ
first_number cookie = max 2 cookie

-- ---- a page

-- The front is the longest that fits
pub record IsLongestFront {E : Type 0} (Fits : List E → Type 0) (front all : List E) : Type 0 where
  pub is : IsPrefix front all
  pub fits : Fits front
  pub most : (longer : List E) → IsPrefix longer all → Fits longer → length longer ≤ length front

-- What was learned for a page behind a cookie: files were looked up one after another, from the
-- first whose cookie is above it, and these are the entries that are known then
pub record Learns (version : FormatVersion) (cookie : ℕ) (root : Attributes) (old new : SessionState) (all : List Listed) (is_last : Bool) : Type 0 where
  pub told : List (Result Found NfsError)
  pub looked : LooksAllUp version (first_number cookie) told old new
  pub known : AreKnown told
  pub entries : all ≡ drop cookie (dots root) ++ found_among (first_number cookie) told
  -- the last file, of number 511, was looked up, or its cookie is not above the one given
  pub last : IsTrue is_last ↔ (512 ≤ first_number cookie + length told)

-- The page is the longest front that fits of the entries above the cookie, and is the end where
-- there are no others
pub record IsPage (version : FormatVersion) (cookie : ℕ) (Fits : List Listed → Type 0) (root : Attributes) (old new : SessionState) (page : List Listed) (is_end : Bool) : Type 0 where
  pub all : List Listed
  pub is_last : Bool
  pub learned : Learns version cookie root old new all is_last
  pub longest : IsLongestFront Fits page all
  pub more : is_end ≡ false → page ≢ all
  pub no_more : is_end ≡ true → (page ≡ all) × IsTrue is_last

-- A LOOKUP was refused for another reason than that there is no file, and the files before it were
-- looked up
pub record IsCutShort (version : FormatVersion) (first : ℕ) (old new : SessionState) (why : NfsError) : Type 0 where
  pub told : List (Result Found NfsError)
  pub mid : SessionState
  pub looked : LooksAllUp version first told old mid
  pub refused : LooksUp version (first + length told) mid new (Err why)
  pub other : why ≢ NoEntry

-- ---- what is seen of a directory

-- A page, and whether nothing is behind it
pub record Seen : Type 0 where
  pub page : List Listed
  pub is_end : Bool

-- The first case that holds: not even a page without entries fits, and nothing is looked up; a
-- LOOKUP was refused; there is an entry, and not even the first one fits; or a page
abbrev pub SeesPage : FormatVersion → ℕ → (List Listed → Type 0) → Attributes → SessionState → SessionState → Result Seen NfsError → Type 0
SeesPage version cookie Fits root old new (Ok seen) =
    IsPage version cookie Fits root old new seen.page seen.is_end × (seen.is_end ≡ false → seen.page ≢ [])
SeesPage version cookie Fits root old new (Err why) =
    ((why ≡ TooSmall) × (Fits [] → ⊥) × (new ≡ old))
    ⊎ ((why ≡ TooSmall) × IsPage version cookie Fits root old new [] false)
    ⊎ IsCutShort version (first_number cookie) old new why

-- ---- what fits

abbrev pub plain_of : Listed → Entry
plain_of e = record { fileid = e.attributes.number; called = entry_name e.cookie; cookie = e.cookie }

abbrev pub plus_of : FormatVersion → Listed → EntryPlus
plus_of version e = record {
  entry = plain_of e;
  attributes = Some (fattr_of version e.attributes);
  object = Some (record { number = e.attributes.number; generation = e.generation });
}

-- a verifier of cookies, which do not end
abbrev pub cookie_verifier : List ℕ
cookie_verifier = 0 ∷ 0 ∷ 0 ∷ 0 ∷ 0 ∷ 0 ∷ 0 ∷ 0 ∷ []

-- The results of a page. They tell nothing of the root: a client that saw other times of it with
-- each page would begin its listing anew
abbrev pub page_of : {A E : Type 0} → (A → E) → List A → Bool → PageResults E
page_of shown entries is_end = record { attributes = None; verifier = cookie_verifier; entries = map shown entries; is_end = is_end }

-- the results behind their status have at most so many bytes
abbrev pub FitsCount : {E : Type 0} → Item E → (Listed → E) → ℕ → List Listed → Type 0
FitsCount element shown count entries = length ((page_results element).spelling (page_of shown entries false)) ≤ count

-- the numbers, names and cookies have at most so many bytes
abbrev pub FitsNames : ℕ → List Listed → Type 0
FitsNames count entries = length (flat_map (λ e. entry.spelling (plain_of e)) entries) ≤ count

-- ---- one entry, and a page of them

-- the file of a number, if it is there: as a LOOKUP says
abbrev pub LooksFor : FormatVersion → ℕ → SessionState → SessionState → Result (Option Found) NfsError → Type 0
LooksFor version number old new (Ok None) = LooksUp version number old new (Err NoEntry)
LooksFor version number old new (Ok (Some f)) = LooksUp version number old new (Ok f)
LooksFor version number old new (Err why) = LooksUp version number old new (Err why) × (why ≢ NoEntry)

-- the entry of a cookie, if it is there: . and .. are, and a file is where a LOOKUP of it says so
abbrev pub FindsFile : {E : Type 0} → FormatVersion → ℕ → SessionState → SessionState → (E → Listed) → Result (Option E) NfsError → Type 0
FindsFile version cookie old new view (Ok None) = LooksUp version (cookie - 1) old new (Err NoEntry)
FindsFile version cookie old new view (Ok (Some e)) =
    (f : Found) × LooksUp version (cookie - 1) old new (Ok f) × (view e ≡ record { cookie = cookie; generation = f.generation; attributes = f.file })
FindsFile version cookie old new view (Err why) = LooksUp version (cookie - 1) old new (Err why) × (why ≢ NoEntry)

abbrev pub Finds : {E : Type 0} → FormatVersion → ℕ → Attributes → SessionState → SessionState → (E → Listed) → Result (Option E) NfsError → Type 0
Finds {E} version cookie root old new view result =
    MatchBool (nat_le cookie 2) ((new ≡ old) × (e : E) × (result ≡ Ok (Some e)) × (view e ≡ record { cookie = cookie; generation = 1; attributes = root }))
    (FindsFile version cookie old new view result)

-- the page behind a cookie, and whether it is the end; or why a LOOKUP was refused
abbrev pub Fills : {E : Type 0} → FormatVersion → ℕ → Attributes → (List Listed → Type 0) → SessionState → SessionState → (E → Listed) → List E → Result Bool NfsError → Type 0
Fills version cookie root Fits old new view entries (Ok is_end) = IsPage version cookie Fits root old new (map view entries) is_end
Fills version cookie root Fits old new view entries (Err why) = IsCutShort version (first_number cookie) old new why
