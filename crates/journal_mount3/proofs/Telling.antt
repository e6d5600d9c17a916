-- What the procedures beside the nine tell.
use Rattle.std.proofs.Common.{◌≡◌, ℕ, ◌-◌, ◌*◌, ◌/◌, ◌<◌, ◌≤◌, min, List, Option, None, Result, Ok, Err, refl, ap, ◌∙◌}
use Rattle.std.specs.Prelude.{IfOk, IfErr, IfSome, IfNone, bit_and}
use Rattle.std.specs.List.{All}
use Rattle.journal_world.specs.declared.layout.TheConstants.{BLOCK_BYTES, FIRST_DATA}
use Rattle.journal_history.specs.Tokens.{SessionState}
use Rattle.journal_inode.specs.declared.node.Time.{Time}
use Rattle.journal_inode.specs.declared.version.FormatVersion.{FormatVersion}
use Rattle.journal_file_types.specs.declared.reply.Attributes.{Attributes}
use Rattle.journal_nfs3_wire.specs.declared.results.NfsError.{NfsError}
use Rattle.journal_mount3.specs.declared.entry.PlainEntry as code_plain
use Rattle.journal_mount3.specs.declared.entry.PlusEntry as code_plus
use Rattle.journal_mount3.specs.declared.page.Listing.{Listing}
use Rattle.journal_mount3.specs.declared.results.SpaceUse.{SpaceUse}
use Rattle.journal_mount3.specs.declared.results.Granted.{Granted}
use Rattle.journal_nfs3_wire.specs.Queries.{Page, PagePlus, Access, ReadDirectory, ReadDirectoryPlus, FileSystemStatus, FileSystemInformation, PathConfiguration}
use Rattle.journal_nfs3_wire.specs.QueryResults.{entry, AccessResults, StatusResults}
use Rattle.journal_mount3.specs.Entries.{entry_plus}
use Rattle.journal_mount3.specs.Roots.{attributes_at}
use Rattle.journal_mount3.specs.Results as results
use Rattle.journal_mount3.specs.Listings.{Listed, plain_of, plus_of, FitsCount, FitsNames, IsCutShort}
use Rattle.journal_mount3.specs.Served.{TellsThen, TellsNow, at_moment, shown, Lists, StatusOf, FindsAll, information_of, configuration_of, access_of, rights_of, Queries}
use Rattle.journal_mount3.specs.CodeViews.{HasRoom, seen_of, outcome_seen, told_of, access_seen, status_seen, page_seen, plain_entry_of, plus_entry_of}
use Rattle.journal_mount3.proofs.Alike.{lists_so}
use Rattle.journal_mount3.proofs.Lengths.{plain_fits, plus_fits}
use Rattle.journal_mount3.proofs.Spelling.{plain_told, plus_told}
use Rattle.journal_mount3.proofs.Counting.{measured}

err_is : {A : Type 0} (a b : NfsError) (r s : Result A NfsError) → r ≡ Err a → s ≡ Err b → r ≡ s → a ≡ b
err_is a b r s p q e = cc

ok_is : {A : Type 0} (a b : A) (r s : Result A NfsError) → r ≡ Ok a → s ≡ Ok b → r ≡ s → a ≡ b
ok_is a b r s p q e = cc

-- ---- results that are made of the attributes of what the handle names

-- an error is told as it is
pub shown_err : {A : Type 0} (f : Attributes → A) (now : Time) (told : Result Attributes NfsError) (why : NfsError) → Err why ≡ at_moment now told → Err (why, None) ≡ shown f now told
shown_err f now (Ok a) why e = absurd cc
shown_err f now (Err other) why e = ap (λ (w : NfsError). Err (w, None)) (err_is why other (Err why) (Err other) refl refl e)

pub shown_ok : {A : Type 0} (f : Attributes → A) (now : Time) (told : Result Attributes NfsError) (a : Attributes) → Ok a ≡ at_moment now told → Ok (f a) ≡ shown f now told
shown_ok f now (Ok b) a e = ap (λ (x : Attributes). Ok (f x)) (ok_is a (attributes_at now b) (Ok a) (Ok (attributes_at now b)) refl refl e)
shown_ok f now (Err why) a e = absurd cc

pub tells_shown : {A : Type 0} (f : Attributes → A) (version : FormatVersion) (now : Time) (handle : List ℕ) (old new : SessionState) (r : Result Attributes NfsError) → TellsNow version now handle old new r
    → TellsThen version handle old (λ told mid. (new ≡ mid) × (told_of f r ≡ shown f now told))
tells_shown f version now handle old new (Ok a) h = (h.0, new, h.1, (refl, shown_ok f now h.0 a h.2))
tells_shown f version now handle old new (Err why) h = (h.0, new, h.1, (refl, shown_err f now h.0 why h.2))

-- ---- ACCESS

module _ (version : FormatVersion) (asked : ℕ) (now : Time) (handle : List ℕ) (old new : SessionState) where
  abbrev Grants : results.Told AccessResults → Type 0
  Grants r = TellsThen version handle old (λ told mid. (new ≡ mid) × (r ≡ shown (access_of version asked) now told))

  pub grants_none : (why : NfsError) → TellsNow version now handle old new (Err why) → Grants (Err (why, None))
  grants_none why h = (h.0, new, h.1, (refl, shown_err (access_of version asked) now h.0 why h.2))

  pub grants_some : (a : Attributes) (rights : ℕ) → TellsNow version now handle old new (Ok a) → rights ≡ bit_and asked (rights_of a) → Grants (Ok (access_seen version (record { attributes = a; rights = rights })))
  grants_some a rights h is = (h.0, new, h.1, (refl, ap (λ (n : ℕ). Ok (access_seen version (record { attributes = a; rights = n }))) is ∙ shown_ok (access_of version asked) now h.0 a h.2))

-- ---- FSSTAT

module _ (version : FormatVersion) (blocks : ℕ) (now : Time) (handle : List ℕ) (old mid new : SessionState) where
  abbrev Status : results.Told StatusResults → Type 0
  Status r = TellsThen version handle old (λ told mid. StatusOf version blocks now told mid new r)

  pub status_none : (why : NfsError) → TellsNow version now handle old new (Err why) → Status (Err (why, None))
  status_none why h = (h.0, new, h.1, of h.0 h.2)
    where
      of : (told : Result Attributes NfsError) → Err why ≡ at_moment now told → StatusOf version blocks now told new new (Err (why, None))
      of (Ok a) e = absurd cc
      of (Err other) e = (refl, ap (λ (w : NfsError). Err (w, None)) (err_is why other (Err why) (Err other) refl refl e))

  -- what was told of the handle is counted with, or a LOOKUP was refused
  pub status_then : (a : Attributes) (r : Result SpaceUse NfsError) → TellsNow version now handle old mid (Ok a)
      → IfOk r (λ (s : SpaceUse). FindsAll version mid new s.files s.used) → IfOk r (λ (s : SpaceUse). (s.attributes ≡ a) × (s.bytes ≡ BLOCK_BYTES * (blocks - FIRST_DATA)))
      → IfErr r (IsCutShort version 2 mid new) → Status (told_of (status_seen version) r)
  status_then a r h counts same cut = (h.0, mid, h.1, of h.0 r h.2 counts same cut)
    where
      of : (told : Result Attributes NfsError) (r : Result SpaceUse NfsError) → Ok a ≡ at_moment now told → IfOk r (λ (s : SpaceUse). FindsAll version mid new s.files s.used)
          → IfOk r (λ (s : SpaceUse). (s.attributes ≡ a) × (s.bytes ≡ BLOCK_BYTES * (blocks - FIRST_DATA))) → IfErr r (IsCutShort version 2 mid new)
          → StatusOf version blocks now told mid new (told_of (status_seen version) r)
      of (Err why) r e counts same cut = absurd cc
      of (Ok b) (Ok s) e counts same cut = measured version blocks mid new (attributes_at now b) s counts (same.0 ∙ ok_is a (attributes_at now b) (Ok a) (Ok (attributes_at now b)) refl refl e) same.1
      of (Ok b) (Err why) e counts same cut = (cut, refl)

-- ---- READDIR and READDIRPLUS

pub lists_plain : (version : FormatVersion) (blocks : ℕ) (now : Time) (p : Page) (old new : SessionState) (room : Option ℕ) (r : Result (Listing code_plain.PlainEntry) NfsError)
    → IfSome room (λ room. (20 ≤ p.count) × (room ≡ (p.count - 20) / 28)) → IfNone room (p.count < 20)
    → TellsThen version p.directory old (λ told mid. Lists version now p.cookie (HasRoom room) told mid new (outcome_seen (seen_of (λ (e : code_plain.PlainEntry). e.0)) r))
    → Queries version blocks now (ReadDirectory p) old (results.ReadDirectory (told_of (page_seen plain_entry_of) r)) new
lists_plain version blocks now p old new room r some none h = (
  h.0,
  h.1,
  h.2,
  (
    outcome_seen (seen_of (λ (e : code_plain.PlainEntry). e.0)) r,
    lists_so (HasRoom room) (FitsCount entry plain_of p.count) (plain_fits p.count room some none) version p.cookie now h.0 h.1 new _ h.3,
    ap results.ReadDirectory (plain_told r),
  ),
)

pub lists_plus : (version : FormatVersion) (blocks : ℕ) (now : Time) (p : PagePlus) (old new : SessionState) (room : Option ℕ) (r : Result (Listing code_plus.PlusEntry) NfsError)
    → IfSome room (λ room. (20 ≤ p.count) × (room ≡ min ((p.count - 20) / 136) (p.names_count / 24))) → IfNone room (p.count < 20)
    → IfOk r (λ (l : Listing code_plus.PlusEntry). All (λ (e : code_plus.PlusEntry). e.version ≡ version) l.entries.items)
    → TellsThen version p.directory old (λ told mid. Lists version now p.cookie (HasRoom room) told mid new (outcome_seen (seen_of (λ (e : code_plus.PlusEntry). e.entry)) r))
    → Queries version blocks now (ReadDirectoryPlus p) old (results.ReadDirectoryPlus (told_of (page_seen plus_entry_of) r)) new
lists_plus version blocks now p old new room r some none all h = (
  h.0,
  h.1,
  h.2,
  (
    outcome_seen (seen_of (λ (e : code_plus.PlusEntry). e.entry)) r,
    lists_so (HasRoom room) (λ (es : List Listed). FitsCount entry_plus (plus_of version) p.count es × FitsNames p.names_count es) (plus_fits version p.names_count p.count room some none) version p.cookie now h.0 h.1 new _ h.3,
    ap results.ReadDirectoryPlus (plus_told version r all),
  ),
)

-- ---- what each query tells

module _ (version : FormatVersion) (blocks : ℕ) (now : Time) (handle : List ℕ) (old new : SessionState) where
  pub access_query : (asked : ℕ) (r : Result Granted NfsError) → TellsThen version handle old (λ told mid. (new ≡ mid) × (told_of (access_seen version) r ≡ shown (access_of version asked) now told))
      → Queries version blocks now (Access handle asked) old (results.Access (told_of (access_seen version) r)) new
  access_query asked r h = (h.0, h.1, h.2, (h.3.0, ap results.Access h.3.1))

  pub status_query : (r : Result SpaceUse NfsError) → TellsThen version handle old (λ told mid. StatusOf version blocks now told mid new (told_of (status_seen version) r))
      → Queries version blocks now (FileSystemStatus handle) old (results.FileSystemStatus (told_of (status_seen version) r)) new
  status_query r h = (h.0, h.1, h.2, (told_of (status_seen version) r, h.3, refl))

  pub information_query : (r : Result Attributes NfsError) → TellsNow version now handle old new r
      → Queries version blocks now (FileSystemInformation handle) old (results.FileSystemInformation (told_of (information_of version) r)) new
  information_query r h =
      let t = tells_shown (information_of version) version now handle old new r h in
      (t.0, t.1, t.2, (t.3.0, ap results.FileSystemInformation t.3.1))

  pub configuration_query : (r : Result Attributes NfsError) → TellsNow version now handle old new r
      → Queries version blocks now (PathConfiguration handle) old (results.PathConfiguration (told_of (configuration_of version) r)) new
  configuration_query r h =
      let t = tells_shown (configuration_of version) version now handle old new r h in
      (t.0, t.1, t.2, (t.3.0, ap results.PathConfiguration t.3.1))
