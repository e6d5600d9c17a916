-- Listings as they are written, and as they are seen.
use Rattle.std.proofs.Common.{◌≡◌, ℕ, Bool, List, [], ◌∷◌, ◌++◌, map, None, Result, Ok, Err, refl, ap, ◌∙◌}
use Rattle.std.specs.Prelude.{IfOk}
use Rattle.std.specs.List.{flat_map, All}
use Rattle.std.proofs.lemmas.List.Elements.{All-head, All-tail}
use Rattle.journal_xdr.specs.Items.{Item}
use Rattle.journal_xdr.specs.Basic.{word, boolean, fixed}
use Rattle.journal_xdr.specs.Lists.{link_text}
use Rattle.journal_inode.specs.declared.version.FormatVersion.{FormatVersion}
use Rattle.journal_nfs3_wire.specs.declared.results.NfsError.{NfsError}
use Rattle.journal_mount3.specs.declared.entry.PlainEntry as code_plain
use Rattle.journal_mount3.specs.declared.entry.PlusEntry as code_plus
use Rattle.journal_mount3.specs.declared.page.Listing.{Listing}
use Rattle.journal_nfs3_wire.specs.QueryResults.{page_results}
use Rattle.journal_mount3.specs.Results.{told}
use Rattle.journal_mount3.specs.Entries.{entry_plus_of}
use Rattle.journal_mount3.specs.Listings.{Listed, plain_of, plus_of, page_of, cookie_verifier}
use Rattle.journal_mount3.specs.Served.{page_told}
use Rattle.journal_mount3.specs.CodeViews.{listed_of, seen_of, outcome_seen, told_of, page_seen, plain_entry_of, plus_entry_of, listing_text}

links_are : {E X : Type 0} (spelling : X → List ℕ) (shown : E → X) (es : List E) → flat_map (link_text (λ e. spelling (shown e))) es ≡ flat_map (link_text spelling) (map shown es)
links_are spelling shown [] = refl
links_are spelling shown (e ∷ es) = ap (λ (t : List ℕ). link_text spelling (shown e) ++ t) (links_are spelling shown es)

-- a listing is spelled as its page
pub listing_is : {E X : Type 0} (element : Item X) (shown : E → X) (r : Result (Listing E) NfsError) → listing_text (λ e. element.spelling (shown e)) r ≡ (told (page_results element)).spelling (told_of (page_seen shown) r)
unfolding page_results word boolean fixed
listing_is element shown (Err why) = refl
listing_is element shown (Ok l) = rw (links_are element.spelling shown l.entries.items) refl

-- ---- pages as they are seen

maps_alike : {E X : Type 0} (view : E → Listed) (shown : Listed → X) (f : E → X) (Fits : E → Type 0) → ((e : E) → Fits e → f e ≡ shown (view e)) → (es : List E) → All Fits es → map f es ≡ map shown (map view es)
maps_alike view shown f Fits each [] h = refl
maps_alike view shown f Fits each (e ∷ es) h =
    let first : f e ≡ shown (view e) = each e (All-head Fits e es h) in
    let rest : map f es ≡ map shown (map view es) = maps_alike view shown f Fits each es (All-tail Fits e es h) in
    ap (λ (x : _). x ∷ map f es) first ∙ ap (λ (xs : List _). shown (view e) ∷ xs) rest

page_alike : {E X : Type 0} (view : E → Listed) (shown : Listed → X) (f : E → X) (Fits : E → Type 0) → ((e : E) → Fits e → f e ≡ shown (view e)) → (es : List E) (is_end : Bool) → All Fits es → page_of f es is_end ≡ page_of shown (map view es) is_end
page_alike {E} {X} view shown f Fits each es is_end h =
    ap (λ (xs : List X). record { attributes = None; verifier = cookie_verifier; entries = xs; is_end = is_end }) (maps_alike view shown f Fits each es h)

-- what READDIR tells is what was seen
pub plain_told : (r : Result (Listing code_plain.PlainEntry) NfsError) → told_of (page_seen plain_entry_of) r ≡ page_told plain_of (outcome_seen (seen_of (λ (e : code_plain.PlainEntry). e.0)) r)
plain_told (Err why) = refl
plain_told (Ok l) = ap Ok (page_alike (λ (e : code_plain.PlainEntry). listed_of e.0) plain_of plain_entry_of (λ e. Unit {0}) (λ e h. refl) l.entries.items l.is_end (λ k d lt. tt))

-- and what READDIRPLUS tells, of files of one version
pub plus_told : (version : FormatVersion) (r : Result (Listing code_plus.PlusEntry) NfsError) → IfOk r (λ (l : Listing code_plus.PlusEntry). All (λ (e : code_plus.PlusEntry). e.version ≡ version) l.entries.items)
    → told_of (page_seen plus_entry_of) r ≡ page_told (plus_of version) (outcome_seen (seen_of (λ (e : code_plus.PlusEntry). e.entry)) r)
plus_told version (Err why) h = refl
plus_told version (Ok l) h =
    ap Ok (page_alike (λ (e : code_plus.PlusEntry). listed_of e.entry) (plus_of version) plus_entry_of (λ e. e.version ≡ version) (λ e is. ap (λ (v : FormatVersion). entry_plus_of v e.entry) is) l.entries.items l.is_end h)
