-- How many bytes listings have, and what fits.
use Rattle.std.proofs.Common.{◌≡◌, ℕ, ◌+◌, ◌-◌, ◌*◌, ◌/◌, ◌<◌, ◌≤◌, min, Bool, true, false, cond, List, [], ◌∷◌, ◌++◌, length, map, Option, Some, None, refl, arith}
use Rattle.std.specs.Prelude.{◌==◌, IfSome, IfNone}
use Rattle.std.specs.List.{flat_map}
use Rattle.std.proofs.lemmas.List.{length-append}
use Rattle.std.proofs.Math.Nat.{mul-suc}
use Rattle.journal_xdr.specs.Items.{Item}
use Rattle.journal_xdr.specs.Basic.{word, hyper, boolean, fixed, opaque, string}
use Rattle.journal_xdr.specs.BasicLaws.{length-hyper, length-boolean}
use Rattle.journal_xdr.specs.Lists.{link_text, list_text}
use Rattle.journal_inode.specs.declared.version.FormatVersion.{FormatVersion}
use Rattle.journal_nfs3_wire.specs.Arguments.{name}
use Rattle.journal_nfs3_wire.specs.Handles.{FileHandle, file_handle}
use Rattle.journal_nfs3_wire.specs.Results.{Fattr, fattr, given_handle, post_op_attributes}
use Rattle.journal_nfs3_wire.specs.Profile.{fattr_of}
use Rattle.journal_nfs3_wire.specs.QueryResults.{entry, page_results}
use Rattle.journal_nfs3_wire.proofs.ResultFacts.{length-fattr}
use Rattle.journal_mount3.specs.Entries.{entry_plus, entry_name, file_name}
use Rattle.journal_mount3.specs.Listings.{Listed, plain_of, plus_of, page_of, cookie_verifier, FitsCount, FitsNames}
use Rattle.journal_mount3.specs.CodeViews.{HasRoom}

-- ---- entries

dotted : (a b : Bool) (n : ℕ) → length (name.spelling (cond a (46 ∷ []) (cond b (46 ∷ 46 ∷ []) (file_name n)))) ≡ 8
unfolding string opaque fixed word
dotted true b n = refl
dotted false true n = refl
dotted false false n = refl

length-entry_name : (cookie : ℕ) → length (name.spelling (entry_name cookie)) ≡ 8
length-entry_name cookie = dotted (cookie == 1) (cookie == 2) (cookie - 1)

length-handle : (h : FileHandle) → length (given_handle.spelling h) ≡ 16
unfolding given_handle opaque fixed file_handle word
length-handle h = refl

length-after : (f : Fattr) → length (post_op_attributes.spelling (Some f)) ≡ 88
length-after f = omega (arith, length-append (boolean.spelling true) (fattr.spelling f), length-boolean true, length-fattr f)

pub length-plain : (e : Listed) → length (entry.spelling (plain_of e)) ≡ 24
unfolding entry
length-plain e =
    let number = hyper.spelling e.attributes.number in
    let called = name.spelling (entry_name e.cookie) in
    let cookie = hyper.spelling e.cookie in
    omega (arith, length-append number (called ++ cookie), length-append called cookie, length-hyper e.attributes.number, length-entry_name e.cookie, length-hyper e.cookie)

pub length-plus : (version : FormatVersion) (e : Listed) → length (entry_plus.spelling (plus_of version e)) ≡ 132
unfolding entry_plus
length-plus version e =
    let h : FileHandle = record { number = e.attributes.number; generation = e.generation } in
    let first = entry.spelling (plain_of e) in
    let attributes = post_op_attributes.spelling (Some (fattr_of version e.attributes)) in
    let some = boolean.spelling true in
    let object = given_handle.spelling h in
    omega (
      arith,
      length-append first (attributes ++ (some ++ object)),
      length-append attributes (some ++ object),
      length-append some object,
      length-plain e,
      length-after (fattr_of version e.attributes),
      length-boolean true,
      length-handle h,
    )

-- ---- pages

length-links : {A E : Type 0} (spelling : E → List ℕ) (shown : A → E) (k : ℕ) → ((e : A) → length (spelling (shown e)) ≡ k) → (es : List A) → length (flat_map (link_text spelling) (map shown es)) ≡ (4 + k) * length es
length-links spelling shown k each [] = omega arith
length-links spelling shown k each (e ∷ es) =
    let link = boolean.spelling true ++ spelling (shown e) in
    let others = flat_map (link_text spelling) (map shown es) in
    omega (
      arith,
      length-append link others,
      length-append (boolean.spelling true) (spelling (shown e)),
      length-boolean true,
      each e,
      length-links spelling shown k each es,
      mul-suc (4 + k) (length es),
    )

pub length-list : {A E : Type 0} (spelling : E → List ℕ) (shown : A → E) (k : ℕ) → ((e : A) → length (spelling (shown e)) ≡ k) → (es : List A) → length (list_text spelling (map shown es)) ≡ (4 + k) * length es + 4
length-list spelling shown k each es =
    let links = flat_map (link_text spelling) (map shown es) in
    omega (arith, length-append links (boolean.spelling false), length-links spelling shown k each es, length-boolean false)

length-verifier : length ((fixed 8).spelling cookie_verifier) ≡ 8
unfolding fixed
length-verifier = refl

length-nothing : length (post_op_attributes.spelling None) ≡ 4
length-nothing = omega (arith, length-append (boolean.spelling false) [], length-boolean false)

pub length-page : {A E : Type 0} (element : Item E) (shown : A → E) (k : ℕ) → ((e : A) → length (element.spelling (shown e)) ≡ k) → (es : List A) (is_end : Bool)
    → length ((page_results element).spelling (page_of shown es is_end)) ≡ 20 + (4 + k) * length es
unfolding page_results
length-page element shown k each es is_end =
    let links = length-list element.spelling shown k each es in
    let a = length-append (post_op_attributes.spelling None) ((fixed 8).spelling cookie_verifier ++ (list_text element.spelling (map shown es) ++ boolean.spelling is_end)) in
    let b = length-append ((fixed 8).spelling cookie_verifier) (list_text element.spelling (map shown es) ++ boolean.spelling is_end) in
    let c = length-append (list_text element.spelling (map shown es)) (boolean.spelling is_end) in
    omega (arith, a, b, c, links, length-nothing, length-verifier, length-boolean is_end)

pub length-names : (es : List Listed) → length (flat_map (λ e. entry.spelling (plain_of e)) es) ≡ 24 * length es
length-names [] = refl
length-names (e ∷ es) =
    let rest = length-names es in
    let whole = length-append (entry.spelling (plain_of e)) (flat_map (λ e. entry.spelling (plain_of e)) es) in
    omega (arith, rest, whole, length-plain e)

-- ---- what fits

pub plain_fits : (count : ℕ) (room : Option ℕ) → IfSome room (λ room. (20 ≤ count) × (room ≡ (count - 20) / 28)) → IfNone room (count < 20) → (es : List Listed)
    → (HasRoom room es → FitsCount entry plain_of count es) × (FitsCount entry plain_of count es → HasRoom room es)
plain_fits count None some none es =
    ((λ h. absurd h), (λ h. let long = length-page entry plain_of 24 length-plain es false in absurd (omega (arith, h, long, none))))
plain_fits count (Some room) some none es =
    let long = length-page entry plain_of 24 length-plain es false in
    ((λ h. omega (arith, h, long, some.0, some.1)), (λ h. omega (arith, h, long, some.0, some.1)))

pub plus_fits : (version : FormatVersion) (names_count count : ℕ) (room : Option ℕ) → IfSome room (λ room. (20 ≤ count) × (room ≡ min ((count - 20) / 136) (names_count / 24))) → IfNone room (count < 20) → (es : List Listed)
    → (HasRoom room es → FitsCount entry_plus (plus_of version) count es × FitsNames names_count es)
    × (FitsCount entry_plus (plus_of version) count es × FitsNames names_count es → HasRoom room es)
plus_fits version names_count count None some none es =
    ((λ h. absurd h), (λ h. let long = length-page entry_plus (plus_of version) 132 (length-plus version) es false in absurd (omega (arith, h.0, long, none))))
plus_fits version names_count count (Some room) some none es =
    let long = length-page entry_plus (plus_of version) 132 (length-plus version) es false in
    let names = length-names es in
    ((λ h. (omega (arith, h, long, some.0, some.1), omega (arith, h, names, some.0, some.1))), (λ h. omega (arith, h.0, h.1, long, names, some.0, some.1)))
