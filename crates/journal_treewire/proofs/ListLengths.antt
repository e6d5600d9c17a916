-- Listings have no more bytes than they are asked to have.
use Rattle.std.proofs.Common.{◌≡◌, ℕ, zero, suc, ◌+◌, ◌-◌, ◌==◌, ◌≤◌, Bool, true, false, ◌&&◌, List, [], ◌∷◌, ◌++◌, length, take, Ok, Err, refl, ap, arith, length-append}
use Rattle.std.specs.Prelude.{nat_le, nat_lt, min, map, flat_map, replicate, if◌then◌else◌}
use Rattle.std.proofs.lemmas.Bool.{leb-true}
use Rattle.journal_xdr.specs.Basic.{word, hyper, boolean, fixed, opaque, string, optional, padding}
use Rattle.journal_xdr.specs.BasicLaws.{length-word, length-hyper, length-boolean, length-zeros}
use Rattle.journal_xdr.specs.Lists.{link_text}
use Rattle.journal_xdr.specs.Items.{Item as WireItem}
use Rattle.journal_tree.specs.declared.status.Status.TheVariants.{NoAccess, NotDirectory, Stale, TooSmall}
use Rattle.journal_tree.specs.declared.caller.Caller.{Caller}
use Rattle.journal_tree.specs.Calls.{Outcome, Target, refused, told, target, in_directory, allowed}
use Rattle.journal_tree.specs.Calls.Target.{gone, at}
use Rattle.journal_tree.specs.Listing.{Item, Page, Listed, ListedPlus, FRAME_BYTES, fitting, line_bytes, plus_bytes, padded, line_of, with_page, items_above, readdir_case, readdirplus_case}
use Rattle.journal_tree.specs.Op.Op.{answers_readdir, answers_readdirplus}
use Rattle.journal_tree.specs.Rights.{may_read}
use Rattle.journal_tree.specs.Trees.{Node, Tree, is_directory}
use Rattle.journal_nfs3_wire.specs.Arguments.{name}
use Rattle.journal_nfs3_wire.specs.QueryResults.{entry, PageResults, page_results}
use Rattle.journal_nfs3_wire.specs.Results.{post_op_attributes}
use Rattle.journal_nfs3_wire.proofs.ResultFacts.{after_short, length-verifier}
use Rattle.journal_treewire.specs.ListLengths.{ListingsFit, PlusListingsFit, PlusNamesFit}
use Rattle.journal_treewire.specs.Profile.{entry_of, entry_plus_of, entries_plus, list_of, list_plus_of}
use Rattle.journal_treewire.specs.Results.{given_handle, entry_plus}
use Rattle.journal_treewire.proofs.Short.{handle_short}

-- ---- a line

padding_long : (n : ℕ) → n + padding n ≡ padded n
padding_long n = omega arith

name_long : (v : List ℕ) → length (name.spelling v) ≡ 4 + padded (length v)
unfolding string opaque fixed
name_long v =
    let pad = padding (length v) in
    omega (arith, padding_long (length v), length-append (word.spelling (length v)) (v ++ replicate pad 0), length-append v (replicate pad 0), length-word (length v), length-zeros pad)

abbrev plain_text : Item → List ℕ
plain_text i = link_text entry.spelling (entry_of i)

line_few : (i : Item) → length (plain_text i) ≤ line_bytes i
unfolding entry
line_few i =
    let number = hyper.spelling i.number in
    let called = name.spelling i.name in
    let cookie = hyper.spelling i.cookie in
    let link = boolean.spelling true in
    omega (arith, length-append link (number ++ (called ++ cookie)), length-append number (called ++ cookie), length-append called cookie, length-boolean true, length-hyper i.number, length-hyper i.cookie, name_long i.name)

abbrev plus_text : ℕ → Tree → Item → List ℕ
plus_text disk T i = link_text entry_plus.spelling (entry_plus_of disk i (line_of T i))

plus_few : (disk : ℕ) (T : Tree) (i : Item) → length (plus_text disk T i) ≤ plus_bytes i
unfolding entry_plus
plus_few disk T i =
    let e = entry_plus_of disk i (line_of T i) in
    let plain = entry.spelling e.entry in
    let a = post_op_attributes.spelling e.attributes in
    let h = (optional given_handle).spelling e.object in
    let link = boolean.spelling true in
    omega (arith, length-append link (plain ++ (a ++ h)), length-append plain (a ++ h), length-append a h, length-append link plain, line_few i, after_short e.attributes, handle_short e.object)

-- ---- the lines that have room

module _ (cost : Item → ℕ) (text : Item → List ℕ) (each : (i : Item) → length (text i) ≤ cost i) where
  fits : (k room : ℕ) (is : List Item) → k ≤ fitting cost room is → length (flat_map text (take k is)) ≤ room
  fits zero room is h = omega arith
  fits (suc k) room [] h = omega arith
  fits (suc k) room (i ∷ is) h = one (nat_le (cost i) room) refl h (λ few. fits k (room - cost i) is few)
    where
      one : (b : Bool) → nat_le (cost i) room ≡ b → suc k ≤ (if b then suc (fitting cost (room - cost i) is) else 0) → (k ≤ fitting cost (room - cost i) is → length (flat_map text (take k is)) ≤ room - cost i) → length (text i ++ flat_map text (take k is)) ≤ room
      one false e h rest = absurd (omega (arith, h))
      one true e h rest =
          let low : cost i ≤ room = leb-true _ _ e in
          let few : k ≤ fitting cost (room - cost i) is = omega (arith, h) in
          omega (arith, low, length-append (text i) (flat_map text (take k is)), each i, rest few)

-- so many of the lines, in order, have at most so many bytes
pub record HasFront (cost : Item → ℕ) (room : ℕ) (told : List Item) : Type 0 where
  pub all : List Item
  pub count : ℕ
  pub few : count ≤ fitting cost room all
  pub is : told ≡ take count all

pub front_few : (cost : Item → ℕ) (text : Item → List ℕ) → ((i : Item) → length (text i) ≤ cost i) → (room : ℕ) (told : List Item) → HasFront cost room told → length (flat_map text told) ≤ room
front_few cost text each room told f = rw f.is (fits cost text each f.count room f.all f.few)

-- ---- the answers of the definitions

-- an answer of a call for a directory is that for one
gives : {A : Type 0} (T T2 : Tree) (t : Target) (f : ℕ → Node → Outcome A) (r : A) → (Ok r, T2) ≡ in_directory T t f → (d : ℕ) × (x : Node) × ((Ok r, T2) ≡ f d x)
gives {A} T T2 gone f r e = let e0 : Ok r ≡ Err Stale = ap (λ (o : Outcome A). o.0) e in absurd (cc e0)
gives {A} T T2 (at d x) f r e = here (is_directory x.body) e
  where
    here : (b : Bool) → (Ok r, T2) ≡ (if b then f d x else refused NotDirectory T) → (d : ℕ) × (x : Node) × ((Ok r, T2) ≡ f d x)
    here true e = (d, x, e)
    here false e = let e0 : Ok r ≡ Err NotDirectory = ap (λ (o : Outcome A). o.0) e in absurd (cc e0)

pub permitted : {A : Type 0} (T T2 : Tree) (b : Bool) (o : Outcome A) (r : A) → (Ok r, T2) ≡ allowed T b o → (Ok r, T2) ≡ o
permitted T T2 true o r e = e
permitted {A} T T2 false o r e = let e0 : Ok r ≡ Err NoAccess = ap (λ (o : Outcome A). o.0) e in absurd (cc e0)

-- an answer with a page has it from the lines of the directory
paged : {A : Type 0} (T T2 : Tree) (all : List Item) (count : ℕ) (answer : Page → A) (r : A) → (Ok r, T2) ≡ with_page T all count answer → r ≡ answer (record { items = take count all; is_end = nat_le (length all) count })
paged {A} T T2 all count answer r e = by (nat_lt 0 (length all) && count == 0) e
  where
    made : A
    made = answer (record { items = take count all; is_end = nat_le (length all) count })

    by : (b : Bool) → (Ok r, T2) ≡ (if b then refused TooSmall T else (Ok made, T)) → r ≡ made
    by true e = let e0 : Ok r ≡ Err TooSmall = ap (λ (o : Outcome A). o.0) e in absurd (cc e0)
    by false e = let e0 : Ok r ≡ Ok made = ap (λ (o : Outcome A). o.0) e in cc

pub list_front : (T T2 : Tree) (t : Target) (c : Caller) (cookie most : ℕ) (l : Listed) → (Ok l, T2) ≡ readdir_case c cookie most T t → HasFront line_bytes (most - FRAME_BYTES) l.page.items
list_front T T2 t c cookie most l e =
    let g = gives T T2 t _ l e in
    let all = items_above T g.0 g.1 cookie in
    let count = fitting line_bytes (most - FRAME_BYTES) all in
    let p = permitted T T2 (may_read c g.1.attributes) _ l g.2 in
    let same : l ≡ record { directory = told g.0 g.1; page = record { items = take count all; is_end = nat_le (length all) count } } = paged T T2 all count (λ (page : Page). record { directory = told g.0 g.1; page = page }) l p in
    record { all = all; count = count; few = omega arith; is = ap (λ (l : Listed). l.page.items) same }

-- what READDIRPLUS answers has lines that are READDIR's, with what the tree tells beside each
pub record HasPlus (T : Tree) (names most : ℕ) (l : ListedPlus) : Type 0 where
  pub by_names : HasFront line_bytes names l.page.items
  pub by_all : HasFront plus_bytes (most - FRAME_BYTES) l.page.items
  pub beside : l.lines ≡ map (line_of T) l.page.items

pub plus_front : (T T2 : Tree) (t : Target) (c : Caller) (cookie names most : ℕ) (l : ListedPlus) → (Ok l, T2) ≡ readdirplus_case c cookie names most T t → HasPlus T names most l
plus_front T T2 t c cookie names most l e =
    let g = gives T T2 t _ l e in
    let all = items_above T g.0 g.1 cookie in
    let count = min (fitting line_bytes names all) (fitting plus_bytes (most - FRAME_BYTES) all) in
    let p = permitted T T2 (may_read c g.1.attributes) _ l g.2 in
    let same : l ≡ record { directory = told g.0 g.1; page = record { items = take count all; is_end = nat_le (length all) count }; lines = map (line_of T) (take count all) } =
    paged T T2 all count (λ (page : Page). record { directory = told g.0 g.1; page = page; lines = map (line_of T) page.items }) l p in
    record {
      by_names = record { all = all; count = count; few = omega arith; is = ap (λ (l : ListedPlus). l.page.items) same };
      by_all = record { all = all; count = count; few = omega arith; is = ap (λ (l : ListedPlus). l.page.items) same };
      beside = rw same refl;
    }

-- ---- their results

page_long : {E : Type 0} (element : WireItem E) (r : PageResults E) (most : ℕ) → length r.verifier ≡ 8 → length (flat_map (link_text element.spelling) r.entries) ≤ most → length ((page_results element).spelling r) ≤ FRAME_BYTES + most
unfolding page_results
page_long element r most long h =
    let a = post_op_attributes.spelling r.attributes in
    let v = (fixed 8).spelling r.verifier in
    let lines = flat_map (link_text element.spelling) r.entries in
    let none = boolean.spelling false in
    let t = boolean.spelling r.is_end in
    omega (arith, h, length-append a (v ++ ((lines ++ none) ++ t)), length-append v ((lines ++ none) ++ t), length-append (lines ++ none) t, length-append lines none, after_short r.attributes, length-verifier r.verifier long, length-boolean false, length-boolean r.is_end)

links : (is : List Item) → flat_map (link_text entry.spelling) (map entry_of is) ≡ flat_map plain_text is
links [] = refl
links (i ∷ is) = ap (λ (t : List ℕ). plain_text i ++ t) (links is)

links_plus : (disk : ℕ) (T : Tree) (is : List Item) → flat_map (link_text entry_plus.spelling) (entries_plus disk is (map (line_of T) is)) ≡ flat_map (plus_text disk T) is
links_plus disk T [] = refl
links_plus disk T (i ∷ is) = ap (λ (t : List ℕ). plus_text disk T i ++ t) (links_plus disk T is)

pub listings-fit : ListingsFit
listings-fit disk h cookie most c now T T2 l room (answers_readdir _ _ _ _ _ _ _ _ e) =
    let f = list_front T T2 (target T h) c cookie most l e in
    let few : length (flat_map (link_text entry.spelling) (map entry_of l.page.items)) ≤ most - FRAME_BYTES = rw links (front_few line_bytes plain_text line_few (most - FRAME_BYTES) l.page.items f) in
    omega (arith, room, page_long entry (list_of disk l) (most - FRAME_BYTES) refl few)

pub plus-listings-fit : PlusListingsFit
plus-listings-fit disk h cookie names most c now T T2 l room (answers_readdirplus _ _ _ _ _ _ _ _ _ e) =
    let f = plus_front T T2 (target T h) c cookie names most l e in
    let few : length (flat_map (link_text entry_plus.spelling) (entries_plus disk l.page.items l.lines)) ≤ most - FRAME_BYTES =
    rw (f.beside, links_plus disk T l.page.items) (front_few plus_bytes (plus_text disk T) (plus_few disk T) (most - FRAME_BYTES) l.page.items f.by_all) in
    omega (arith, room, page_long entry_plus (list_plus_of disk l) (most - FRAME_BYTES) refl few)

pub plus-names-fit : PlusNamesFit
plus-names-fit h cookie names most c now T T2 l (answers_readdirplus _ _ _ _ _ _ _ _ _ e) =
    let f = plus_front T T2 (target T h) c cookie names most l e in
    rw links (front_few line_bytes plain_text line_few names l.page.items f.by_names)
