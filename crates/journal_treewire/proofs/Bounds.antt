-- How many bytes and lines the answers of a tree have.
use Rattle.std.proofs.Common.{◌≡◌, ℕ, ◌+◌, ◌-◌, ◌*◌, ◌≤◌, Bool, true, false, List, [], ◌∷◌, ◌++◌, length, take, drop, Option, Some, None, Ok, Err, refl, ap, arith, length-append}
use Rattle.std.specs.Prelude.{min, max, flat_map, replicate}
use Rattle.std.proofs.lemmas.List.{length-take}
use Rattle.journal_xdr.specs.BasicLaws.{length-zeros}
use Rattle.journal_tree.specs.declared.caller.Caller.{Caller}
use Rattle.journal_tree.specs.declared.limits.TheConstants.{MOST_LINK, TRANSFER_BYTES}
use Rattle.journal_tree.specs.declared.status.Status.TheVariants.{Invalid, Stale}
use Rattle.journal_tree.specs.Calls.{Outcome, Target, target, told, node_or_gone}
use Rattle.journal_tree.specs.Calls.Target.{gone, at}
use Rattle.journal_tree.specs.Contents.{Portion, portion, read_body, read_case}
use Rattle.journal_tree.specs.Fit.{IsFitBody, HasFit}
use Rattle.journal_tree.specs.Names.{LinkText, text_of, readlink_case}
use Rattle.journal_tree.specs.Listing.{Item, FRAME_BYTES, line_bytes, plus_bytes}
use Rattle.journal_tree.specs.Op.Op.{answers_readlink, answers_read, answers_readdir, answers_readdirplus}
use Rattle.journal_tree.specs.Rights.{may_fetch}
use Rattle.journal_tree.specs.Trees.{Body, Node, Tree}
use Rattle.journal_tree.specs.Trees.Body.{directory, file, link}
use Rattle.journal_treewire.specs.Bounds.{PartsAreShort, TextsAreShort, ListingsAreFew, PlusListingsAreFew}
use Rattle.journal_treewire.proofs.ListLengths.{HasFront, front_few, permitted, list_front, plus_front}

-- ---- bytes of a file

portion_short : (offset count n : ℕ) (x : Node) (bytes : List ℕ) → length (portion offset count n x bytes).bytes ≤ min count TRANSFER_BYTES
portion_short offset count n x bytes = omega (arith, length-take (min (offset + min count TRANSFER_BYTES) (max offset (length bytes)) - offset) (drop offset bytes))

module _ (c : Caller) (offset count : ℕ) (T T2 : Tree) (p : Portion) where
  body_short : (n : ℕ) (x : Node) (b : Body) → (Ok p, T2) ≡ read_body c offset count T n x b → length p.bytes ≤ min count TRANSFER_BYTES
  body_short n x (directory places) e = let e0 : Ok p ≡ Err Invalid = ap (λ (o : Outcome Portion). o.0) e in absurd (cc e0)
  body_short n x (link text) e = let e0 : Ok p ≡ Err Invalid = ap (λ (o : Outcome Portion). o.0) e in absurd (cc e0)
  body_short n x (file bytes) e =
      let told = portion offset count n x bytes in
      let e0 : Ok p ≡ Ok told = ap (λ (o : Outcome Portion). o.0) (permitted T T2 (may_fetch c x.attributes) (Ok told, T) p e) in
      let same : p ≡ told = cc in
      rw same (portion_short offset count n x bytes)

  read_short : (t : Target) → (Ok p, T2) ≡ read_case c offset count T t → length p.bytes ≤ min count TRANSFER_BYTES
  read_short gone e = let e0 : Ok p ≡ Err Stale = ap (λ (o : Outcome Portion). o.0) e in absurd (cc e0)
  read_short (at n x) e = body_short n x x.body e

pub parts-are-short : PartsAreShort
parts-are-short h offset count c now T T2 p (answers_read _ _ _ _ _ _ _ _ e) = read_short c offset count T T2 p (target T h) e

-- ---- the text of a link

module _ (T T2 : Tree) (l : LinkText) where
  text_short : (n : ℕ) (x : Node) (b : Body) → IsFitBody b → (Ok l, T2) ≡ text_of T n x b → length l.text ≤ MOST_LINK
  text_short n x (directory places) fit e = let e0 : Ok l ≡ Err Invalid = ap (λ (o : Outcome LinkText). o.0) e in absurd (cc e0)
  text_short n x (file bytes) fit e = let e0 : Ok l ≡ Err Invalid = ap (λ (o : Outcome LinkText). o.0) e in absurd (cc e0)
  text_short n x (link text) fit e =
      let e0 : Ok l ≡ Ok (record { node = told n x; text = text }) = ap (λ (o : Outcome LinkText). o.0) e in
      let same : l ≡ record { node = told n x; text = text } = cc in
      rw same fit

  link_short : HasFit T → (n : ℕ) (is_current : Bool) (o : Option Node) → (T.at n).node ≡ o → (Ok l, T2) ≡ readlink_case T (node_or_gone n is_current o) → length l.text ≤ MOST_LINK
  link_short fit n is_current None is e = let e0 : Ok l ≡ Err Stale = ap (λ (o : Outcome LinkText). o.0) e in absurd (cc e0)
  link_short fit n false (Some x) is e = let e0 : Ok l ≡ Err Stale = ap (λ (o : Outcome LinkText). o.0) e in absurd (cc e0)
  link_short fit n true (Some x) is e = let f = fit.nodes n x is in text_short n x x.body f.body e

pub texts-are-short : TextsAreShort
texts-are-short h c now T T2 l fit (answers_readlink _ _ _ _ _ _ e) = link_short T T2 l fit h.number _ (T.at h.number).node refl e

-- ---- lines

abbrev blank : Item → List ℕ
blank i = replicate 24 0

blank_long : (i : Item) → length (blank i) ≡ 24
blank_long i = length-zeros 24

blanks_long : (is : List Item) → length (flat_map blank is) ≡ 24 * length is
blanks_long [] = refl
blanks_long (i ∷ is) = omega (arith, length-append (blank i) (flat_map blank is), blank_long i, blanks_long is)

front_short : (cost : Item → ℕ) → ((i : Item) → 24 ≤ cost i) → (most : ℕ) (told : List Item) → HasFront cost (most - FRAME_BYTES) told → 24 * length told ≤ most
front_short cost each most told f = omega (arith, blanks_long told, front_few cost blank (λ i. omega (arith, blank_long i, each i)) (most - FRAME_BYTES) told f)

line_long : (i : Item) → 24 ≤ line_bytes i
line_long i = omega arith

plus_long : (i : Item) → 24 ≤ plus_bytes i
plus_long i = omega arith

pub listings-are-few : ListingsAreFew
listings-are-few h cookie most c now T T2 l (answers_readdir _ _ _ _ _ _ _ _ e) = front_short line_bytes line_long most l.page.items (list_front T T2 (target T h) c cookie most l e)

pub plus-listings-are-few : PlusListingsAreFew
plus-listings-are-few h cookie names most c now T T2 l (answers_readdirplus _ _ _ _ _ _ _ _ _ e) =
    let f = plus_front T T2 (target T h) c cookie names most l e in
    front_short plus_bytes plus_long most l.page.items f.by_all
