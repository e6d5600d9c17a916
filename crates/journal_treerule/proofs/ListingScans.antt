-- Entries of a directory are listed by reads, one after another.
use Rattle.std.proofs.Common.{ℕ, ◌≡◌, ◌≢◌, ◌<◌, ◌≤◌, ◌+◌, ◌*◌, ◌-◌, ◌/◌, ◌%◌, Bool, true, false, List, [], ◌∷◌, ◌++◌, Option, Some, None, cond, length, get_or, refl, sym, ap, subst, ◌⊎◌, inl, inr, ◌∙◌, arith}
use Rattle.std.specs.Prelude.{◌↔◌, ◌||◌, ◌&&◌, IsTrue, MatchOption, All, bytes_eq, not}
use Rattle.std.proofs.lemmas.Bool.{cases_eq, false≢true}
use Rattle.std.proofs.lemmas.List.Elements.{All-push}
use Rattle.journal_world.specs.Maps.{Map}
use Rattle.journal_tree.specs.declared.limits.TheConstants.{MOST_PLACES}
use Rattle.journal_treestore.specs.declared.entry.Entry.{Entry}
use Rattle.journal_treestore.specs.declared.inode.Head.{Head}
use Rattle.journal_treestore.specs.declared.place.Cut.{Cut}
use Rattle.journal_treestore.specs.Entries.{tag_of, no_entry, entry_from}
use Rattle.journal_treestore.specs.Inodes.{name_from}
use Rattle.journal_treestore.specs.Places.{first_data, IsCut}
use Rattle.journal_tree.specs.Trees.{Home}
use Rattle.journal_treestore.specs.Bytes.{word_at}
use Rattle.journal_treestore.specs.Levels.{IsBlockFor}
use Rattle.journal_treestore.specs.Views.{Held, Seen, View, held_of, entry_in, entry_at, homes, home_in}
use Rattle.journal_treestore.specs.Views.Seen.{free, used}
use Rattle.journal_treestore.specs.Sound.{IsEntryOf}
use Rattle.journal_treestore.proofs.Shaping.{has_data}
use Rattle.journal_treeobjects.specs.Maps.{view_of}
use Rattle.journal_treerule.specs.declared.children.Child.{Child}
use Rattle.journal_treerule.specs.declared.children.Children.{Children}
use Rattle.journal_treerule.specs.declared.entries.EntryPlace.{EntryPlace}
use Rattle.journal_treerule.specs.declared.entries.NamedNode.{NamedNode}
use Rattle.journal_treerule.specs.Directories.{is_of_directory, is_directory, IsSecondPlace, IsEntryIn, IsOwnEntry, IsOtherEntry, own_entries, second_entries, AreEntriesSound, IsSoundDirectory, child_of, AreChildren, AreBelow, has_name, IsListed, ListsMore, IsDataBlock, HasEntriesAt, HasBlockAt, HasFirstBlocks, HasLevelsIn, HasLevelsAt, HasLevels, HangsThere, IsNamedBy}
use Rattle.journal_treerule.proofs.Scanning.{at-before}
use Rattle.journal_treerule.proofs.Listing.{listed-blank, listed-blanks, listed-needing, listed-at_home, listed-second, twice, twice-second}
use Rattle.journal_treerule.proofs.BlockParts.{number-is, no-number-there}
use Rattle.journal_treerule.proofs.EntryBlocks.{no-block, unsound-later}

-- ── one entry ──

-- where a node may have an entry
module _ (home place : ℕ) (P Q : Type 0) (a : Bool) (apart : home ≢ place) (test : IsTrue a ↔ P) where
  abbrev Stands : Type 0
  Stands = (home ≡ place) ⊎ (P × (Q → ⊥))

  pub stands-none : a ≡ false → IsTrue false ↔ ((home ≡ place) ⊎ (P × (Q → ⊥)))
  stands-none fails = ((λ wrong. absurd (false≢true wrong)), by)
    where
      by : Stands → IsTrue false
      by (inl is) = absurd (apart is)
      by (inr x) = absurd (false≢true (sym fails ∙ test.1 x.0))

  pub stands-second : (b : Bool) → (IsTrue b ↔ Q) → a ≡ true → IsTrue (not b) ↔ ((home ≡ place) ⊎ (P × (Q → ⊥)))
  stands-second true other passes = ((λ wrong. absurd (false≢true wrong)), by)
    where
      by : Stands → IsTrue false
      by (inl is) = absurd (apart is)
      by (inr x) = absurd (x.1 (other.0 refl))
  stands-second false other passes = ((λ _. inr (test.0 passes, λ q. false≢true (other.1 q))), (λ _. refl))

pub hangs-there : (at : EntryPlace) (e : Entry) (h : Held) (t : ℕ) (b : Bool) → t ≡ tag_of h.home.name → h.home.directory ≡ at.directory → e.tag ≡ t
    → (IsTrue b ↔ ((h.home.place ≡ at.place) ⊎ (IsBlockFor t (at.place / 512) × (IsBlockFor t (h.home.place / 512) → ⊥)))) → IsTrue b ↔ HangsThere at e h
hangs-there at e h t b is directory tag test = (
  (λ holds. record { directory = directory; at_place = forth (test.0 holds); tag = tag ∙ is }),
  (λ x. test.1 (back x.at_place)),
)
  where
    forth : (h.home.place ≡ at.place) ⊎ (IsBlockFor t (at.place / 512) × (IsBlockFor t (h.home.place / 512) → ⊥)) → (h.home.place ≡ at.place) ⊎ IsSecondPlace h.home at.place
    forth (inl same) = inl same
    forth (inr x) = inr (record { block = subst (λ t. IsBlockFor t (at.place / 512)) is x.0; needed = λ q. x.1 (subst (λ t. IsBlockFor t (h.home.place / 512)) (sym is) q) })

    back : (h.home.place ≡ at.place) ⊎ IsSecondPlace h.home at.place → (h.home.place ≡ at.place) ⊎ (IsBlockFor t (at.place / 512) × (IsBlockFor t (h.home.place / 512) → ⊥))
    back (inl same) = inl same
    back (inr x) = inr (subst (λ t. IsBlockFor t (at.place / 512)) (sym is) x.block, λ q. x.needed (subst (λ t. IsBlockFor t (h.home.place / 512)) is q))

-- what an entry names, by its inode
pub named-none : (V : View) (at : EntryPlace) (e : Entry) → V.inode e.number ≡ free 0 → IsEntryIn (homes V) at.directory at.place e → ⊥
named-none V at e is o = let none : None ≡ Some o.home = sym (ap home_in is) ∙ o.is in cc

pub named-free : (V : View) (at : EntryPlace) (e : Entry) (g : ℕ) → V.inode e.number ≡ free g → IsEntryIn (homes V) at.directory at.place e → ⊥
named-free V at e g is o = let none : None ≡ Some o.home = sym (ap home_in is) ∙ o.is in cc

pub named-elsewhere : (V : View) (at : EntryPlace) (e : Entry) (h : Held) (b : Bool) → V.inode e.number ≡ used h → (IsTrue b ↔ HangsThere at e h) → b ≡ false → IsEntryIn (homes V) at.directory at.place e → ⊥
named-elsewhere V at e h b is test fails o =
    let some : Some h.home ≡ Some o.home = sym (ap home_in is) ∙ o.is in
    let same : h.home ≡ o.home = cc in
    false≢true (sym fails ∙ test.1 (record {
      directory = ap (λ (x : Home). x.directory) same ∙ o.directory;
      at_place = subst (λ (x : Home). (x.place ≡ at.place) ⊎ IsSecondPlace x at.place) (sym same) o.at;
      tag = o.tag ∙ ap (λ (x : Home). tag_of x.name) (sym same);
    }))

pub named-here : (V : View) (at : EntryPlace) (e : Entry) (head : Head) (name v : List ℕ) (b dir : Bool) → V.inode e.number ≡ used (held_of head name) → e.number ≢ 0 → name ≡ name_from v
    → (IsTrue b ↔ HangsThere at e (held_of head name)) → b ≡ true → dir ≡ is_of_directory head.kind → IsNamedBy V at e (record { child = record { number = e.number; is_directory = dir }; home = head.place; inode = v })
named-here V at e head name v b dir is some read test passes kind = record {
  entry = record { home = (held_of head name).home; is = ap home_in is; directory = (test.0 passes).directory; at = (test.0 passes).at_place; tag = (test.0 passes).tag };
  child = λ z. record { number = e.number; is_directory = (kind ∙ sym (ap is_directory is)) z };
  names = record { some = some; home = (held_of head name).home; is = ap home_in is; named = read };
  home = refl;
}

module _ (V : View) (at : EntryPlace) (e : Entry) (old new : Children) (is : entry_at V at.directory at.place ≡ e) where
  pub lists-blank : (b : Bool) → (IsTrue b ↔ (e ≡ no_entry)) → b ≡ true → ListsMore V at.directory at.place (at.place + 1) old old true
  lists-blank b test passes listed = listed-blank V at.directory at.place old listed (is ∙ test.0 passes)

  pub lists-stained : (b some : Bool) → (IsTrue b ↔ (e ≡ no_entry)) → b ≡ false → (IsTrue some ↔ (e.number ≢ 0)) → some ≡ false → ListsMore V at.directory at.place (at.place + 1) old new false
  lists-stained b some test fails has none listed sound = by (cases_eq e.number 0)
    where
      by : (e.number ≡ 0) ⊎ (e.number ≡ 0 → ⊥) → ⊥
      by (inl zero) = false≢true (sym fails ∙ test.1 (sym is ∙ (sound.each at.place (omega arith)).blank (ap (λ (x : Entry). x.number) is ∙ zero)))
      by (inr number) = false≢true (sym none ∙ has.1 number)

  pub lists-loose : e.number ≢ 0 → (IsEntryIn (homes V) at.directory at.place e → ⊥) → ListsMore V at.directory at.place (at.place + 1) old new false
  lists-loose some not listed sound = not (subst (IsEntryIn (homes V) at.directory at.place) is ((sound.each at.place (omega arith)).back (λ zero. some (sym (ap (λ (x : Entry). x.number) is) ∙ zero))))

  module _ (x : NamedNode) (named : IsNamedBy V at e x) (name : List ℕ) (read : name ≡ name_from x.inode) where
    -- of the entry on the disk
    entry : IsEntryIn (homes V) at.directory at.place (entry_at V at.directory at.place)
    entry = subst (IsEntryIn (homes V) at.directory at.place) (sym is) named.entry

    own_here : x.home ≡ at.place → own_entries V at.directory at.place name
    own_here home = subst (λ y. IsOwnEntry (homes V) at.place y name) (sym is) (subst (IsOwnEntry (homes V) at.place e) (sym read) (record { names = named.names; at = named.home ∙ home }))

    second_here : x.home ≢ at.place → second_entries V at.directory at.place name
    second_here apart = subst (λ y. IsOtherEntry (homes V) at.place y name) (sym is) (subst (IsOtherEntry (homes V) at.place e) (sym read) (record { names = named.names; other = λ z. apart (sym named.home ∙ z) }))

    tag : e.tag ≡ tag_of name
    tag =
        let same : Some named.entry.home ≡ Some named.names.home = sym named.entry.is ∙ named.names.is in
        let homes_same : named.entry.home ≡ named.names.home = cc in
        named.entry.tag ∙ ap tag_of (ap (λ (h : Home). h.name) homes_same ∙ named.names.named ∙ sym read)

    not_true : (b : Bool) → true ≡ not b → b ≡ false
    not_true true n = absurd (false≢true (sym n))
    not_true false n = refl

    not_false : (b : Bool) → false ≡ not b → b ≡ true
    not_false true n = refl
    not_false false n = absurd (false≢true n)

    -- a second entry
    module _ (home : x.home ≢ at.place) (named_by : (other : List ℕ) → has_name new.seconds other ≡ (bytes_eq name other || has_name old.seconds other))
        (list : new.list.items ≡ old.list.items) (names : new.names ≡ old.names) (needing : new.needing ≡ old.needing) where
      pub lists-second : (b : Bool) → b ≡ not (has_name old.seconds name) → ListsMore V at.directory at.place (at.place + 1) old new b
      lists-second true added = λ listed. listed-second V at.directory at.place old listed new name entry (second_here home) (not_true (has_name old.seconds name) added) list names needing named_by
      lists-second false added = λ listed. twice-second V at.directory at.place old listed name (second_here home) (not_false (has_name old.seconds name) added)

    -- the entry at the home
    module _ (home : x.home ≡ at.place) (stands : Bool) (test : IsTrue stands ↔ IsBlockFor e.tag (at.place / 512)) (named_by : (other : List ℕ) → has_name new.names other ≡ (bytes_eq name other || has_name old.names other))
        (seconds : new.seconds ≡ old.seconds) where
      child_is : x.child ≡ child_of V (entry_at V at.directory at.place).number
      child_is = named.child ∙ ap (λ (y : Entry). child_of V y.number) (sym is)

      by_need : (b : Bool) → stands ≡ b → IsListed V at.directory at.place old → has_name old.names name ≡ false → new.list.items ≡ old.list.items ++ x.child ∷ []
          → ((other : List ℕ) → has_name new.needing other ≡ (not stands && bytes_eq name other || has_name old.needing other)) → IsListed V at.directory (at.place + 1) new
      by_need true holds listed fresh pushed needing =
          listed-at_home V at.directory at.place old listed new name x.child entry (own_here home) child_is fresh pushed named_by seconds
          (subst (λ t. IsBlockFor t (at.place / 512)) tag (test.0 holds)) (λ other. needing other ∙ ap (λ b. not b && bytes_eq name other || has_name old.needing other) holds)
      by_need false lacks listed fresh pushed needing =
          listed-needing V at.directory at.place old listed new name x.child entry (own_here home) child_is fresh pushed named_by seconds
          (λ block. false≢true (sym lacks ∙ test.1 (subst (λ t. IsBlockFor t (at.place / 512)) (sym tag) block))) (λ other. needing other ∙ ap (λ b. not b && bytes_eq name other || has_name old.needing other) lacks)

      pub lists-own : (b : Bool) → b ≡ not (has_name old.names name) → new.list.items ≡ cond b (old.list.items ++ x.child ∷ []) old.list.items
          → (IsTrue b → (other : List ℕ) → has_name new.needing other ≡ (not stands && bytes_eq name other || has_name old.needing other)) → ListsMore V at.directory at.place (at.place + 1) old new b
      lists-own true added list needing = λ listed. by_need stands refl listed (not_true (has_name old.names name) added) list (needing refl)
      lists-own false added list needing = λ listed. twice V at.directory at.place old listed name (own_here home) (not_false (has_name old.names name) added)

-- its number is one of the disk's
pub below-more : (numbers : ℕ) (old new : List Child) (x : Child) (b : Bool) → AreBelow numbers old → new ≡ cond b (old ++ x ∷ []) old → x.number < numbers → AreBelow numbers new
below-more numbers old new x true below is low = subst (AreBelow numbers) (sym is) (All-push (λ (y : Child). y.number < numbers) old x below low)
below-more numbers old new x false below is low = subst (AreBelow numbers) (sym is) below

-- ── the entries of a block ──

module _ (c : Cut) (before now : Map) (trusted still : Bool) (same_map : now ≡ before) (same_trust : still ≡ trusted) (d from at p : ℕ) (e : Entry) (bytes : List ℕ) (old mid new : Children) (b : Bool)
    (answer : IsTrue still → entry_at (view_of c now) d p ≡ e → ListsMore (view_of c now) d p (p + 1) mid new b) (place : p ≡ from + at) (read : e ≡ entry_from bytes at) (low : at < 512)
    (so_far : IsTrue trusted → HasEntriesAt (view_of c before) d from bytes → IsListed (view_of c before) d from old → IsListed (view_of c before) d (from + at) mid) where
  step : IsTrue trusted → HasEntriesAt (view_of c before) d from bytes → ListsMore (view_of c before) d (from + at) (from + at + 1) mid new b
  step trust has =
      subst (λ k. ListsMore (view_of c before) d k (k + 1) mid new b) place
      (at-before (λ m. entry_at (view_of c m) d p ≡ e → ListsMore (view_of c m) d p (p + 1) mid new b) before now trusted still same_map same_trust answer trust
      (ap (entry_at (view_of c before) d) place ∙ has at low ∙ sym read))

  pub entries-more : b ≡ true → IsTrue trusted → HasEntriesAt (view_of c before) d from bytes → IsListed (view_of c before) d from old → IsListed (view_of c before) d (from + (at + 1)) new
  entries-more is trust has listed =
      subst (λ k. IsListed (view_of c before) d k new) (let q : from + at + 1 ≡ from + (at + 1) = omega arith in q)
      (subst (ListsMore (view_of c before) d (from + at) (from + at + 1) mid new) is (step trust has) (so_far trust has listed))

  pub entries-fail : b ≡ false → IsTrue trusted → HasEntriesAt (view_of c before) d from bytes → ListsMore (view_of c before) d from (from + 512) old new false
  entries-fail is trust has listed =
      unsound-later (view_of c before) d (from + at + 1) (from + 512) (omega (arith, low))
      (subst (ListsMore (view_of c before) d (from + at) (from + at + 1) mid new) is (step trust has) (so_far trust has listed))

-- ── the blocks of a directory ──

pub block-blank : (V : View) (d from block : ℕ) (old : Children) → block ≡ 0 → HasBlockAt V d from block → ListsMore V d from (from + 512) old old true
block-blank V d from block old none has listed = no-block V d from block old none has listed

all_below : (f b k : ℕ) → f < b → k < f + (b - f) → k < b
all_below f b k low below = omega (arith, low, below)

pub block-elsewhere : (c : Cut) (m : Map) (d from block : ℕ) (old new : Children) (b : Bool) → IsCut c → (IsTrue b ↔ ((first_data c ≤ block) × (block < c.blocks))) → b ≡ false → block ≢ 0 → HasBlockAt (view_of c m) d from block
    → ListsMore (view_of c m) d from (from + 512) old new false
block-elsewhere c m d from block old new b cut test fails some has listed sound =
    let there = has.there some in
    false≢true (sym fails ∙ test.1 (there.0, all_below (first_data c) c.blocks block (has_data c cut) there.1))

-- several blocks of a directory, one after another: H is what is known of them
module _ (H : Map → Type 0) (c : Cut) (before now : Map) (trusted still : Bool) (same_map : now ≡ before) (same_trust : still ≡ trusted) (d first k p block : ℕ) (old mid new : Children) (b : Bool)
    (answer : IsTrue still → HasBlockAt (view_of c now) d p block → ListsMore (view_of c now) d p (p + 512) mid new b) (place : p ≡ first + 512 * k)
    (has_block : H before → HasBlockAt (view_of c before) d (first + 512 * k) block)
    (so_far : IsTrue trusted → H before → IsListed (view_of c before) d first old → IsListed (view_of c before) d (first + 512 * k) mid) where
  block-step : IsTrue trusted → H before → ListsMore (view_of c before) d (first + 512 * k) (first + 512 * k + 512) mid new b
  block-step trust has =
      subst (λ k. ListsMore (view_of c before) d k (k + 512) mid new b) place
      (at-before (λ m. HasBlockAt (view_of c m) d p block → ListsMore (view_of c m) d p (p + 512) mid new b) before now trusted still same_map same_trust answer trust
      (subst (λ p. HasBlockAt (view_of c before) d p block) (sym place) (has_block has)))

  pub blocks-listed : b ≡ true → IsTrue trusted → H before → IsListed (view_of c before) d first old → IsListed (view_of c before) d (first + 512 * (k + 1)) new
  blocks-listed passes trust has listed =
      subst (λ k. IsListed (view_of c before) d k new) (let q : first + 512 * k + 512 ≡ first + 512 * (k + 1) = omega arith in q)
      (subst (ListsMore (view_of c before) d (first + 512 * k) (first + 512 * k + 512) mid new) passes (block-step trust has) (so_far trust has listed))

  pub blocks-unsound : b ≡ false → (to : ℕ) → first + 512 * k + 512 ≤ to → IsTrue trusted → H before → ListsMore (view_of c before) d first to old new false
  blocks-unsound fails to few trust has listed =
      unsound-later (view_of c before) d (first + 512 * k + 512) to few
      (subst (ListsMore (view_of c before) d (first + 512 * k) (first + 512 * k + 512) mid new) fails (block-step trust has) (so_far trust has listed))

-- where there are no levels there are no entries
pub levels-blank : (V : View) (d block : ℕ) (old : Children) → block ≡ 0 → HasLevelsAt V d block → ListsMore V d 24576 198656 old old true
levels-blank V d block old none has listed = listed-blanks V d 24576 174080 old listed (λ at low. by at low)
  where
    by : (at : ℕ) → at < 174080 → entry_at V d (24576 + at) ≡ no_entry
    by at low =
        ap (entry_at V d) (let e : 24576 + at ≡ 24576 + 512 * (at / 512) + at % 512 = omega arith in e)
        ∙ (has.blocks (at / 512) (omega (arith, low))).entries (at % 512) (omega arith)
        ∙ ap (λ b. entry_in V b (at % 512)) (no-number-there V block (at / 512) none)

pub levels-elsewhere : (c : Cut) (m : Map) (d block : ℕ) (old new : Children) (b : Bool) → IsCut c → (IsTrue b ↔ ((first_data c ≤ block) × (block < c.blocks))) → b ≡ false → block ≢ 0 → (block ≢ 0 → IsDataBlock (view_of c m) block)
    → ListsMore (view_of c m) d 24576 198656 old new false
levels-elsewhere c m d block old new b cut test fails some has listed sound =
    let there = has some in
    false≢true (sym fails ∙ test.1 (there.0, all_below (first_data c) c.blocks block (has_data c cut) there.1))

-- the bytes of the index block have the numbers of the blocks
pub levels-in : (V : View) (d block : ℕ) (bytes : List ℕ) → block ≢ 0 → V.block block ≡ bytes → HasLevelsAt V d block → HasLevelsIn V d bytes
levels-in V d block bytes some is has k low = subst (HasBlockAt V d (24576 + 512 * k)) (number-is V block k some ∙ ap (λ v. word_at v (4 * k)) is) (has.blocks k low)

-- the block of numbers has that of the first index block
pub levels-none : (V : View) (d index : ℕ) → index ≡ 0 → HasLevels V d index → HasLevelsAt V d 0
levels-none V d index none has = subst (HasLevelsAt V d) (no-number-there V index 0 none) has.levels

pub levels-at : (V : View) (d index block : ℕ) (bytes : List ℕ) → index ≢ 0 → V.block index ≡ bytes → block ≡ word_at bytes 0 → HasLevels V d index → HasLevelsAt V d block
levels-at V d index block bytes some is read has = subst (HasLevelsAt V d) (number-is V index 0 some ∙ ap (λ v. word_at v 0) is ∙ sym read) has.levels

-- all are listed: the directory is sound where each node that needs a second entry has one
module _ (V : View) (d : ℕ) (found : Children) (listed : IsListed V d 198656 found) (b : Bool)
    (test : IsTrue b ↔ ((name : List ℕ) → has_name found.needing name ≡ true → has_name found.seconds name ≡ true)) where
  pub lists-all : b ≡ true → IsSoundDirectory V d × AreChildren V d MOST_PLACES found.list.items
  lists-all passes = (
    record { entries = listed.sound; seconds = λ name x. (listed.seconds name).0 (test.0 passes name ((listed.needing name).1 x)) },
    listed.children,
  )

  pub lacks-second : b ≡ false → IsSoundDirectory V d → ⊥
  lacks-second fails sound = false≢true (sym fails ∙ test.1 (λ name has. (listed.seconds name).1 (sound.seconds name ((listed.needing name).0 has))))

-- ── a directory, in its two parts ──

passes : (V : View) (d from to : ℕ) (old new : Children) (b : Bool) → ListsMore V d from to old new b → b ≡ true → IsListed V d from old → IsListed V d to new
passes V d from to old new b answer is = subst (ListsMore V d from to old new) is answer

fails : (V : View) (d from to : ℕ) (old new : Children) (b : Bool) → ListsMore V d from to old new b → b ≡ false → to ≤ 198656 → IsListed V d from old → IsSoundDirectory V d → ⊥
fails V d from to old new b answer is few listed sound = unsound-later V d to 198656 few (subst (ListsMore V d from to old new) is answer listed) sound.entries

module _ (c : Cut) (before now : Map) (trusted still : Bool) (same_map : now ≡ before) (same_trust : still ≡ trusted) (d index : ℕ) (blocks : List ℕ) (first mid new : Children) (a b : Bool)
    (answer : IsTrue trusted → HasFirstBlocks (view_of c before) d blocks → ListsMore (view_of c before) d 0 24576 first mid a) (none : IsListed (view_of c before) d 0 first) where
  pub first-fails : a ≡ false → IsTrue trusted → HasFirstBlocks (view_of c before) d blocks → IsSoundDirectory (view_of c before) d → ⊥
  first-fails is trust has = fails (view_of c before) d 0 24576 first mid a (answer trust has) is (omega arith) none

  module _ (is : a ≡ true) (answer_levels : IsTrue still → HasLevels (view_of c now) d index → ListsMore (view_of c now) d 24576 198656 mid new b) where
    first-listed : IsTrue trusted → HasFirstBlocks (view_of c before) d blocks → IsListed (view_of c before) d 24576 mid
    first-listed trust has = passes (view_of c before) d 0 24576 first mid a (answer trust has) is none

    of_before : IsTrue trusted → HasLevels (view_of c before) d index → ListsMore (view_of c before) d 24576 198656 mid new b
    of_before = at-before (λ m. HasLevels (view_of c m) d index → ListsMore (view_of c m) d 24576 198656 mid new b) before now trusted still same_map same_trust answer_levels

    pub levels-fail : b ≡ false → IsTrue trusted → HasFirstBlocks (view_of c before) d blocks → HasLevels (view_of c before) d index → IsSoundDirectory (view_of c before) d → ⊥
    levels-fail fail trust has levels = fails (view_of c before) d 24576 198656 mid new b (of_before trust levels) fail (omega arith) (first-listed trust has)

    pub levels-listed : b ≡ true → IsTrue trusted → HasFirstBlocks (view_of c before) d blocks → HasLevels (view_of c before) d index → IsListed (view_of c before) d 198656 new
    levels-listed pass trust has levels = passes (view_of c before) d 24576 198656 mid new b (of_before trust levels) pass (first-listed trust has)
