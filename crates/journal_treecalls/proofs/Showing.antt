-- The lines of a directory are those of the definition, and as many as have room are told.
use Rattle.std.proofs.Common.{◌≡◌, ◌≢◌, ℕ, zero, suc, ◌+◌, ◌-◌, ◌*◌, ◌/◌, ◌%◌, ◌<◌, ◌≤◌, min, Bool, true, false, not, cond, List, [], ◌∷◌, ◌++◌, length, take, Option, Some, None, refl, sym, ap, subst, ◌⊎◌, inl, inr, ◌∙◌, arith}
use Rattle.std.specs.Prelude.{◌&&◌, nat_le, option_map}
use Rattle.std.proofs.lemmas.Bool.{cases_eq, cases_lt, lt-ltb, le-ltb, le-leb, lt-leb, eq-eqb, ne_eqb}
use Rattle.std.proofs.lemmas.List.{append-nil, append_assoc}
use Rattle.journal_tree.specs.declared.reply.Kind.TheVariants.{Directory}
use Rattle.journal_tree.specs.Trees.{Node, Tree, find_place}
use Rattle.journal_tree.specs.Rule.{stem_of}
use Rattle.journal_tree.specs.Fit.{IsFitBody}
use Rattle.journal_tree.specs.Listing.{Item, with_item, with_number, entries, fitting, line_bytes, plus_bytes}
use Rattle.journal_tree.proofs.Finding.{find_place-some, find_place-none}
use Rattle.journal_tree.proofs.Hanging.{low}
use Rattle.journal_treestore.specs.declared.entry.Entry.{Entry}
use Rattle.journal_treestore.specs.Views.{Held, Seen, View, directory_block, body_of, node_of, tree_of, entry_in, entry_by, entry_of, entry_at, home_in, homes}
use Rattle.journal_treestore.specs.Views.Seen.{free, used}
use Rattle.journal_treestore.specs.Inodes.{name_from}
use Rattle.journal_treestore.specs.Sound.{IsSoundView}
use Rattle.journal_treestore.proofs.Viewing.{inode-node, no_node_at, not_home}
use Rattle.journal_treestore.proofs.Placed.{hangs-in}
use Rattle.journal_treecalls.specs.declared.node.Record.{Record}
use Rattle.journal_treecalls.specs.declared.lines.Room.{Room}
use Rattle.journal_treecalls.specs.Targets.{held, block_of}
use Rattle.journal_treecalls.specs.Seats.{block_count}
use Rattle.journal_treecalls.specs.Lines.{bytes_beside, with_line, Filled, fill, item_by, item_at, item_from, items_in}
use Rattle.journal_treecalls.specs.Walks.{all_items}
use Rattle.journal_treecalls.proofs.Emptying.{own-blocks}
use Rattle.journal_treecalls.proofs.Walking.{items-zero, items-are-more, all-zero, all-more}

-- ── entries of the definition, one more at their end ──

with-number-append : (T : Tree) (o : Option ℕ) (xs ys : List Item) → with_number T o (xs ++ ys) ≡ with_number T o xs ++ ys
with-number-append T None xs ys = refl
with-number-append T (Some n) xs ys = by (T.at n).node
  where
    by : (x : Option Node) → with_item n x (xs ++ ys) ≡ with_item n x xs ++ ys
    by None = refl
    by (Some x) = refl

entries-zero : (T : Tree) (d p : ℕ) → entries T d p 0 ≡ []
unfolding entries
entries-zero T d p = refl

entries-first : (T : Tree) (d p k : ℕ) → entries T d p (suc k) ≡ with_number T (find_place T d p) (entries T d (p + 1) k)
unfolding entries
entries-first T d p k = refl

entries-more : (T : Tree) (d p k : ℕ) → entries T d p (suc k) ≡ entries T d p k ++ with_number T (find_place T d (p + k)) []
entries-more T d p zero =
    entries-first T d p 0
    ∙ ap (with_number T (find_place T d p)) (entries-zero T d (p + 1))
    ∙ ap (λ q. with_number T (find_place T d q) []) (let e : p ≡ p + 0 = omega arith in e)
    ∙ sym (ap (λ xs. xs ++ with_number T (find_place T d (p + 0)) []) (entries-zero T d p))
entries-more T d p (suc k) =
    entries-first T d p (suc k)
    ∙ ap (with_number T (find_place T d p)) (entries-more T d (p + 1) k)
    ∙ with-number-append T (find_place T d p) (entries T d (p + 1) k) (with_number T (find_place T d (p + 1 + k)) [])
    ∙ ap (λ q. with_number T (find_place T d p) (entries T d (p + 1) k) ++ with_number T (find_place T d q) []) (let e : p + 1 + k ≡ p + suc k = omega arith in e)
    ∙ ap (λ xs. xs ++ with_number T (find_place T d (p + suc k)) []) (sym (entries-first T d p k))

-- ── places and entries ──

module _ (V : View) (sound : IsSoundView V) (d : ℕ) (r : Record) (is : V.inode d ≡ used (held r)) (kind : r.head.kind ≡ Directory) where
  found : (place : ℕ) (g : Held) → (entry_at V d place).number ≢ 0 → V.inode (entry_at V d place).number ≡ used g → g.home.place ≡ place → find_place (tree_of V) d place ≡ Some (entry_at V d place).number
  found place g some at home = by (find_place (tree_of V) d place) refl
    where
      directory : g.home.directory ≡ d
      directory = hangs-in V d place g sound some at

      node : ((tree_of V).at (entry_at V d place).number).node ≡ Some (node_of V g)
      node = inode-node V (entry_at V d place).number g at

      by : (o : Option ℕ) → find_place (tree_of V) d place ≡ o → o ≡ Some (entry_at V d place).number
      by None none = absurd (find_place-none (tree_of V) d place (entry_at V d place).number (node_of V g) none (low (tree_of V) (entry_at V d place).number (node_of V g) sound.tree node) node directory home)
      by (Some m) here =
          let x = find_place-some (tree_of V) d place m here in
          ap Some (sound.tree.places m (entry_at V d place).number (stem_of x.0) (stem_of (node_of V g)) (ap (option_map stem_of) x.1) (ap (option_map stem_of) node) (x.2 ∙ sym directory) (x.3 ∙ sym home))

  -- the line of a node is at its home's place alone
  node-items : (place : ℕ) (g : Held) → (entry_at V d place).number ≢ 0 → V.inode (entry_at V d place).number ≡ used g → with_number (tree_of V) (find_place (tree_of V) d place) [] ≡ item_by (used g) place (entry_at V d place).number
  node-items place g some here = by (cases_eq g.home.place place)
    where
      by : (g.home.place ≡ place) ⊎ (g.home.place ≡ place → ⊥) → with_number (tree_of V) (find_place (tree_of V) d place) [] ≡ item_by (used g) place (entry_at V d place).number
      by (inl home) =
          ap (λ o. with_number (tree_of V) o []) (found place g some here home)
          ∙ ap (λ x. with_item (entry_at V d place).number x []) (inode-node V (entry_at V d place).number g here)
          ∙ ap (λ p. record { cookie = p + 3; name = g.home.name; number = (entry_at V d place).number } ∷ []) home
          ∙ sym (ap (λ t. cond t (record { cookie = place + 3; name = g.home.name; number = (entry_at V d place).number } ∷ []) []) (eq-eqb g.home.place place home))
      by (inr away) =
          ap (λ o. with_number (tree_of V) o []) (not_home V sound d place (entry_at V d place).number (held r) g is here refl away)
          ∙ sym (ap (λ t. cond t (record { cookie = place + 3; name = g.home.name; number = (entry_at V d place).number } ∷ []) []) (ne_eqb g.home.place place away))

  place-items : (place : ℕ) → with_number (tree_of V) (find_place (tree_of V) d place) [] ≡ item_at V place (entry_at V d place)
  place-items place = by (cases_eq (entry_at V d place).number 0)
    where
      at : (y : Seen) → V.inode (entry_at V d place).number ≡ y → (entry_at V d place).number ≢ 0 → with_number (tree_of V) (find_place (tree_of V) d place) [] ≡ item_by (V.inode (entry_at V d place).number) place (entry_at V d place).number
      at (free g) here some = absurd (cc (sym (ap home_in here) ∙ (sound.hung.back d place some).is))
      at (used g) here some = node-items place g some here ∙ sym (ap (λ y. item_by y place (entry_at V d place).number) here)

      by : ((entry_at V d place).number ≡ 0) ⊎ ((entry_at V d place).number ≡ 0 → ⊥) → with_number (tree_of V) (find_place (tree_of V) d place) [] ≡ item_at V place (entry_at V d place)
      by (inl none) =
          ap (λ o. with_number (tree_of V) o []) (no_node_at V sound d place (held r) is none)
          ∙ sym (ap (λ t. cond t [] (item_by (V.inode (entry_at V d place).number) place (entry_at V d place).number)) (eq-eqb (entry_at V d place).number 0 none))
      by (inr some) =
          at (V.inode (entry_at V d place).number) refl some
          ∙ sym (ap (λ t. cond t [] (item_by (V.inode (entry_at V d place).number) place (entry_at V d place).number)) (ne_eqb (entry_at V d place).number 0 some))

  -- block j of the directory
  abbrev number : ℕ → ℕ
  number j = (block_of V r.head j).number

  entry-is : (j at : ℕ) → at < 512 → entry_in V (number j) at ≡ entry_at V d (512 * j + at)
  entry-is j at low =
      ap (λ b. entry_in V b at) (sym (own-blocks V r.head (name_from r.bytes) j))
      ∙ ap (λ l. entry_in V (directory_block V (held r) l) at) (let e : j ≡ (512 * j + at) / 512 = omega (arith, low) in e)
      ∙ ap (entry_in V (directory_block V (held r) ((512 * j + at) / 512))) (let e : at ≡ (512 * j + at) % 512 = omega (arith, low) in e)
      ∙ sym (ap (λ y. entry_of V y (512 * j + at)) is ∙ ap (λ k. entry_by V k (held r) (512 * j + at)) kind)

  -- one more place
  entries-next : (begin place : ℕ) → entries (tree_of V) d begin (place - begin) ++ item_from V begin place (entry_at V d place) ≡ entries (tree_of V) d begin (place + 1 - begin)
  entries-next begin place = by (cases_lt place begin)
    where
      by : (place < begin) ⊎ (begin ≤ place) → entries (tree_of V) d begin (place - begin) ++ item_from V begin place (entry_at V d place) ≡ entries (tree_of V) d begin (place + 1 - begin)
      by (inl before) =
          ap (λ t. entries (tree_of V) d begin (place - begin) ++ cond t [] (item_at V place (entry_at V d place))) (lt-ltb place begin before)
          ∙ append-nil (entries (tree_of V) d begin (place - begin))
          ∙ ap (entries (tree_of V) d begin) (let e : place - begin ≡ place + 1 - begin = omega (arith, before) in e)
      by (inr past) =
          ap (λ t. entries (tree_of V) d begin (place - begin) ++ cond t [] (item_at V place (entry_at V d place))) (le-ltb place begin past)
          ∙ ap (λ xs. entries (tree_of V) d begin (place - begin) ++ xs) (sym (place-items place))
          ∙ ap (λ q. entries (tree_of V) d begin (place - begin) ++ with_number (tree_of V) (find_place (tree_of V) d q) []) (let e : place ≡ begin + (place - begin) = omega (arith, past) in e)
          ∙ sym (entries-more (tree_of V) d begin (place - begin))
          ∙ ap (entries (tree_of V) d begin) (let e : suc (place - begin) ≡ place + 1 - begin = omega (arith, past) in e)

  block-entries : (begin j at : ℕ) → at ≤ 512 → entries (tree_of V) d begin (512 * j - begin) ++ items_in V begin (number j) j at ≡ entries (tree_of V) d begin (512 * j + at - begin)
  block-entries begin j zero fits =
      ap (λ xs. entries (tree_of V) d begin (512 * j - begin) ++ xs) (items-zero V begin (number j) j)
      ∙ append-nil (entries (tree_of V) d begin (512 * j - begin))
      ∙ ap (entries (tree_of V) d begin) (let e : 512 * j - begin ≡ 512 * j + 0 - begin = omega arith in e)
  block-entries begin j (suc at) fits =
      ap (λ xs. entries (tree_of V) d begin (512 * j - begin) ++ xs) (items-are-more V begin (number j) j at)
      ∙ sym (append_assoc (entries (tree_of V) d begin (512 * j - begin)) (items_in V begin (number j) j at) (item_from V begin (512 * j + at) (entry_in V (number j) at)))
      ∙ ap (λ xs. xs ++ item_from V begin (512 * j + at) (entry_in V (number j) at)) (block-entries begin j at (omega (arith, fits)))
      ∙ ap (λ e. entries (tree_of V) d begin (512 * j + at - begin) ++ item_from V begin (512 * j + at) e) (entry-is j at (omega (arith, fits)))
      ∙ entries-next begin (512 * j + at)
      ∙ ap (entries (tree_of V) d begin) (let e : 512 * j + at + 1 - begin ≡ 512 * j + suc at - begin = omega arith in e)

  all-entries : (begin j : ℕ) → all_items V begin number j ≡ entries (tree_of V) d begin (512 * j - begin)
  all-entries begin zero = all-zero V begin number ∙ sym (entries-zero (tree_of V) d begin) ∙ ap (entries (tree_of V) d begin) (let e : 0 ≡ 512 * 0 - begin = omega arith in e)
  all-entries begin (suc j) =
      all-more V begin number j
      ∙ ap (λ xs. xs ++ items_in V begin (number j) j 512) (all-entries begin j)
      ∙ block-entries begin j 512 (omega arith)
      ∙ ap (entries (tree_of V) d begin) (let e : 512 * j + 512 - begin ≡ 512 * suc j - begin = omega arith in e)

  fits : r.head.size / 8 ≤ 198656
  fits = (subst IsFitBody (ap (λ k. body_of V k (held r)) kind) (sound.fit.nodes d (node_of V (held r)) (inode-node V d (held r) is)).body).0

  pub entries-are : (begin : ℕ) → all_items V begin number (block_count r.head) ≡ entries (tree_of V) d begin (r.head.size / 8 - begin)
  entries-are begin =
      all-entries begin (block_count r.head)
      ∙ ap (λ n. entries (tree_of V) d begin (n - begin)) (let f = fits in let w = whole.1 in let e : 512 * min (r.head.size / 4096) 388 ≡ r.head.size / 8 = omega (arith, f, w) in e)
    where
      whole : (blocks : ℕ) × (r.head.size ≡ 4096 * blocks)
      whole = (sound.inodes d (held r) is).whole kind

-- ── how many have room ──

-- the room after a line that has it
abbrev pub less : Room → Item → Room
less r i = record { names = r.names - line_bytes i; bytes = r.bytes - bytes_beside r.is_plus (line_bytes i); is_plus = r.is_plus }

abbrev pub has_room : Room → Item → Bool
has_room r i = nat_le (line_bytes i) r.names && nat_le (bytes_beside r.is_plus (line_bytes i)) r.bytes

-- how many lines have room
unfoldable pub count_by : Room → List Item → ℕ
count_by r [] = 0
count_by r (i ∷ is) = cond (has_room r i) (suc (count_by (less r i) is)) 0

fill-none : (items is : List Item) → fill (record { items = items; room = None }) is ≡ record { items = items; room = None }
fill-none items [] = refl
fill-none items (i ∷ is) = fill-none items is

le-suc : (a b : ℕ) → nat_le a b ≡ nat_le (suc a) (suc b)
le-suc a b = by (cases_lt b a)
  where
    by : (b < a) ⊎ (a ≤ b) → nat_le a b ≡ nat_le (suc a) (suc b)
    by (inl more) = lt-leb a b more ∙ sym (lt-leb (suc a) (suc b) (omega (arith, more)))
    by (inr few) = le-leb a b few ∙ sym (le-leb (suc a) (suc b) (omega (arith, few)))

-- whether there is no room left
abbrev pub is_full : Option Room → Bool
is_full None = true
is_full (Some r) = false

-- what is on a page after these lines, which had so many
pub record IsFilled (f : Filled) (items : List Item) (n : ℕ) (is : List Item) : Type 0 where
  pub items_are : f.items ≡ items ++ take n is
  pub full : is_full f.room ≡ not (nat_le (length is) n)

pub fill-is : (items : List Item) (r : Room) (is : List Item) → IsFilled (fill (record { items = items; room = Some r }) is) items (count_by r is) is
unfolding count_by
fill-is items r [] = record { items_are = sym (append-nil items); full = refl }
fill-is items r (i ∷ is) = by (has_room r i) (fill-is (items ++ i ∷ []) (less r i) is)
  where
    by : (t : Bool) → IsFilled (fill (record { items = items ++ i ∷ []; room = Some (less r i) }) is) (items ++ i ∷ []) (count_by (less r i) is) is
        → IsFilled (fill (record { items = with_line (cond t (Some (less r i)) None) items i; room = cond t (Some (less r i)) None }) is) items (cond t (suc (count_by (less r i) is)) 0) (i ∷ is)
    by true rest = record { items_are = rest.items_are ∙ append_assoc items (i ∷ []) (take (count_by (less r i) is) is); full = rest.full ∙ ap not (le-suc (length is) (count_by (less r i) is)) }
    by false rest = record { items_are = ap (λ (f : Filled). f.items) (fill-none items is) ∙ sym (append-nil items); full = ap (λ (f : Filled). is_full f.room) (fill-none items is) ∙ sym (ap not (lt-leb (suc (length is)) 0 (omega arith))) }

-- READDIR counts what its own lines take
pub count-plain : (names bytes : ℕ) (is : List Item) → count_by (record { names = names; bytes = bytes; is_plus = false }) is ≡ fitting line_bytes names is
unfolding count_by
count-plain names bytes [] = refl
count-plain names bytes (i ∷ is) = by (nat_le (line_bytes i) names) ∙ ap (λ n. cond (nat_le (line_bytes i) names) (suc n) 0) (count-plain (names - line_bytes i) (bytes - 0) is)
  where
    by : (t : Bool) → cond (t && nat_le 0 bytes) (suc (count_by (record { names = names - line_bytes i; bytes = bytes - 0; is_plus = false }) is)) 0 ≡ cond t (suc (count_by (record { names = names - line_bytes i; bytes = bytes - 0; is_plus = false }) is)) 0
    by true = ap (λ t. cond t (suc (count_by (record { names = names - line_bytes i; bytes = bytes - 0; is_plus = false }) is)) 0) (le-leb 0 bytes (omega arith))
    by false = refl

-- and READDIRPLUS what both take
pub count-plus : (names bytes : ℕ) (is : List Item) → count_by (record { names = names; bytes = bytes; is_plus = true }) is ≡ min (fitting line_bytes names is) (fitting plus_bytes bytes is)
unfolding count_by
count-plus names bytes [] = refl
count-plus names bytes (i ∷ is) =
    ap (λ n. cond (nat_le (line_bytes i) names && nat_le (line_bytes i + 112) bytes) (suc n) 0) (count-plus (names - line_bytes i) (bytes - (line_bytes i + 112)) is)
    ∙ ap (λ b. cond (nat_le (line_bytes i) names && nat_le b bytes) (suc (min (fitting line_bytes (names - line_bytes i) is) (fitting plus_bytes (bytes - b) is))) 0) all
    ∙ by (nat_le (line_bytes i) names) (nat_le (plus_bytes i) bytes)
  where
    all : line_bytes i + 112 ≡ plus_bytes i
    all = omega arith

    by : (t u : Bool) → cond (t && u) (suc (min (fitting line_bytes (names - line_bytes i) is) (fitting plus_bytes (bytes - plus_bytes i) is))) 0
        ≡ min (cond t (suc (fitting line_bytes (names - line_bytes i) is)) 0) (cond u (suc (fitting plus_bytes (bytes - plus_bytes i) is)) 0)
    by true true = omega arith
    by true false = omega arith
    by false true = omega arith
    by false false = refl
