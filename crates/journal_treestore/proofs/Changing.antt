-- What becomes of tree, homes and entries once an inode or a block is overwritten.
use Rattle.std.proofs.Common.{◌≡◌, ◌≢◌, ℕ, ◌+◌, ◌*◌, ◌/◌, ◌%◌, ◌<◌, ◌≤◌, Bool, true, false, cond, eqb, List, length, take, Option, Some, None, refl, sym, ap, subst, ◌⊎◌, inl, inr, ◌∙◌, arith}
use Rattle.std.specs.Prelude.{nat_lt, option_map}
use Rattle.std.proofs.lemmas.Bool.{cases_eq, cases_lt, eq-eqb, ne_eqb, lt-ltb, le-ltb}
use Rattle.journal_tree.specs.declared.reply.Kind.{Kind}
use Rattle.journal_tree.specs.declared.reply.Kind.TheVariants.{Directory, File, Link}
use Rattle.journal_tree.specs.Trees.{with_slot}
use Rattle.journal_tree.specs.Trees.Body.{file, link}
use Rattle.journal_treestore.specs.declared.entry.Entry.{Entry}
use Rattle.journal_treestore.specs.declared.owner.Owner.{Owner}
use Rattle.journal_treestore.specs.Entries.{no_entry, entry_from, with_entry}
use Rattle.journal_treestore.specs.Views.{Held, Seen, View, block_at, with_inode, with_block, bytes_in, bytes_of, body_of, slot_of, tree_of, directory_block, entry_in, entry_by, entry_of, entry_at, home_in, homes}
use Rattle.journal_treestore.specs.Views.Seen.{free, used}
use Rattle.journal_treestore.specs.Positions.{Position, place_at, IsPosition, with_put, with_puts}
use Rattle.journal_treestore.specs.Sound.{IsSoundInode}
use Rattle.journal_treestore.proofs.Recording.{length-with, with-same, with-other}
use Rattle.journal_treestore.proofs.Indexing.{with_block-blocks, bytes_of-frame, bytes_in-frame, sound-frame}
use Rattle.journal_treestore.proofs.Hanging.{with_home, with_place, with_own, entry-same, entry-other, cases_place}

-- ── an inode is overwritten ──

pub inode-same : (V : View) (n : ℕ) (x : Seen) → (with_inode V n x).inode n ≡ x
inode-same V n x = ap (λ b. cond b x (V.inode n)) (eq-eqb n n refl)

pub inode-other : (V : View) (n i : ℕ) (x : Seen) → i ≢ n → (with_inode V n x).inode i ≡ V.inode i
inode-other V n i x other = ap (λ b. cond b x (V.inode i)) (ne_eqb i n other)

-- the tree has another slot
pub tree-inode : (V : View) (n : ℕ) (x : Seen) → tree_of (with_inode V n x) ≡ with_slot (tree_of V) n (slot_of V x)
unfolding block_at
tree-inode V n x = λ z. record { numbers = V.numbers; blocks = V.data_blocks; at = λ i. by (eqb i n) i z }
  where
    by : (b : Bool) (i : ℕ) → slot_of V (cond b x (V.inode i)) ≡ cond b (slot_of V x) (slot_of V (V.inode i))
    by true i = refl
    by false i = refl

pub homes-inode : (V : View) (n : ℕ) (x : Seen) → homes (with_inode V n x) ≡ with_home (homes V) n (home_in x)
homes-inode V n x = λ z. λ i. by (eqb i n) i z
  where
    by : (b : Bool) (i : ℕ) → home_in (cond b x (V.inode i)) ≡ cond b (home_in x) (home_in (V.inode i))
    by true i = refl
    by false i = refl

-- the entries are the same where the new inode has the old one's
pub entries-inode : (V : View) (n : ℕ) (x : Seen) → ((place : ℕ) → entry_of V x place ≡ entry_of V (V.inode n) place) → entry_at (with_inode V n x) ≡ entry_at V
unfolding block_at
entries-inode V n x same = λ z. λ d. λ place. by d place (cases_eq d n) z
  where
    by : (d place : ℕ) → (d ≡ n) ⊎ (d ≡ n → ⊥) → entry_of V ((with_inode V n x).inode d) place ≡ entry_of V (V.inode d) place
    by d place (inl is) = ap (λ d. entry_of V ((with_inode V n x).inode d) place) is ∙ ap (λ y. entry_of V y place) (inode-same V n x) ∙ same place ∙ ap (λ d. entry_of V (V.inode d) place) (sym is)
    by d place (inr other) = ap (λ y. entry_of V y place) (inode-other V n d x other)

-- which inodes are sound
abbrev pub AreInodes : View → Type 0
AreInodes V = (n : ℕ) (h : Held) → V.inode n ≡ used h → IsSoundInode V n h

pub inodes-inode : (V : View) (n : ℕ) (x : Seen) → AreInodes V → ((h : Held) → x ≡ used h → IsSoundInode V n h) → AreInodes (with_inode V n x)
unfolding block_at
inodes-inode V n x heads new i h is = by (cases_eq i n)
  where
    carry : IsSoundInode V i h → IsSoundInode (with_inode V n x) i h
    carry s = record { owned = s.owned; there = s.there; after = s.after; sized = s.sized; whole = s.whole; first = s.first }

    by : (i ≡ n) ⊎ (i ≡ n → ⊥) → IsSoundInode (with_inode V n x) i h
    by (inl same) = carry (subst (λ i. IsSoundInode V i h) (sym same) (new h (sym (inode-same V n x) ∙ ap (with_inode V n x).inode (sym same) ∙ is)))
    by (inr other) = carry (heads i h (sym (inode-other V n i x other) ∙ is))

-- ── where an entry lies ──

-- a block of a directory is one of its inode
pub at-directory : (V : View) (h : Held) (j : ℕ) → directory_block V h j ≢ 0 → (block_at V h j ≡ directory_block V h j) × (j < 388)
at-directory V h j some = by (cases_lt j 388)
  where
    by : (j < 388) ⊎ (388 ≤ j) → (block_at V h j ≡ directory_block V h j) × (j < 388)
    by (inl low) = (sym (ap (λ t. cond t (block_at V h j) 0) (lt-ltb j 388 low)), low)
    by (inr far) = absurd (some (ap (λ t. cond t (block_at V h j) 0) (le-ltb j 388 far)))

pub directory-frame : (V W : View) (g h : Held) (j : ℕ) → block_at W g j ≡ block_at V h j → directory_block W g j ≡ directory_block V h j
directory-frame V W g h j same = ap (λ b. cond (nat_lt j 388) b 0) same

-- a block is had once
pub one_owner : (V : View) (n m : ℕ) (g h : Held) (i j : ℕ) → IsSoundInode V n g → IsSoundInode V m h → block_at V g i ≢ 0 → block_at V g i ≡ block_at V h j → (n ≡ m) × (i ≡ j)
one_owner V n m g h i j a b some same =
    let x = a.owned i some in
    let y = b.owned j (λ e. some (same ∙ e)) in
    let o = sym x ∙ ap V.owner same ∙ y in
    (ap (λ (o : Owner). o.number) o, ap (λ (o : Owner). o.place) o)

-- so is a block of a directory
pub one_directory : (V : View) (n m : ℕ) (g h : Held) (i j : ℕ) → IsSoundInode V n g → IsSoundInode V m h → directory_block V g i ≢ 0 → directory_block V g i ≡ directory_block V h j → (n ≡ m) × (i ≡ j)
one_directory V n m g h i j a b some same =
    let x = (at-directory V g i some).0 in
    let y = (at-directory V h j (λ e. some (same ∙ e))).0 in
    one_owner V n m g h i j a b (λ e. some (sym x ∙ e)) (x ∙ same ∙ sym y)

pub one_inode : (V : View) (n m : ℕ) (g h : Held) → V.inode n ≡ used g → V.inode m ≡ used h → n ≡ m → g ≡ h
one_inode V n m g h a b same = let e : used g ≡ used h = sym a ∙ ap V.inode same ∙ b in cc

-- the block of a position
pub position-at : (V : View) (h : Held) (p : Position) → IsPosition V h p → (block_at V h p.j ≡ p.b) × (p.j < 388)
position-at V h p at = let x = at-directory V h p.j (λ e. at.some (sym at.is ∙ e)) in (x.0 ∙ at.is, x.1)

pub position-sized : (V : View) (d : ℕ) (h : Held) (p : Position) → IsSoundInode V d h → IsPosition V h p → length (V.block p.b) ≡ 4096
position-sized V d h p s at =
    let x = position-at V h p at in
    ap (λ b. length (V.block b)) (sym x.0) ∙ s.sized p.j (λ e. at.some (sym x.0 ∙ e))

-- ── the block of a position is overwritten ──

module _ (V : View) (d : ℕ) (h : Held) (p : Position) (heads : AreInodes V) (is : V.inode d ≡ used h) (at : IsPosition V h p) where
  block-same : (v : List ℕ) → (with_block V p.b v).block p.b ≡ v
  block-same v = ap (λ b. cond b v (V.block p.b)) (eq-eqb p.b p.b refl)

  block-other : (v : List ℕ) (b : ℕ) → b ≢ p.b → (with_block V p.b v).block b ≡ V.block b
  block-other v b other = ap (λ t. cond t v (V.block b)) (ne_eqb b p.b other)

  s : IsSoundInode V d h
  s = heads d h is

  own : (block_at V h p.j ≡ p.b) × (p.j < 388)
  own = position-at V h p at

  -- who has it
  owner_is : (i : ℕ) (g : Held) (l : ℕ) → V.inode i ≡ used g → block_at V g l ≢ 0 → block_at V g l ≡ p.b → (i ≡ d) × (l ≡ p.j)
  owner_is i g l of there same = one_owner V i d g h l p.j (heads i g of) s there (same ∙ sym own.0)

  -- it is no index block, so that each inode has the blocks that it had
  pub blocks-block : (v : List ℕ) (i : ℕ) (g : Held) → V.inode i ≡ used g → (l : ℕ) → block_at (with_block V p.b v) g l ≡ block_at V g l
  blocks-block v i g of = with_block-blocks V p.b v g apart
    where
      apart : (l : ℕ) → 2147483648 ≤ l → block_at V g l ≢ 0 → block_at V g l ≢ p.b
      apart l high there same = let o = owner_is i g l of there same in absurd (omega (arith, o.1, high, own.1))

  pub inodes-block : (v : List ℕ) → length v ≡ 4096 → AreInodes (with_block V p.b v)
  inodes-block v long i g of =
      sound-frame V (with_block V p.b v) i g refl refl (blocks-block v i g of) (λ _ _. refl) (λ l here. by l here (cases_eq (block_at V g l) p.b)) (heads i g of)
    where
      by : (l : ℕ) → block_at V g l ≢ 0 → (block_at V g l ≡ p.b) ⊎ (block_at V g l ≡ p.b → ⊥) → length ((with_block V p.b v).block (block_at V g l)) ≡ 4096
      by l here (inl same) = ap (λ b. length ((with_block V p.b v).block b)) same ∙ ap length (block-same v) ∙ long
      by l here (inr other) = ap length (block-other v (block_at V g l) other) ∙ (heads i g of).sized l here

  -- what other nodes hold stays
  bytes-other : (v : List ℕ) (i : ℕ) (g : Held) → V.inode i ≡ used g → g.kind ≢ h.kind → (l : ℕ)
      → bytes_in (with_block V p.b v) (block_at (with_block V p.b v) g l) ≡ bytes_in V (block_at V g l)
  bytes-other v i g of other l =
      bytes_in-frame V (with_block V p.b v) (block_at V g l) (block_at (with_block V p.b v) g l) (blocks-block v i g of l) (λ there. block-other v (block_at V g l) (λ same.
      let o = owner_is i g l of there same in
      absurd (other (ap (λ (g : Held). g.kind) (one_inode V i d g h of is o.0)))))

  bytes_of-other : (v : List ℕ) (i : ℕ) (g : Held) → V.inode i ≡ used g → g.kind ≢ h.kind → (l : ℕ)
      → bytes_of (with_block V p.b v) (block_at (with_block V p.b v) g) l ≡ bytes_of V (block_at V g) l
  bytes_of-other v i g of other l =
      bytes_of-frame V (with_block V p.b v) (block_at (with_block V p.b v) g) (block_at V g) (bytes-other v i g of other) l

  -- so does the tree, where it is a directory's block
  pub tree-block : (v : List ℕ) → h.kind ≡ Directory → tree_of (with_block V p.b v) ≡ tree_of V
  tree-block v kind = λ z. record { numbers = V.numbers; blocks = V.data_blocks; at = λ i. each i z }
    where
      body : (i : ℕ) (g : Held) → V.inode i ≡ used g → (kind_is : Kind) → g.kind ≡ kind_is → body_of (with_block V p.b v) kind_is g ≡ body_of V kind_is g
      body i g of Directory is_kind = refl
      body i g of File is_kind = ap (λ w. file (take g.size w)) (bytes_of-other v i g of (λ e. absurd (cc (sym is_kind ∙ e ∙ kind))) ((g.size + 4095) / 4096))
      body i g of Link is_kind = ap (λ w. link (take g.size w)) (bytes_of-other v i g of (λ e. absurd (cc (sym is_kind ∙ e ∙ kind))) ((g.size + 4095) / 4096))

      by : (i : ℕ) (x : Seen) → V.inode i ≡ x → slot_of (with_block V p.b v) x ≡ slot_of V x
      by i (free g) of = refl
      by i (used g) of = λ z. record { generation = g.generation; node = Some (record { attributes = g.attributes; home = g.home; body = body i g of g.kind refl z }) }

      each : (i : ℕ) → slot_of (with_block V p.b v) (V.inode i) ≡ slot_of V (V.inode i)
      each i = by i (V.inode i) refl

  -- an entry is put into it
  pub entries-block : (e : Entry) → h.kind ≡ Directory → e.number < 4294967296 → e.tag < 4294967296 → entry_at (with_put V p.b p.q e) ≡ with_place (entry_at V) d (place_at p) e
  entries-block e kind small_number small_tag = λ z. λ a. λ x. each a x (cases_place d (512 * p.j + p.q) a x) z
    where
      inside : p.q < 512
      inside = at.low

      whole : length (V.block p.b) ≡ 4096
      whole = position-sized V d h p s at

      -- the block at a place of another directory, and of this one
      block-is : (a x : ℕ) (g : Held) → V.inode a ≡ used g → directory_block (with_put V p.b p.q e) g (x / 512) ≡ directory_block V g (x / 512)
      block-is a x g of = directory-frame V (with_put V p.b p.q e) g g (x / 512) (blocks-block (with_entry (V.block p.b) p.q e) a g of (x / 512))

      here : entry_of (with_put V p.b p.q e) (V.inode d) (512 * p.j + p.q) ≡ e
      here =
          ap (λ y. entry_of (with_put V p.b p.q e) y (512 * p.j + p.q)) is
          ∙ ap (λ kind. entry_by (with_put V p.b p.q e) kind h (512 * p.j + p.q)) kind
          ∙ ap (λ b. entry_in (with_put V p.b p.q e) b ((512 * p.j + p.q) % 512)) (block-is d (512 * p.j + p.q) h is)
          ∙ ap (λ l. entry_in (with_put V p.b p.q e) (directory_block V h l) ((512 * p.j + p.q) % 512)) (omega (arith, inside))
          ∙ ap (λ l. entry_in (with_put V p.b p.q e) (directory_block V h p.j) l) (omega (arith, inside))
          ∙ ap (λ b. entry_in (with_put V p.b p.q e) b p.q) at.is
          ∙ ap (λ t. cond t no_entry (entry_from ((with_put V p.b p.q e).block p.b) p.q)) (ne_eqb p.b 0 at.some)
          ∙ ap (λ v. entry_from v p.q) (block-same (with_entry (V.block p.b) p.q e))
          ∙ with-same (V.block p.b) p.q e whole inside small_number small_tag

      in_block : (a x : ℕ) (g : Held) → V.inode a ≡ used g → ((a ≡ d) → (x ≡ 512 * p.j + p.q) → ⊥)
          → (directory_block V g (x / 512) ≡ 0) ⊎ (directory_block V g (x / 512) ≡ 0 → ⊥) → (directory_block V g (x / 512) ≡ p.b) ⊎ (directory_block V g (x / 512) ≡ p.b → ⊥)
          → entry_in (with_put V p.b p.q e) (directory_block V g (x / 512)) (x % 512) ≡ entry_in V (directory_block V g (x / 512)) (x % 512)
      in_block a x g of apart (inl none) _ =
          ap (λ b. entry_in (with_put V p.b p.q e) b (x % 512)) none ∙ sym (ap (λ b. entry_in V b (x % 512)) none)
      in_block a x g of apart (inr there) (inr other) =
          ap (λ w. cond (eqb (directory_block V g (x / 512)) 0) no_entry (entry_from w (x % 512))) (block-other (with_entry (V.block p.b) p.q e) (directory_block V g (x / 512)) other)
      in_block a x g of apart (inr there) (inl same) =
          ap (λ w. cond (eqb (directory_block V g (x / 512)) 0) no_entry (entry_from w (x % 512)))
          (ap (with_put V p.b p.q e).block same ∙ block-same (with_entry (V.block p.b) p.q e))
          ∙ ap (cond (eqb (directory_block V g (x / 512)) 0) no_entry)
          (with-other (V.block p.b) p.q (x % 512) e whole inside (omega arith) (λ r. apart o.0 (omega (arith, r, o.1))) ∙ ap (λ b. entry_from (V.block b) (x % 512)) (sym same))
        where
          o : (a ≡ d) × (x / 512 ≡ p.j)
          o = one_directory V a d g h (x / 512) p.j (heads a g of) s there (same ∙ sym at.is)

      by_kind : (a x : ℕ) (g : Held) → V.inode a ≡ used g → ((a ≡ d) → (x ≡ 512 * p.j + p.q) → ⊥) → (kind_is : Kind)
          → entry_by (with_put V p.b p.q e) kind_is g x ≡ entry_by V kind_is g x
      by_kind a x g of apart File = refl
      by_kind a x g of apart Link = refl
      by_kind a x g of apart Directory =
          ap (λ b. entry_in (with_put V p.b p.q e) b (x % 512)) (block-is a x g of)
          ∙ in_block a x g of apart (cases_eq (directory_block V g (x / 512)) 0) (cases_eq (directory_block V g (x / 512)) p.b)

      others : (a x : ℕ) → ((a ≡ d) → (x ≡ 512 * p.j + p.q) → ⊥) → (y : Seen) → V.inode a ≡ y → entry_of (with_put V p.b p.q e) y x ≡ entry_of V y x
      others a x apart (free g) of = refl
      others a x apart (used g) of = by_kind a x g of apart g.kind

      each : (a x : ℕ) → ((a ≡ d) × (x ≡ 512 * p.j + p.q)) ⊎ ((a ≡ d) → (x ≡ 512 * p.j + p.q) → ⊥) → entry_at (with_put V p.b p.q e) a x ≡ with_place (entry_at V) d (512 * p.j + p.q) e a x
      each a x (inl same) =
          ap (λ a. entry_at (with_put V p.b p.q e) a x) same.0
          ∙ ap (entry_at (with_put V p.b p.q e) d) same.1
          ∙ here
          ∙ sym (ap (λ a. with_place (entry_at V) d (512 * p.j + p.q) e a x) same.0 ∙ ap (with_place (entry_at V) d (512 * p.j + p.q) e d) same.1 ∙ entry-same (entry_at V) d (512 * p.j + p.q) e)
      each a x (inr apart) = others a x apart (V.inode a) refl ∙ sym (entry-other (entry_at V) d (512 * p.j + p.q) e a x apart)

-- ── entries are put ──

-- Inodes and tree are those of before, and each inode is sound and has the blocks that it had
pub record IsPut (V W : View) : Type 0 where
  pub inode : (i : ℕ) → W.inode i ≡ V.inode i
  pub tree : tree_of W ≡ tree_of V
  pub heads : AreInodes W
  pub blocks : (i : ℕ) (g : Held) → V.inode i ≡ used g → (l : ℕ) → block_at W g l ≡ block_at V g l

pub put-none : (V : View) → AreInodes V → IsPut V V
put-none V heads = record { inode = λ i. refl; tree = refl; heads = heads; blocks = λ i g of l. refl }

pub put-then : (U V W : View) → IsPut U V → IsPut V W → IsPut U W
put-then U V W a b = record {
  inode = λ i. b.inode i ∙ a.inode i;
  tree = b.tree ∙ a.tree;
  heads = b.heads;
  blocks = λ i g of l. b.blocks i g (a.inode i ∙ of) l ∙ a.blocks i g of l;
}

-- a position stays one
pub position-put : (V W : View) (d : ℕ) (h : Held) (p : Position) → IsPut V W → V.inode d ≡ used h → IsPosition V h p → IsPosition W h p
position-put V W d h p put is at = record { is = directory-frame V W h h p.j (put.blocks d h is p.j) ∙ at.is; some = at.some; low = at.low }

-- An entry of numbers of 32 bits
abbrev pub IsSmall : Entry → Type 0
IsSmall e = (e.number < 4294967296) × (e.tag < 4294967296)

pub put : (V : View) (d : ℕ) (h : Held) (p : Position) (e : Entry) → AreInodes V → V.inode d ≡ used h → h.kind ≡ Directory → IsPosition V h p → IsPut V (with_put V p.b p.q e)
put V d h p e heads is kind at = record {
  inode = λ i. refl;
  tree = tree-block V d h p heads is at (with_entry (V.block p.b) p.q e) kind;
  heads = inodes-block V d h p heads is at (with_entry (V.block p.b) p.q e) (length-with (V.block p.b) p.q e (position-sized V d h p (heads d h is) at) at.low);
  blocks = blocks-block V d h p heads is at (with_entry (V.block p.b) p.q e);
}

pub entries-put : (V : View) (d : ℕ) (h : Held) (p : Position) (e : Entry) → AreInodes V → V.inode d ≡ used h → h.kind ≡ Directory → IsPosition V h p → IsSmall e
    → entry_at (with_put V p.b p.q e) ≡ with_place (entry_at V) d (place_at p) e
entries-put V d h p e heads is kind at small = entries-block V d h p heads is at e kind small.0 small.1

-- There is none, or the directory has the block of it
abbrev pub IsSomePosition : View → Held → Option Position → Type 0
IsSomePosition V h None = Unit {0}
IsSomePosition V h (Some p) = IsPosition V h p

abbrev pub places : Option Position → Option ℕ
places o = option_map place_at o

pub puts : (V : View) (d : ℕ) (h : Held) (p : Position) (o : Option Position) (e : Entry) → AreInodes V → V.inode d ≡ used h → h.kind ≡ Directory → IsPosition V h p → IsSomePosition V h o
    → IsPut V (with_puts V p o e)
puts V d h p None e heads is kind at more = put V d h p e heads is kind at
puts V d h p (Some q) e heads is kind at more =
    put-then V (with_put V p.b p.q e) (with_puts V p (Some q) e) first
    (put (with_put V p.b p.q e) d h q e first.heads is kind (position-put V (with_put V p.b p.q e) d h q first is more))
  where
    first : IsPut V (with_put V p.b p.q e)
    first = put V d h p e heads is kind at

pub entries-puts : (V : View) (d : ℕ) (h : Held) (p : Position) (o : Option Position) (e : Entry) → AreInodes V → V.inode d ≡ used h → h.kind ≡ Directory → IsPosition V h p → IsSomePosition V h o
    → IsSmall e → entry_at (with_puts V p o e) ≡ with_own (entry_at V) d (place_at p) (places o) e
entries-puts V d h p None e heads is kind at more small = entries-put V d h p e heads is kind at small
entries-puts V d h p (Some q) e heads is kind at more small =
    entries-put (with_put V p.b p.q e) d h q e first.heads is kind (position-put V (with_put V p.b p.q e) d h q first is more) small
    ∙ ap (λ E. with_place E d (place_at q) e) (entries-put V d h p e heads is kind at small)
  where
    first : IsPut V (with_put V p.b p.q e)
    first = put V d h p e heads is kind at
