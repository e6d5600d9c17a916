-- The blocks of an inode, by their places.
use Rattle.std.proofs.Common.{◌≡◌, ◌≢◌, ℕ, zero, suc, ◌++◌, ◌+◌, ◌-◌, ◌*◌, ◌/◌, ◌%◌, ◌<◌, ◌≤◌, ◌&&◌, Bool, false, cond, eqb, List, length, refl, sym, ap, subst, ◌⊎◌, inl, inr, ◌∙◌, arith}
use Rattle.std.specs.Prelude.{nat_lt, nat_le}
use Rattle.std.proofs.lemmas.Bool.{cases_eq, cases_lt, eq-eqb, ne_eqb, lt-ltb, le-ltb, le-leb, lt-leb, and_from, and_left, and_right}
use Rattle.journal_tree.specs.declared.reply.Kind.TheVariants.{Directory}
use Rattle.journal_treestore.specs.declared.inode.Head.{Head}
use Rattle.journal_treestore.specs.Bytes.{word_at}
use Rattle.journal_treestore.specs.Views.{Held, Seen, View, held_of, with_inode, with_block, zero_block, bytes_in, bytes_of, number_in, index_block, block_at, begin_at, directory_block}
use Rattle.journal_treestore.specs.Sound.{IsSoundInode}

-- ── at each kind of place ──

-- The kind of a place
pub data PlaceOf (p : ℕ) : Type 0 where
  direct_place : p < 48 → PlaceOf p
  content_place : (i k : ℕ) → i < 1024 → k < 1024 → p ≡ 48 + 1024 * i + k → PlaceOf p
  index_place : p ≡ 2147483648 → PlaceOf p
  leaf_place : (i : ℕ) → i < 1024 → p ≡ 2147483649 + i → PlaceOf p
  no_place : 1048624 ≤ p → p ≢ 2147483648 → (p < 2147483649) ⊎ (2147484673 ≤ p) → PlaceOf p

pub place_kind : (p : ℕ) → PlaceOf p
place_kind p = by (cases_lt p 48) (cases_lt p 1048624) (cases_eq p 2147483648) (cases_lt p 2147483649) (cases_lt p 2147484673)
  where
    by : (p < 48) ⊎ (48 ≤ p) → (p < 1048624) ⊎ (1048624 ≤ p) → (p ≡ 2147483648) ⊎ (p ≡ 2147483648 → ⊥) → (p < 2147483649) ⊎ (2147483649 ≤ p) → (p < 2147484673) ⊎ (2147484673 ≤ p) → PlaceOf p
    by (inl low) _ _ _ _ = PlaceOf.direct_place low
    by (inr past) (inl low) _ _ _ = PlaceOf.content_place ((p - 48) / 1024) ((p - 48) % 1024) (omega (arith, past, low)) (omega arith) (omega (arith, past))
    by _ (inr past) (inl is) _ _ = PlaceOf.index_place is
    by _ (inr past) (inr other) (inl low) _ = PlaceOf.no_place past other (inl low)
    by _ (inr past) (inr other) (inr high) (inl low) = PlaceOf.leaf_place (p - 2147483649) (omega (arith, high, low)) (omega (arith, high))
    by _ (inr past) (inr other) (inr high) (inr far) = PlaceOf.no_place past other (inr far)

module _ (V : View) (h : Held) where
  -- what a place has, by the tests of its definition
  abbrev leaf_by : Bool → ℕ → ℕ
  leaf_by c p = cond c (index_block V h (p - 2147483649)) 0

  abbrev index_by : Bool → Bool → ℕ → ℕ
  index_by b c p = cond b h.index (leaf_by c p)

  abbrev indexed_by : Bool → Bool → Bool → ℕ → ℕ
  indexed_by a b c p = cond a (number_in V (index_block V h ((p - 48) / 1024)) ((p - 48) % 1024)) (index_by b c p)

  abbrev is_leaf : ℕ → Bool
  is_leaf p = nat_le 2147483649 p && nat_lt p (2147483649 + 1024)

  tests : (p : ℕ) → block_at V h p ≡ cond (nat_lt p 48) (h.blocks p) (indexed_by (nat_lt p 1048624) (eqb p 2147483648) (is_leaf p) p)
  unfolding block_at
  tests p = refl

  -- one of the first blocks
  pub at-direct : (j : ℕ) → j < 48 → block_at V h j ≡ h.blocks j
  at-direct j low = tests j ∙ ap (λ t. cond t (h.blocks j) (indexed_by (nat_lt j 1048624) (eqb j 2147483648) (is_leaf j) j)) (lt-ltb j 48 low)

  past-direct : (p : ℕ) → 48 ≤ p → block_at V h p ≡ indexed_by (nat_lt p 1048624) (eqb p 2147483648) (is_leaf p) p
  past-direct p past = tests p ∙ ap (λ t. cond t (h.blocks p) (indexed_by (nat_lt p 1048624) (eqb p 2147483648) (is_leaf p) p)) (le-ltb p 48 past)

  past-indexed : (p : ℕ) → 1048624 ≤ p → block_at V h p ≡ index_by (eqb p 2147483648) (is_leaf p) p
  past-indexed p past = past-direct p (omega (arith, past)) ∙ ap (λ t. indexed_by t (eqb p 2147483648) (is_leaf p) p) (le-ltb p 1048624 past)

  past-index : (p : ℕ) → 1048624 ≤ p → p ≢ 2147483648 → block_at V h p ≡ leaf_by (is_leaf p) p
  past-index p past other = past-indexed p past ∙ ap (λ t. index_by t (is_leaf p) p) (ne_eqb p 2147483648 other)

  -- one whose number lies in an index block
  pub at-content : (p : ℕ) → 48 ≤ p → p < 1048624 → block_at V h p ≡ number_in V (index_block V h ((p - 48) / 1024)) ((p - 48) % 1024)
  at-content p past low = past-direct p past ∙ ap (λ t. indexed_by t (eqb p 2147483648) (is_leaf p) p) (lt-ltb p 1048624 low)

  pub at-indexed : (i k : ℕ) → i < 1024 → k < 1024 → block_at V h (48 + 1024 * i + k) ≡ number_in V (index_block V h i) k
  at-indexed i k low inside =
      at-content (48 + 1024 * i + k) (omega arith) (omega (arith, low, inside))
      ∙ ap (λ n. number_in V (index_block V h n) ((48 + 1024 * i + k - 48) % 1024)) (let e : (48 + 1024 * i + k - 48) / 1024 ≡ i = omega (arith, inside) in e)
      ∙ ap (number_in V (index_block V h i)) (let e : (48 + 1024 * i + k - 48) % 1024 ≡ k = omega (arith, inside) in e)

  -- the block with the numbers of the index blocks
  pub at-index : block_at V h 2147483648 ≡ h.index
  at-index = past-indexed 2147483648 (omega arith) ∙ ap (λ t. index_by t (is_leaf 2147483648) 2147483648) (eq-eqb 2147483648 2147483648 refl)

  -- an index block
  pub at-leaf : (i : ℕ) → i < 1024 → block_at V h (2147483649 + i) ≡ index_block V h i
  at-leaf i low =
      past-index (2147483649 + i) (omega arith) (λ e. absurd (omega (arith, e)))
      ∙ ap (λ t. leaf_by t (2147483649 + i))
      (and_from (nat_le 2147483649 (2147483649 + i)) (nat_lt (2147483649 + i) (2147483649 + 1024)) (le-leb 2147483649 (2147483649 + i) (omega arith)) (lt-ltb (2147483649 + i) (2147483649 + 1024) (omega (arith, low))))
      ∙ ap (index_block V h) (let e : 2147483649 + i - 2147483649 ≡ i = omega arith in e)

  -- and nothing elsewhere
  pub at-none : (p : ℕ) → 1048624 ≤ p → p ≢ 2147483648 → (p < 2147483649) ⊎ (2147484673 ≤ p) → block_at V h p ≡ 0
  at-none p past other (inl low) =
      past-index p past other
      ∙ ap (λ t. leaf_by t p) (and_left (nat_le 2147483649 p) (nat_lt p (2147483649 + 1024)) (lt-leb 2147483649 p low))
  at-none p past other (inr far) =
      past-index p past other
      ∙ ap (λ t. leaf_by t p) (and_right (nat_le 2147483649 p) (nat_lt p (2147483649 + 1024)) (le-ltb p (2147483649 + 1024) (omega (arith, far))))

  -- an inode without index blocks has its first blocks alone
  pub no-index : h.index ≡ 0 → ((j : ℕ) → 48 ≤ j → h.blocks j ≡ 0) → (p : ℕ) → block_at V h p ≡ h.blocks p
  no-index none first p = by (place_kind p)
    where
      no_leaf : (i : ℕ) → index_block V h i ≡ 0
      no_leaf i = ap (λ t. cond t 0 (word_at (V.block h.index) (4 * i))) (eq-eqb h.index 0 none)

      by : PlaceOf p → block_at V h p ≡ h.blocks p
      by (PlaceOf.direct_place low) = at-direct p low
      by (PlaceOf.content_place i k low inside is) =
          ap (block_at V h) is
          ∙ at-indexed i k low inside
          ∙ ap (λ b. cond (eqb b 0) 0 (word_at (V.block b) (4 * k))) (no_leaf i)
          ∙ sym (first p (omega (arith, is)))
      by (PlaceOf.index_place is) = ap (block_at V h) is ∙ at-index ∙ none ∙ sym (first p (omega (arith, is)))
      by (PlaceOf.leaf_place i low is) = ap (block_at V h) is ∙ at-leaf i low ∙ no_leaf i ∙ sym (first p (omega (arith, is)))
      by (PlaceOf.no_place past other far) = at-none p past other far ∙ sym (first p (omega (arith, past)))

-- ── where a block begins ──

abbrev begin_by : Bool → Bool → ℕ → ℕ
begin_by a b p = cond a (4096 * p) (cond b (4096 * 48) (4096 * (48 + 1024 * (p - 2147483649))))

begin-tests : (p : ℕ) → begin_at p ≡ begin_by (nat_lt p 2147483648) (eqb p 2147483648) p
unfolding begin_at
begin-tests p = refl

pub begin-content : (p : ℕ) → p < 2147483648 → begin_at p ≡ 4096 * p
begin-content p low = begin-tests p ∙ ap (λ t. begin_by t (eqb p 2147483648) p) (lt-ltb p 2147483648 low)

pub begin-index : begin_at 2147483648 ≡ 196608
begin-index =
    begin-tests 2147483648
    ∙ ap (λ t. begin_by t (eqb 2147483648 2147483648) 2147483648) (le-ltb 2147483648 2147483648 (omega arith))
    ∙ ap (λ t. begin_by false t 2147483648) (eq-eqb 2147483648 2147483648 refl)

pub begin-leaf : (i : ℕ) → begin_at (2147483649 + i) ≡ 4096 * (48 + 1024 * i)
begin-leaf i =
    begin-tests (2147483649 + i)
    ∙ ap (λ t. begin_by t (eqb (2147483649 + i) 2147483648) (2147483649 + i)) (le-ltb (2147483649 + i) 2147483648 (omega arith))
    ∙ ap (λ t. begin_by false t (2147483649 + i)) (ne_eqb (2147483649 + i) 2147483648 (λ e. absurd (omega (arith, e))))
    ∙ ap (λ n. 4096 * (48 + 1024 * n)) (let e : 2147483649 + i - 2147483649 ≡ i = omega arith in e)

-- no first block lies after the size
pub first-after : (V : View) (n : ℕ) (h : Held) → IsSoundInode V n h → (j : ℕ) → h.size ≤ 4096 * j → h.blocks j ≡ 0
first-after V n h s j far = by (cases_lt j 48)
  where
    by : (j < 48) ⊎ (48 ≤ j) → h.blocks j ≡ 0
    by (inl low) = sym (at-direct V h j low) ∙ s.after j (subst (λ b. h.size ≤ b) (sym (begin-content j (omega (arith, low)))) far)
    by (inr past) = s.first j past

-- a block of a directory is one of its first, or one whose number lies in index block 0
pub directory-first : (V : View) (h : Held) (j : ℕ) → j < 48 → directory_block V h j ≡ h.blocks j
directory-first V h j low = ap (λ t. cond t (block_at V h j) 0) (lt-ltb j 388 (omega (arith, low))) ∙ at-direct V h j low

pub directory-level : (V : View) (h : Held) (j : ℕ) → 48 ≤ j → j < 388 → directory_block V h j ≡ number_in V (index_block V h 0) (j - 48)
directory-level V h j past low =
    ap (λ t. cond t (block_at V h j) 0) (lt-ltb j 388 low)
    ∙ at-content V h j past (omega (arith, low))
    ∙ ap (λ i. number_in V (index_block V h i) ((j - 48) % 1024)) (let e : (j - 48) / 1024 ≡ 0 = omega (arith, past, low) in e)
    ∙ ap (number_in V (index_block V h 0)) (let e : (j - 48) % 1024 ≡ j - 48 = omega (arith, past, low) in e)

-- nor does a block of a directory lie after the size
pub directory-after : (V : View) (n : ℕ) (h : Held) → IsSoundInode V n h → (j : ℕ) → h.size ≤ 4096 * j → directory_block V h j ≡ 0
directory-after V n h s j far = by (cases_lt j 388)
  where
    by : (j < 388) ⊎ (388 ≤ j) → directory_block V h j ≡ 0
    by (inl low) =
        ap (λ t. cond t (block_at V h j) 0) (lt-ltb j 388 low)
        ∙ s.after j (subst (λ b. h.size ≤ b) (sym (begin-content j (omega (arith, low)))) far)
    by (inr past) = ap (λ t. cond t (block_at V h j) 0) (le-ltb j 388 past)

-- an inode that has no index blocks is sound by its first blocks
pub plain-sound : (V : View) (n : ℕ) (h : Held) → h.index ≡ 0 → ((j : ℕ) → 48 ≤ j → h.blocks j ≡ 0)
    → ((j : ℕ) → h.blocks j ≢ 0 → V.owner (h.blocks j) ≡ record { number = n; place = j })
    → ((j : ℕ) → h.blocks j ≢ 0 → (V.first_data ≤ h.blocks j) × (h.blocks j < V.first_data + V.data_blocks))
    → ((j : ℕ) → h.size ≤ 4096 * j → h.blocks j ≡ 0)
    → ((j : ℕ) → h.blocks j ≢ 0 → length (V.block (h.blocks j)) ≡ 4096)
    → (h.kind ≡ Directory → (blocks : ℕ) × (h.size ≡ 4096 * blocks))
    → IsSoundInode V n h
plain-sound V n h none first owned there after sized whole = record {
  owned = λ p some. subst (λ b. V.owner b ≡ record { number = n; place = p }) (sym (is p)) (owned p (was p some));
  there = λ p some. subst (λ b. (V.first_data ≤ b) × (b < V.first_data + V.data_blocks)) (sym (is p)) (there p (was p some));
  after = λ p far. is p ∙ behind p far (cases_lt p 48);
  sized = λ p some. subst (λ b. length (V.block b) ≡ 4096) (sym (is p)) (sized p (was p some));
  whole = whole;
  first = first;
}
  where
    is : (p : ℕ) → block_at V h p ≡ h.blocks p
    is p = no-index V h none first p

    was : (p : ℕ) → block_at V h p ≢ 0 → h.blocks p ≢ 0
    was p some e = some (is p ∙ e)

    behind : (p : ℕ) → h.size ≤ begin_at p → (p < 48) ⊎ (48 ≤ p) → h.blocks p ≡ 0
    behind p far (inl low) = after p (subst (λ b. h.size ≤ b) (begin-content p (omega (arith, low))) far)
    behind p far (inr past) = first p past

-- ── what changes nothing ──

-- the same numbers, whatever else is in the inode
pub same-blocks : (V : View) (g h : Held) → g.blocks ≡ h.blocks → g.index ≡ h.index → (p : ℕ) → block_at V g p ≡ block_at V h p
unfolding block_at
same-blocks V g h blocks index p = λ z. block_at V (record { generation = h.generation; attributes = h.attributes; home = h.home; kind = h.kind; size = h.size; blocks = blocks z; index = index z }) p

-- any name
pub same-named : (V : View) (h : Head) (a b : List ℕ) (p : ℕ) → block_at V (held_of h a) p ≡ block_at V (held_of h b) p
unfolding block_at
same-named V h a b p = refl

-- inodes and records
pub with_inode-blocks : (V : View) (n : ℕ) (x : Seen) (h : Held) → block_at (with_inode V n x) h ≡ block_at V h
unfolding block_at
with_inode-blocks V n x h = refl

-- the same bytes in each of its index blocks
module _ (V W : View) (h : Held) (same : (p : ℕ) → 2147483648 ≤ p → block_at V h p ≢ 0 → W.block (block_at V h p) ≡ V.block (block_at V h p)) where
  index_block-frame : (i : ℕ) → index_block W h i ≡ index_block V h i
  index_block-frame i = by (cases_eq h.index 0)
    where
      by : (h.index ≡ 0) ⊎ (h.index ≡ 0 → ⊥) → index_block W h i ≡ index_block V h i
      by (inl none) =
          ap (λ t. cond t 0 (word_at (W.block h.index) (4 * i))) (eq-eqb h.index 0 none)
          ∙ sym (ap (λ t. cond t 0 (word_at (V.block h.index) (4 * i))) (eq-eqb h.index 0 none))
      by (inr some) = ap (λ v. cond (eqb h.index 0) 0 (word_at v (4 * i))) (
          ap W.block (sym (at-index V h))
          ∙ same 2147483648 (omega arith) (λ e. some (sym (at-index V h) ∙ e))
          ∙ ap V.block (at-index V h))

  indexed-frame : (i k : ℕ) → i < 1024 → number_in W (index_block W h i) k ≡ number_in V (index_block V h i) k
  indexed-frame i k low = ap (λ b. number_in W b k) (index_block-frame i) ∙ by (cases_eq (index_block V h i) 0)
    where
      by : (index_block V h i ≡ 0) ⊎ (index_block V h i ≡ 0 → ⊥) → number_in W (index_block V h i) k ≡ number_in V (index_block V h i) k
      by (inl none) =
          ap (λ b. number_in W b k) none ∙ sym (ap (λ b. number_in V b k) none)
      by (inr some) = ap (λ v. cond (eqb (index_block V h i) 0) 0 (word_at v (4 * k))) (
          ap W.block (sym (at-leaf V h i low))
          ∙ same (2147483649 + i) (omega arith) (λ e. some (sym (at-leaf V h i low) ∙ e))
          ∙ ap V.block (at-leaf V h i low))

  pub block_at-frame : (p : ℕ) → block_at W h p ≡ block_at V h p
  block_at-frame p = by (place_kind p)
    where
      by : PlaceOf p → block_at W h p ≡ block_at V h p
      by (PlaceOf.direct_place low) = at-direct W h p low ∙ sym (at-direct V h p low)
      by (PlaceOf.content_place i k low inside is) =
          ap (block_at W h) is
          ∙ at-indexed W h i k low inside
          ∙ indexed-frame i k low
          ∙ sym (ap (block_at V h) is ∙ at-indexed V h i k low inside)
      by (PlaceOf.index_place is) = ap (block_at W h) is ∙ at-index W h ∙ sym (ap (block_at V h) is ∙ at-index V h)
      by (PlaceOf.leaf_place i low is) =
          ap (block_at W h) is
          ∙ at-leaf W h i low
          ∙ index_block-frame i
          ∙ sym (ap (block_at V h) is ∙ at-leaf V h i low)
      by (PlaceOf.no_place past other far) = at-none W h p past other far ∙ sym (at-none V h p past other far)

-- a block that is none of its index blocks
pub with_block-blocks : (V : View) (b : ℕ) (v : List ℕ) (h : Held) → ((p : ℕ) → 2147483648 ≤ p → block_at V h p ≢ 0 → block_at V h p ≢ b) → (p : ℕ) → block_at (with_block V b v) h p ≡ block_at V h p
with_block-blocks V b v h apart p = block_at-frame V (with_block V b v) h (λ p high some. ap (λ t. cond t v (V.block (block_at V h p))) (ne_eqb (block_at V h p) b (apart p high some))) p

-- ── what lies in the blocks, and their records ──

-- the same bytes in each block
pub bytes_of-frame : (V W : View) (f g : ℕ → ℕ) → ((j : ℕ) → bytes_in W (f j) ≡ bytes_in V (g j)) → (k : ℕ) → bytes_of W f k ≡ bytes_of V g k
bytes_of-frame V W f g same zero = refl
bytes_of-frame V W f g same (suc k) =
    ap (λ v. v ++ bytes_in W (f k)) (bytes_of-frame V W f g same k)
    ∙ ap (λ v. bytes_of V g k ++ v) (same k)

-- a block with the same bytes, if it is one
pub bytes_in-frame : (V W : View) (b c : ℕ) → c ≡ b → (b ≢ 0 → W.block b ≡ V.block b) → bytes_in W c ≡ bytes_in V b
bytes_in-frame V W b c is same = ap (bytes_in W) is ∙ by (cases_eq b 0)
  where
    by : (b ≡ 0) ⊎ (b ≡ 0 → ⊥) → bytes_in W b ≡ bytes_in V b
    by (inl none) = ap (bytes_in W) none ∙ sym (ap (bytes_in V) none)
    by (inr some) = ap (λ v. cond (eqb b 0) zero_block v) (same some)

-- an inode is as sound as before with the same blocks, their records and their sizes
pub sound-frame : (V W : View) (n : ℕ) (h : Held) → W.first_data ≡ V.first_data → W.data_blocks ≡ V.data_blocks → ((p : ℕ) → block_at W h p ≡ block_at V h p)
    → ((p : ℕ) → block_at V h p ≢ 0 → W.owner (block_at V h p) ≡ V.owner (block_at V h p))
    → ((p : ℕ) → block_at V h p ≢ 0 → length (W.block (block_at V h p)) ≡ 4096)
    → IsSoundInode V n h → IsSoundInode W n h
sound-frame V W n h first_data data_blocks is owners sizes s = record {
  owned = λ p some. subst (λ b. W.owner b ≡ record { number = n; place = p }) (sym (is p)) (owners p (was p some) ∙ s.owned p (was p some));
  there = λ p some. subst (λ b. (W.first_data ≤ b) × (b < W.first_data + W.data_blocks)) (sym (is p)) (
      subst (λ f. (f ≤ block_at V h p) × (block_at V h p < f + W.data_blocks)) (sym first_data) (
      subst (λ d. (V.first_data ≤ block_at V h p) × (block_at V h p < V.first_data + d)) (sym data_blocks) (s.there p (was p some))));
  after = λ p far. is p ∙ s.after p far;
  sized = λ p some. subst (λ b. length (W.block b) ≡ 4096) (sym (is p)) (sizes p (was p some));
  whole = s.whole;
  first = s.first;
}
  where
    was : (p : ℕ) → block_at W h p ≢ 0 → block_at V h p ≢ 0
    was p some e = some (is p ∙ e)
