-- The blocks of an inode, by their places and in parts.
use Rattle.std.proofs.Common.{ℕ, ◌≡◌, ◌≢◌, ◌<◌, ◌≤◌, ◌+◌, ◌-◌, ◌*◌, cond, List, get_or, sym, ap, subst, ◌∙◌, arith}
use Rattle.std.proofs.lemmas.Bool.{eq-eqb, ne_eqb}
use Rattle.journal_treestore.specs.declared.inode.Head.{Head}
use Rattle.journal_treestore.specs.Bytes.{word_at}
use Rattle.journal_treestore.specs.Views.{Held, View, held_of, number_in, index_block, block_at, begin_at}
use Rattle.journal_treestore.proofs.Indexing.{PlaceOf, place_kind, at-direct, at-indexed, at-index, at-leaf, at-none, begin-content, begin-index, begin-leaf}
use Rattle.journal_treestore.proofs.Indexing.PlaceOf.{direct_place, content_place, index_place, leaf_place, no_place}
use Rattle.journal_treerule.specs.Parts.{IsSoundBlock, AreBlocksSound, IsSoundIndexBlock, AreAllSound}

-- ── where a block begins ──

pub begins-early : (p r : ℕ) → p < 2147483648 → r ≡ p → 4096 * r ≡ begin_at p
begins-early p r low is = let e = begin-content p low in omega (arith, e, is)

pub begins-index : (p : ℕ) → p ≡ 2147483648 → 196608 ≡ begin_at p
begins-index p is = sym (ap begin_at is ∙ begin-index)

pub begins-late : (p r : ℕ) → 2147483648 ≤ p → p ≢ 2147483648 → r ≡ p - 2147483649 → 4096 * (48 + 1024 * r) ≡ begin_at p
begins-late p r past other is = sym (ap begin_at (let e : p ≡ 2147483649 + r = omega (arith, past, other, is) in e) ∙ begin-leaf r)

-- ── which blocks there are ──

-- a number in a block of numbers
pub number-is : (V : View) (b k : ℕ) → b ≢ 0 → number_in V b k ≡ word_at (V.block b) (4 * k)
number-is V b k some = ap (λ t. cond t 0 (word_at (V.block b) (4 * k))) (ne_eqb b 0 some)

pub no-number-there : (V : View) (b k : ℕ) → b ≡ 0 → number_in V b k ≡ 0
no-number-there V b k none = ap (λ t. cond t 0 (word_at (V.block b) (4 * k))) (eq-eqb b 0 none)

-- where there is one, there is the block in which it lies
block-there : (V : View) (b k : ℕ) → number_in V b k ≢ 0 → b ≢ 0
block-there V b k some none = some (no-number-there V b k none)

module _ (V : View) (n : ℕ) (head : Head) (name : List ℕ) where
  abbrev h : Held
  h = held_of head name

  -- an index block, by the block of these
  abbrev leaf : ℕ → ℕ
  leaf i = word_at (V.block head.index) (4 * i)

  abbrev sound_at : ℕ → ℕ → Type 0
  sound_at p b = IsSoundBlock V head.size (record { number = n; place = p }) b

  moved : (p q a b : ℕ) → p ≡ q → a ≡ b → sound_at q b → sound_at p a
  moved p q a b place block sound = subst (λ x. sound_at x a) (sym place) (subst (sound_at q) (sym block) sound)

  -- the number of an index block, as it lies in the block of these
  leaf-number : (i : ℕ) → index_block V h i ≢ 0 → index_block V h i ≡ word_at (V.block head.index) (4 * i)
  leaf-number i some = number-is V head.index i (block-there V head.index i some)

  module _ (all : AreAllSound V n head) where
    leaf-sound : (i : ℕ) → i < 1024 → (some : index_block V h i ≢ 0) → IsSoundIndexBlock V n head.size i (word_at (V.block head.index) (4 * i))
    leaf-sound i low some = (all.further (block-there V head.index i some)).blocks i low (λ e. some (leaf-number i some ∙ e))

    sound-content : (i k : ℕ) → i < 1024 → k < 1024 → number_in V (index_block V h i) k ≢ 0 → sound_at (48 + 1024 * i + k) (number_in V (index_block V h i) k)
    sound-content i k low inside some =
        let there = block-there V (index_block V h i) k some in
        let number : number_in V (index_block V h i) k ≡ word_at (V.block (word_at (V.block head.index) (4 * i))) (4 * k)
        = number-is V (index_block V h i) k there ∙ ap (λ b. word_at (V.block b) (4 * k)) (leaf-number i there) in
        subst (sound_at (48 + 1024 * i + k)) (sym number) ((leaf-sound i low there).numbers k inside (λ e. some (number ∙ e)))

    -- each block is sound by its place, where all are in their parts
    pub all-blocks : AreBlocksSound V n head.size (block_at V h)
    all-blocks p some = by (place_kind p)
      where
        by : PlaceOf p → sound_at p (block_at V h p)
        by (direct_place low) = subst (sound_at p) (sym (at-direct V h p low)) (all.first p low (λ e. some (at-direct V h p low ∙ e)))
        by (content_place i k low inside is) =
            let e : block_at V h p ≡ number_in V (index_block V h i) k = ap (block_at V h) is ∙ at-indexed V h i k low inside in
            moved p (48 + 1024 * i + k) (block_at V h p) (number_in V (index_block V h i) k) is e (sound-content i k low inside (λ z. some (e ∙ z)))
        by (index_place is) =
            let e : block_at V h p ≡ head.index = ap (block_at V h) is ∙ at-index V h in
            moved p 2147483648 (block_at V h p) head.index is e (all.further (λ z. some (e ∙ z))).sound
        by (leaf_place i low is) =
            let e : block_at V h p ≡ index_block V h i = ap (block_at V h) is ∙ at-leaf V h i low in
            let there : index_block V h i ≢ 0 = λ z. some (e ∙ z) in
            moved p (2147483649 + i) (block_at V h p) (word_at (V.block head.index) (4 * i)) is (e ∙ leaf-number i there) (leaf-sound i low there).sound
        by (no_place past other far) = absurd (some (at-none V h p past other far))

  -- and the other way round
  module _ (blocks : AreBlocksSound V n head.size (block_at V h)) where
    sound-of : (p b : ℕ) → block_at V h p ≡ b → b ≢ 0 → sound_at p b
    sound-of p b is some = subst (sound_at p) is (blocks p (λ e. some (sym is ∙ e)))

    leaf-in-parts : (index : head.index ≢ 0) (i : ℕ) → i < 1024 → word_at (V.block head.index) (4 * i) ≢ 0 → IsSoundIndexBlock V n head.size i (word_at (V.block head.index) (4 * i))
    leaf-in-parts index i low there = record {
      sound = sound-of (2147483649 + i) (leaf i) (at-leaf V h i low ∙ number-is V head.index i index) there;
      numbers = λ k inside some.
          sound-of (48 + 1024 * i + k) (word_at (V.block (leaf i)) (4 * k))
          (at-indexed V h i k low inside ∙ ap (λ b. number_in V b k) (number-is V head.index i index) ∙ number-is V (leaf i) k there) some;
    }

    pub in-parts : AreAllSound V n head
    in-parts = record {
      first = λ j low some. sound-of j (get_or head.blocks j 0) (at-direct V h j low) some;
      further = λ index. record { sound = sound-of 2147483648 head.index (at-index V h) index; blocks = leaf-in-parts index };
    }
