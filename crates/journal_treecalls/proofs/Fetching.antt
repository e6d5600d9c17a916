-- Bytes of a file are put, block by block.
use Rattle.std.proofs.Common.{◌≡◌, ◌≢◌, ℕ, zero, suc, ◌+◌, ◌-◌, ◌*◌, ◌/◌, ◌%◌, ◌<◌, ◌≤◌, max, min, Bool, true, false, not, cond, List, [], ◌++◌, length, take, drop, get_or, replicate, refl, sym, ap, subst, ◌⊎◌, inl, inr, ◌∙◌, arith, length-append}
use Rattle.std.specs.Prelude.{nat_lt, slice_range}
use Rattle.std.proofs.lemmas.Bool.{cases_eq, cases_lt, lt-ltb, ltb-true, ne_eqb, and_from, and_parts, not_from_false, false≢true}
use Rattle.std.proofs.lemmas.List.{length-take-le, length-drop, get_or_append_left, get_or-append_right, get_or-take, get_or-drop}
use Rattle.journal_treestore.specs.Bytes.{with_piece}
use Rattle.journal_treestore.specs.declared.inode.Head.{Head}
use Rattle.journal_treestore.specs.Views.{View, held_of, number_in, bytes_in}
use Rattle.journal_treestore.proofs.Indexing.{at-direct, at-indexed}
use Rattle.journal_treecalls.specs.declared.fetch.Span.{Span}
use Rattle.journal_treecalls.specs.Disks.{Learns}
use Rattle.journal_treecalls.specs.Fetches.{file_blocks, file_index, number_at, leaf_begin, first_block, last_block, first_leaf, last_leaf, IsBlank, is_in, is_whole, is_needed, Fills, FillsBlock, FillsBlocks, IsFetched}
use Rattle.journal_treecalls.proofs.Learning.{learns-as, learns-then, learns-both}
use Rattle.journal_treecalls.proofs.Holding.{in-some, in-none}

-- ── a piece over bytes, byte by byte ──

module _ (old : List ℕ) (at : ℕ) (piece : List ℕ) (fits : at + length piece ≤ length old) where
  front-long : length (take at old) ≡ at
  front-long = length-take-le at old (omega (arith, fits))

  both-long : length (take at old ++ piece) ≡ at + length piece
  both-long = length-append (take at old) piece ∙ ap (λ n. n + length piece) front-long

  pub length-put : length (with_piece old at piece) ≡ length old
  length-put =
      length-append (take at old ++ piece) (drop (at + length piece) old)
      ∙ (let a = both-long in let b = length-drop (at + length piece) old in omega (arith, a, b, fits))

  pub put-before : (k : ℕ) → k < at → get_or (with_piece old at piece) k 0 ≡ get_or old k 0
  put-before k low =
      get_or_append_left (take at old ++ piece) (drop (at + length piece) old) 0 k (let b = both-long in omega (arith, b, low))
      ∙ get_or_append_left (take at old) piece 0 k (let f = front-long in omega (arith, f, low))
      ∙ get_or-take at old k 0 low

  pub put-inside : (k : ℕ) → at ≤ k → k < at + length piece → get_or (with_piece old at piece) k 0 ≡ get_or piece (k - at) 0
  put-inside k past low =
      get_or_append_left (take at old ++ piece) (drop (at + length piece) old) 0 k (let b = both-long in omega (arith, b, low))
      ∙ get_or-append_right (take at old) piece at k 0 front-long past

  pub put-after : (k : ℕ) → at + length piece ≤ k → get_or (with_piece old at piece) k 0 ≡ get_or old k 0
  put-after k past =
      get_or-append_right (take at old ++ piece) (drop (at + length piece) old) (at + length piece) k 0 both-long past
      ∙ get_or-drop (at + length piece) old (k - (at + length piece)) 0
      ∙ ap (λ i. get_or old i 0) (let e : at + length piece + (k - (at + length piece)) ≡ k = omega (arith, past) in e)

-- bytes from one place to another
pub range-long : (v : List ℕ) (a b : ℕ) → b ≤ length v → length (slice_range v a b) ≡ b - a
range-long v a b fits = length-take-le (b - a) (drop a v) (let d = length-drop a v in omega (arith, d, fits))

pub range-at : (v : List ℕ) (a b k : ℕ) → k < b - a → get_or (slice_range v a b) k 0 ≡ get_or v (a + k) 0
range-at v a b k low = get_or-take (b - a) (drop a v) k 0 low ∙ get_or-drop a v k 0

-- ── one block ──

module _ (v old new : List ℕ) (j offset from to : ℕ) (long : length v ≡ 4096) (before : 4096 * j < offset + length old) (after : offset < 4096 * (j + 1))
    (from_is : from ≡ max (4096 * j) offset) (to_is : to ≡ min (offset + length old) (4096 * j + 4096)) (is : new ≡ with_piece old (from - offset) (slice_range v (from - 4096 * j) (to - 4096 * j))) where
  abbrev piece : List ℕ
  piece = slice_range v (from - 4096 * j) (to - 4096 * j)

  piece-long : length (slice_range v (from - 4096 * j) (to - 4096 * j)) ≡ to - from
  piece-long = range-long v (from - 4096 * j) (to - 4096 * j) (omega (arith, long, to_is)) ∙ omega (arith, from_is, to_is, before, after)

  fits : from - offset + length (slice_range v (from - 4096 * j) (to - 4096 * j)) ≤ length old
  fits = let l = piece-long in omega (arith, l, from_is, to_is, before, after)

  here : (k : ℕ) → k < length old → (offset + k) / 4096 ≡ j → get_or new k 0 ≡ get_or v ((offset + k) % 4096) 0
  here k low same =
      ap (λ w. get_or w k 0) is
      ∙ put-inside old (from - offset) piece fits k (omega (arith, from_is, low, same)) (let l = piece-long in omega (arith, l, from_is, to_is, low, same))
      ∙ range-at v (from - 4096 * j) (to - 4096 * j) (k - (from - offset)) (omega (arith, from_is, to_is, low, same))
      ∙ ap (λ i. get_or v i 0) (let e : from - 4096 * j + (k - (from - offset)) ≡ (offset + k) % 4096 = omega (arith, from_is, low, same) in e)

  others : (k : ℕ) → k < length old → (offset + k) / 4096 ≢ j → get_or new k 0 ≡ get_or old k 0
  others k low other = ap (λ w. get_or w k 0) is ∙ by (cases_lt (offset + k) (4096 * j)) (cases_lt (offset + k) (4096 * j + 4096))
    where
      by : (offset + k < 4096 * j) ⊎ (4096 * j ≤ offset + k) → (offset + k < 4096 * j + 4096) ⊎ (4096 * j + 4096 ≤ offset + k) → get_or (with_piece old (from - offset) piece) k 0 ≡ get_or old k 0
      by (inl less) _ = put-before old (from - offset) piece fits k (omega (arith, from_is, less))
      by (inr more) (inl less) = absurd (other (let e : (offset + k) / 4096 ≡ j = omega (arith, more, less) in e))
      by (inr more) (inr past) = put-after old (from - offset) piece fits k (let l = piece-long in omega (arith, l, from_is, to_is, before, after, past))

  pub fills-put : Fills v j offset old new
  fills-put = record { long = ap length is ∙ length-put old (from - offset) piece fits; here = here; others = others }

-- whether a block is needed
pub needed-parts : (but : Span) (from to j : ℕ) → is_needed but from to j ≡ true → (4096 * j < to) × (from < 4096 * (j + 1))
needed-parts but from to j is =
    let a = and_parts (is_in from to j) (not (is_whole but j)) is in
    let b = and_parts (nat_lt (4096 * j) to) (nat_lt from (4096 * (j + 1))) a.0 in
    (ltb-true (4096 * j) to b.0, ltb-true from (4096 * (j + 1)) b.1)

unneeded : (but : Span) (from to j : ℕ) → is_needed but from to j ≡ false → is_whole but j ≡ false → 4096 * j < to → from < 4096 * (j + 1) → ⊥
unneeded but from to j not_needed not_whole before after = false≢true (sym not_needed ∙ and_from (is_in from to j) (not (is_whole but j))
    (and_from (nat_lt (4096 * j) to) (nat_lt from (4096 * (j + 1))) (lt-ltb (4096 * j) to before) (lt-ltb from (4096 * (j + 1)) after))
    (not_from_false (is_whole but j) not_whole))

pub block-none : (may : View → Type 0) (b : ℕ) (whole : Bool) (j offset : ℕ) (bytes : List ℕ) → b ≡ 0 → Learns may may (λ V. FillsBlock V b whole j offset bytes bytes)
block-none may b whole j offset bytes none = record {
  before = λ V m. m;
  now = λ V m. record {
    long = refl;
    here = λ k low same not_whole blank. blank ∙ sym (in-none V b ((offset + k) % 4096) none (omega arith));
    others = λ k low other. refl;
  };
}

pub block-unneeded : (may : View → Type 0) (b : ℕ) (but : Span) (j offset to : ℕ) (bytes : List ℕ) → to ≡ offset + length bytes → is_needed but offset to j ≡ false → Learns may may (λ V. FillsBlock V b (is_whole but j) j offset bytes bytes)
block-unneeded may b but j offset to bytes to_is not_needed = record {
  before = λ V m. m;
  now = λ V m. record {
    long = refl;
    here = λ k low same not_whole blank. absurd (unneeded but offset to j not_needed not_whole (omega (arith, to_is, low, same)) (omega (arith, low, same)));
    others = λ k low other. refl;
  };
}

pub block-filled : (old new : View → Type 0) (b : ℕ) (whole : Bool) (j offset : ℕ) (v w bytes more : List ℕ) → Learns old new (λ V. V.block b ≡ v) → w ≡ v → b ≢ 0 → Fills w j offset bytes more → Learns old new (λ V. FillsBlock V b whole j offset bytes more)
block-filled old new b whole j offset v w bytes more l same some f = learns-as old new _ _ l (λ V m block. record {
  long = f.long;
  here = λ k low at not_whole blank. f.here k low at ∙ sym (in-some V b ((offset + k) % 4096) some ∙ ap (λ x. get_or x ((offset + k) % 4096) 0) (block ∙ sym same));
  others = f.others;
})

-- ── block after block ──

-- where no byte lies in the blocks, none is put
pub fills-none : (may : View → Type 0) (blocks : ℕ → ℕ) (but : Span) (from to offset : ℕ) (bytes : List ℕ) → ((k : ℕ) → k < length bytes → from ≤ (offset + k) / 4096 → (offset + k) / 4096 < to → ⊥)
    → Learns may may (λ V. FillsBlocks V blocks but from to offset bytes bytes)
fills-none may blocks but from to offset bytes none = record {
  before = λ V m. m;
  now = λ V m. record { long = refl; here = λ k low past before not_whole blank. absurd (none k low past before); others = λ k low out. refl };
}

fills-next : (V : View) (blocks : ℕ → ℕ) (but : Span) (from j offset : ℕ) (old bytes more : List ℕ) → FillsBlocks V blocks but from j offset old bytes → FillsBlock V (blocks j) (is_whole but j) j offset bytes more → from ≤ j
    → FillsBlocks V blocks but from (j + 1) offset old more
fills-next V blocks but from j offset old bytes more f b order = record {
  long = b.long ∙ f.long;
  here = λ k low past before not_whole blank. here k low past before not_whole blank (cases_eq ((offset + k) / 4096) j);
  others = others;
}
  where
    within : (k : ℕ) → k < length old → k < length bytes
    within k low = let l = f.long in omega (arith, l, low)

    here : (k : ℕ) → k < length old → from ≤ (offset + k) / 4096 → (offset + k) / 4096 < j + 1 → is_whole but ((offset + k) / 4096) ≡ false → get_or old k 0 ≡ 0
        → ((offset + k) / 4096 ≡ j) ⊎ ((offset + k) / 4096 ≡ j → ⊥) → get_or more k 0 ≡ get_or (bytes_in V (blocks ((offset + k) / 4096))) ((offset + k) % 4096) 0
    here k low past before not_whole blank (inl same) =
        b.here k (within k low) same (ap (is_whole but) (sym same) ∙ not_whole) (f.others k low (inr (omega (arith, same))) ∙ blank)
        ∙ ap (λ j. get_or (bytes_in V (blocks j)) ((offset + k) % 4096) 0) (sym same)
    here k low past before not_whole blank (inr other) = b.others k (within k low) other ∙ f.here k low past (omega (arith, before, other)) not_whole blank

    others : (k : ℕ) → k < length old → ((offset + k) / 4096 < from) ⊎ (j + 1 ≤ (offset + k) / 4096) → get_or more k 0 ≡ get_or old k 0
    others k low (inl less) = b.others k (within k low) (λ e. absurd (omega (arith, e, less, order))) ∙ f.others k low (inl less)
    others k low (inr more) = b.others k (within k low) (λ e. absurd (omega (arith, e, more))) ∙ f.others k low (inr (omega (arith, more)))

pub fills-more : (first old new : View → Type 0) (blocks : ℕ → ℕ) (but : Span) (from j offset : ℕ) (start bytes more : List ℕ) → from ≤ j → Learns first old (λ V. FillsBlocks V blocks but from j offset start bytes)
    → Learns old new (λ V. FillsBlock V (blocks j) (is_whole but j) j offset bytes more) → Learns first new (λ V. FillsBlocks V blocks but from (j + 1) offset start more)
fills-more first old new blocks but from j offset start bytes more order l k = learns-then first old new _ _ l k _ (λ V m f b. fills-next V blocks but from j offset start bytes more f b order)

-- the block has this number
pub fills-named : (first old new : View → Type 0) (blocks : ℕ → ℕ) (but : Span) (from j offset number : ℕ) (start bytes more : List ℕ) → from ≤ j → number ≡ blocks j → Learns first old (λ V. FillsBlocks V blocks but from j offset start bytes)
    → Learns old new (λ V. FillsBlock V number (is_whole but j) j offset bytes more) → Learns first new (λ V. FillsBlocks V blocks but from (j + 1) offset start more)
fills-named first old new blocks but from j offset number start bytes more order same l k = fills-more first old new blocks but from j offset start bytes more order l (learns-as old new _ _ k (λ V m f. subst (λ b. FillsBlock V b (is_whole but j) j offset bytes more) same f))

-- none lies in the blocks that are left
pub fills-end : (first old : View → Type 0) (blocks : ℕ → ℕ) (but : Span) (from j to offset : ℕ) (start bytes : List ℕ) → j ≤ to → ((k : ℕ) → k < length start → j ≤ (offset + k) / 4096 → (offset + k) / 4096 < to → ⊥)
    → Learns first old (λ V. FillsBlocks V blocks but from j offset start bytes) → Learns first old (λ V. FillsBlocks V blocks but from to offset start bytes)
fills-end first old blocks but from j to offset start bytes order none l = learns-as first old _ _ l (λ V m f. record {
  long = f.long;
  here = λ k low past before not_whole blank. here V f k low past before not_whole blank (cases_lt ((offset + k) / 4096) j);
  others = λ k low out. others V f k low out;
})
  where
    here : (V : View) → FillsBlocks V blocks but from j offset start bytes → (k : ℕ) → k < length start → from ≤ (offset + k) / 4096 → (offset + k) / 4096 < to → is_whole but ((offset + k) / 4096) ≡ false → get_or start k 0 ≡ 0
        → ((offset + k) / 4096 < j) ⊎ (j ≤ (offset + k) / 4096) → get_or bytes k 0 ≡ get_or (bytes_in V (blocks ((offset + k) / 4096))) ((offset + k) % 4096) 0
    here V f k low past before not_whole blank (inl less) = f.here k low past less not_whole blank
    here V f k low past before not_whole blank (inr more) = absurd (none k low more before)

    others : (V : View) → FillsBlocks V blocks but from j offset start bytes → (k : ℕ) → k < length start → ((offset + k) / 4096 < from) ⊎ (to ≤ (offset + k) / 4096) → get_or bytes k 0 ≡ get_or start k 0
    others V f k low (inl less) = f.others k low (inl less)
    others V f k low (inr more) = f.others k low (inr (omega (arith, order, more)))

-- the same numbers
fills-same : (V : View) (a b : ℕ → ℕ) (but : Span) (from to offset : ℕ) (old new : List ℕ) → ((j : ℕ) → from ≤ j → j < to → a j ≡ b j) → FillsBlocks V a but from to offset old new → FillsBlocks V b but from to offset old new
fills-same V a b but from to offset old new same f = record {
  long = f.long;
  here = λ k low past before not_whole blank.
      f.here k low past before not_whole blank
      ∙ ap (λ b. get_or (bytes_in V b) ((offset + k) % 4096) 0) (same ((offset + k) / 4096) past before);
  others = f.others;
}

-- ── the blocks that are read ──

-- no byte that is to be put lies in a block after the last one of these
none-after : (offset long j to k : ℕ) → k < long → last_block (offset + long) ≤ j → j ≤ (offset + k) / 4096 → (offset + k) / 4096 < to → to ≤ 1048624 → ⊥
none-after offset long j to k low last more before few = absurd (omega (arith, low, last, more, before, few))

-- those of the first blocks
pub direct-begin : (may : View → Type 0) (blocks : ℕ → ℕ) (but : Span) (offset first begin : ℕ) (bytes : List ℕ) → first ≡ first_block offset → begin ≡ min first 48 → Learns may may (λ V. FillsBlocks V blocks but 0 begin offset bytes bytes)
direct-begin may blocks but offset first begin bytes first_is begin_is = fills-none may blocks but 0 begin offset bytes (λ k low past before. absurd (omega (arith, before, first_is, begin_is)))

pub direct-end : (first old : View → Type 0) (blocks : ℕ → ℕ) (but : Span) (offset last end j : ℕ) (start bytes : List ℕ) → last ≡ last_block (offset + length start) → end ≡ min last 48 → end ≤ j → j ≤ 48
    → Learns first old (λ V. FillsBlocks V blocks but 0 j offset start bytes) → Learns first old (λ V. FillsBlocks V blocks but 0 48 offset start bytes)
direct-end first old blocks but offset last end j start bytes last_is end_is past few l = fills-end first old blocks but 0 j 48 offset start bytes few (λ k low more before.
    none-after offset (length start) j 48 k low (omega (arith, last_is, end_is, past, more, before)) more before (omega arith)) l

-- those whose numbers lie in index block i
pub numbers-begin : (may : View → Type 0) (blocks : ℕ → ℕ) (but : Span) (offset i first begin : ℕ) (bytes : List ℕ) → first ≡ first_block offset → begin ≡ min (max first (leaf_begin i)) (leaf_begin i + 1024)
    → Learns may may (λ V. FillsBlocks V blocks but (leaf_begin i) begin offset bytes bytes)
numbers-begin may blocks but offset i first begin bytes first_is begin_is = fills-none may blocks but (leaf_begin i) begin offset bytes (λ k low past before. absurd (omega (arith, past, before, first_is, begin_is)))

pub numbers-end : (first old : View → Type 0) (blocks : ℕ → ℕ) (but : Span) (offset i last end j : ℕ) (start bytes : List ℕ) → i < 1024 → last ≡ last_block (offset + length start) → end ≡ min last (leaf_begin i + 1024) → end ≤ j → j ≤ leaf_begin i + 1024
    → Learns first old (λ V. FillsBlocks V blocks but (leaf_begin i) j offset start bytes) → Learns first old (λ V. FillsBlocks V blocks but (leaf_begin i) (leaf_begin (i + 1)) offset start bytes)
numbers-end first old blocks but offset i last end j start bytes low_i last_is end_is past few l = fills-end first old blocks but (leaf_begin i) j (leaf_begin (i + 1)) offset start bytes (omega (arith, few)) (λ k low more before.
    none-after offset (length start) j (leaf_begin (i + 1)) k low (omega (arith, last_is, end_is, past, more, before)) more before (omega (arith, low_i))) l

leaf-number : (V : View) (h : Head) (i j : ℕ) → i < 1024 → leaf_begin i ≤ j → j < leaf_begin (i + 1) → file_blocks V h j ≡ number_in V (file_index V h i) (j - leaf_begin i)
leaf-number V h i j low_i past before =
    ap (file_blocks V h) (let e : j ≡ 48 + 1024 * i + (j - leaf_begin i) = omega (arith, past) in e)
    ∙ at-indexed V (held_of h []) i (j - leaf_begin i) low_i (omega (arith, past, before))

-- where there is no such index block, they are zeros
pub leaf-none : (first old : View → Type 0) (h : Head) (but : Span) (i number offset : ℕ) (bytes : List ℕ) → i < 1024 → number ≡ 0 → Learns first old (λ V. file_index V h i ≡ number)
    → Learns first old (λ V. FillsBlocks V (file_blocks V h) but (leaf_begin i) (leaf_begin (i + 1)) offset bytes bytes)
leaf-none first old h but i number offset bytes low_i none l = learns-as first old _ _ l (λ V m is. record {
  long = refl;
  here = λ k low past before not_whole blank. blank ∙ sym (in-none V (file_blocks V h ((offset + k) / 4096)) ((offset + k) % 4096) (zero_at V is ((offset + k) / 4096) past before) (omega arith));
  others = λ k low out. refl;
})
  where
    zero_at : (V : View) → file_index V h i ≡ number → (j : ℕ) → leaf_begin i ≤ j → j < leaf_begin (i + 1) → file_blocks V h j ≡ 0
    zero_at V is j past before = leaf-number V h i j low_i past before ∙ ap (λ b. number_in V b (j - leaf_begin i)) (is ∙ none)

pub leaf-some : (first old middle new : View → Type 0) (h : Head) (but : Span) (i number offset : ℕ) (v w bytes more : List ℕ) → i < 1024 → number ≢ 0 → Learns first old (λ V. file_index V h i ≡ number) → Learns old middle (λ V. V.block number ≡ v) → w ≡ v
    → Learns middle new (λ V. FillsBlocks V (λ j. number_at w (j - leaf_begin i)) but (leaf_begin i) (leaf_begin (i + 1)) offset bytes more)
    → Learns first new (λ V. FillsBlocks V (file_blocks V h) but (leaf_begin i) (leaf_begin (i + 1)) offset bytes more)
leaf-some first old middle new h but i number offset v w bytes more low_i some l b same k =
    learns-then first middle new _ _ (learns-both first old middle _ _ l b) k _ (λ V m p f. fills-same V (λ j. number_at w (j - leaf_begin i)) (file_blocks V h) but (leaf_begin i) (leaf_begin (i + 1)) offset bytes more (each V p) f)
  where
    each : (V : View) → (file_index V h i ≡ number) × (V.block number ≡ v) → (j : ℕ) → leaf_begin i ≤ j → j < leaf_begin (i + 1) → number_at w (j - leaf_begin i) ≡ file_blocks V h j
    each V p j past before = sym (
        leaf-number V h i j low_i past before
        ∙ ap (λ b. number_in V b (j - leaf_begin i)) p.0
        ∙ ap (λ t. cond t 0 (number_at (V.block number) (j - leaf_begin i))) (ne_eqb number 0 some)
        ∙ ap (λ v. number_at v (j - leaf_begin i)) (p.1 ∙ sym same))

-- ── all of them ──

pub fetched-direct : (first old : View → Type 0) (h : Head) (but : Span) (offset begin : ℕ) (bytes more : List ℕ) → begin ≡ first_leaf offset → IsBlank bytes → Learns first old (λ V. FillsBlocks V (λ j. get_or h.blocks j 0) but 0 48 offset bytes more)
    → Learns first old (λ V. IsFetched V (file_blocks V h) but offset (leaf_begin begin) more)
fetched-direct first old h but offset begin bytes more begin_is blank l = learns-as first old _ _ l (λ V m f. record {
  done = λ k low before not_whole. done V f k (let e = f.long in omega (arith, e, low)) before not_whole (cases_lt ((offset + k) / 4096) 48);
  rest = λ k low past. f.others k (let e = f.long in omega (arith, e, low)) (inr (omega (arith, past))) ∙ blank k;
})
  where
    done : (V : View) → FillsBlocks V (λ j. get_or h.blocks j 0) but 0 48 offset bytes more → (k : ℕ) → k < length bytes → (offset + k) / 4096 < leaf_begin begin → is_whole but ((offset + k) / 4096) ≡ false
        → ((offset + k) / 4096 < 48) ⊎ (48 ≤ (offset + k) / 4096) → get_or more k 0 ≡ get_or (bytes_in V (file_blocks V h ((offset + k) / 4096))) ((offset + k) % 4096) 0
    done V f k low before not_whole (inl less) =
        f.here k low (omega arith) less not_whole (blank k)
        ∙ ap (λ b. get_or (bytes_in V b) ((offset + k) % 4096) 0) (sym (at-direct V (held_of h []) ((offset + k) / 4096) less))
    done V f k low before not_whole (inr past) = absurd (omega (arith, before, past, begin_is))

fetched-next : (V : View) (blocks : ℕ → ℕ) (but : Span) (offset j to : ℕ) (bytes more : List ℕ) → IsFetched V blocks but offset j bytes → FillsBlocks V blocks but j to offset bytes more → j ≤ to → IsFetched V blocks but offset to more
fetched-next V blocks but offset j to bytes more f b order = record {
  done = λ k low before not_whole. done k (let l = b.long in omega (arith, l, low)) before not_whole (cases_lt ((offset + k) / 4096) j);
  rest = λ k low past. b.others k (let l = b.long in omega (arith, l, low)) (inr past) ∙ f.rest k (let l = b.long in omega (arith, l, low)) (omega (arith, order, past));
}
  where
    done : (k : ℕ) → k < length bytes → (offset + k) / 4096 < to → is_whole but ((offset + k) / 4096) ≡ false → ((offset + k) / 4096 < j) ⊎ (j ≤ (offset + k) / 4096)
        → get_or more k 0 ≡ get_or (bytes_in V (blocks ((offset + k) / 4096))) ((offset + k) % 4096) 0
    done k low before not_whole (inl less) = b.others k low (inl less) ∙ f.done k low less not_whole
    done k low before not_whole (inr past) = b.here k low past before not_whole (f.rest k low past)

pub fetched-more : (first old new : View → Type 0) (h : Head) (but : Span) (offset i : ℕ) (bytes more : List ℕ) → Learns first old (λ V. IsFetched V (file_blocks V h) but offset (leaf_begin i) bytes)
    → Learns old new (λ V. FillsBlocks V (file_blocks V h) but (leaf_begin i) (leaf_begin (i + 1)) offset bytes more) → Learns first new (λ V. IsFetched V (file_blocks V h) but offset (leaf_begin (i + 1)) more)
fetched-more first old new h but offset i bytes more l k = learns-then first old new _ _ l k _ (λ V m f b. fetched-next V (file_blocks V h) but offset (leaf_begin i) (leaf_begin (i + 1)) bytes more f b (omega arith))

pub fetched-end : (first old : View → Type 0) (h : Head) (but : Span) (offset last i : ℕ) (bytes : List ℕ) → last ≡ last_leaf (offset + length bytes) → last ≤ i → i ≤ 1024 → Learns first old (λ V. IsFetched V (file_blocks V h) but offset (leaf_begin i) bytes)
    → Learns first old (λ V. IsFetched V (file_blocks V h) but offset 1048624 bytes)
fetched-end first old h but offset last i bytes last_is past few l = learns-as first old _ _ l (λ V m f. record {
  done = λ k low before not_whole. f.done k low (omega (arith, low, before, last_is, past)) not_whole;
  rest = λ k low far. f.rest k low (omega (arith, few, far));
})

zeros-at : (n k : ℕ) → get_or (replicate {A = ℕ} n 0) k 0 ≡ 0
zeros-at zero k = refl
zeros-at (suc n) zero = refl
zeros-at (suc n) (suc k) = zeros-at n k

pub zeros-blank : (n : ℕ) (bytes : List ℕ) → bytes ≡ replicate n 0 → IsBlank bytes
zeros-blank n bytes is k = ap (λ v. get_or v k 0) is ∙ zeros-at n k
