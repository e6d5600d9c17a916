-- The row of blocks that a WRITE puts into a file.
use Rattle.std.proofs.Common.{◌≡◌, ◌≢◌, ℕ, ◌+◌, ◌-◌, ◌*◌, ◌/◌, ◌<◌, ◌≤◌, ◌&&◌, true, false, cond, List, length, get_or, sym, ap, ◌⊎◌, inl, inr, ◌∙◌, arith}
use Rattle.std.specs.Prelude.{◌==◌, nat_le, slice_range, bytes_eq}
use Rattle.std.proofs.lemmas.Bool.{cases_eq, cases_lt, ne_eqb, eqb-true, lt-ltb, le-ltb, leb-true, lt-leb, and_left, and_parts, false≢true}
use Rattle.std.proofs.lemmas.Slice.Eq.{bytes_eq-Decides}
use Rattle.journal_treestore.specs.declared.inode.Head.{Head}
use Rattle.journal_treestore.specs.Bytes.{word_at}
use Rattle.journal_treestore.specs.Inodes.{name_from}
use Rattle.journal_treestore.specs.Views.{Held, View, zero_block, block_at, begin_at, bytes_in}
use Rattle.journal_treestore.proofs.Indexing.{at-index, at-none, begin-content, begin-index, begin-leaf}
use Rattle.journal_treecalls.specs.declared.node.Record.{Record}
use Rattle.journal_treecalls.specs.declared.reach.Reach.{Reach}
use Rattle.journal_treecalls.specs.declared.reach.Numbers.{Numbers}
use Rattle.journal_treecalls.specs.declared.reach.Changing.{Changing}
use Rattle.journal_treecalls.specs.Targets.{held}
use Rattle.journal_treecalls.specs.Fetches.{is_in, number_at}
use Rattle.journal_treecalls.specs.Reaches.{reach_for, reach_count, reach_place, IsReach, numbered, reached_number, leaf_bytes, AreSized, AreTaken, IsChanging}
use Rattle.journal_treecalls.specs.Overlays.{begin_of, image_bytes, index_bytes, piece_at, is_kept, laying_at}
use Rattle.journal_treecalls.proofs.Fetching.{range-long}
use Rattle.journal_treecalls.proofs.Reaching.{number-inside, PlaceIn, place-in, place-content, place-leaf, place-root, count-blocks, count-leaf, count-root, known-at, place-once, place-high, reach-fits, numbered-direct, numbered-leafed, numbered-others, numbered-index, numbered-rooted, numbered-any, root-number, numbers-had}
use Rattle.journal_treecalls.proofs.Reaching.PlaceIn.{content_in, leaf_in, root_in}
use Rattle.journal_treecalls.proofs.Overlaying.{in-parts, in-both, IsOverlay, IsIndexed}

-- ── the bytes of each ──

module _ (r : Reach) (s : Numbers) where
  index-leaf : (i : ℕ) → i < r.leaves → index_bytes r s (r.blocks + i) ≡ leaf_bytes s.leaves.items i
  index-leaf i low =
      ap (λ t. cond t (leaf_bytes s.leaves.items (r.blocks + i - r.blocks)) s.root.items) (lt-ltb (r.blocks + i) (r.blocks + r.leaves) (omega (arith, low)))
      ∙ ap (leaf_bytes s.leaves.items) (let e : r.blocks + i - r.blocks ≡ i = omega arith in e)

  index-root : index_bytes r s (r.blocks + r.leaves) ≡ s.root.items
  index-root = ap (λ t. cond t (leaf_bytes s.leaves.items (r.blocks + r.leaves - r.blocks)) s.root.items) (le-ltb (r.blocks + r.leaves) (r.blocks + r.leaves) (omega arith))

  leaf-long : AreSized r s → (i : ℕ) → i < r.leaves → length (leaf_bytes s.leaves.items i) ≡ 4096
  leaf-long sized i low = range-long s.leaves.items (4096 * i) (4096 * i + 4096) (let l = sized.leaves in omega (arith, l, low)) ∙ (let e : 4096 * i + 4096 - 4096 * i ≡ 4096 = omega arith in e)

  root-long : AreSized r s → r.leaves ≢ 0 → length s.root.items ≡ 4096
  root-long sized some = sized.root ∙ ap (λ t. cond t 0 4096) (ne_eqb r.leaves 0 some)

  pub index-long : AreSized r s → (m : ℕ) → r.blocks ≤ m → m < reach_count r → length (index_bytes r s m) ≡ 4096
  index-long sized m past low = by (place-in r m low)
    where
      by : PlaceIn r m → length (index_bytes r s m) ≡ 4096
      by (content_in less is) = absurd (omega (arith, less, past))
      by (leaf_in i less at is) = ap (λ m. length (index_bytes r s m)) at ∙ ap length (index-leaf i less) ∙ leaf-long sized i less
      by (root_in some at is) = ap (λ m. length (index_bytes r s m)) at ∙ ap length index-root ∙ root-long sized some

module _ (t : Changing) (image : List ℕ) where
  pub piece-content : (m : ℕ) → m < t.reach.blocks → piece_at t image m ≡ slice_range image (4096 * m) (4096 * m + 4096)
  piece-content m low = ap (λ b. cond b (slice_range image (4096 * m) (4096 * m + 4096)) (index_bytes t.reach t.new m)) (lt-ltb m t.reach.blocks low)

  pub piece-index : (m : ℕ) → t.reach.blocks ≤ m → piece_at t image m ≡ index_bytes t.reach t.new m
  piece-index m past = ap (λ b. cond b (slice_range image (4096 * m) (4096 * m + 4096)) (index_bytes t.reach t.new m)) (le-ltb m t.reach.blocks past)

  pub piece-long : AreSized t.reach t.new → length image ≡ 4096 * t.reach.blocks → (m : ℕ) → m < reach_count t.reach → length (piece_at t image m) ≡ 4096
  piece-long sized whole m low = by (cases_lt m t.reach.blocks)
    where
      by : (m < t.reach.blocks) ⊎ (t.reach.blocks ≤ m) → length (piece_at t image m) ≡ 4096
      by (inl less) = ap length (piece-content m less) ∙ range-long image (4096 * m) (4096 * m + 4096) (omega (arith, whole, less)) ∙ (let e : 4096 * m + 4096 - 4096 * m ≡ 4096 = omega arith in e)
      by (inr past) = ap length (piece-index m past) ∙ index-long t.reach t.new sized m past low

-- ── an index block that stays ──

pub kept-content : (t : Changing) (m : ℕ) → m < t.reach.blocks → false ≡ is_kept t m
kept-content t m low = sym (and_left (nat_le t.reach.blocks m && (reached_number t.reach t.old m == reached_number t.reach t.new m)) (bytes_eq (index_bytes t.reach t.old m) (index_bytes t.reach t.new m))
    (and_left (nat_le t.reach.blocks m) (reached_number t.reach t.old m == reached_number t.reach t.new m) (lt-leb t.reach.blocks m low)))

-- an image has whole blocks
pub image-whole : (r : Reach) (offset to : ℕ) (image : List ℕ) → r ≡ reach_for offset to → length image ≡ image_bytes offset to → length image ≡ 4096 * r.blocks
image-whole r offset to image is long =
    let b = ap (λ (r : Reach). r.blocks) is in
    long ∙ omega (arith, b)

-- ── the row ──

module _ (V : View) (r : Record) (k : Head) (offset to : ℕ) (t : Changing) (image : List ℕ) (some : offset < to) (fits : to ≤ 4295163904) (change : IsChanging V r.head offset to t)
    (long : length image ≡ image_bytes offset to) (blocks_is : k.blocks ≡ t.new.direct) (index_is : k.index ≡ t.new.index) where
  abbrev H : Held
  H = held r

  abbrev O : ℕ → ℕ
  O = block_at V (held r)

  abbrev N : ℕ → ℕ
  N = numbered (block_at V (held r)) t.reach t.new

  fit : IsReach t.reach
  fit = reach-fits offset to t.reach some fits change.reach

  block-is : t.reach.block ≡ offset / 4096
  block-is = ap (λ (r : Reach). r.block) change.reach

  blocks-are : t.reach.blocks ≡ (to + 4095) / 4096 - offset / 4096
  blocks-are = ap (λ (r : Reach). r.blocks) change.reach

  had : (p : ℕ) → numbered (block_at V (held r)) t.reach t.old p ≡ block_at V (held r) p
  had = numbers-had V r.head (name_from r.bytes) t.reach t.old fit change.had change.old_sized

  taken : AreTaken V (block_at V (held r)) t.reach t.old t.new (reach_count t.reach)
  taken = change.taken (block_at V (held r))

  was-is : (m : ℕ) → m < reach_count t.reach → reached_number t.reach t.old m ≡ block_at V (held r) (reach_place t.reach m)
  was-is m low = numbered-any (λ p. 0) O t.reach t.old (reach_place t.reach m) fit (known-at t.reach fit m low) ∙ had (reach_place t.reach m)

  now-is : (m : ℕ) → m < reach_count t.reach → reached_number t.reach t.new m ≡ numbered (block_at V (held r)) t.reach t.new (reach_place t.reach m)
  now-is m low = numbered-any (λ p. 0) O t.reach t.new (reach_place t.reach m) fit (known-at t.reach fit m low)

  -- the bytes that an index block has
  index-was : (m : ℕ) → t.reach.blocks ≤ m → m < reach_count t.reach → index_bytes t.reach t.old m ≡ bytes_in V (block_at V (held r) (reach_place t.reach m))
  index-was m past low = by (place-in t.reach m low)
    where
      by : PlaceIn t.reach m → index_bytes t.reach t.old m ≡ bytes_in V (O (reach_place t.reach m))
      by (content_in less is) = absurd (omega (arith, less, past))
      by (leaf_in i less at is) =
          ap (index_bytes t.reach t.old) at
          ∙ index-leaf t.reach t.old i less
          ∙ change.had.leaves i less
          ∙ ap (bytes_in V) (root-number V r.head (name_from r.bytes) t.reach t.old fit change.had change.old_sized (t.reach.leaf + i) (let f = fit.few in omega (arith, f, less)) (λ e. absurd (omega (arith, e, less))) ∙ ap O (sym is))
      by (root_in there at is) =
          ap (index_bytes t.reach t.old) at
          ∙ index-root t.reach t.old
          ∙ change.had.root there
          ∙ ap (bytes_in V) (sym (at-index V H) ∙ ap O (sym is))

  stays : (m : ℕ) → m < reach_count t.reach → is_kept t m ≡ true → (reached_number t.reach t.old m ≡ reached_number t.reach t.new m)
      × (reached_number t.reach t.old m ≢ 0 → V.block (reached_number t.reach t.old m) ≡ piece_at t image m) × (2147483648 ≤ reach_place t.reach m)
  stays m low kept =
      let p = and_parts (nat_le t.reach.blocks m && (reached_number t.reach t.old m == reached_number t.reach t.new m)) (bytes_eq (index_bytes t.reach t.old m) (index_bytes t.reach t.new m)) kept in
      let q = and_parts (nat_le t.reach.blocks m) (reached_number t.reach t.old m == reached_number t.reach t.new m) p.0 in
      let past = leb-true t.reach.blocks m q.0 in (
        eqb-true (reached_number t.reach t.old m) (reached_number t.reach t.new m) q.1,
        (λ there.
            sym (ap (λ b. cond b zero_block (V.block (reached_number t.reach t.old m))) (ne_eqb (reached_number t.reach t.old m) 0 there))
            ∙ ap (bytes_in V) (was-is m low)
            ∙ sym (index-was m past low)
            ∙ (bytes_eq-Decides (index_bytes t.reach t.old m) (index_bytes t.reach t.new m)).0 p.1
            ∙ sym (piece-index t image m past)),
        place-high t.reach fit m low past,
      )

  out : (j : ℕ) → is_in offset to j ≡ false → j < 2147483648 → (m : ℕ) → m < reach_count t.reach → reach_place t.reach m ≢ j
  out j outside low m inside e = by (place-in t.reach m inside)
    where
      by : PlaceIn t.reach m → ⊥
      by (content_in less is) =
          let b = block-is in let n = blocks-are in
          absurd (false≢true (sym outside ∙ in-both offset to j (omega (arith, e, is, less, b, n)) (omega (arith, e, is, b))))
      by (leaf_in i less at is) = absurd (omega (arith, e, is, low))
      by (root_in there at is) = absurd (omega (arith, e, is, low))

  early : (m : ℕ) → m < reach_count t.reach → begin_at (reach_place t.reach m) < to
  early m low = by (place-in t.reach m low)
    where
      by : PlaceIn t.reach m → begin_at (reach_place t.reach m) < to
      by (content_in less is) =
          let b = block-is in let n = blocks-are in let f = fit.end in
          let g = ap begin_at is ∙ begin-content (t.reach.block + m) (omega (arith, less, f)) in
          omega (arith, g, b, n, less)
      by (leaf_in i less at is) =
          let b = block-is in let n = blocks-are in
          let g = ap begin_at is ∙ begin-leaf (t.reach.leaf + i) in
          let f = fit.tight (λ e. absurd (omega (arith, e, less))) in
          omega (arith, g, b, n, f, less)
      by (root_in there at is) =
          let b = block-is in let n = blocks-are in
          let g = ap begin_at is ∙ begin-index in
          let f = fit.tight there in
          omega (arith, g, b, n, f, there)

  pub row-overlays : IsOverlay V (held r) (numbered (block_at V (held r)) t.reach t.new) (laying_at t image) (reach_count t.reach) offset to image
  row-overlays = record {
    kept = λ p f. taken.kept p (λ i low same z. f i low same (sym (had p) ∙ z)) ∙ had p;
    free = λ i low none. taken.free i low (had (reach_place t.reach i) ∙ none);
    apart = λ i l low inside other a b. taken.apart i l low inside other (had (reach_place t.reach i) ∙ a) (had (reach_place t.reach l) ∙ b);
    once = λ i l low inside other. place-once t.reach fit i l low inside other;
    was = was-is;
    block = now-is;
    whole = λ m low. piece-long t image change.new_sized (image-whole t.reach offset to image change.reach long) m low;
    stays = stays;
    at = λ j in_it.
        let p = in-parts offset to j in_it in let a = p.0 in let b = p.1 in let d = block-is in let n = blocks-are in let m = count-blocks t.reach in
        (omega (arith, a, b, n, m), place-content t.reach (j - offset / 4096) (omega (arith, a, b, n)) ∙ omega (arith, d, b));
    piece = λ j in_it.
        let p = in-parts offset to j in_it in let a = p.0 in let b = p.1 in let n = blocks-are in
        piece-content t image (j - offset / 4096) (omega (arith, a, b, n))
        ∙ ap (λ m. slice_range image m (m + 4096)) (let e : 4096 * (j - offset / 4096) ≡ 4096 * j - begin_of offset = omega arith in e);
    out = out;
    early = early;
  }

  -- ── the numbers ──

  root-row : (m i : ℕ) → m < reach_count t.reach → reach_place t.reach m ≡ 2147483648 → i < 1024 → word_at (piece_at t image m) (4 * i) ≡ numbered (block_at V (held r)) t.reach t.new (2147483649 + i)
  root-row m i low same inside = by (place-in t.reach m low)
    where
      by : PlaceIn t.reach m → word_at (piece_at t image m) (4 * i) ≡ N (2147483649 + i)
      by (content_in less is) = let f = fit.end in absurd (omega (arith, is, same, less, f))
      by (leaf_in a less at is) = absurd (omega (arith, is, same))
      by (root_in there at is) =
          ap (λ v. word_at v (4 * i)) (piece-index t image m (omega (arith, at)) ∙ ap (index_bytes t.reach t.new) at ∙ index-root t.reach t.new)
          ∙ sym (numbered-rooted O t.reach t.new fit i inside there)

  leaf-row : (m i l : ℕ) → m < reach_count t.reach → reach_place t.reach m ≡ 2147483649 + i → i < 1024 → l < 1024 → word_at (piece_at t image m) (4 * l) ≡ numbered (block_at V (held r)) t.reach t.new (48 + 1024 * i + l)
  leaf-row m i l low same inside few = by (place-in t.reach m low)
    where
      by : PlaceIn t.reach m → word_at (piece_at t image m) (4 * l) ≡ N (48 + 1024 * i + l)
      by (content_in less is) = let f = fit.end in absurd (omega (arith, is, same, less, f))
      by (root_in there at is) = absurd (omega (arith, is, same))
      by (leaf_in a less at is) =
          ap (λ v. word_at v (4 * l)) (piece-index t image m (omega (arith, at)) ∙ ap (index_bytes t.reach t.new) at ∙ index-leaf t.reach t.new a less)
          ∙ number-inside t.new.leaves.items a l few (let z = change.new_sized.leaves in omega (arith, z, less))
          ∙ ap (number_at t.new.leaves.items) (let e : 1024 * a + l ≡ 48 + 1024 * i + l - (48 + 1024 * t.reach.leaf) = omega (arith, is, same) in e)
          ∙ sym (numbered-leafed O t.reach t.new (48 + 1024 * i + l) (omega (arith, is, same)) (omega (arith, is, same, less, few)))

  no-root : ((m : ℕ) → m < reach_count t.reach → reach_place t.reach m ≢ 2147483648) → (i : ℕ) → i < 1024 → numbered (block_at V (held r)) t.reach t.new (2147483649 + i) ≡ block_at V (held r) (2147483649 + i)
  no-root none i low = by (cases_eq t.reach.leaves 0)
    where
      by : (t.reach.leaves ≡ 0) ⊎ (t.reach.leaves ≡ 0 → ⊥) → N (2147483649 + i) ≡ O (2147483649 + i)
      by (inl zero_leaves) = numbered-others O t.reach t.new (2147483649 + i) (omega arith) (inr (let f = fit.few in omega (arith, f))) (λ e. absurd (omega (arith, e))) (inl zero_leaves)
      by (inr there) = absurd (none (t.reach.blocks + t.reach.leaves) (count-root t.reach there) (place-root t.reach))

  no-leaf : (i : ℕ) → i < 1024 → ((m : ℕ) → m < reach_count t.reach → reach_place t.reach m ≢ 2147483649 + i) → (l : ℕ) → l < 1024 → numbered (block_at V (held r)) t.reach t.new (48 + 1024 * i + l) ≡ block_at V (held r) (48 + 1024 * i + l)
  no-leaf i low none l few = by (cases_lt i t.reach.leaf) (cases_lt i (t.reach.leaf + t.reach.leaves))
    where
      elsewhere : (48 + 1024 * i + l < 48 + 1024 * t.reach.leaf) ⊎ (48 + 1024 * (t.reach.leaf + t.reach.leaves) ≤ 48 + 1024 * i + l) → N (48 + 1024 * i + l) ≡ O (48 + 1024 * i + l)
      elsewhere outside = numbered-others O t.reach t.new (48 + 1024 * i + l) (omega arith) outside (λ e. absurd (omega (arith, e, low, few))) (inr (inl (omega (arith, low, few))))

      by : (i < t.reach.leaf) ⊎ (t.reach.leaf ≤ i) → (i < t.reach.leaf + t.reach.leaves) ⊎ (t.reach.leaf + t.reach.leaves ≤ i) → N (48 + 1024 * i + l) ≡ O (48 + 1024 * i + l)
      by (inl before) _ = elsewhere (inl (omega (arith, before, few)))
      by (inr past) (inr far) = elsewhere (inr (omega (arith, far)))
      by (inr past) (inl before) =
          absurd (none (t.reach.blocks + (i - t.reach.leaf)) (count-leaf t.reach (i - t.reach.leaf) (omega (arith, past, before)))
          (place-leaf t.reach (i - t.reach.leaf) (omega (arith, past, before)) ∙ (let e : 2147483649 + (t.reach.leaf + (i - t.reach.leaf)) ≡ 2147483649 + i = omega (arith, past) in e)))

  pub row-indexed : IsIndexed V (held r) (numbered (block_at V (held r)) t.reach t.new) (laying_at t image) (reach_count t.reach) k
  row-indexed = record {
    direct = λ j low. ap (λ v. get_or v j 0) blocks_is ∙ sym (numbered-direct O t.reach t.new j low);
    count_is = ap length blocks_is ∙ change.new_sized.direct;
    index = index_is ∙ sym (numbered-index O t.reach t.new fit);
    root = root-row;
    leaf = leaf-row;
    no_root = no-root;
    no_leaf = no-leaf;
    none = λ p past other far. numbered-others O t.reach t.new p (omega (arith, past)) (inr (let f = fit.few in omega (arith, past, f))) other (inr far) ∙ at-none V H p past other far;
  }
