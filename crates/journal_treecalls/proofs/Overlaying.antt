-- A file is written: its inode, the blocks in which the bytes lie, the index blocks with their
-- numbers, and the block in which it ended.
use Rattle.std.proofs.Common.{◌≡◌, ◌≢◌, ℕ, zero, suc, ◌+◌, ◌-◌, ◌*◌, ◌/◌, ◌%◌, ◌<◌, ◌≤◌, max, Bool, true, false, cond, eqb, List, [], ◌++◌, length, take, drop, get_or, replicate, Option, Some, None, refl, sym, ap, subst, ◌⊎◌, inl, inr, ◌∙◌, arith, length-append}
use Rattle.std.specs.Prelude.{nat_lt, nat_le}
use Rattle.std.proofs.lemmas.Bool.{cases_eq, cases_lt, eq-eqb, ne_eqb, eqb-true, eqb-false, lt-ltb, ltb-true, lt-leb, leb-false, and_from, and_parts, false≢true}
use Rattle.std.proofs.lemmas.List.{length-take-le, length-drop, length-replicate, get_or_append_left, get_or-append_right, get_or-take, get_or-drop, get_or-replicate, get_or_past, ext_get_or}
use Rattle.journal_tree.specs.declared.time.Time.{Time}
use Rattle.journal_tree.specs.declared.reply.Kind.TheVariants.{Directory, File}
use Rattle.journal_tree.specs.declared.caller.Caller.{Caller}
use Rattle.journal_tree.specs.Times.{IsTime}
use Rattle.journal_tree.specs.Trees.Body.{file}
use Rattle.journal_tree.specs.Contents.{overlaid, written as written_node}
use Rattle.journal_treestore.specs.declared.inode.Head.{Head}
use Rattle.journal_treestore.specs.Bytes.{word_at}
use Rattle.journal_treestore.specs.Inodes.{name_from}
use Rattle.journal_treestore.specs.Views.{Held, View, with_inode, with_block, held_of, number_in, index_block, block_at, begin_at, bytes_in, content, body_of, node_of, entry_by, entry_of}
use Rattle.journal_treestore.specs.Views.Seen.{used}
use Rattle.journal_treestore.specs.Sound.{IsSoundInode, IsSoundView}
use Rattle.journal_treestore.proofs.Indexing.{PlaceOf, place_kind, at-direct, at-indexed, at-index, at-leaf, at-none, begin-content, same-named}
use Rattle.journal_treestore.proofs.Viewing.{inode-node}
use Rattle.journal_treestore.proofs.Changing.{one_owner, inode-same, inode-other}
use Rattle.journal_treestore.proofs.Spare.{nobody_has}
use Rattle.journal_treecalls.specs.declared.node.Record.{Record}
use Rattle.journal_treecalls.specs.declared.reach.Numbers.{Numbers}
use Rattle.journal_treecalls.specs.declared.setting.Tail.{Tail}
use Rattle.journal_treecalls.specs.Targets.{held}
use Rattle.journal_treecalls.specs.Blocks.{HasFreeBlock}
use Rattle.journal_treecalls.specs.Fetches.{is_in, file_blocks}
use Rattle.journal_treecalls.specs.Sizes.{cleared}
use Rattle.journal_treecalls.specs.Overlays.{begin_of, image_bytes, IsImage, piece_of, IsWrittenHead, gap_of, with_gap, Laying, laid}
use Rattle.journal_treecalls.proofs.Cases.{length-content}
use Rattle.journal_treecalls.proofs.Holding.{byte_at, in-some, in-none, content-at}
use Rattle.journal_treestore.specs.Steps.{IsNodeStep}
use Rattle.journal_treecalls.proofs.Zeroing.{cleared-long, cleared-front, cleared-back}
use Rattle.journal_treecalls.proofs.Fetching.{range-at}
use Rattle.journal_treecalls.proofs.Laying.{laid-keeps, block-unlaid, block-laid, owner-unlaid, owner-laid}

-- ── bytes over others ──

module _ (c : List ℕ) (offset : ℕ) (bs : List ℕ) where
  gap-long : length (take offset (c ++ replicate offset 0)) ≡ offset
  gap-long = length-take-le offset (c ++ replicate offset 0) (let a = length-append c (replicate {A = ℕ} offset 0) in let b = length-replicate {A = ℕ} offset 0 in omega (arith, a, b))

  both-long : length (take offset (c ++ replicate offset 0) ++ bs) ≡ offset + length bs
  both-long = length-append (take offset (c ++ replicate offset 0)) bs ∙ ap (λ n. n + length bs) gap-long

  overlaid-long : length (overlaid c offset bs) ≡ max (length c) (offset + length bs)
  overlaid-long =
      length-append (take offset (c ++ replicate offset 0) ++ bs) (drop (offset + length bs) c)
      ∙ (let a = both-long in let b = length-drop (offset + length bs) c in omega (arith, a, b))

  overlaid-front : (i : ℕ) → i < offset → i < length c → get_or (overlaid c offset bs) i 0 ≡ get_or c i 0
  overlaid-front i low inside =
      get_or_append_left (take offset (c ++ replicate offset 0) ++ bs) (drop (offset + length bs) c) 0 i (let b = both-long in omega (arith, b, low))
      ∙ get_or_append_left (take offset (c ++ replicate offset 0)) bs 0 i (let g = gap-long in omega (arith, g, low))
      ∙ get_or-take offset (c ++ replicate offset 0) i 0 low
      ∙ get_or_append_left c (replicate offset 0) 0 i inside

  overlaid-gap : (i : ℕ) → i < offset → length c ≤ i → get_or (overlaid c offset bs) i 0 ≡ 0
  overlaid-gap i low past =
      get_or_append_left (take offset (c ++ replicate offset 0) ++ bs) (drop (offset + length bs) c) 0 i (let b = both-long in omega (arith, b, low))
      ∙ get_or_append_left (take offset (c ++ replicate offset 0)) bs 0 i (let g = gap-long in omega (arith, g, low))
      ∙ get_or-take offset (c ++ replicate offset 0) i 0 low
      ∙ get_or-append_right c (replicate offset 0) (length c) i 0 refl past
      ∙ get_or-replicate {A = ℕ} offset (i - length c) 0 0 (omega (arith, low, past))

  overlaid-new : (i : ℕ) → offset ≤ i → i < offset + length bs → get_or (overlaid c offset bs) i 0 ≡ get_or bs (i - offset) 0
  overlaid-new i past low =
      get_or_append_left (take offset (c ++ replicate offset 0) ++ bs) (drop (offset + length bs) c) 0 i (let b = both-long in omega (arith, b, low))
      ∙ get_or-append_right (take offset (c ++ replicate offset 0)) bs offset i 0 gap-long past

  overlaid-back : (i : ℕ) → offset + length bs ≤ i → get_or (overlaid c offset bs) i 0 ≡ get_or c i 0
  overlaid-back i past =
      get_or-append_right (take offset (c ++ replicate offset 0) ++ bs) (drop (offset + length bs) c) (offset + length bs) i 0 both-long past
      ∙ get_or-drop (offset + length bs) c (i - (offset + length bs)) 0
      ∙ ap (λ k. get_or c k 0) (let e : offset + length bs + (i - (offset + length bs)) ≡ i = omega (arith, past) in e)

-- ── blocks in which bytes lie ──

pub in-parts : (from to j : ℕ) → is_in from to j ≡ true → (4096 * j < to) × (from < 4096 * (j + 1))
in-parts from to j is =
    let b = and_parts (nat_lt (4096 * j) to) (nat_lt from (4096 * (j + 1))) is in
    (ltb-true (4096 * j) to b.0, ltb-true from (4096 * (j + 1)) b.1)

pub in-both : (from to j : ℕ) → 4096 * j < to → from < 4096 * (j + 1) → is_in from to j ≡ true
in-both from to j before after = and_from (nat_lt (4096 * j) to) (nat_lt from (4096 * (j + 1))) (lt-ltb (4096 * j) to before) (lt-ltb from (4096 * (j + 1)) after)

-- ── blocks of a row ──

-- One of the first of a row is put at a place
pub record IsAt (row : ℕ → Laying) (count p : ℕ) : Type 0 where
  pub i : ℕ
  pub low : i < count
  pub is : (row i).place ≡ p

is-at : (row : ℕ → Laying) (count p : ℕ) → IsAt row count p ⊎ ((i : ℕ) → i < count → (row i).place ≢ p)
is-at row zero p = inr (λ i low. absurd (omega (arith, low)))
is-at row (suc m) p = by (cases_eq (row m).place p) (is-at row m p)
  where
    by : ((row m).place ≡ p) ⊎ ((row m).place ≡ p → ⊥) → IsAt row m p ⊎ ((i : ℕ) → i < m → (row i).place ≢ p) → IsAt row (suc m) p ⊎ ((i : ℕ) → i < suc m → (row i).place ≢ p)
    by (inl same) _ = inl (record { i = m; low = omega arith; is = same })
    by (inr other) (inl f) = inl (record { i = f.i; low = let l = f.low in omega (arith, l); is = f.is })
    by (inr other) (inr none) = inr (λ i low. each i low (cases_eq i m))
      where
        each : (i : ℕ) → i < suc m → (i ≡ m) ⊎ (i ≡ m → ⊥) → (row i).place ≢ p
        each i low (inl last) = λ e. other (ap (λ i. (row i).place) (sym last) ∙ e)
        each i low (inr before) = none i (omega (arith, low, before))

-- A row gives a file its blocks for bytes from one to before another: where it has none, one that
-- nobody has, and none twice. Those in which bytes lie have the pieces of an image
pub record IsOverlay (V : View) (H : Held) (N : ℕ → ℕ) (row : ℕ → Laying) (count from to : ℕ) (image : List ℕ) : Type 0 where
  pub kept : (p : ℕ) → ((i : ℕ) → i < count → (row i).place ≡ p → block_at V H p ≢ 0) → N p ≡ block_at V H p
  pub free : (i : ℕ) → i < count → block_at V H (row i).place ≡ 0 → HasFreeBlock V (N (row i).place)
  pub apart : (i k : ℕ) → i < count → k < count → i ≢ k → block_at V H (row i).place ≡ 0 → block_at V H (row k).place ≡ 0 → N (row i).place ≢ N (row k).place
  pub once : (i k : ℕ) → i < count → k < count → i ≢ k → (row i).place ≢ (row k).place
  pub was : (i : ℕ) → i < count → (row i).was ≡ block_at V H (row i).place
  pub block : (i : ℕ) → i < count → (row i).block ≡ N (row i).place
  pub whole : (i : ℕ) → i < count → length (row i).bytes ≡ 4096
  pub stays : (i : ℕ) → i < count → (row i).stays ≡ true → ((row i).was ≡ (row i).block) × ((row i).was ≢ 0 → V.block (row i).was ≡ (row i).bytes) × (2147483648 ≤ (row i).place)
  pub at : (j : ℕ) → is_in from to j ≡ true → (j - from / 4096 < count) × ((row (j - from / 4096)).place ≡ j)
  pub piece : (j : ℕ) → is_in from to j ≡ true → (row (j - from / 4096)).bytes ≡ piece_of image from j
  pub out : (j : ℕ) → is_in from to j ≡ false → j < 2147483648 → (i : ℕ) → i < count → (row i).place ≢ j
  pub early : (i : ℕ) → i < count → begin_at (row i).place < to

-- The numbers in its inode and in its index blocks are those
pub record IsIndexed (V : View) (H : Held) (N : ℕ → ℕ) (row : ℕ → Laying) (count : ℕ) (k : Head) : Type 0 where
  pub direct : (j : ℕ) → j < 48 → get_or k.blocks j 0 ≡ N j
  pub count_is : length k.blocks ≡ 48
  pub index : k.index ≡ N 2147483648
  pub root : (m i : ℕ) → m < count → (row m).place ≡ 2147483648 → i < 1024 → word_at (row m).bytes (4 * i) ≡ N (2147483649 + i)
  pub leaf : (m i l : ℕ) → m < count → (row m).place ≡ 2147483649 + i → i < 1024 → l < 1024 → word_at (row m).bytes (4 * l) ≡ N (48 + 1024 * i + l)
  pub no_root : ((m : ℕ) → m < count → (row m).place ≢ 2147483648) → (i : ℕ) → i < 1024 → N (2147483649 + i) ≡ block_at V H (2147483649 + i)
  pub no_leaf : (i : ℕ) → i < 1024 → ((m : ℕ) → m < count → (row m).place ≢ 2147483649 + i) → (l : ℕ) → l < 1024 → N (48 + 1024 * i + l) ≡ block_at V H (48 + 1024 * i + l)
  pub none : (p : ℕ) → 1048624 ≤ p → p ≢ 2147483648 → (p < 2147483649) ⊎ (2147484673 ≤ p) → N p ≡ 0

-- ── the step ──

module _ (V : View) (n : ℕ) (r : Record) (k : Head) (offset : ℕ) (bs image : List ℕ) (N : ℕ → ℕ) (row : ℕ → Laying) (count : ℕ) (sound : IsSoundView V) (is : V.inode n ≡ used (held r))
    (some : 0 < length bs) (fits : offset + length bs ≤ 4295163904) (small : r.head.size ≤ 4295163904) (lays : IsOverlay V (held r) N row count offset (offset + length bs) image) where
  abbrev H : Held
  H = held r

  abbrev K : Held
  K = held_of k (name_from r.bytes)

  abbrev to : ℕ
  to = offset + length bs

  -- what the file has at a place
  abbrev O : ℕ → ℕ
  O = block_at V (held r)

  -- the block in which it ends
  abbrev last : ℕ
  last = r.head.size / 4096

  abbrev V1 : View
  V1 = with_gap V (gap_of V r.head offset)

  abbrev U : View
  U = laid (with_gap V (gap_of V r.head offset)) n row count

  abbrev W : View
  W = with_inode (laid (with_gap V (gap_of V r.head offset)) n row count) n (used (held_of k (name_from r.bytes)))

  was : IsSoundInode V n (held r)
  was = sound.inodes n (held r) is

  -- ── which blocks are whose ──

  pub free-some : (i : ℕ) → i < count → block_at V (held r) (row i).place ≡ 0 → N (row i).place ≢ 0
  free-some i low none e = let l = (lays.free i low none).from in let d = sound.no_data in absurd (omega (arith, e, l, d))

  pub stale : (p : ℕ) → block_at V (held r) p ≢ 0 → N p ≡ block_at V (held r) p
  stale p had = lays.kept p (λ i low same. had)

  pub unreached : (p : ℕ) → ((i : ℕ) → i < count → (row i).place ≢ p) → N p ≡ block_at V (held r) p
  unreached p other = lays.kept p (λ i low same. absurd (other i low same))

  pub place-some : (i : ℕ) → i < count → N (row i).place ≢ 0
  place-some i low = by (cases_eq (O (row i).place) 0)
    where
      by : (O (row i).place ≡ 0) ⊎ (O (row i).place ≡ 0 → ⊥) → N (row i).place ≢ 0
      by (inl none) = free-some i low none
      by (inr had) = λ e. had (sym (stale (row i).place had) ∙ e)

  -- a place is one that gets a block, or has what it had
  pub fresh-or : (p : ℕ) → ((f : IsAt row count p) × (block_at V (held r) p ≡ 0)) ⊎ (N p ≡ block_at V (held r) p)
  fresh-or p = by (cases_eq (O p) 0) (is-at row count p)
    where
      by : (O p ≡ 0) ⊎ (O p ≡ 0 → ⊥) → IsAt row count p ⊎ ((i : ℕ) → i < count → (row i).place ≢ p) → ((f : IsAt row count p) × (O p ≡ 0)) ⊎ (N p ≡ O p)
      by (inr had) _ = inr (stale p had)
      by (inl none) (inl f) = inl (f, none)
      by (inl none) (inr other) = inr (unreached p other)

  -- no other node has one of them
  pub apart : (i : ℕ) (g : Held) (p m : ℕ) → i ≢ n → V.inode i ≡ used g → block_at V g p ≢ 0 → m < count → block_at V g p ≢ N (row m).place
  apart i g p m other at there low = by (cases_eq (O (row m).place) 0)
    where
      by : (O (row m).place ≡ 0) ⊎ (O (row m).place ≡ 0 → ⊥) → block_at V g p ≢ N (row m).place
      by (inl none) = nobody_has V (N (row m).place) sound (free-some m low none) (lays.free m low none).unowned i g p at
      by (inr had) = λ e. other (sym (one_owner V n i H g (row m).place p was (sound.inodes i g at) had (sym (e ∙ stale (row m).place had))).0)

  -- and the file has none of them twice
  pub apart-own : (p m : ℕ) → m < count → (row m).place ≢ p → N p ≢ 0 → N p ≢ N (row m).place
  apart-own p m low other there = by (cases_eq (O (row m).place) 0) (fresh-or p)
    where
      by : (O (row m).place ≡ 0) ⊎ (O (row m).place ≡ 0 → ⊥) → ((f : IsAt row count p) × (O p ≡ 0)) ⊎ (N p ≡ O p) → N p ≢ N (row m).place
      by (inl none) (inl f) = λ e. lays.apart f.0.i m f.0.low low (λ same. other (ap (λ i. (row i).place) (sym same) ∙ f.0.is)) (ap O f.0.is ∙ f.1) none (ap N f.0.is ∙ e)
      by (inl none) (inr kept) = λ e. nobody_has V (N (row m).place) sound (free-some m low none) (lays.free m low none).unowned n H p is (sym kept ∙ e)
      by (inr had) (inl f) = λ e. nobody_has V (N (row f.0.i).place) sound (free-some f.0.i f.0.low (ap O f.0.is ∙ f.1)) (lays.free f.0.i f.0.low (ap O f.0.is ∙ f.1)).unowned n H (row m).place is (sym (stale (row m).place had) ∙ sym e ∙ ap N (sym f.0.is))
      by (inr had) (inr kept) = λ e. other (sym (one_owner V n n H H p (row m).place was was (λ z. there (kept ∙ z)) (sym kept ∙ e ∙ stale (row m).place had)).1)

  pub rows-apart : (i m : ℕ) → i < count → m < count → m ≢ i → (row i).block ≢ (row m).block
  rows-apart i m low inside other e = apart-own (row i).place m inside (lays.once m i inside low other) (place-some i low) (sym (lays.block i low) ∙ e ∙ lays.block m inside)

  -- ── the block in which the file ended ──

  file-is : (p : ℕ) → file_blocks V r.head p ≡ block_at V (held r) p
  file-is p = same-named V r.head [] (name_from r.bytes) p

  abbrev gap_by : Bool → Bool → Option Tail
  gap_by past none = cond past None (cond none None (Some (record { block = file_blocks V r.head (r.head.size / 4096); from = r.head.size % 4096 })))

  gap-some : (t : Tail) → gap_of V r.head offset ≡ Some t → (r.head.size / 4096 < offset / 4096) × (block_at V (held r) (r.head.size / 4096) ≢ 0) × (t.block ≡ block_at V (held r) (r.head.size / 4096)) × (t.from ≡ r.head.size % 4096)
  gap-some t g = by (nat_le (offset / 4096) last) (eqb (file_blocks V r.head last) 0) refl refl g
    where
      by : (past none : Bool) → nat_le (offset / 4096) last ≡ past → eqb (file_blocks V r.head last) 0 ≡ none → gap_by past none ≡ Some t → (last < offset / 4096) × (O last ≢ 0) × (t.block ≡ O last) × (t.from ≡ r.head.size % 4096)
      by true none p q e = absurd (cc (e))
      by false true p q e = absurd (cc (e))
      by false false p q e =
          let same : record { block = file_blocks V r.head last; from = r.head.size % 4096 } ≡ t = cc in
          (leb-false (offset / 4096) last p, (λ z. eqb-false (file_blocks V r.head last) 0 q (file-is last ∙ z)), ap (λ (t : Tail). t.block) (sym same) ∙ file-is last, ap (λ (t : Tail). t.from) (sym same))

  gap-none : (b : ℕ) → gap_of V r.head offset ≡ None → r.head.size / 4096 < offset / 4096 → block_at V (held r) (r.head.size / 4096) ≡ 0
  gap-none b g low = by (eqb (file_blocks V r.head last) 0) refl (sym (ap (λ past. gap_by past (eqb (file_blocks V r.head last) 0)) (lt-leb (offset / 4096) last low)) ∙ g)
    where
      by : (none : Bool) → eqb (file_blocks V r.head last) 0 ≡ none → gap_by false none ≡ None → O last ≡ 0
      by true q e = sym (file-is last) ∙ eqb-true (file_blocks V r.head last) 0 q
      by false q e = absurd (cc (e))

  -- what a block has before the others are written
  before-other : (x : ℕ) → ((t : Tail) → gap_of V r.head offset ≡ Some t → x ≢ t.block) → (with_gap V (gap_of V r.head offset)).block x ≡ V.block x
  before-other x other = by (gap_of V r.head offset) refl
    where
      by : (o : Option Tail) → gap_of V r.head offset ≡ o → (with_gap V o).block x ≡ V.block x
      by None g = refl
      by (Some t) g = ap (λ b. cond b (cleared (V.block t.block) t.from) (V.block x)) (ne_eqb x t.block (other t g))

  before-own : (p : ℕ) → block_at V (held r) p ≢ 0 → p ≢ r.head.size / 4096 → (with_gap V (gap_of V r.head offset)).block (block_at V (held r) p) ≡ V.block (block_at V (held r) p)
  before-own p there other = before-other (O p) (λ t g e. other (one_owner V n n H H p last was was there (e ∙ (gap-some t g).2)).1)

  before-gap : (t : Tail) → gap_of V r.head offset ≡ Some t → (with_gap V (gap_of V r.head offset)).block (block_at V (held r) (r.head.size / 4096)) ≡ cleared (V.block (block_at V (held r) (r.head.size / 4096))) (r.head.size % 4096)
  before-gap t g =
      ap (λ o. (with_gap V o).block (O last)) g
      ∙ ap (λ b. cond b (cleared (V.block t.block) t.from) (V.block (O last))) (eq-eqb (O last) t.block (sym (gap-some t g).2))
      ∙ (λ z. cleared (V.block ((gap-some t g).2 z)) ((gap-some t g).3 z))

  -- ── blocks and records of the disk after it ──

  gap-keeps : {A : Type 0} (f : View → A) → ((X : View) (b : ℕ) (v : List ℕ) → f (with_block X b v) ≡ f X) → f (with_gap V (gap_of V r.head offset)) ≡ f V
  gap-keeps f blocks = by (gap_of V r.head offset)
    where
      by : (o : Option Tail) → f (with_gap V o) ≡ f V
      by None = refl
      by (Some t) = blocks V t.block (cleared (V.block t.block) t.from)

  pub inodes-are : (laid (with_gap V (gap_of V r.head offset)) n row count).inode ≡ V.inode
  inodes-are = laid-keeps V1 n row (λ (X : View). X.inode) (λ X b v. refl) (λ X b o. refl) count ∙ gap-keeps (λ (X : View). X.inode) (λ X b v. refl)

  pub numbers-are : (laid (with_gap V (gap_of V r.head offset)) n row count).numbers ≡ V.numbers
  numbers-are = laid-keeps V1 n row (λ (X : View). X.numbers) (λ X b v. refl) (λ X b o. refl) count ∙ gap-keeps (λ (X : View). X.numbers) (λ X b v. refl)

  pub first-is : (laid (with_gap V (gap_of V r.head offset)) n row count).first_data ≡ V.first_data
  first-is = laid-keeps V1 n row (λ (X : View). X.first_data) (λ X b v. refl) (λ X b o. refl) count ∙ gap-keeps (λ (X : View). X.first_data) (λ X b v. refl)

  pub many-are : (laid (with_gap V (gap_of V r.head offset)) n row count).data_blocks ≡ V.data_blocks
  many-are = laid-keeps V1 n row (λ (X : View). X.data_blocks) (λ X b v. refl) (λ X b o. refl) count ∙ gap-keeps (λ (X : View). X.data_blocks) (λ X b v. refl)

  owners-before : (with_gap V (gap_of V r.head offset)).owner ≡ V.owner
  owners-before = gap-keeps (λ (X : View). X.owner) (λ X b v. refl)

  -- what is not written
  block-out : (x : ℕ) → ((m : ℕ) → m < count → x ≢ N (row m).place) → W.block x ≡ (with_gap V (gap_of V r.head offset)).block x
  block-out x other = block-unlaid V1 n row x count (λ m low _ e. other m low (e ∙ lays.block m low))

  block-own-out : (p : ℕ) → ((m : ℕ) → m < count → (row m).place ≢ p) → N p ≢ 0 → W.block (N p) ≡ (with_gap V (gap_of V r.head offset)).block (N p)
  block-own-out p out there = block-out (N p) (λ m low. apart-own p m low (out m low) there)

  -- an index block that is not written, and any block but the last one
  pub block-stays : (p : ℕ) → ((m : ℕ) → m < count → (row m).place ≢ p) → block_at V (held r) p ≢ 0 → p ≢ r.head.size / 4096 → W.block (block_at V (held r) p) ≡ V.block (block_at V (held r) p)
  block-stays p out there other = subst (λ b. W.block b ≡ V1.block b) (unreached p out) (block-own-out p out (λ z. there (sym (unreached p out) ∙ z))) ∙ before-own p there other

  -- what is
  pub block-at : (m : ℕ) → m < count → W.block (N (row m).place) ≡ (row m).bytes
  block-at m low = by (row m).stays refl
    where
      differ : (i : ℕ) → (row m).stays ≡ true → (row i).stays ≡ false → i ≢ m
      differ i a b e = false≢true (sym b ∙ ap (λ i. (row i).stays) e ∙ a)

      by : (t : Bool) → (row m).stays ≡ t → W.block (N (row m).place) ≡ (row m).bytes
      by false t = ap W.block (sym (lays.block m low)) ∙ block-laid V1 n row m count low t (λ i inside other. rows-apart m i low inside other)
      by true t =
          let s = lays.stays m low t in
          let own : N (row m).place ≡ O (row m).place = sym (lays.block m low) ∙ sym s.0 ∙ lays.was m low in
          let there : O (row m).place ≢ 0 = λ z. place-some m low (own ∙ z) in
          block-unlaid V1 n row (N (row m).place) count (λ i inside writes e. apart-own (row m).place i inside (lays.once i m inside low (differ i t writes)) (place-some m low) (e ∙ lays.block i inside))
          ∙ ap V1.block own
          ∙ before-own (row m).place there (λ e. let high = s.2 in absurd (omega (arith, e, high, small)))
          ∙ ap V.block (sym (lays.was m low))
          ∙ s.1 (λ z. there (sym (lays.was m low) ∙ z))

  -- ── the numbers ──

  module _ (numbers : IsIndexed V (held r) N row count k) where
    number-some : (X : View) (b i : ℕ) → b ≢ 0 → number_in X b i ≡ word_at (X.block b) (4 * i)
    number-some X b i there = ap (λ t. cond t 0 (word_at (X.block b) (4 * i))) (ne_eqb b 0 there)

    number-none : (X : View) (b i : ℕ) → b ≡ 0 → number_in X b i ≡ 0
    number-none X b i none = ap (λ t. cond t 0 (word_at (X.block b) (4 * i))) (eq-eqb b 0 none)

    -- a block of numbers that is not written has the same
    same-number : (p i : ℕ) → ((m : ℕ) → m < count → (row m).place ≢ p) → 2147483648 ≤ p → number_in W (block_at V (held r) p) i ≡ number_in V (block_at V (held r) p) i
    same-number p i out high = by (cases_eq (O p) 0)
      where
        by : (O p ≡ 0) ⊎ (O p ≡ 0 → ⊥) → number_in W (O p) i ≡ number_in V (O p) i
        by (inl none) = number-none W (O p) i none ∙ sym (number-none V (O p) i none)
        by (inr there) = ap (λ v. cond (eqb (O p) 0) 0 (word_at v (4 * i))) (block-stays p out there (λ e. absurd (omega (arith, e, high, small))))

    leaf-is : (i : ℕ) → i < 1024 → index_block W K i ≡ N (2147483649 + i)
    leaf-is i low = ap (λ b. number_in W b i) numbers.index ∙ by (is-at row count 2147483648)
      where
        by : IsAt row count 2147483648 ⊎ ((m : ℕ) → m < count → (row m).place ≢ 2147483648) → number_in W (N 2147483648) i ≡ N (2147483649 + i)
        by (inl f) =
            number-some W (N 2147483648) i (λ z. place-some f.i f.low (ap N f.is ∙ z))
            ∙ ap (λ p. word_at (W.block (N p)) (4 * i)) (sym f.is)
            ∙ ap (λ v. word_at v (4 * i)) (block-at f.i f.low)
            ∙ numbers.root f.i i f.low f.is low
        by (inr out) =
            ap (λ b. number_in W b i) (unreached 2147483648 out)
            ∙ same-number 2147483648 i out (omega arith)
            ∙ ap (λ b. number_in V b i) (at-index V H)
            ∙ sym (at-leaf V H i low)
            ∙ sym (numbers.no_root out i low)

    indexed-is : (i l : ℕ) → i < 1024 → l < 1024 → number_in W (index_block W K i) l ≡ N (48 + 1024 * i + l)
    indexed-is i l low inside = ap (λ b. number_in W b l) (leaf-is i low) ∙ by (is-at row count (2147483649 + i))
      where
        by : IsAt row count (2147483649 + i) ⊎ ((m : ℕ) → m < count → (row m).place ≢ 2147483649 + i) → number_in W (N (2147483649 + i)) l ≡ N (48 + 1024 * i + l)
        by (inl f) =
            number-some W (N (2147483649 + i)) l (λ z. place-some f.i f.low (ap N f.is ∙ z))
            ∙ ap (λ p. word_at (W.block (N p)) (4 * l)) (sym f.is)
            ∙ ap (λ v. word_at v (4 * l)) (block-at f.i f.low)
            ∙ numbers.leaf f.i i l f.low f.is low inside
        by (inr out) =
            ap (λ b. number_in W b l) (unreached (2147483649 + i) out)
            ∙ same-number (2147483649 + i) l out (omega arith)
            ∙ ap (λ b. number_in V b l) (at-leaf V H i low)
            ∙ sym (at-indexed V H i l low inside)
            ∙ sym (numbers.no_leaf i low out l inside)

    -- the inode has the blocks that it is to have
    pub blocks-are : (p : ℕ) → block_at W (held_of k (name_from r.bytes)) p ≡ N p
    blocks-are p = by (place_kind p)
      where
        by : PlaceOf p → block_at W K p ≡ N p
        by (PlaceOf.direct_place low) = at-direct W K p low ∙ numbers.direct p low
        by (PlaceOf.content_place i l low inside same) = ap (block_at W K) same ∙ at-indexed W K i l low inside ∙ indexed-is i l low inside ∙ ap N (sym same)
        by (PlaceOf.index_place same) = ap (block_at W K) same ∙ at-index W K ∙ numbers.index ∙ ap N (sym same)
        by (PlaceOf.leaf_place i low same) = ap (block_at W K) same ∙ at-leaf W K i low ∙ leaf-is i low ∙ ap N (sym same)
        by (PlaceOf.no_place past other far) = at-none W K p past other far ∙ sym (numbers.none p past other far)

    module _ (size-is : k.size ≡ max r.head.size (offset + length bs)) where
      -- ── the inode is sound ──

      -- a new block is written, and its record
      writes : (i : ℕ) → i < count → block_at V (held r) (row i).place ≡ 0 → (row i).stays ≡ false
      writes i low none = by (row i).stays refl
        where
          by : (t : Bool) → (row i).stays ≡ t → t ≡ false
          by false t = refl
          by true t = let q = lays.stays i low t in absurd (place-some i low (sym (lays.block i low) ∙ sym q.0 ∙ lays.was i low ∙ none))

      owned : (p : ℕ) → N p ≢ 0 → W.owner (N p) ≡ record { number = n; place = p }
      owned p there = by (fresh-or p)
        where
          by : ((f : IsAt row count p) × (O p ≡ 0)) ⊎ (N p ≡ O p) → W.owner (N p) ≡ record { number = n; place = p }
          by (inl f) =
              let none : O (row f.0.i).place ≡ 0 = ap O f.0.is ∙ f.1 in
              ap (λ p. W.owner (N p)) (sym f.0.is)
              ∙ ap W.owner (sym (lays.block f.0.i f.0.low))
              ∙ owner-laid V1 n row f.0.i count f.0.low (writes f.0.i f.0.low none) (lays.was f.0.i f.0.low ∙ none) (λ m inside other. rows-apart f.0.i m f.0.low inside other)
              ∙ (λ z. record { number = n; place = f.0.is z })
          by (inr kept) =
              owner-unlaid V1 n row (N p) count (λ m inside _ none e. apart-own p m inside (λ same. there (kept ∙ ap O (sym same) ∙ sym (lays.was m inside) ∙ none)) there (e ∙ lays.block m inside))
              ∙ ap (λ o. o (N p)) owners-before
              ∙ ap V.owner kept
              ∙ was.owned p (λ z. there (kept ∙ z))

      within : (p : ℕ) → N p ≢ 0 → (V.first_data ≤ N p) × (N p < V.first_data + V.data_blocks)
      within p there = by (fresh-or p)
        where
          by : ((f : IsAt row count p) × (O p ≡ 0)) ⊎ (N p ≡ O p) → (V.first_data ≤ N p) × (N p < V.first_data + V.data_blocks)
          by (inl f) = let q = lays.free f.0.i f.0.low (ap O f.0.is ∙ f.1) in subst (λ p. (V.first_data ≤ N p) × (N p < V.first_data + V.data_blocks)) f.0.is (q.from, q.to)
          by (inr kept) = subst (λ b. (V.first_data ≤ b) × (b < V.first_data + V.data_blocks)) (sym kept) (was.there p (λ z. there (kept ∙ z)))

      after : (p : ℕ) → k.size ≤ begin_at p → N p ≡ 0
      after p far = by (fresh-or p)
        where
          by : ((f : IsAt row count p) × (O p ≡ 0)) ⊎ (N p ≡ O p) → N p ≡ 0
          by (inl f) = let early = lays.early f.0.i f.0.low in let same = ap begin_at f.0.is in let z = size-is in absurd (omega (arith, early, same, z, far))
          by (inr kept) = kept ∙ was.after p (let z = size-is in omega (arith, z, far))

      before-sized : (x : ℕ) → length (V.block x) ≡ 4096 → length ((with_gap V (gap_of V r.head offset)).block x) ≡ 4096
      before-sized x whole = by (gap_of V r.head offset) refl
        where
          by : (o : Option Tail) → gap_of V r.head offset ≡ o → length ((with_gap V o).block x) ≡ 4096
          by None g = whole
          by (Some t) g = at (cases_eq x t.block)
            where
              at : (x ≡ t.block) ⊎ (x ≡ t.block → ⊥) → length (cond (eqb x t.block) (cleared (V.block t.block) t.from) (V.block x)) ≡ 4096
              at (inl same) =
                  ap (λ b. length (cond b (cleared (V.block t.block) t.from) (V.block x))) (eq-eqb x t.block same)
                  ∙ cleared-long (V.block t.block) t.from (ap (λ x. length (V.block x)) (sym same) ∙ whole) (let e = (gap-some t g).3 in omega (arith, e))
              at (inr other) = ap (λ b. length (cond b (cleared (V.block t.block) t.from) (V.block x))) (ne_eqb x t.block other) ∙ whole

      sized : (p : ℕ) → N p ≢ 0 → length (W.block (N p)) ≡ 4096
      sized p there = by (is-at row count p)
        where
          by : IsAt row count p ⊎ ((i : ℕ) → i < count → (row i).place ≢ p) → length (W.block (N p)) ≡ 4096
          by (inl f) = ap (λ p. length (W.block (N p))) (sym f.is) ∙ ap length (block-at f.i f.low) ∙ lays.whole f.i f.low
          by (inr out) = ap length (block-own-out p out there) ∙ before-sized (N p) (ap (λ x. length (V.block x)) (unreached p out) ∙ was.sized p (λ z. there (unreached p out ∙ z)))

      sound-grown : (k.kind ≡ Directory → (blocks : ℕ) × (k.size ≡ 4096 * blocks)) → IsSoundInode W n (held_of k (name_from r.bytes))
      sound-grown whole = record {
        owned = λ p there. subst (λ b. W.owner b ≡ record { number = n; place = p }) (sym (blocks-are p)) (owned p (λ z. there (blocks-are p ∙ z)));
        there = λ p there. subst (λ b. (W.first_data ≤ b) × (b < W.first_data + W.data_blocks)) (sym (blocks-are p))
            (subst (λ f. (f ≤ N p) × (N p < f + W.data_blocks)) (sym first-is) (subst (λ d. (V.first_data ≤ N p) × (N p < V.first_data + d)) (sym many-are) (within p (λ z. there (blocks-are p ∙ z)))));
        after = λ p far. blocks-are p ∙ after p far;
        sized = λ p there. ap (λ b. length (W.block b)) (blocks-are p) ∙ sized p (λ z. there (blocks-are p ∙ z));
        whole = whole;
        first = λ j past. get_or_past k.blocks j 0 (let l = numbers.count_is in omega (arith, l, past));
      }

      -- ── the step ──

      pub step-grown : (k.kind ≡ Directory → (blocks : ℕ) × (k.size ≡ 4096 * blocks)) → (held_of k (name_from r.bytes)).home ≡ (held r).home → k.generation ≡ r.head.generation
          → ((place : ℕ) → entry_of W (used (held_of k (name_from r.bytes))) place ≡ entry_of V (used (held r)) place) → IsNodeStep V W n (held r) (held_of k (name_from r.bytes))
      step-grown whole home generation entries = record {
        form = record { numbers = numbers-are; first_data = first-is; data_blocks = many-are };
        is = is;
        new = inode-same U n (used K);
        others = λ i other. inode-other U n i (used K) other ∙ ap (λ f. f i) inodes-are;
        blocks = λ i g p other at there. block-out (block_at V g p) (λ m low. apart i g p m other at there low) ∙ before-other (block_at V g p) (λ t g_is same. apart-gap i g p other at there t g_is same);
        owners = λ i g p other at there. owner-unlaid V1 n row (block_at V g p) count (λ m low _ none e. apart i g p m other at there low (e ∙ lays.block m low)) ∙ ap (λ o. o (block_at V g p)) owners-before;
        sound = sound-grown whole;
        home = home;
        generation = generation;
        entries = entries;
      }
        where
          apart-gap : (i : ℕ) (g : Held) (p : ℕ) → i ≢ n → V.inode i ≡ used g → block_at V g p ≢ 0 → (t : Tail) → gap_of V r.head offset ≡ Some t → block_at V g p ≡ t.block → ⊥
          apart-gap i g p other at there t g_is same =
              let e : block_at V g p ≡ O last = same ∙ (gap-some t g_is).2 in
              other (sym (one_owner V n i H g last p was (sound.inodes i g at) (gap-some t g_is).1 (sym e)).0)

      -- ── of a file ──

      module _ (a_file : r.head.kind ≡ File) (c : Caller) (now : Time) (s : Numbers) (set : IsWrittenHead c now r.head s (offset + length bs) k) where
        no-directory : k.kind ≡ Directory → (blocks : ℕ) × (k.size ≡ 4096 * blocks)
        no-directory d = absurd (cc (sym d ∙ set.kind ∙ a_file))

        sound-written : IsSoundInode W n (held_of k (name_from r.bytes))
        sound-written = sound-grown no-directory

        pub step-written : IsNodeStep V W n (held r) (held_of k (name_from r.bytes))
        step-written = step-grown no-directory (λ z. record { directory = set.directory z; place = set.place z; name = name_from r.bytes }) set.generation
            (λ place. ap (λ kind. entry_by W kind K place) (set.kind ∙ a_file) ∙ sym (ap (λ kind. entry_by V kind H place) a_file))

        -- ── its bytes ──

        module _ (im : IsImage V r.head offset bs image) (long : length image ≡ image_bytes offset (offset + length bs)) where
          byte-is : (i : ℕ) → byte_at W (held_of k (name_from r.bytes)) i ≡ get_or (bytes_in W (N (i / 4096))) (i % 4096) 0
          byte-is i = ap (λ b. get_or (bytes_in W b) (i % 4096) 0) (blocks-are (i / 4096))

          -- in a block in which bytes lie
          byte-in : (i : ℕ) → is_in offset (offset + length bs) (i / 4096) ≡ true → get_or (bytes_in W (N (i / 4096))) (i % 4096) 0 ≡ get_or image (i - begin_of offset) 0
          byte-in i in_it =
              let p = in-parts offset to (i / 4096) in_it in let a = p.0 in let b = p.1 in
              let q = lays.at (i / 4096) in_it in
              in-some W (N (i / 4096)) (i % 4096) (λ z. place-some (i / 4096 - offset / 4096) q.0 (ap N q.1 ∙ z))
              ∙ ap (λ p. get_or (W.block (N p)) (i % 4096) 0) (sym q.1)
              ∙ ap (λ v. get_or v (i % 4096) 0) (block-at (i / 4096 - offset / 4096) q.0 ∙ lays.piece (i / 4096) in_it)
              ∙ range-at image (4096 * (i / 4096) - begin_of offset) (4096 * (i / 4096) - begin_of offset + 4096) (i % 4096) (omega arith)
              ∙ ap (λ k. get_or image k 0) (let e : 4096 * (i / 4096) - begin_of offset + i % 4096 ≡ i - begin_of offset = omega (arith, a, b) in e)

          out-at : (i : ℕ) → i < 4295163904 → is_in offset (offset + length bs) (i / 4096) ≡ false → (m : ℕ) → m < count → (row m).place ≢ i / 4096
          out-at i low out = lays.out (i / 4096) out (omega (arith, low))

          -- in another, before the file's end as it was
          byte-out : (i : ℕ) → is_in offset (offset + length bs) (i / 4096) ≡ false → i < r.head.size → get_or (bytes_in W (N (i / 4096))) (i % 4096) 0 ≡ byte_at V (held r) i
          byte-out i out inside = ap (λ b. get_or (bytes_in W b) (i % 4096) 0) (unreached (i / 4096) others) ∙ by (cases_eq (O (i / 4096)) 0)
            where
              others : (m : ℕ) → m < count → (row m).place ≢ i / 4096
              others = out-at i (omega (arith, inside, small)) out

              same-block : O (i / 4096) ≢ 0 → W.block (O (i / 4096)) ≡ V1.block (O (i / 4096))
              same-block there = subst (λ b. W.block b ≡ V1.block b) (unreached (i / 4096) others) (block-own-out (i / 4096) others (λ z. there (sym (unreached (i / 4096) others) ∙ z)))

              before-is : O (i / 4096) ≢ 0 → get_or (V1.block (O (i / 4096))) (i % 4096) 0 ≡ get_or (V.block (O (i / 4096))) (i % 4096) 0
              before-is there = at (cases_eq (i / 4096) last) (gap_of V r.head offset) refl
                where
                  at : (i / 4096 ≡ last) ⊎ (i / 4096 ≡ last → ⊥) → (o : Option Tail) → gap_of V r.head offset ≡ o → get_or (V1.block (O (i / 4096))) (i % 4096) 0 ≡ get_or (V.block (O (i / 4096))) (i % 4096) 0
                  at (inr other) o g = ap (λ v. get_or v (i % 4096) 0) (before-own (i / 4096) there other)
                  at (inl same) None g = ap (λ o. get_or ((with_gap V o).block (O (i / 4096))) (i % 4096) 0) g
                  at (inl same) (Some t) g =
                      ap (λ p. get_or (V1.block (O p)) (i % 4096) 0) same
                      ∙ ap (λ v. get_or v (i % 4096) 0) (before-gap t g)
                      ∙ cleared-front (V.block (O last)) (r.head.size % 4096) (i % 4096) (was.sized last (gap-some t g).1) (omega arith) (omega (arith, same, inside))
                      ∙ ap (λ p. get_or (V.block (O p)) (i % 4096) 0) (sym same)

              by : (O (i / 4096) ≡ 0) ⊎ (O (i / 4096) ≡ 0 → ⊥) → get_or (bytes_in W (O (i / 4096))) (i % 4096) 0 ≡ byte_at V H i
              by (inl none) = in-none W (O (i / 4096)) (i % 4096) none (omega arith) ∙ sym (in-none V (O (i / 4096)) (i % 4096) none (omega arith))
              by (inr there) =
                  in-some W (O (i / 4096)) (i % 4096) there
                  ∙ ap (λ v. get_or v (i % 4096) 0) (same-block there)
                  ∙ before-is there
                  ∙ sym (in-some V (O (i / 4096)) (i % 4096) there)

          -- and after it
          byte-gap : (i : ℕ) → is_in offset (offset + length bs) (i / 4096) ≡ false → r.head.size ≤ i → i < offset → get_or (bytes_in W (N (i / 4096))) (i % 4096) 0 ≡ 0
          byte-gap i out past low = ap (λ b. get_or (bytes_in W b) (i % 4096) 0) (unreached (i / 4096) others) ∙ by (cases_eq (O (i / 4096)) 0)
            where
              others : (m : ℕ) → m < count → (row m).place ≢ i / 4096
              others = out-at i (omega (arith, low, fits)) out

              begins : O (i / 4096) ≢ 0 → 4096 * (i / 4096) < r.head.size
              begins there = at (cases_lt (4096 * (i / 4096)) r.head.size)
                where
                  at : (4096 * (i / 4096) < r.head.size) ⊎ (r.head.size ≤ 4096 * (i / 4096)) → 4096 * (i / 4096) < r.head.size
                  at (inl before) = before
                  at (inr far) = absurd (there (was.after (i / 4096) (subst (λ b. r.head.size ≤ b) (sym (begin-content (i / 4096) (omega (arith, low, fits)))) far)))

              same : O (i / 4096) ≢ 0 → i / 4096 ≡ r.head.size / 4096
              same there = let l = begins there in omega (arith, l, past)

              before_it : O (i / 4096) ≢ 0 → r.head.size / 4096 < offset / 4096
              before_it there = at (cases_lt last (offset / 4096))
                where
                  at : (last < offset / 4096) ⊎ (offset / 4096 ≤ last) → last < offset / 4096
                  at (inl l) = l
                  at (inr l) = absurd (false≢true (sym out ∙ in-both offset to (i / 4096) (omega (arith, low)) (let s = same there in omega (arith, s, l))))

              is-zero : O (i / 4096) ≢ 0 → (o : Option Tail) → gap_of V r.head offset ≡ o → get_or (bytes_in W (O (i / 4096))) (i % 4096) 0 ≡ 0
              is-zero there None g = absurd (there (ap O (same there) ∙ gap-none 0 g (before_it there)))
              is-zero there (Some t) g =
                  in-some W (O (i / 4096)) (i % 4096) there
                  ∙ ap (λ v. get_or v (i % 4096) 0) (subst (λ b. W.block b ≡ V1.block b) (unreached (i / 4096) others) (block-own-out (i / 4096) others (λ z. there (sym (unreached (i / 4096) others) ∙ z))))
                  ∙ ap (λ p. get_or (V1.block (O p)) (i % 4096) 0) (same there)
                  ∙ ap (λ v. get_or v (i % 4096) 0) (before-gap t g)
                  ∙ cleared-back (V.block (O last)) (r.head.size % 4096) (i % 4096) (was.sized last (gap-some t g).1) (omega arith) (let s = same there in omega (arith, s, past)) (omega arith)

              by : (O (i / 4096) ≡ 0) ⊎ (O (i / 4096) ≡ 0 → ⊥) → get_or (bytes_in W (O (i / 4096))) (i % 4096) 0 ≡ 0
              by (inl none) = in-none W (O (i / 4096)) (i % 4096) none (omega arith)
              by (inr there) = is-zero there (gap_of V r.head offset) refl

          held-long : length (content V (held r)) ≡ r.head.size
          held-long = length-content V n (held r) was

          each : (i : ℕ) → i < k.size → get_or (content W (held_of k (name_from r.bytes))) i 0 ≡ get_or (overlaid (content V (held r)) offset bs) i 0
          each i low = content-at W n K sound-written i low ∙ byte-is i ∙ by (cases_lt i offset) (cases_lt i (offset + length bs)) (cases_lt i r.head.size) (is_in offset (offset + length bs) (i / 4096)) refl
            where
              there : is_in offset (offset + length bs) (i / 4096) ≡ true → i - begin_of offset < length image
              there in_it = let p = in-parts offset (offset + length bs) (i / 4096) in_it in let a = p.0 in let b = p.1 in omega (arith, long, a, b)

              back : is_in offset (offset + length bs) (i / 4096) ≡ true → begin_of offset + (i - begin_of offset) ≡ i
              back in_it = let p = in-parts offset (offset + length bs) (i / 4096) in_it in let b = p.1 in omega (arith, b)

              -- where it was before
              stays : (i < offset) ⊎ (offset + length bs ≤ i) → i < r.head.size → (t : Bool) → is_in offset (offset + length bs) (i / 4096) ≡ t → get_or (bytes_in W (N (i / 4096))) (i % 4096) 0 ≡ byte_at V H i
              stays beside inside false out = byte-out i out inside
              stays beside inside true in_it =
                  let e = back in_it in
                  byte-in i in_it
                  ∙ im.old (i - begin_of offset) (there in_it) (subst (λ k. (k < offset) ⊎ (offset + length bs ≤ k)) (sym e) beside) (subst (λ k. k < r.head.size) (sym e) inside)
                  ∙ ap (λ i. get_or (bytes_in V (file_blocks V r.head (i / 4096))) (i % 4096) 0) e
                  ∙ ap (λ b. get_or (bytes_in V b) (i % 4096) 0) (file-is (i / 4096))

              goes : i < offset → r.head.size ≤ i → (t : Bool) → is_in offset (offset + length bs) (i / 4096) ≡ t → get_or (bytes_in W (N (i / 4096))) (i % 4096) 0 ≡ 0
              goes before past false out = byte-gap i out past before
              goes before past true in_it =
                  let e = back in_it in
                  byte-in i in_it
                  ∙ im.blank (i - begin_of offset) (there in_it) (subst (λ k. (k < offset) ⊎ (offset + length bs ≤ k)) (sym e) (inl before)) (subst (λ k. r.head.size ≤ k) (sym e) past)

              -- where it is new
              comes : offset ≤ i → i < offset + length bs → get_or (bytes_in W (N (i / 4096))) (i % 4096) 0 ≡ get_or bs (i - offset) 0
              comes past before =
                  let in_it = in-both offset (offset + length bs) (i / 4096) (omega (arith, before)) (omega (arith, past)) in
                  let e = back in_it in
                  byte-in i in_it
                  ∙ im.new (i - begin_of offset) (there in_it) (subst (λ k. offset ≤ k) (sym e) past) (subst (λ k. k < offset + length bs) (sym e) before)
                  ∙ ap (λ k. get_or bs (k - offset) 0) e

              was-inside : i < r.head.size → i < length (content V H)
              was-inside inside = let l = held-long in omega (arith, l, inside)

              was-past : r.head.size ≤ i → length (content V H) ≤ i
              was-past past = let l = held-long in omega (arith, l, past)

              by : (i < offset) ⊎ (offset ≤ i) → (i < offset + length bs) ⊎ (offset + length bs ≤ i) → (i < r.head.size) ⊎ (r.head.size ≤ i) → (t : Bool) → is_in offset (offset + length bs) (i / 4096) ≡ t
                  → get_or (bytes_in W (N (i / 4096))) (i % 4096) 0 ≡ get_or (overlaid (content V H) offset bs) i 0
              by (inl before) _ (inl inside) t is_t = stays (inl before) inside t is_t ∙ sym (overlaid-front (content V H) offset bs i before (was-inside inside) ∙ content-at V n H was i inside)
              by (inl before) _ (inr past) t is_t = goes before past t is_t ∙ sym (overlaid-gap (content V H) offset bs i before (was-past past))
              by (inr after_it) (inl before) _ t is_t = comes after_it before ∙ sym (overlaid-new (content V H) offset bs i after_it before)
              by (inr after_it) (inr past) (inl inside) t is_t = stays (inr past) inside t is_t ∙ sym (overlaid-back (content V H) offset bs i past ∙ content-at V n H was i inside)
              by (inr after_it) (inr past) (inr far) t is_t = let s = size-is in absurd (omega (arith, s, low, past, far))

          bytes-are : content W (held_of k (name_from r.bytes)) ≡ overlaid (content V (held r)) offset bs
          bytes-are = ext_get_or 0 (content W K) (overlaid (content V H) offset bs) (is_long ∙ sym new_long) (λ i low. each i (let l = is_long in omega (arith, l, low)))
            where
              is_long : length (content W K) ≡ k.size
              is_long = length-content W n K sound-written

              new_long : length (overlaid (content V H) offset bs) ≡ k.size
              new_long = overlaid-long (content V H) offset bs ∙ ap (λ n. max n (offset + length bs)) held-long ∙ sym size-is

          ctime : IsTime r.head.attributes.ctime
          ctime = (sound.fit.nodes n (node_of V (held r)) (inode-node V n (held r) is)).ctime

          pub node-written : node_of W (held_of k (name_from r.bytes)) ≡ written_node c (node_of V (held r)) (overlaid (content V (held r)) offset bs) now
          node-written = λ z. record {
            attributes = set.attributes ctime z;
            home = record { directory = set.directory z; place = set.place z; name = name_from r.bytes };
            body = (ap (λ kind. body_of W kind K) (set.kind ∙ a_file) ∙ ap file bytes-are) z;
          }
