-- The bytes of the blocks in which bytes lie that are written.
use Rattle.std.proofs.Common.{◌≡◌, ℕ, ◌+◌, ◌-◌, ◌*◌, ◌/◌, ◌<◌, ◌≤◌, min, Bool, true, false, List, length, take, get_or, replicate, refl, ap, subst, inl, inr, ◌∙◌, arith, length-append}
use Rattle.std.specs.Prelude.{nat_le}
use Rattle.std.proofs.lemmas.Bool.{leb-true, and_parts}
use Rattle.std.proofs.lemmas.List.{length-take-le, length-replicate, get_or_append_left, get_or-append_right, get_or-take, get_or-replicate}
use Rattle.journal_treestore.specs.declared.inode.Head.{Head}
use Rattle.journal_treestore.specs.Bytes.{with_piece}
use Rattle.journal_treestore.specs.Views.{View}
use Rattle.journal_treecalls.specs.Disks.{Learns}
use Rattle.journal_treecalls.specs.Fetches.{is_whole, file_blocks, IsFetched}
use Rattle.journal_treecalls.specs.Sizes.{cleared}
use Rattle.journal_treecalls.specs.Overlays.{begin_of, image_bytes, IsBeside, IsImage}
use Rattle.journal_treecalls.proofs.Learning.{learns-as}
use Rattle.journal_treecalls.proofs.Fetching.{length-put, put-before, put-inside, put-after}

-- ── bytes with zeros from a place on ──

module _ (v : List ℕ) (from : ℕ) (fits : from ≤ length v) where
  front-long : length (take from v) ≡ from
  front-long = length-take-le from v fits

  pub clear-long : length (cleared v from) ≡ length v
  clear-long = length-append (take from v) (replicate (length v - from) 0) ∙ (let a = front-long in let b = length-replicate {A = ℕ} (length v - from) 0 in omega (arith, a, b, fits))

  pub clear-front : (i : ℕ) → i < from → get_or (cleared v from) i 0 ≡ get_or v i 0
  clear-front i low = get_or_append_left (take from v) (replicate (length v - from) 0) 0 i (let a = front-long in omega (arith, a, low)) ∙ get_or-take from v i 0 low

  pub clear-back : (i : ℕ) → from ≤ i → i < length v → get_or (cleared v from) i 0 ≡ 0
  clear-back i past low = get_or-append_right (take from v) (replicate (length v - from) 0) from i 0 front-long past ∙ get_or-replicate {A = ℕ} (length v - from) (i - from) 0 0 (omega (arith, past, low))

-- ── the image ──

module _ (V : View) (h : Head) (offset : ℕ) (bs fetched image : List ℕ) (some : 0 < length bs) (fits : offset + length bs ≤ 4295163904) (long : length fetched ≡ image_bytes offset (offset + length bs))
    (f : IsFetched V (file_blocks V h) (record { from = offset; to = offset + length bs }) (begin_of offset) 1048624 fetched)
    (is : image ≡ with_piece (cleared fetched (min (h.size - begin_of offset) (length fetched))) (offset - begin_of offset) bs) where
  abbrev kept : ℕ
  kept = min (h.size - begin_of offset) (length fetched)

  abbrev base : List ℕ
  base = cleared fetched (min (h.size - begin_of offset) (length fetched))

  base-long : length (cleared fetched (min (h.size - begin_of offset) (length fetched))) ≡ length fetched
  base-long = clear-long fetched kept (omega arith)

  room : offset - begin_of offset + length bs ≤ length (cleared fetched (min (h.size - begin_of offset) (length fetched)))
  room = let b = base-long in omega (arith, b, long, some)

  image-long : length image ≡ image_bytes offset (offset + length bs)
  image-long = ap length is ∙ length-put base (offset - begin_of offset) bs room ∙ base-long ∙ long

  low : (k : ℕ) → k < length image → k < length fetched
  low k l = let i = image-long in omega (arith, i, l, long)

  new : (k : ℕ) → k < length image → offset ≤ begin_of offset + k → begin_of offset + k < offset + length bs → get_or image k 0 ≡ get_or bs (begin_of offset + k - offset) 0
  new k l past before =
      ap (λ v. get_or v k 0) is
      ∙ put-inside base (offset - begin_of offset) bs room k (omega (arith, past)) (omega (arith, past, before))
      ∙ ap (λ i. get_or bs i 0) (let e : k - (offset - begin_of offset) ≡ begin_of offset + k - offset = omega (arith, past) in e)

  beside : (k : ℕ) → IsBeside offset (offset + length bs) (begin_of offset + k) → get_or image k 0 ≡ get_or (cleared fetched (min (h.size - begin_of offset) (length fetched))) k 0
  beside k (inl before) = ap (λ v. get_or v k 0) is ∙ put-before base (offset - begin_of offset) bs room k (omega (arith, before))
  beside k (inr past) = ap (λ v. get_or v k 0) is ∙ put-after base (offset - begin_of offset) bs room k (omega (arith, past))

  -- a block beside the bytes does not lie in them
  not-whole : (i : ℕ) → IsBeside offset (offset + length bs) i → is_whole (record { from = offset; to = offset + length bs }) (i / 4096) ≡ false
  not-whole i out = by (is_whole (record { from = offset; to = offset + length bs }) (i / 4096)) refl
    where
      inside : (offset ≤ 4096 * (i / 4096)) → (4096 * (i / 4096 + 1) ≤ offset + length bs) → IsBeside offset (offset + length bs) i → ⊥
      inside a b (inl before) = absurd (omega (arith, a, before))
      inside a b (inr past) = absurd (omega (arith, b, past))

      by : (t : Bool) → is_whole (record { from = offset; to = offset + length bs }) (i / 4096) ≡ t → t ≡ false
      by false t = refl
      by true t =
          let p = and_parts (nat_le offset (4096 * (i / 4096))) (nat_le (4096 * (i / 4096 + 1)) (offset + length bs)) t in
          absurd (inside (leb-true offset (4096 * (i / 4096)) p.0) (leb-true (4096 * (i / 4096 + 1)) (offset + length bs) p.1) out)

  pub image-is : IsImage V h offset bs image
  image-is = record {
    new = new;
    old = λ k l out inside.
        beside k out
        ∙ clear-front fetched kept (omega arith) k (let w = low k l in omega (arith, w, inside))
        ∙ f.done k (low k l) (let w = low k l in omega (arith, w, long, fits)) (not-whole (begin_of offset + k) out);
    blank = λ k l out past.
        beside k out
        ∙ clear-back fetched kept (omega arith) k (omega (arith, past)) (low k l);
  }

pub image-learns : (first last : View → Type 0) (h : Head) (offset begin : ℕ) (bs zeros fetched kept image : List ℕ) → 0 < length bs → offset + length bs ≤ 4295163904 → length zeros ≡ image_bytes offset (offset + length bs) → length fetched ≡ length zeros
    → Learns first last (λ V. IsFetched V (file_blocks V h) (record { from = offset; to = offset + length bs }) begin 1048624 fetched) → begin ≡ begin_of offset
    → image ≡ with_piece (cleared kept (min (h.size - begin_of offset) (length kept))) (offset - begin_of offset) bs → kept ≡ fetched → Learns first last (λ V. IsImage V h offset bs image)
image-learns first last h offset begin bs zeros fetched kept image some fits zeros_long same l begin_is is kept_is = learns-as first last _ _ l (λ V m f.
    image-is V h offset bs fetched image some fits (same ∙ zeros_long) (subst (λ b. IsFetched V (file_blocks V h) (record { from = offset; to = offset + length bs }) b 1048624 fetched) begin_is f) (is ∙ ap (λ (v : List ℕ). with_piece (cleared v (min (h.size - begin_of offset) (length v))) (offset - begin_of offset) bs) kept_is))
