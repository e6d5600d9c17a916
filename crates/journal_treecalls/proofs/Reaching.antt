-- Which blocks of a file are reached, and their numbers.
use Rattle.std.proofs.Common.{◌≡◌, ◌≢◌, ℕ, ◌+◌, ◌-◌, ◌*◌, ◌<◌, ◌≤◌, ◌&&◌, not, Bool, false, cond, eqb, w32, List, length, get_or, set, refl, sym, ap, subst, ◌⊎◌, inl, inr, ◌∙◌, arith, get_or-set_same, get_or-set_other}
use Rattle.std.specs.Prelude.{nat_lt, nat_le}
use Rattle.std.specs.Int.{to_le_bytes}
use Rattle.std.proofs.lemmas.Bool.{cases_eq, cases_lt, eq-eqb, ne_eqb, lt-ltb, le-ltb, le-leb, lt-leb, and_from, and_left, and_right}
use Rattle.journal_treestore.specs.declared.inode.Head.{Head}
use Rattle.journal_treestore.specs.Bytes.{with_piece, word_at}
use Rattle.journal_treestore.specs.Views.{Held, View, held_of, zero_block, number_in, index_block, block_at, bytes_in}
use Rattle.journal_treestore.proofs.Numbering.{number-same, number-other, length-number, zero_block-numbers, number-part}
use Rattle.journal_treestore.proofs.Indexing.{PlaceOf, place_kind, at-direct, at-indexed, at-index, at-leaf}
use Rattle.journal_treecalls.specs.declared.reach.Reach.{Reach}
use Rattle.journal_treecalls.specs.declared.reach.Numbers.{Numbers}
use Rattle.journal_treecalls.specs.Fetches.{number_at}
use Rattle.journal_treecalls.specs.Reaches.{reach_for, reach_count, reach_place, IsReach, is_leafed, is_rooted, numbered, IsKnown, leaf_bytes, AreSized, PutsNumber, HasNumbers}
use Rattle.journal_treecalls.specs.Reaches.IsKnown.{direct_known, leafed_known, index_known, rooted_known}

-- ── numbers in bytes ──

-- a number that was put
pub puts-number : (old new : List ℕ) (k b : ℕ) → 4 * k + 4 ≤ length old → b < 4294967296 → new ≡ with_piece old (4 * k) (to_le_bytes w32 b) → PutsNumber old k b new
puts-number old new k b room fits is = record {
  long = ap length is ∙ length-number old k b room;
  here = ap (λ v. word_at v (4 * k)) is ∙ number-same old k b room fits;
  others = λ i other inside. ap (λ v. word_at v (4 * i)) is ∙ number-other old k b room i other;
}

-- the numbers of one of several blocks
pub number-inside : (v : List ℕ) (i l : ℕ) → l < 1024 → 4096 * i + 4096 ≤ length v → number_at (leaf_bytes v i) l ≡ number_at v (1024 * i + l)
number-inside v i l low room =
    number-part v (4096 * i) (4096 * i + 4096) (4 * l) (omega (arith, low))
    ∙ ap (word_at v) (let e : 4096 * i + 4 * l ≡ 4 * (1024 * i + l) = omega arith in e)

-- the numbers of a block, and of none
pub number-of : (V : View) (b l : ℕ) → l < 1024 → number_at (bytes_in V b) l ≡ number_in V b l
number-of V b l low = by (cases_eq b 0)
  where
    by : (b ≡ 0) ⊎ (b ≡ 0 → ⊥) → number_at (bytes_in V b) l ≡ number_in V b l
    by (inl none) =
        ap (λ t. word_at (cond t zero_block (V.block b)) (4 * l)) (eq-eqb b 0 none)
        ∙ zero_block-numbers l low
        ∙ sym (ap (λ t. cond t 0 (word_at (V.block b) (4 * l))) (eq-eqb b 0 none))
    by (inr some) =
        ap (λ t. word_at (cond t zero_block (V.block b)) (4 * l)) (ne_eqb b 0 some)
        ∙ sym (ap (λ t. cond t 0 (word_at (V.block b) (4 * l))) (ne_eqb b 0 some))

-- ── places ──

-- The kind of place m of those that are reached
pub data PlaceIn (r : Reach) (m : ℕ) : Type 0 where
  content_in : m < r.blocks → reach_place r m ≡ r.block + m → PlaceIn r m
  leaf_in : (i : ℕ) → i < r.leaves → m ≡ r.blocks + i → reach_place r m ≡ 2147483649 + (r.leaf + i) → PlaceIn r m
  root_in : r.leaves ≢ 0 → m ≡ r.blocks + r.leaves → reach_place r m ≡ 2147483648 → PlaceIn r m

module _ (r : Reach) where
  count-none : r.leaves ≡ 0 → reach_count r ≡ r.blocks
  count-none none = ap (λ t. cond t r.blocks (r.blocks + r.leaves + 1)) (eq-eqb r.leaves 0 none)

  count-some : r.leaves ≢ 0 → reach_count r ≡ r.blocks + r.leaves + 1
  count-some some = ap (λ t. cond t r.blocks (r.blocks + r.leaves + 1)) (ne_eqb r.leaves 0 some)

  abbrev place_by : Bool → Bool → ℕ → ℕ
  place_by a b m = cond a (r.block + m) (cond b (2147483649 + (r.leaf + (m - r.blocks))) 2147483648)

  place-tests : (m : ℕ) → reach_place r m ≡ place_by (nat_lt m r.blocks) (nat_lt m (r.blocks + r.leaves)) m
  place-tests m = refl

  pub place-content : (m : ℕ) → m < r.blocks → reach_place r m ≡ r.block + m
  place-content m low = place-tests m ∙ ap (λ t. place_by t (nat_lt m (r.blocks + r.leaves)) m) (lt-ltb m r.blocks low)

  place-after : (m : ℕ) → r.blocks ≤ m → reach_place r m ≡ place_by false (nat_lt m (r.blocks + r.leaves)) m
  place-after m past = place-tests m ∙ ap (λ t. place_by t (nat_lt m (r.blocks + r.leaves)) m) (le-ltb m r.blocks past)

  pub place-in : (m : ℕ) → m < reach_count r → PlaceIn r m
  place-in m low = by (cases_lt m r.blocks) (cases_lt m (r.blocks + r.leaves)) (cases_eq r.leaves 0)
    where
      by : (m < r.blocks) ⊎ (r.blocks ≤ m) → (m < r.blocks + r.leaves) ⊎ (r.blocks + r.leaves ≤ m) → (r.leaves ≡ 0) ⊎ (r.leaves ≡ 0 → ⊥) → PlaceIn r m
      by (inl less) _ _ = content_in less (place-content m less)
      by (inr past) (inl less) _ = leaf_in (m - r.blocks) (omega (arith, past, less)) (omega (arith, past)) (place-after m past ∙ ap (λ t. place_by false t m) (lt-ltb m (r.blocks + r.leaves) less))
      by (inr past) (inr far) (inl none) = let c = count-none none in absurd (omega (arith, c, low, past))
      by (inr past) (inr far) (inr some) = let c = count-some some in root_in some (omega (arith, c, low, far)) (place-after m past ∙ ap (λ t. place_by false t m) (le-ltb m (r.blocks + r.leaves) far))

  pub count-blocks : r.blocks ≤ reach_count r
  count-blocks = by (cases_eq r.leaves 0)
    where
      by : (r.leaves ≡ 0) ⊎ (r.leaves ≡ 0 → ⊥) → r.blocks ≤ reach_count r
      by (inl none) = let c = count-none none in omega (arith, c)
      by (inr some) = let c = count-some some in omega (arith, c)

  pub count-leaf : (i : ℕ) → i < r.leaves → r.blocks + i < reach_count r
  count-leaf i low = let c = count-some (λ e. absurd (omega (arith, e, low))) in omega (arith, c, low)

  pub count-root : r.leaves ≢ 0 → r.blocks + r.leaves < reach_count r
  count-root some = let c = count-some some in omega (arith, c)

  pub place-leaf : (i : ℕ) → i < r.leaves → reach_place r (r.blocks + i) ≡ 2147483649 + (r.leaf + i)
  place-leaf i low =
      place-after (r.blocks + i) (omega arith)
      ∙ ap (λ t. place_by false t (r.blocks + i)) (lt-ltb (r.blocks + i) (r.blocks + r.leaves) (omega (arith, low)))
      ∙ (let e : 2147483649 + (r.leaf + (r.blocks + i - r.blocks)) ≡ 2147483649 + (r.leaf + i) = omega arith in e)

  pub place-root : reach_place r (r.blocks + r.leaves) ≡ 2147483648
  place-root = place-after (r.blocks + r.leaves) (omega arith) ∙ ap (λ t. place_by false t (r.blocks + r.leaves)) (le-ltb (r.blocks + r.leaves) (r.blocks + r.leaves) (omega arith))

  module _ (fit : IsReach r) where
    pub known-at : (m : ℕ) → m < reach_count r → IsKnown r (reach_place r m)
    known-at m low = by (place-in m low)
      where
        content : (p : ℕ) → m < r.blocks → p ≡ r.block + m → (p < 48) ⊎ (48 ≤ p) → IsKnown r p
        content p less is (inl direct) = direct_known direct
        content p less is (inr past) = let a = fit.low in let b = fit.high in leafed_known (omega (arith, a, is, past)) (omega (arith, b, is, less))

        by : PlaceIn r m → IsKnown r (reach_place r m)
        by (content_in less is) = content (reach_place r m) less is (cases_lt (reach_place r m) 48)
        by (leaf_in i less at is) = let f = fit.few in rooted_known (λ e. absurd (omega (arith, e, less))) (omega (arith, is)) (omega (arith, is, less, f))
        by (root_in some at is) = index_known is

    pub place-once : (m k : ℕ) → m < reach_count r → k < reach_count r → m ≢ k → reach_place r m ≢ reach_place r k
    place-once m k low inside other e = by (place-in m low) (place-in k inside)
      where
        by : PlaceIn r m → PlaceIn r k → ⊥
        by (content_in a p) (content_in b q) = absurd (other (let s : m ≡ k = omega (arith, e, p, q) in s))
        by (content_in a p) (leaf_in j b l q) = let f = fit.end in absurd (omega (arith, e, p, q, a, f))
        by (content_in a p) (root_in b l q) = let f = fit.end in absurd (omega (arith, e, p, q, a, f))
        by (leaf_in i a at p) (content_in b q) = let f = fit.end in absurd (omega (arith, e, p, q, b, f))
        by (leaf_in i a at p) (leaf_in j b l q) = absurd (other (let s : m ≡ k = omega (arith, e, p, q, at, l) in s))
        by (leaf_in i a at p) (root_in b l q) = absurd (omega (arith, e, p, q))
        by (root_in a at p) (content_in b q) = let f = fit.end in absurd (omega (arith, e, p, q, b, f))
        by (root_in a at p) (leaf_in j b l q) = absurd (omega (arith, e, p, q))
        by (root_in a at p) (root_in b l q) = absurd (other (let s : m ≡ k = omega (arith, at, l) in s))

    pub place-high : (m : ℕ) → m < reach_count r → r.blocks ≤ m → 2147483648 ≤ reach_place r m
    place-high m low past = by (place-in m low)
      where
        by : PlaceIn r m → 2147483648 ≤ reach_place r m
        by (content_in a p) = absurd (omega (arith, a, past))
        by (leaf_in i a at p) = omega (arith, p)
        by (root_in a at p) = omega (arith, p)

-- a WRITE reaches such ones
pub reach-fits : (from to : ℕ) (r : Reach) → from < to → to ≤ 4295163904 → r ≡ reach_for from to → IsReach r
reach-fits from to r some fits is = subst IsReach (sym is) (record {
  some = omega (arith, some);
  end = omega (arith, some, fits);
  low = omega arith;
  high = omega (arith, some);
  few = omega (arith, some, fits);
  tight = λ leaves. omega (arith, some, leaves);
})

-- ── the numbers by their places ──

module _ (others : ℕ → ℕ) (r : Reach) (s : Numbers) where
  abbrev root_by : Bool → ℕ → ℕ
  root_by d p = cond d (number_at s.root.items (p - 2147483649)) (others p)

  abbrev index_by : Bool → Bool → ℕ → ℕ
  index_by c d p = cond c s.index (root_by d p)

  abbrev leaf_by : Bool → Bool → Bool → ℕ → ℕ
  leaf_by b c d p = cond b (number_at s.leaves.items (p - (48 + 1024 * r.leaf))) (index_by c d p)

  tests : (p : ℕ) → numbered others r s p ≡ cond (nat_lt p 48) (get_or s.direct p 0) (leaf_by (is_leafed r p) (eqb p 2147483648) (is_rooted r p) p)
  unfolding numbered
  tests p = refl

  pub numbered-direct : (p : ℕ) → p < 48 → numbered others r s p ≡ get_or s.direct p 0
  numbered-direct p low = tests p ∙ ap (λ t. cond t (get_or s.direct p 0) (leaf_by (is_leafed r p) (eqb p 2147483648) (is_rooted r p) p)) (lt-ltb p 48 low)

  past-direct : (p : ℕ) → 48 ≤ p → numbered others r s p ≡ leaf_by (is_leafed r p) (eqb p 2147483648) (is_rooted r p) p
  past-direct p past = tests p ∙ ap (λ t. cond t (get_or s.direct p 0) (leaf_by (is_leafed r p) (eqb p 2147483648) (is_rooted r p) p)) (le-ltb p 48 past)

  pub numbered-leafed : (p : ℕ) → 48 + 1024 * r.leaf ≤ p → p < 48 + 1024 * (r.leaf + r.leaves) → numbered others r s p ≡ number_at s.leaves.items (p - (48 + 1024 * r.leaf))
  numbered-leafed p past low =
      past-direct p (omega (arith, past))
      ∙ ap (λ t. leaf_by t (eqb p 2147483648) (is_rooted r p) p)
      (and_from (nat_le (48 + 1024 * r.leaf) p) (nat_lt p (48 + 1024 * (r.leaf + r.leaves))) (le-leb (48 + 1024 * r.leaf) p past) (lt-ltb p (48 + 1024 * (r.leaf + r.leaves)) low))

  not-leafed : (p : ℕ) → (p < 48 + 1024 * r.leaf) ⊎ (48 + 1024 * (r.leaf + r.leaves) ≤ p) → is_leafed r p ≡ false
  not-leafed p (inl low) = and_left (nat_le (48 + 1024 * r.leaf) p) (nat_lt p (48 + 1024 * (r.leaf + r.leaves))) (lt-leb (48 + 1024 * r.leaf) p low)
  not-leafed p (inr far) = and_right (nat_le (48 + 1024 * r.leaf) p) (nat_lt p (48 + 1024 * (r.leaf + r.leaves))) (le-ltb p (48 + 1024 * (r.leaf + r.leaves)) far)

  past-leafed : (p : ℕ) → 48 ≤ p → (p < 48 + 1024 * r.leaf) ⊎ (48 + 1024 * (r.leaf + r.leaves) ≤ p) → numbered others r s p ≡ index_by (eqb p 2147483648) (is_rooted r p) p
  past-leafed p past out = past-direct p past ∙ ap (λ t. leaf_by t (eqb p 2147483648) (is_rooted r p) p) (not-leafed p out)

  past-index : (p : ℕ) → 48 ≤ p → (p < 48 + 1024 * r.leaf) ⊎ (48 + 1024 * (r.leaf + r.leaves) ≤ p) → p ≢ 2147483648 → numbered others r s p ≡ root_by (is_rooted r p) p
  past-index p past out other = past-leafed p past out ∙ ap (λ t. index_by t (is_rooted r p) p) (ne_eqb p 2147483648 other)

  not-rooted : (p : ℕ) → (r.leaves ≡ 0) ⊎ ((p < 2147483649) ⊎ (2147484673 ≤ p)) → is_rooted r p ≡ false
  not-rooted p (inl none) = and_left (not (eqb r.leaves 0)) (nat_le 2147483649 p && nat_lt p (2147483649 + 1024)) (ap not (eq-eqb r.leaves 0 none))
  not-rooted p (inr (inl low)) = and_right (not (eqb r.leaves 0)) (nat_le 2147483649 p && nat_lt p (2147483649 + 1024)) (and_left (nat_le 2147483649 p) (nat_lt p (2147483649 + 1024)) (lt-leb 2147483649 p low))
  not-rooted p (inr (inr far)) = and_right (not (eqb r.leaves 0)) (nat_le 2147483649 p && nat_lt p (2147483649 + 1024)) (and_right (nat_le 2147483649 p) (nat_lt p (2147483649 + 1024)) (le-ltb p (2147483649 + 1024) (omega (arith, far))))

  pub numbered-others : (p : ℕ) → 48 ≤ p → (p < 48 + 1024 * r.leaf) ⊎ (48 + 1024 * (r.leaf + r.leaves) ≤ p) → p ≢ 2147483648 → (r.leaves ≡ 0) ⊎ ((p < 2147483649) ⊎ (2147484673 ≤ p)) → numbered others r s p ≡ others p
  numbered-others p past out other no_root = past-index p past out other ∙ ap (λ t. root_by t p) (not-rooted p no_root)

  module _ (fit : IsReach r) where
    pub numbered-index : numbered others r s 2147483648 ≡ s.index
    numbered-index =
        past-leafed 2147483648 (omega arith) (inr (let f = fit.few in omega (arith, f)))
        ∙ ap (λ t. index_by t (is_rooted r 2147483648) 2147483648) (eq-eqb 2147483648 2147483648 refl)

    pub numbered-rooted : (i : ℕ) → i < 1024 → r.leaves ≢ 0 → numbered others r s (2147483649 + i) ≡ number_at s.root.items i
    numbered-rooted i low some =
        past-index (2147483649 + i) (omega arith) (inr (let f = fit.few in omega (arith, f))) (λ e. absurd (omega (arith, e)))
        ∙ ap (λ t. root_by t (2147483649 + i))
        (and_from (not (eqb r.leaves 0)) (nat_le 2147483649 (2147483649 + i) && nat_lt (2147483649 + i) (2147483649 + 1024)) (ap not (ne_eqb r.leaves 0 some))
        (and_from (nat_le 2147483649 (2147483649 + i)) (nat_lt (2147483649 + i) (2147483649 + 1024)) (le-leb 2147483649 (2147483649 + i) (omega arith)) (lt-ltb (2147483649 + i) (2147483649 + 1024) (omega (arith, low)))))
        ∙ ap (number_at s.root.items) (let e : 2147483649 + i - 2147483649 ≡ i = omega arith in e)

-- where a number is known, it is so whatever the others are
pub numbered-any : (a b : ℕ → ℕ) (r : Reach) (s : Numbers) (p : ℕ) → IsReach r → IsKnown r p → numbered a r s p ≡ numbered b r s p
numbered-any a b r s p fit (direct_known low) = numbered-direct a r s p low ∙ sym (numbered-direct b r s p low)
numbered-any a b r s p fit (leafed_known past low) = numbered-leafed a r s p past low ∙ sym (numbered-leafed b r s p past low)
numbered-any a b r s p fit (index_known is) = ap (numbered a r s) is ∙ numbered-index a r s fit ∙ sym (ap (numbered b r s) is ∙ numbered-index b r s fit)
numbered-any a b r s p fit (rooted_known some past low) =
    let e : p ≡ 2147483649 + (p - 2147483649) = omega (arith, past) in
    let l : p - 2147483649 < 1024 = omega (arith, past, low) in
    ap (numbered a r s) e ∙ numbered-rooted a r s fit (p - 2147483649) l some ∙ sym (ap (numbered b r s) e ∙ numbered-rooted b r s fit (p - 2147483649) l some)

-- ── the numbers that a file has ──

module _ (V : View) (h : Head) (name : List ℕ) (r : Reach) (s : Numbers) (fit : IsReach r) (has : HasNumbers V h r s) (sized : AreSized r s) where
  abbrev H : Held
  H = held_of h name

  -- those of its index blocks
  pub root-number : (i : ℕ) → i < 1024 → r.leaves ≢ 0 → number_at s.root.items i ≡ block_at V (held_of h name) (2147483649 + i)
  root-number i low some = ap (λ v. number_at v i) (has.root some) ∙ number-of V h.index i low ∙ sym (at-leaf V H i low)

  -- and those in them
  leaf-number : (i l : ℕ) → i < r.leaves → l < 1024 → number_at s.leaves.items (1024 * i + l) ≡ block_at V (held_of h name) (48 + 1024 * (r.leaf + i) + l)
  leaf-number i l inside low =
      sym (number-inside s.leaves.items i l low (let z = sized.leaves in omega (arith, z, inside)))
      ∙ ap (λ v. number_at v l) (has.leaves i inside)
      ∙ ap (λ b. number_at (bytes_in V b) l) (root-number (r.leaf + i) high (λ e. absurd (omega (arith, e, inside))) ∙ at-leaf V H (r.leaf + i) high)
      ∙ number-of V (index_block V H (r.leaf + i)) l low
      ∙ sym (at-indexed V H (r.leaf + i) l high low)
    where
      high : r.leaf + i < 1024
      high = let f = fit.few in omega (arith, f, inside)

  pub numbers-had : (p : ℕ) → numbered (block_at V (held_of h name)) r s p ≡ block_at V (held_of h name) p
  numbers-had p = by (place_kind p)
    where
      content : (i l : ℕ) → i < 1024 → l < 1024 → p ≡ 48 + 1024 * i + l → (i < r.leaf) ⊎ (r.leaf ≤ i) → (i < r.leaf + r.leaves) ⊎ (r.leaf + r.leaves ≤ i) → numbered (block_at V H) r s p ≡ block_at V H p
      content i l low inside is (inl before) _ = numbered-others (block_at V H) r s p (omega (arith, is)) (inl (omega (arith, is, before, inside))) (λ e. absurd (omega (arith, e, is, low, inside))) (inr (inl (omega (arith, is, low, inside))))
      content i l low inside is (inr past) (inr far) = numbered-others (block_at V H) r s p (omega (arith, is)) (inr (omega (arith, is, far))) (λ e. absurd (omega (arith, e, is, low, inside))) (inr (inl (omega (arith, is, low, inside))))
      content i l low inside is (inr past) (inl before) =
          numbered-leafed (block_at V H) r s p (omega (arith, is, past)) (omega (arith, is, before, inside))
          ∙ ap (number_at s.leaves.items) (let e : p - (48 + 1024 * r.leaf) ≡ 1024 * (i - r.leaf) + l = omega (arith, is, past) in e)
          ∙ leaf-number (i - r.leaf) l (omega (arith, past, before)) inside
          ∙ ap (block_at V H) (let e : 48 + 1024 * (r.leaf + (i - r.leaf)) + l ≡ p = omega (arith, is, past) in e)

      leaf : (i : ℕ) → i < 1024 → p ≡ 2147483649 + i → (r.leaves ≡ 0) ⊎ (r.leaves ≡ 0 → ⊥) → numbered (block_at V H) r s p ≡ block_at V H p
      leaf i low is (inl none) = numbered-others (block_at V H) r s p (omega (arith, is)) (inr (let f = fit.few in omega (arith, is, f))) (λ e. absurd (omega (arith, e, is))) (inl none)
      leaf i low is (inr some) = ap (numbered (block_at V H) r s) is ∙ numbered-rooted (block_at V H) r s fit i low some ∙ root-number i low some ∙ ap (block_at V H) (sym is)

      by : PlaceOf p → numbered (block_at V H) r s p ≡ block_at V H p
      by (PlaceOf.direct_place low) = numbered-direct (block_at V H) r s p low ∙ ap (λ v. get_or v p 0) has.direct ∙ sym (at-direct V H p low)
      by (PlaceOf.content_place i l low inside is) = content i l low inside is (cases_lt i r.leaf) (cases_lt i (r.leaf + r.leaves))
      by (PlaceOf.index_place is) = ap (numbered (block_at V H) r s) is ∙ numbered-index (block_at V H) r s fit ∙ has.index ∙ sym (at-index V H) ∙ ap (block_at V H) (sym is)
      by (PlaceOf.leaf_place i low is) = leaf i low is (cases_eq r.leaves 0)
      by (PlaceOf.no_place past other far) = numbered-others (block_at V H) r s p (omega (arith, past)) (inr (let f = fit.few in omega (arith, past, f))) other (inr far)

-- ── a number is looked up, and put ──

-- Where the number of a block lies
pub data NumberKind (r : Reach) (p : ℕ) : Type 0 where
  direct_number : p < 48 → NumberKind r p
  leafed_number : 48 + 1024 * r.leaf ≤ p → p < 48 + 1024 * (r.leaf + r.leaves) → NumberKind r p
  index_number : p ≡ 2147483648 → NumberKind r p
  rooted_number : (i : ℕ) → i < 1024 → r.leaves ≢ 0 → p ≡ 2147483649 + i → NumberKind r p
  no_number : 48 ≤ p → (p < 48 + 1024 * r.leaf) ⊎ (48 + 1024 * (r.leaf + r.leaves) ≤ p) → p ≢ 2147483648 → (r.leaves ≡ 0) ⊎ ((p < 2147483649) ⊎ (2147484673 ≤ p)) → NumberKind r p

number_kind : (r : Reach) (p : ℕ) → NumberKind r p
number_kind r p = by (cases_lt p 48) (cases_lt p (48 + 1024 * r.leaf)) (cases_lt p (48 + 1024 * (r.leaf + r.leaves))) (cases_eq p 2147483648) (cases_eq r.leaves 0) (cases_lt p 2147483649) (cases_lt p 2147484673)
  where
    last : 48 ≤ p → (p < 48 + 1024 * r.leaf) ⊎ (48 + 1024 * (r.leaf + r.leaves) ≤ p) → (p ≡ 2147483648) ⊎ (p ≡ 2147483648 → ⊥) → (r.leaves ≡ 0) ⊎ (r.leaves ≡ 0 → ⊥) → (p < 2147483649) ⊎ (2147483649 ≤ p) → (p < 2147484673) ⊎ (2147484673 ≤ p) → NumberKind r p
    last past out (inl is) _ _ _ = NumberKind.index_number is
    last past out (inr other) (inl none) _ _ = NumberKind.no_number past out other (inl none)
    last past out (inr other) (inr some) (inl low) _ = NumberKind.no_number past out other (inr (inl low))
    last past out (inr other) (inr some) (inr high) (inl low) = NumberKind.rooted_number (p - 2147483649) (omega (arith, high, low)) some (omega (arith, high))
    last past out (inr other) (inr some) (inr high) (inr far) = NumberKind.no_number past out other (inr (inr far))

    by : (p < 48) ⊎ (48 ≤ p) → (p < 48 + 1024 * r.leaf) ⊎ (48 + 1024 * r.leaf ≤ p) → (p < 48 + 1024 * (r.leaf + r.leaves)) ⊎ (48 + 1024 * (r.leaf + r.leaves) ≤ p) → (p ≡ 2147483648) ⊎ (p ≡ 2147483648 → ⊥) → (r.leaves ≡ 0) ⊎ (r.leaves ≡ 0 → ⊥)
        → (p < 2147483649) ⊎ (2147483649 ≤ p) → (p < 2147484673) ⊎ (2147484673 ≤ p) → NumberKind r p
    by (inl low) _ _ _ _ _ _ = NumberKind.direct_number low
    by (inr past) (inl before) _ e l a b = last past (inl before) e l a b
    by (inr past) (inr from) (inr far) e l a b = last past (inr far) e l a b
    by (inr past) (inr from) (inl to) _ _ _ _ = NumberKind.leafed_number from to

-- a known number of a place that is one of content lies in an index block
pub known-leafed : (r : Reach) (p : ℕ) → IsReach r → IsKnown r p → 48 ≤ p → p < 1048624 → (48 + 1024 * r.leaf ≤ p) × (p < 48 + 1024 * (r.leaf + r.leaves))
known-leafed r p fit (direct_known low) past high = absurd (omega (arith, low, past))
known-leafed r p fit (leafed_known from to) past high = (from, to)
known-leafed r p fit (index_known is) past high = absurd (omega (arith, is, high))
known-leafed r p fit (rooted_known some from to) past high = absurd (omega (arith, from, high))

-- and of one that is none, the block with the numbers of the index blocks
pub known-rooted : (r : Reach) (p : ℕ) → IsReach r → IsKnown r p → 1048624 ≤ p → p ≢ 2147483648 → (r.leaves ≢ 0) × (2147483649 ≤ p) × (p < 2147484673)
known-rooted r p fit (direct_known low) past other = absurd (omega (arith, low, past))
known-rooted r p fit (leafed_known from to) past other = let f = fit.few in absurd (omega (arith, to, past, f))
known-rooted r p fit (index_known is) past other = absurd (other is)
known-rooted r p fit (rooted_known some from to) past other = (some, from, omega (arith, to))

module _ (others : ℕ → ℕ) (r : Reach) (s : Numbers) (p number : ℕ) (fit : IsReach r) (known : IsKnown r p) where
  pub finds-direct : p < 48 → number ≡ get_or s.direct p 0 → number ≡ numbered others r s p
  finds-direct low is = is ∙ sym (numbered-direct others r s p low)

  pub finds-leafed : (k : ℕ) (v : List ℕ) → 48 ≤ p → p < 1048624 → k ≡ p - (48 + 1024 * r.leaf) → v ≡ s.leaves.items → number ≡ word_at v (4 * k) → number ≡ numbered others r s p
  finds-leafed k v past low k_is v_is is = let q = known-leafed r p fit known past low in is ∙ (λ z. word_at (v_is z) (4 * k_is z)) ∙ sym (numbered-leafed others r s p q.0 q.1)

  pub finds-index : p ≡ 2147483648 → number ≡ s.index → number ≡ numbered others r s p
  finds-index same is = is ∙ sym (ap (numbered others r s) same ∙ numbered-index others r s fit)

  pub finds-rooted : (k : ℕ) (v : List ℕ) → 1048624 ≤ p → p ≢ 2147483648 → k ≡ p - 2147483649 → v ≡ s.root.items → number ≡ word_at v (4 * k) → number ≡ numbered others r s p
  finds-rooted k v past other k_is v_is is =
      let q = known-rooted r p fit known past other in
      let from = q.1 in let to = q.2 in
      is
      ∙ (λ z. word_at (v_is z) (4 * k_is z))
      ∙ sym (ap (numbered others r s) (let e : p ≡ 2147483649 + (p - 2147483649) = omega (arith, from) in e) ∙ numbered-rooted others r s fit (p - 2147483649) (omega (arith, from, to)) q.0)

module _ (r : Reach) (old new : Numbers) (place b : ℕ) (fit : IsReach r) (known : IsKnown r place) where
  -- what is elsewhere stays
  stays-at : (x v w : ℕ) → x ≢ place → w ≡ v → w ≡ cond (eqb x place) b v
  stays-at x v w other is = is ∙ sym (ap (λ t. cond t b v) (ne_eqb x place other))

  comes-at : (x v w : ℕ) → x ≡ place → w ≡ b → w ≡ cond (eqb x place) b v
  comes-at x v w same is = is ∙ sym (ap (λ t. cond t b v) (eq-eqb x place same))

  module _ (direct : (p : ℕ) → p < 48 → get_or new.direct p 0 ≡ cond (eqb p place) b (get_or old.direct p 0))
      (leaves : (p : ℕ) → 48 + 1024 * r.leaf ≤ p → p < 48 + 1024 * (r.leaf + r.leaves) → number_at new.leaves.items (p - (48 + 1024 * r.leaf)) ≡ cond (eqb p place) b (number_at old.leaves.items (p - (48 + 1024 * r.leaf))))
      (index : new.index ≡ cond (eqb 2147483648 place) b old.index)
      (root : (i : ℕ) → i < 1024 → r.leaves ≢ 0 → number_at new.root.items i ≡ cond (eqb (2147483649 + i) place) b (number_at old.root.items i)) where
    not-known : (p : ℕ) → 48 ≤ p → (p < 48 + 1024 * r.leaf) ⊎ (48 + 1024 * (r.leaf + r.leaves) ≤ p) → p ≢ 2147483648 → (r.leaves ≡ 0) ⊎ ((p < 2147483649) ⊎ (2147484673 ≤ p)) → p ≢ place
    not-known p past out other no_root e = by known out no_root
      where
        by : IsKnown r place → (p < 48 + 1024 * r.leaf) ⊎ (48 + 1024 * (r.leaf + r.leaves) ≤ p) → (r.leaves ≡ 0) ⊎ ((p < 2147483649) ⊎ (2147484673 ≤ p)) → ⊥
        by (direct_known low) _ _ = absurd (omega (arith, e, low, past))
        by (leafed_known from to) (inl before) _ = absurd (omega (arith, e, from, before))
        by (leafed_known from to) (inr far) _ = absurd (omega (arith, e, to, far))
        by (index_known is) _ _ = absurd (other (e ∙ is))
        by (rooted_known some from to) _ (inl none) = absurd (some none)
        by (rooted_known some from to) _ (inr (inl low)) = absurd (omega (arith, e, from, low))
        by (rooted_known some from to) _ (inr (inr far)) = absurd (omega (arith, e, to, far))

    set-numbers : (others : ℕ → ℕ) (p : ℕ) → numbered others r new p ≡ cond (eqb p place) b (numbered others r old p)
    set-numbers others p = by (number_kind r p)
      where
        by : NumberKind r p → numbered others r new p ≡ cond (eqb p place) b (numbered others r old p)
        by (NumberKind.direct_number low) = numbered-direct others r new p low ∙ direct p low ∙ ap (cond (eqb p place) b) (sym (numbered-direct others r old p low))
        by (NumberKind.leafed_number from to) = numbered-leafed others r new p from to ∙ leaves p from to ∙ ap (cond (eqb p place) b) (sym (numbered-leafed others r old p from to))
        by (NumberKind.index_number is) =
            ap (numbered others r new) is
            ∙ numbered-index others r new fit
            ∙ index
            ∙ ap (cond (eqb 2147483648 place) b) (sym (numbered-index others r old fit))
            ∙ ap (λ p. cond (eqb p place) b (numbered others r old p)) (sym is)
        by (NumberKind.rooted_number i low some is) =
            ap (numbered others r new) is
            ∙ numbered-rooted others r new fit i low some
            ∙ root i low some
            ∙ ap (cond (eqb (2147483649 + i) place) b) (sym (numbered-rooted others r old fit i low some))
            ∙ ap (λ p. cond (eqb p place) b (numbered others r old p)) (sym is)
        by (NumberKind.no_number past out other no_root) =
            numbered-others others r new p past out other no_root
            ∙ sym (numbered-others others r old p past out other no_root)
            ∙ sym (ap (λ t. cond t b (numbered others r old p)) (ne_eqb p place (not-known p past out other no_root)))

  module _ (sized : AreSized r old) where
    pub sets-direct : place < 48 → new.direct ≡ set old.direct place b → new.index ≡ old.index → new.root.items ≡ old.root.items → new.leaves.items ≡ old.leaves.items
        → (others : ℕ → ℕ) (p : ℕ) → numbered others r new p ≡ cond (eqb p place) b (numbered others r old p)
    sets-direct low d i t l = set-numbers direct
        (λ p from to. stays-at p (number_at old.leaves.items (p - (48 + 1024 * r.leaf))) (number_at new.leaves.items (p - (48 + 1024 * r.leaf))) (λ e. absurd (omega (arith, e, from, low))) (ap (λ v. number_at v (p - (48 + 1024 * r.leaf))) l))
        (stays-at 2147483648 old.index new.index (λ e. absurd (omega (arith, e, low))) i)
        (λ j few some. stays-at (2147483649 + j) (number_at old.root.items j) (number_at new.root.items j) (λ e. absurd (omega (arith, e, low))) (ap (λ v. number_at v j) t))
      where
        direct : (p : ℕ) → p < 48 → get_or new.direct p 0 ≡ cond (eqb p place) b (get_or old.direct p 0)
        direct p few = ap (λ v. get_or v p 0) d ∙ by (cases_eq p place)
          where
            by : (p ≡ place) ⊎ (p ≡ place → ⊥) → get_or (set old.direct place b) p 0 ≡ cond (eqb p place) b (get_or old.direct p 0)
            by (inl same) = comes-at p (get_or old.direct p 0) (get_or (set old.direct place b) p 0) same (ap (λ p. get_or (set old.direct place b) p 0) same ∙ get_or-set_same old.direct place b 0 (let z = sized.direct in omega (arith, z, low)))
            by (inr other) = stays-at p (get_or old.direct p 0) (get_or (set old.direct place b) p 0) other (get_or-set_other old.direct place p b 0 other)

    pub sets-leafed : (k : ℕ) → 48 ≤ place → place < 1048624 → k ≡ place - (48 + 1024 * r.leaf) → PutsNumber old.leaves.items k b new.leaves.items → new.direct ≡ old.direct → new.index ≡ old.index → new.root.items ≡ old.root.items
        → (others : ℕ → ℕ) (p : ℕ) → numbered others r new p ≡ cond (eqb p place) b (numbered others r old p)
    sets-leafed k past low k_is put d i t = set-numbers
        (λ p few. stays-at p (get_or old.direct p 0) (get_or new.direct p 0) (λ e. absurd (omega (arith, e, few, past))) (ap (λ v. get_or v p 0) d))
        leaves
        (stays-at 2147483648 old.index new.index (λ e. absurd (omega (arith, e, low))) i)
        (λ j few some. stays-at (2147483649 + j) (number_at old.root.items j) (number_at new.root.items j) (λ e. absurd (omega (arith, e, low))) (ap (λ v. number_at v j) t))
      where
        leaves : (p : ℕ) → 48 + 1024 * r.leaf ≤ p → p < 48 + 1024 * (r.leaf + r.leaves) → number_at new.leaves.items (p - (48 + 1024 * r.leaf)) ≡ cond (eqb p place) b (number_at old.leaves.items (p - (48 + 1024 * r.leaf)))
        leaves p from to = by (cases_eq p place)
          where
            by : (p ≡ place) ⊎ (p ≡ place → ⊥) → number_at new.leaves.items (p - (48 + 1024 * r.leaf)) ≡ cond (eqb p place) b (number_at old.leaves.items (p - (48 + 1024 * r.leaf)))
            by (inl same) = comes-at p (number_at old.leaves.items (p - (48 + 1024 * r.leaf))) (number_at new.leaves.items (p - (48 + 1024 * r.leaf))) same
                (ap (number_at new.leaves.items) (let e : p - (48 + 1024 * r.leaf) ≡ k = omega (arith, same, k_is) in e) ∙ put.here)
            by (inr other) =
                let q = known-leafed r place fit known past low in let begins = q.0 in
                stays-at p (number_at old.leaves.items (p - (48 + 1024 * r.leaf))) (number_at new.leaves.items (p - (48 + 1024 * r.leaf))) other
                (put.others (p - (48 + 1024 * r.leaf)) (λ e. other (let same : p ≡ place = omega (arith, e, k_is, from, begins) in same)) (let z = sized.leaves in omega (arith, z, from, to)))

    pub sets-index : place ≡ 2147483648 → new.index ≡ b → new.direct ≡ old.direct → new.root.items ≡ old.root.items → new.leaves.items ≡ old.leaves.items
        → (others : ℕ → ℕ) (p : ℕ) → numbered others r new p ≡ cond (eqb p place) b (numbered others r old p)
    sets-index is i d t l = set-numbers
        (λ p few. stays-at p (get_or old.direct p 0) (get_or new.direct p 0) (λ e. absurd (omega (arith, e, few, is))) (ap (λ v. get_or v p 0) d))
        (λ p from to. stays-at p (number_at old.leaves.items (p - (48 + 1024 * r.leaf))) (number_at new.leaves.items (p - (48 + 1024 * r.leaf))) (λ e. let f = fit.few in absurd (omega (arith, e, to, is, f))) (ap (λ v. number_at v (p - (48 + 1024 * r.leaf))) l))
        (comes-at 2147483648 old.index new.index (sym is) i)
        (λ j few some. stays-at (2147483649 + j) (number_at old.root.items j) (number_at new.root.items j) (λ e. absurd (omega (arith, e, is))) (ap (λ v. number_at v j) t))

    pub sets-rooted : (k : ℕ) → 1048624 ≤ place → place ≢ 2147483648 → k ≡ place - 2147483649 → PutsNumber old.root.items k b new.root.items → new.direct ≡ old.direct → new.index ≡ old.index → new.leaves.items ≡ old.leaves.items
        → (others : ℕ → ℕ) (p : ℕ) → numbered others r new p ≡ cond (eqb p place) b (numbered others r old p)
    sets-rooted k past apart k_is put d i l = set-numbers
        (λ p few. stays-at p (get_or old.direct p 0) (get_or new.direct p 0) (λ e. absurd (omega (arith, e, few, past))) (ap (λ v. get_or v p 0) d))
        (λ p from to. stays-at p (number_at old.leaves.items (p - (48 + 1024 * r.leaf))) (number_at new.leaves.items (p - (48 + 1024 * r.leaf))) (λ e. let f = fit.few in absurd (omega (arith, e, to, past, f))) (ap (λ v. number_at v (p - (48 + 1024 * r.leaf))) l))
        (stays-at 2147483648 old.index new.index (λ e. apart (sym e)) i)
        root
      where
        root : (j : ℕ) → j < 1024 → r.leaves ≢ 0 → number_at new.root.items j ≡ cond (eqb (2147483649 + j) place) b (number_at old.root.items j)
        root j few some = by (cases_eq (2147483649 + j) place)
          where
            by : (2147483649 + j ≡ place) ⊎ (2147483649 + j ≡ place → ⊥) → number_at new.root.items j ≡ cond (eqb (2147483649 + j) place) b (number_at old.root.items j)
            by (inl same) = comes-at (2147483649 + j) (number_at old.root.items j) (number_at new.root.items j) same (ap (number_at new.root.items) (let e : j ≡ k = omega (arith, same, k_is) in e) ∙ put.here)
            by (inr other) =
                let q = known-rooted r place fit known past apart in let high = q.1 in
                stays-at (2147483649 + j) (number_at old.root.items j) (number_at new.root.items j) other
                (put.others j (λ e. other (let same : 2147483649 + j ≡ place = omega (arith, e, k_is, high) in same)) (let z = sized.root ∙ ap (λ t. cond t 0 4096) (ne_eqb r.leaves 0 some) in omega (arith, z, few)))

-- there is room for it
pub leafed-room : (r : Reach) (s : Numbers) (p k : ℕ) → IsReach r → IsKnown r p → AreSized r s → 48 ≤ p → p < 1048624 → k ≡ p - (48 + 1024 * r.leaf) → 4 * k + 4 ≤ length s.leaves.items
leafed-room r s p k fit known sized past low is =
    let q = known-leafed r p fit known past low in
    let from = q.0 in let to = q.1 in let z = sized.leaves in
    omega (arith, from, to, z, is)

pub rooted-room : (r : Reach) (s : Numbers) (p k : ℕ) → IsReach r → IsKnown r p → AreSized r s → 1048624 ≤ p → p ≢ 2147483648 → k ≡ p - 2147483649 → 4 * k + 4 ≤ length s.root.items
rooted-room r s p k fit known sized past other is =
    let q = known-rooted r p fit known past other in
    let from = q.1 in let to = q.2 in let z = sized.root ∙ ap (λ t. cond t 0 4096) (ne_eqb r.leaves 0 q.0) in
    omega (arith, from, to, z, is)
