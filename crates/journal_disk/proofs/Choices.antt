-- The loops over the blocks of a disk in memory: which are pending, and an image put block by
-- block.
use Rattle.std.proofs.Common.{◌≡◌, ◌≢◌, ◌⊎◌, inl, inr, ⊎_elim, ◌≤◌, ◌<◌, ◌+◌, ◌-◌, ℕ, List, [], ◌∷◌, ◌++◌, length, get_or, set, drop, Contains, cond, ltb, Option, unwrap_or, ap, ◌∙◌, sym, subst, arith, length-set, length-append, length-drop, get_or-drop}
use Rattle.std.proofs.lemmas.List.{append-nil, get_or-set_same, get_or-set_other}
use Rattle.std.proofs.lemmas.Bool.{lt-ltb, le-ltb, cases_eq}
use Rattle.std.proofs.lemmas.List.FromFn.{filter_of_map_range_with_len_more, fill_by_all, length-map-range_with_len, get_or-map-range_with_len}
use Rattle.journal_block.specs.Block.{Bytes}
use Rattle.journal_disk.specs.Disks.{Past, pending_of, stable_of}
use Rattle.journal_disk.specs.Images.{MayLeave, IsImage}
use Rattle.journal_disk.specs.Laws.{newest_cases}
use Rattle.journal_disk.specs.MemDisks.{count_at, pending_below, chosen_in, number_for, chosen, image_of}

-- Which blocks are pending

pending_more : (p : Past) (n : ℕ)
    → pending_below p (n + 1) ≡ pending_below p n ++ cond (ltb 0 (length (pending_of p n))) (count_at p n ∷ []) []
pending_more p n = filter_of_map_range_with_len_more (λ e. ltb 0 e.1) (count_at p) 0 n n (omega arith)

pending_some : (p : Past) (n : ℕ) → 0 < length (pending_of p n) → pending_below p (n + 1) ≡ pending_below p n ++ count_at p n ∷ []
pending_some p n some =
    pending_more p n ∙ ap (λ t. pending_below p n ++ cond t (count_at p n ∷ []) []) (lt-ltb 0 (length (pending_of p n)) some)

pub pending_none : (p : Past) (n : ℕ) → length (pending_of p n) ≤ 0 → pending_below p (n + 1) ≡ pending_below p n
pending_none p n none =
    pending_more p n
    ∙ ap (λ t. pending_below p n ++ cond t (count_at p n ∷ []) []) (le-ltb 0 (length (pending_of p n)) none)
    ∙ append-nil (pending_below p n)

-- a block that is pending is added to those below it
pub pending_added : (p : Past) (n count : ℕ) (all more : List (ℕ × ℕ)) → all ≡ pending_below p n
    → count ≡ length (pending_of p n) → 0 < count → more ≡ all ++ (n, count) ∷ [] → more ≡ pending_below p (n + 1)
pending_added p n count all more is counts some added =
    added ∙ (λ i. is i ++ (n, counts i) ∷ []) ∙ sym (pending_some p n (omega (arith, counts)))

-- An image put block by block

-- The blocks below n are those of the image, the others are as they were at first
pub record Puts (p : Past) (choice : List ℕ) (n pending : ℕ) (blocks : List Bytes) : Type 0 where
  pub size : length blocks ≡ p.size
  pub put : (b : ℕ) → b < n → get_or blocks b [] ≡ chosen p choice b
  pub others : (b : ℕ) → n ≤ b → get_or blocks b [] ≡ get_or p.device b []
  pub count : pending ≡ length (pending_below p n)
  pub few : pending ≤ n

-- one block more is put
pub puts_more : (p : Past) (choice : List ℕ) (n pending pending2 number : ℕ) (blocks blocks2 : List Bytes) (written : Option Bytes)
    → n < p.size → Puts p choice n pending blocks
    → ((0 < length (pending_of p n)) × (pending2 ≡ pending + 1)) ⊎ ((length (pending_of p n) ≤ 0) × (pending2 ≡ pending))
    → number ≡ get_or choice pending 0 → ((first : Bytes) → chosen_in first p.events n number ≡ unwrap_or written first)
    → blocks2 ≡ set blocks n (unwrap_or written (get_or blocks n [])) → Puts p choice (n + 1) pending2 blocks2
puts_more p choice n pending pending2 number blocks blocks2 written lt puts counted is gives put = record {
  size = ap length put ∙ length-set blocks n block ∙ puts.size;
  put = λ b b_lt. at b ∙ ⊎_elim
      (λ (here : b ≡ n). (λ i. get_or (set blocks n block) (here i) []) ∙ get_or-set_same blocks n block [] (omega (arith, puts.size)) ∙ this ∙ ap (chosen p choice) (sym here))
      (λ (other : b ≢ n). get_or-set_other blocks n b block [] other ∙ puts.put b (omega arith))
      (cases_eq b n);
  others = λ b b_le. at b ∙ get_or-set_other blocks n b block [] (λ (here : b ≡ n). omega arith) ∙ puts.others b (omega arith);
  count = ⊎_elim
      (λ some. omega (arith, some.1, puts.count, ap length (pending_some p n some.0), length-append (pending_below p n) (count_at p n ∷ [])))
      (λ none. omega (arith, none.1, puts.count, ap length (pending_none p n none.0)))
      counted;
  few = ⊎_elim (λ some. omega (arith, some.1, puts.few)) (λ none. omega (arith, none.1, puts.few)) counted;
}
  where
    block : Bytes
    block = unwrap_or written (get_or blocks n [])

    at : (b : ℕ) → get_or blocks2 b [] ≡ get_or (set blocks n block) b []
    at b = ap (λ (l : List Bytes). get_or l b []) put

    this : unwrap_or written (get_or blocks n []) ≡ chosen p choice n
    this =
        ap (unwrap_or written) (puts.others n (omega arith))
        ∙ sym (gives (get_or p.device n []))
        ∙ ap (chosen_in (get_or p.device n []) p.events n) (is ∙ ap (λ (j : ℕ). get_or choice j 0) puts.count)

pub puts_all : (p : Past) (choice : List ℕ) (n pending : ℕ) (blocks : List Bytes) → n ≡ p.size → Puts p choice n pending blocks
    → blocks ≡ image_of p choice
puts_all p choice n pending blocks all puts =
    fill_by_all (chosen p choice) blocks p.size [] puts.size (λ b lt. puts.put b (omega arith))

-- A choice names an image

chosen_may_be_left : (p : Past) (choice : List ℕ) (b : ℕ) → MayLeave p b (chosen p choice b)
chosen_may_be_left p choice b = ⊎_elim
    (λ stable. inl stable)
    (λ among. inr (inl (among_all among)))
    (newest_cases (drop skipped (pending_of p b)) (stable_of p b))
  where
    skipped : ℕ
    skipped = length (pending_of p b) - number_for p choice b

    among_all : Contains (drop skipped (pending_of p b)) (chosen p choice b) → Contains (pending_of p b) (chosen p choice b)
    among_all (k, lt, is) = (
      skipped + k,
      omega (arith, lt, length-drop skipped (pending_of p b)),
      sym (get_or-drop skipped (pending_of p b) k (chosen p choice b)) ∙ is,
    )

pub image_of_is_image : (p : Past) (choice : List ℕ) → IsImage p (image_of p choice)
image_of_is_image p choice = record {
  size = length-map-range_with_len (chosen p choice) 0 p.size;
  each = λ b lt.
      subst (MayLeave p b) (sym (get_or-map-range_with_len (chosen p choice) 0 p.size b b [] lt (omega arith))) (chosen_may_be_left p choice b);
}
