-- Block 0 with a group as its last, and without it.
use Rattle.std.proofs.Common.{◌≡◌, ◌≢◌, ⊎_elim, ◌<◌, ◌≤◌, ◌+◌, ◌*◌, ◌/◌, ◌%◌, ◌^◌, ℕ, true, sym, ap, ◌∙◌, arith, if◌then◌else◌}
use Rattle.std.proofs.lemmas.Bool.{cases_eq, le-leb}
use Rattle.journal_block.specs.Block.{Bytes, u64_at}
use Rattle.journal_block.specs.Updates.{Content}
use Rattle.journal_circ.specs.Log.{log_block, address, is_sealed, home_in, count_in, tag_in, first_in, word_of, with_tag, home_by, bytes_by}

pub is_sealed_by : (h : Bytes) → 2 ^ 63 ≤ u64_at h 0 → is_sealed h ≡ true
is_sealed_by h le = le-leb (2 ^ 63) (u64_at h 0) le

pub sealed_home : (h : Bytes) (q : ℕ) → is_sealed h ≡ true → home_by h q ≡ home_in h q
sealed_home h q sealed = λ i. if sealed i then address h q % 2 ^ 40 else address h q

pub sealed_bytes : (h : Bytes) (f : Content) (q : ℕ) → is_sealed h ≡ true → bytes_by h f q ≡ with_tag (f (log_block q)) (first_in h q)
sealed_bytes h f q sealed = λ i. if sealed i then with_tag (f (log_block q)) (address h q / 2 ^ 56) else f (log_block q)

module _ (home count tag first : ℕ) (h : home < 2 ^ 40) (c : count < 2 ^ 8) (t : tag < 2 ^ 8) where
  home_part : word_of home count tag first % 2 ^ 40 ≡ home
  home_part = omega (arith, h)

  count_part : word_of home count tag first / 2 ^ 40 % 2 ^ 8 ≡ count
  count_part = omega (arith, h, c)

  tag_part : word_of home count tag first / 2 ^ 48 % 2 ^ 8 ≡ tag
  tag_part = omega (arith, h, c, t)

  first_part : word_of home count tag first / 2 ^ 56 ≡ first
  first_part = omega (arith, h, c, t)

module _ (h h2 : Bytes) (end n : ℕ) (word : address h2 end ≡ word_of (home_in h end) n (tag_in h end) (first_in h end)) (few : n < 2 ^ 8)
    (others : (q : ℕ) → q % 511 ≢ end % 511 → address h2 q ≡ address h q) where
  by_part : (f : ℕ → ℕ) → f (word_of (home_in h end) n (tag_in h end) (first_in h end)) ≡ f (address h end) → (q : ℕ) → f (address h2 q) ≡ f (address h q)
  by_part f same q = ⊎_elim
      (λ (is : q % 511 ≡ end % 511). (λ i. f (u64_at h2 (8 + 8 * is i))) ∙ ap f word ∙ same ∙ (λ i. f (u64_at h (8 + 8 * sym is i))))
      (λ (other : q % 511 ≢ end % 511). ap f (others q other))
      (cases_eq (q % 511) (end % 511))

  home_small : home_in h end < 2 ^ 40
  home_small = omega arith

  tag_small : tag_in h end < 2 ^ 8
  tag_small = omega arith

  pub homes : (q : ℕ) → home_in h2 q ≡ home_in h q
  homes = by_part (λ (w : ℕ). w % 2 ^ 40) (home_part (home_in h end) n (tag_in h end) (first_in h end) home_small few tag_small)

  pub tags : (q : ℕ) → tag_in h2 q ≡ tag_in h q
  tags = by_part (λ (w : ℕ). w / 2 ^ 48 % 2 ^ 8) (tag_part (home_in h end) n (tag_in h end) (first_in h end) home_small few tag_small)

  pub firsts : (q : ℕ) → first_in h2 q ≡ first_in h q
  firsts = by_part (λ (w : ℕ). w / 2 ^ 56) (first_part (home_in h end) n (tag_in h end) (first_in h end) home_small few tag_small)

  pub counts : count_in h2 end ≡ n
  counts = ap (λ (w : ℕ). w / 2 ^ 40 % 2 ^ 8) word ∙ count_part (home_in h end) n (tag_in h end) (first_in h end) home_small few tag_small
