-- Loops that put blocks one by one.
use Rattle.std.proofs.Common.{◌≡◌, ◌≢◌, ⊎_elim, ◌<◌, ◌≤◌, ◌+◌, ℕ, List, [], length, get_or, set, Option, unwrap_or, refl, ap, ◌∙◌, sym, subst, arith, length-set}
use Rattle.std.proofs.lemmas.List.{get_or-set_same, get_or-set_other}
use Rattle.std.proofs.lemmas.List.FromFn.{fill_by_all}
use Rattle.std.proofs.lemmas.Bool.{cases_eq}
use Rattle.journal_block.specs.Block.{Bytes}

-- the blocks below n are those of f, the others as they were
pub record Fills (f : ℕ → Bytes) (first : List Bytes) (n : ℕ) (blocks : List Bytes) : Type 0 where
  pub size : length blocks ≡ length first
  pub put : (b : ℕ) → b < n → get_or blocks b [] ≡ f b
  pub others : (b : ℕ) → n ≤ b → get_or blocks b [] ≡ get_or first b []

pub fills_none : (f : ℕ → Bytes) (first : List Bytes) → Fills f first 0 first
fills_none f first = record { size = refl; put = λ b lt. absurd (omega arith); others = λ b le. refl }

pub fills_more : (f : ℕ → Bytes) (first : List Bytes) (n : ℕ) (blocks blocks2 : List Bytes) (bytes : Bytes) → n < length first → Fills f first n blocks
    → bytes ≡ f n → blocks2 ≡ set blocks n bytes → Fills f first (n + 1) blocks2
fills_more f first n blocks blocks2 bytes lt fills is put = record {
  size = ap length put ∙ length-set blocks n bytes ∙ fills.size;
  put = λ b b_lt. at b ∙ ⊎_elim
      (λ (here : b ≡ n). (λ i. get_or (set blocks n bytes) (here i) []) ∙ get_or-set_same blocks n bytes [] (omega (arith, fills.size)) ∙ is ∙ ap f (sym here))
      (λ (other : b ≢ n). get_or-set_other blocks n b bytes [] other ∙ fills.put b (omega arith))
      (cases_eq b n);
  others = λ b b_le. at b ∙ get_or-set_other blocks n b bytes [] (λ (here : b ≡ n). omega arith) ∙ fills.others b (omega arith);
}
  where
    at : (b : ℕ) → get_or blocks2 b [] ≡ get_or (set blocks n bytes) b []
    at b = ap (λ (l : List Bytes). get_or l b []) put
