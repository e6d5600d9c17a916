-- Passing over writes in blocks that stand in the tail, from the first on.
use Rattle.std.proofs.Common.{◌≡◌, ◌⊎◌, inl, inr, ⊎_elim, ◌≤◌, ◌+◌, ◌==◌, ◌||◌, ℕ, Bool, true, false, List, [], ◌∷◌, length, IsTrue, refl, sym, subst, arith}
use Rattle.std.proofs.lemmas.Bool.{eqb-true, false≢true, and_from}
use Rattle.journal_world.specs.declared.address.Kind.TheVariants.{Block}
use Rattle.journal_world.specs.Addresses.{Shape, is_value_of}
use Rattle.journal_world.specs.Maps.{Pair, is_object, are_objects}
use Rattle.journal_block.specs.declared.update.Update.{Update}
use Rattle.journal_block.specs.Updates.{updated, updates_block}
use Rattle.journal_tail.specs.Writes.{writes_block}
use Rattle.journal_tail.specs.Staging.{AreInTail}

-- the block stands there, and is one
abbrev pub IsWholeThere : List Update → ℕ → Type 0
IsWholeThere tail b = (updates_block tail b ≡ true) × IsTrue (is_value_of Block (updated tail b []))

-- those that are not left are objects in such blocks
pub record IsPassing (n : Shape) (tail : List Update) (writes left : List Pair) (passed : ℕ) : Type 0 where
  pub objects : IsTrue (are_objects n left) → IsTrue (are_objects n writes)
  pub number : passed + length left ≡ length writes
  pub few : passed ≤ 128
  pub blocks : (b : ℕ) → writes_block writes b ≡ true → IsWholeThere tail b ⊎ (writes_block left b ≡ true)

module _ (n : Shape) (tail : List Update) (writes : List Pair) where
  pub passing_begins : (left : List Pair) → left ≡ writes → IsPassing n tail writes left 0
  passing_begins left whole = subst (λ (ws : List Pair). IsPassing n tail writes ws 0) (sym whole)
      (record { objects = λ are. are; number = omega arith; few = omega arith; blocks = λ b named. inr named })

  pub passing_more : (left rest : List Pair) (p : Pair) (passed : ℕ) → left ≡ p ∷ rest → IsPassing n tail writes left passed → (passed ≡ 128 → ⊥)
      → IsTrue (is_object n p) → IsWholeThere tail p.0.block → IsPassing n tail writes rest (passed + 1)
  passing_more left rest p passed took so less object stands = record {
    objects = λ are. now.objects (and_from (is_object n p) (are_objects n rest) object are);
    number = omega (arith, now.number);
    few = omega (arith, now.few, less);
    blocks = λ b named. ⊎_elim (λ whole. inl whole) (λ left_is. by b (p.0.block == b) refl left_is) (now.blocks b named);
  }
    where
      now : IsPassing n tail writes (p ∷ rest) passed
      now = subst (λ (ws : List Pair). IsPassing n tail writes ws passed) took so

      by : (b : ℕ) (here : Bool) → (p.0.block == b) ≡ here → (here || writes_block rest b) ≡ true → IsWholeThere tail b ⊎ (writes_block rest b ≡ true)
      by b true here is = inl (subst (IsWholeThere tail) (eqb-true p.0.block b here) stands)
      by b false here is = inr is

  pub passing_ends : (left : List Pair) (passed : ℕ) → left ≡ [] → IsPassing n tail writes left passed → AreInTail n tail writes
  passing_ends left passed none so = record {
    objects = now.objects refl;
    few = omega (arith, now.few, now.number);
    stand = λ b named. (all b named).0;
    whole = λ b named stands. (all b named).1;
  }
    where
      now : IsPassing n tail writes [] passed
      now = subst (λ (ws : List Pair). IsPassing n tail writes ws passed) none so

      all : (b : ℕ) → writes_block writes b ≡ true → IsWholeThere tail b
      all b named = ⊎_elim (λ whole. whole) (λ wrong. absurd (false≢true wrong)) (now.blocks b named)
