-- The slots of a commit's writes are marked, one write after the other, and taken out as what is
-- held is gone through.
use Rattle.std.proofs.Common.{◌≡◌, ◌<◌, ◌==◌, ◌||◌, ◌&&◌, ℕ, zero, suc, Bool, true, false, not, List, length, set, replicate, refl, sym, ap, ◌∙◌, get_or-set_same, get_or-set_other}
use Rattle.std.proofs.lemmas.Bool.{eqb-true, eqb-false}
use Rattle.journal_world.specs.Addresses.{Shape}
use Rattle.journal_world.specs.Maps.{Pair}
use Rattle.journal_lockmap.specs.Numbers.{is_in, is_written, AreNone}

-- no flag is set
pub none_in : (slots : ℕ) → AreNone (replicate slots false)
none_in zero slot = refl
none_in (suc slots) zero = refl
none_in (suc slots) (suc slot) = none_in slots slot

-- a slot is added, or taken out
module _ (flags : List Bool) (slot : ℕ) (within : slot < length flags) where
  pub inserted : (other : ℕ) → is_in (set flags slot true) other ≡ ((slot == other) || is_in flags other)
  inserted other = by (slot == other) refl
    where
      by : (b : Bool) → (slot == other) ≡ b → is_in (set flags slot true) other ≡ ((slot == other) || is_in flags other)
      by true is = ap (is_in (set flags slot true)) (sym (eqb-true slot other is)) ∙ get_or-set_same flags slot true false within ∙ sym (ap (λ (b : Bool). b || is_in flags other) is)
      by false is = get_or-set_other flags slot other true false (λ same. eqb-false slot other is (sym same)) ∙ sym (ap (λ (b : Bool). b || is_in flags other) is)

  pub removed : (other : ℕ) → is_in (set flags slot false) other ≡ (not (slot == other) && is_in flags other)
  removed other = by (slot == other) refl
    where
      by : (b : Bool) → (slot == other) ≡ b → is_in (set flags slot false) other ≡ (not (slot == other) && is_in flags other)
      by true is = ap (is_in (set flags slot false)) (sym (eqb-true slot other is)) ∙ get_or-set_same flags slot false false within ∙ sym (ap (λ (b : Bool). not b && is_in flags other) is)
      by false is = get_or-set_other flags slot other false false (λ same. eqb-false slot other is (sym same)) ∙ sym (ap (λ (b : Bool). not b && is_in flags other) is)

-- Those of the writes that are not left are marked, in a flag for each slot
abbrev pub AreMarkedBut : Shape → List Pair → List Pair → List Bool → Type 0
AreMarkedBut layout writes left flags =
    (length flags ≡ layout.slots) × ((slot : ℕ) → is_written layout writes slot ≡ (is_in flags slot || is_written layout left slot))

pub marked_none : (layout : Shape) (writes left : List Pair) (flags : List Bool) → length flags ≡ layout.slots → AreNone flags → left ≡ writes → AreMarkedBut layout writes left flags
marked_none layout writes left flags room none same = (
  room,
  λ slot. sym (ap (λ (b : Bool). b || is_written layout left slot) (none slot) ∙ ap (λ (ps : List Pair). is_written layout ps slot) same),
)
