-- A layout says how its disk is cut.
use Rattle.std.proofs.Common.{ℕ, zero, suc, ◌≡◌, ◌≢◌, ◌<◌, ◌≤◌, ◌+◌, ◌-◌, ◌*◌, ◌/◌, ◌%◌, Bool, true, false, nat_lt, List, [], ◌∷◌, length, get_or, refl, sym, ap, ◌∙◌, arith}
use Rattle.std.proofs.lemmas.Bool.{ltb-false}
use Rattle.journal_world.specs.declared.layout.Region.{Region}
use Rattle.journal_world.specs.Addresses.{Shape}
use Rattle.journal_treestore.specs.declared.place.Cut.{Cut}
use Rattle.journal_treestore.specs.Places.{made_cut, first_inodes, shape_by, shape_of, IsCut}
use Rattle.journal_treestore.proofs.Shaping.{few_base}
use Rattle.journal_treeobjects.specs.Maps.{IsWhole}
use Rattle.journal_treerule.specs.Cuts.{first_at}

pub first-is : (rs : List Region) (i : ℕ) (d : Region) → i < length rs → (get_or rs i d).first ≡ first_at rs i
first-is [] i d low = absurd (omega (arith, low))
first-is (r ∷ rs) zero d low = refl
first-is (r ∷ rs) (suc i) d low = first-is rs i d (omega (arith, low))

room_for : (inodes rest first numbers : ℕ) → inodes ≡ first → rest ≡ first + (numbers + 7) / 8 → numbers ≤ 134217728 → rest ≤ inodes + 134217728
room_for inodes rest first numbers is next few = omega (arith, is, next, few)

between : (inodes rest first numbers : ℕ) → inodes ≡ first → rest ≡ first + (numbers + 7) / 8 → numbers % 8 ≡ 0 → 8 * (rest - inodes) ≡ numbers
between inodes rest first numbers is next whole = omega (arith, is, next, whole)

-- the numbers that the regions tell
module _ (s : Shape) (d : Cut) (cut : IsCut d) (whole : IsWhole d) (is : s ≡ shape_of d) where
  numbers-are : (inodes rest numbers : ℕ) → inodes ≡ first_at s.regions 2 → rest ≡ first_at s.regions 3 → (rest ≤ inodes + 134217728 → numbers ≡ 8 * (rest - inodes)) → numbers ≡ d.numbers
  numbers-are inodes rest numbers first next count =
      count (room_for inodes rest (first_inodes d) d.numbers at_inodes at_data cut.few_numbers) ∙ between inodes rest (first_inodes d) d.numbers at_inodes at_data whole
    where
      at_inodes : inodes ≡ first_inodes d
      at_inodes = first ∙ ap (λ (t : Shape). first_at t.regions 2) is

      at_data : rest ≡ first_inodes d + (d.numbers + 7) / 8
      at_data = next ∙ ap (λ (t : Shape). first_at t.regions 3) is

  size-is : s.blocks ≡ d.size
  size-is = ap (λ (t : Shape). t.blocks) is

  -- where a region is told that only a disk has which grew
  grew-by : (base : ℕ) (grew : Bool) → nat_lt d.base d.blocks ≡ grew → base ≡ first_at (shape_by grew d).regions 4 → base ≢ 18446744073709551615 → nat_lt d.base d.blocks ≡ true
  grew-by base true says at told = says
  grew-by base false says at told = absurd (told at)

  stayed-by : (base : ℕ) (grew : Bool) → nat_lt d.base d.blocks ≡ grew → base ≡ first_at (shape_by grew d).regions 4 → base ≡ 18446744073709551615 → d.blocks ≡ d.base
  stayed-by base true says at none = absurd (let e : base ≡ d.base = at in omega (arith, e, none, few_base d cut))
  stayed-by base false says at none = let past = ltb-false d.base d.blocks says in omega (arith, past, cut.room.later)

  at_later : (base : ℕ) → base ≡ first_at s.regions 4 → base ≡ first_at (shape_of d).regions 4
  at_later base at = at ∙ ap (λ (t : Shape). first_at t.regions 4) is

  -- so each guess is right
  pub guessed-made : (base numbers inodes rest : ℕ) → inodes ≡ first_at s.regions 2 → rest ≡ first_at s.regions 3 → (rest ≤ inodes + 134217728 → numbers ≡ 8 * (rest - inodes))
      → base ≡ first_at s.regions 4 → base ≡ 18446744073709551615 → made_cut s.blocks numbers ≡ d
  guessed-made base numbers inodes rest first next count at none =
      let same : d.blocks ≡ d.base = stayed-by base (nat_lt d.base d.blocks) refl (at_later base at) none in
      let base_is : s.blocks ≡ d.base = size-is ∙ cut.room.ended same in
      let are = numbers-are inodes rest numbers first next count in
      λ z. record { size = size-is z; blocks = (base_is ∙ sym same) z; numbers = are z; base = base_is z }

  pub guessed-grown : (base blocks numbers inodes rest : ℕ) → inodes ≡ first_at s.regions 2 → rest ≡ first_at s.regions 3 → (rest ≤ inodes + 134217728 → numbers ≡ 8 * (rest - inodes))
      → base ≡ first_at s.regions 4 → base ≢ 18446744073709551615 → blocks ≡ first_at s.regions 5 → record { size = s.blocks; blocks = blocks; numbers = numbers; base = base } ≡ d
  guessed-grown base blocks numbers inodes rest first next count at told last =
      let grew : nat_lt d.base d.blocks ≡ true = grew-by base (nat_lt d.base d.blocks) refl (at_later base at) told in
      let base_is : base ≡ d.base = at_later base at ∙ ap (λ g. first_at (shape_by g d).regions 4) grew in
      let blocks_are : blocks ≡ d.blocks = last ∙ ap (λ (t : Shape). first_at t.regions 5) is ∙ ap (λ g. first_at (shape_by g d).regions 5) grew in
      let are = numbers-are inodes rest numbers first next count in
      λ z. record { size = size-is z; blocks = blocks_are z; numbers = are z; base = base_is z }
