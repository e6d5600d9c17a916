-- The rule speaks of values alone, and a disk of one layout is cut in one way.
use Rattle.std.proofs.Common.{ℕ, zero, suc, ◌≡◌, ◌+◌, ◌/◌, ◌%◌, Bool, true, false, nat_lt, IsTrue, List, [], ◌∷◌, refl, sym, ap, subst, ◌∙◌, arith}
use Rattle.std.proofs.lemmas.Bool.{ltb-false}
use Rattle.journal_world.specs.declared.layout.Region.{Region}
use Rattle.journal_world.specs.Addresses.{Shape, is_valid}
use Rattle.journal_treestore.specs.declared.place.Cut.{Cut}
use Rattle.journal_treestore.specs.Places.{Object, first_inodes, first_data, shape_by, IsCut, addr_of, IsOnDisk}
use Rattle.journal_treestore.specs.Places.Object.{the_description}
use Rattle.journal_treestore.specs.Sound.{IsSoundView}
use Rattle.journal_treestore.proofs.Shaping.{few_base}
use Rattle.journal_treestore.proofs.Placing.{on_disk-valid}
use Rattle.journal_treeobjects.specs.Maps.{object, IsRuleOfValues, IsCutOnce}
use Rattle.journal_treeobjects.proofs.Viewing.{view-same}

pub rule-of-values : IsRuleOfValues
rule-of-values m n same is = (
  is.0,
  record {
    cut = is.1.cut;
    whole = is.1.whole;
    layout = sym same.layout ∙ is.1.layout;
    disk = is.1.disk;
    small = is.1.small;
    described = values the_description tt ∙ is.1.described;
    sound = subst IsSoundView (sym (view-same is.0 m n values)) is.1.sound;
  },
)
  where
    values : (o : Object) → IsOnDisk is.0 o → object is.0 n o ≡ object is.0 m o
    values o here = sym (same.values (addr_of is.0 o) (subst (λ (s : Shape). IsTrue (is_valid s (addr_of is.0 o))) (sym is.1.layout) (on_disk-valid is.0 o is.1.cut here)))

-- the first block of the region at a place
abbrev first_at : List Region → ℕ → ℕ
first_at [] n = 0
first_at (r ∷ rs) zero = r.first
first_at (r ∷ rs) (suc n) = first_at rs n

same_numbers : (f g m n : ℕ) → f ≡ g → f + (m + 7) / 8 ≡ g + (n + 7) / 8 → m % 8 ≡ 0 → n % 8 ≡ 0 → m ≡ n
same_numbers f g m n inodes blocks x y = omega (arith, inodes, blocks, x, y)

-- the numbers of blocks that the regions tell, of disks that grew and did not
module _ (c d : Cut) (is_c : IsCut c) (is_d : IsCut d) (size : c.size ≡ d.size) where
  -- one that did not grow has no more than it had when it was made
  ended : (e : Cut) → IsCut e → nat_lt e.base e.blocks ≡ false → (e.base ≡ e.size) × (e.blocks ≡ e.size)
  ended e cut stays =
      let past = ltb-false e.base e.blocks stays in
      let same : e.blocks ≡ e.base = omega (arith, past, cut.room.later) in
      (sym (cut.room.ended same), same ∙ sym (cut.room.ended same))

  told : (g h : Bool) → nat_lt c.base c.blocks ≡ g → nat_lt d.base d.blocks ≡ h → first_at (shape_by g c).regions 4 ≡ first_at (shape_by h d).regions 4
      → first_at (shape_by g c).regions 5 ≡ first_at (shape_by h d).regions 5 → (c.base ≡ d.base) × (c.blocks ≡ d.blocks)
  told true true _ _ base blocks = (base, blocks)
  told true false _ _ base blocks = absurd (let e : c.base ≡ 18446744073709551615 = base in omega (arith, e, few_base c is_c))
  told false true _ _ base blocks = absurd (let e : 18446744073709551615 ≡ d.base = base in omega (arith, e, few_base d is_d))
  told false false no_c no_d _ _ =
      let x = ended c is_c no_c in
      let y = ended d is_d no_d in
      (x.0 ∙ size ∙ sym y.0, x.1 ∙ size ∙ sym y.1)

pub cut-once : IsCutOnce
cut-once c d is_c is_d whole_c whole_d same = λ z. record { size = size z; blocks = blocks.1 z; numbers = numbers z; base = blocks.0 z }
  where
    size : c.size ≡ d.size
    size = ap (λ (s : Shape). s.blocks) same

    blocks : (c.base ≡ d.base) × (c.blocks ≡ d.blocks)
    blocks = told c d is_c is_d size (nat_lt c.base c.blocks) (nat_lt d.base d.blocks) refl refl (ap (λ (s : Shape). first_at s.regions 4) same) (ap (λ (s : Shape). first_at s.regions 5) same)

    inodes : first_inodes c ≡ first_inodes d
    inodes = ap (λ (s : Shape). first_at s.regions 2) same

    rest : first_data c ≡ first_data d
    rest = ap (λ (s : Shape). first_at s.regions 3) same

    numbers : c.numbers ≡ d.numbers
    numbers = same_numbers (first_inodes c) (first_inodes d) c.numbers d.numbers inodes rest whole_c whole_d
