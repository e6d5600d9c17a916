-- The parts of the rule make the rule.
use Rattle.std.proofs.Common.{ℕ, ◌≡◌, Bool, List, Option, Some, None, refl, sym, ap, subst, ◌∙◌}
use Rattle.std.specs.Prelude.{◌↔◌, IsTrue, MatchOption}
use Rattle.journal_world.specs.Maps.{Map}
use Rattle.journal_treestore.specs.declared.place.Cut.{Cut}
use Rattle.journal_treestore.specs.Places.{shape_of, IsCut}
use Rattle.journal_treestore.specs.Places.Object.{the_description}
use Rattle.journal_treestore.specs.Sound.{IsSoundView}
use Rattle.journal_treeobjects.specs.Maps.{object, view_of, IsWhole, HasSoundTree}
use Rattle.journal_treerule.specs.Parts.{IsDescriptionOf, AreInodesRight, AreInUse}
use Rattle.journal_treerule.proofs.RightInodes.{inodes-right}
use Rattle.journal_treerule.proofs.Scanning.{at-before}

pub needs-description : (c : Cut) (m : Map) → HasSoundTree c m → IsDescriptionOf c (object c m the_description)
needs-description c m tree = record { disk = tree.disk; small = tree.small; written = tree.described }

pub needs-inodes : (c : Cut) (m : Map) → HasSoundTree c m → AreInodesRight (view_of c m) c.numbers
needs-inodes c m tree = inodes-right (view_of c m) tree.sound

pub tree-decides : (c : Cut) (m : Map) (b : Bool) → IsCut c → IsWhole c → m.layout ≡ shape_of c → IsDescriptionOf c (object c m the_description) → (IsTrue b ↔ IsSoundView (view_of c m)) → IsTrue b ↔ HasSoundTree c m
tree-decides c m b cut whole layout described sound = (
  (λ yes. record { cut = cut; whole = whole; layout = layout; disk = described.disk; small = described.small; described = described.written; sound = sound.0 yes }),
  (λ tree. sound.1 tree.sound),
)

-- what was found of the inodes, of the map before
module _ {X : Type 0} (items : X → List Bool) (c : Cut) (before now : Map) (trusted still : Bool) (same_map : now ≡ before) (same_trust : still ≡ trusted) (found : Option X)
    (answer : IsTrue still → MatchOption found (AreInodesRight (view_of c now) c.numbers → ⊥) (λ x. AreInodesRight (view_of c now) c.numbers × AreInUse (view_of c now) c.numbers (items x))) where
  abbrev AreFound : Map → Option X → Type 0
  AreFound m o = MatchOption o (AreInodesRight (view_of c m) c.numbers → ⊥) (λ x. AreInodesRight (view_of c m) c.numbers × AreInUse (view_of c m) c.numbers (items x))

  of-before : IsTrue trusted → AreFound before found
  of-before = at-before (λ m. AreFound m found) before now trusted still same_map same_trust answer

  pub inodes-none : found ≡ None → IsTrue trusted → AreInodesRight (view_of c before) c.numbers → ⊥
  inodes-none is trust = subst (AreFound before) is (of-before trust)

  pub inodes-some : (x : X) → found ≡ Some x → IsTrue trusted → AreInodesRight (view_of c before) c.numbers × AreInUse (view_of c before) c.numbers (items x)
  inodes-some x is trust = subst (AreFound before) is (of-before trust)
