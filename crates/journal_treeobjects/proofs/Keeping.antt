-- What is kept of what a transaction read.
use Rattle.std.proofs.Common.{◌≡◌, Bool, true, false, cond, IsTrue, List, [], ◌∷◌, Some, None, refl, sym, ap, subst, ◌∙◌}
use Rattle.std.proofs.lemmas.Bool.{and_parts}
use Rattle.std.proofs.lemmas.List.Elements.{All-head, All-tail}
use Rattle.journal_world.specs.declared.address.Addr.{Addr}
use Rattle.journal_world.specs.Addresses.{Value, Shape, is_same}
use Rattle.journal_world.specs.Maps.{Map, Pair, value_among, value_at, Agrees, is_object, are_objects}
use Rattle.journal_world.proofs.Lookups.{same_addr}
use Rattle.journal_treeobjects.specs.Effects.{GivesPairs}

-- what agrees with a map is given by it
pub gives-agrees : (m : Map) (ps : List Pair) → Agrees m ps → GivesPairs m ps
gives-agrees m [] agrees a v is = let none : None ≡ Some v = is in cc
gives-agrees m (p ∷ ps) agrees a v is =
    by_test (is_same a p.0) refl (gives-agrees m ps (All-tail (λ (q : Pair). value_at m q.0 ≡ q.1) p ps agrees) a v)
  where
    by_test : (b : Bool) → is_same a p.0 ≡ b → (value_among ps a ≡ Some v → value_at m a ≡ v) → value_at m a ≡ v
    by_test true same rest =
        let first : Some p.1 ≡ Some v = ap (λ t. cond t (Some p.1) (value_among ps a)) (sym same) ∙ is in
        let value : p.1 ≡ v = cc in
        ap (value_at m) (same_addr a p.0 same) ∙ All-head (λ (q : Pair). value_at m q.0 ≡ q.1) p ps agrees ∙ value
    by_test false other rest =
        rest (ap (λ t. cond t (Some p.1) (value_among ps a)) (sym other) ∙ is)

-- what is found among objects is an object
pub found-object : (layout : Shape) (ps : List Pair) (a : Addr) (v : Value) → IsTrue (are_objects layout ps) → value_among ps a ≡ Some v → IsTrue (is_object layout (a, v))
found-object layout [] a v objects is = absurd (let none : None ≡ Some v = is in cc)
found-object layout (p ∷ ps) a v objects is = by (is_same a p.0) refl (found-object layout ps a v parts.1)
  where
    parts : IsTrue (is_object layout p) × IsTrue (are_objects layout ps)
    parts = and_parts (is_object layout p) (are_objects layout ps) objects

    by : (b : Bool) → is_same a p.0 ≡ b → (value_among ps a ≡ Some v → IsTrue (is_object layout (a, v))) → IsTrue (is_object layout (a, v))
    by true same rest =
        let e : Some p.1 ≡ Some v = ap (λ t. cond t (Some p.1) (value_among ps a)) (sym same) ∙ is in
        let value : p.1 ≡ v = cc in
        subst (λ b. IsTrue (is_object layout (b, v))) (sym (same_addr a p.0 same)) (subst (λ w. IsTrue (is_object layout (p.0, w))) value parts.0)
    by false other rest = rest (ap (λ t. cond t (Some p.1) (value_among ps a)) (sym other) ∙ is)
