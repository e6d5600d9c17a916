-- The values of a map are of their kinds, where its pairs are objects; and those of a legal
-- history's maps are.
use Rattle.std.proofs.Common.{◌≡◌, ℕ, zero, suc, Bool, true, false, cond, ◌==◌, nat_lt, IsTrue, List, [], ◌∷◌, length, replicate, Option, Some, None, refl, sym, subst}
use Rattle.std.specs.Prelude.{unwrap_or}
use Rattle.std.specs.List.{list_all}
use Rattle.std.proofs.lemmas.Bool.{and_from, and_parts, eq-eqb, false≢true}
use Rattle.std.proofs.lemmas.List.{length-replicate}
use Rattle.journal_world.specs.declared.address.Addr.{Addr}
use Rattle.journal_world.specs.declared.address.Kind.{Kind}
use Rattle.journal_world.specs.declared.address.Kind.TheVariants.{Bit, Record, Block}
use Rattle.journal_world.specs.Addresses.{Shape, kind_of, is_valid, starts_object, bytes_of, limit_of, is_value_of, zeros_of, is_same}
use Rattle.journal_world.specs.Maps.{Pair, Map, value_among, zeros_at, value_at, is_value_at, is_object, are_objects}
use Rattle.journal_world.proofs.Lookups.{same_addr}

list_all-replicate : (p : ℕ → Bool) (n x : ℕ) → p x ≡ true → list_all p (replicate n x) ≡ true
list_all-replicate p zero x here = refl
list_all-replicate p (suc n) x here = and_from (p x) (list_all p (replicate n x)) here (list_all-replicate p n x here)

zero_fits : (kind : Kind) → nat_lt 0 (limit_of kind) ≡ true
zero_fits Bit = refl
zero_fits (Record size) = refl
zero_fits Block = refl

-- zeros are a value
pub is_value_of-zeros : (kind : Kind) → IsTrue (is_value_of kind (zeros_of kind))
unfolding zeros_of
is_value_of-zeros kind =
    and_from (length (replicate (bytes_of kind) 0) == bytes_of kind) (list_all (λ byte. nat_lt byte (limit_of kind)) (replicate (bytes_of kind) 0))
    (eq-eqb (length (replicate (bytes_of kind) 0)) (bytes_of kind) (length-replicate (bytes_of kind) 0))
    (list_all-replicate (λ byte. nat_lt byte (limit_of kind)) (bytes_of kind) 0 (zero_fits kind))

zeros_fit : (kind : Option Kind) (off : ℕ) → IsTrue (starts_object kind off) → IsTrue (is_value_at kind (zeros_at kind))
zeros_fit None off valid = absurd (false≢true valid)
zeros_fit (Some kind) off valid = is_value_of-zeros kind

found_fits : (layout : Shape) (ps : List Pair) (a : Addr) → IsTrue (is_valid layout a) → IsTrue (are_objects layout ps)
    → IsTrue (is_value_at (kind_of layout a.block) (unwrap_or (value_among ps a) (zeros_at (kind_of layout a.block))))
found_fits layout [] a valid objects = zeros_fit (kind_of layout a.block) a.off valid
found_fits layout (p ∷ ps) a valid objects = by_test (is_same a p.0) refl (found_fits layout ps a valid parts.1)
  where
    parts : IsTrue (is_object layout p) × IsTrue (are_objects layout ps)
    parts = and_parts (is_object layout p) (are_objects layout ps) objects

    by_test : (b : Bool) → is_same a p.0 ≡ b
        → IsTrue (is_value_at (kind_of layout a.block) (unwrap_or (value_among ps a) (zeros_at (kind_of layout a.block))))
        → IsTrue (is_value_at (kind_of layout a.block) (unwrap_or (cond b (Some p.1) (value_among ps a)) (zeros_at (kind_of layout a.block))))
    by_test true is rest =
        subst (λ b. IsTrue (is_value_at (kind_of layout b.block) p.1)) (sym (same_addr a p.0 is))
        (and_parts (is_valid layout p.0) (is_value_at (kind_of layout p.0.block) p.1) parts.0).1
    by_test false is rest = rest

-- what a map of objects gives a valid address is an object
pub value_at-object : (m : Map) (a : Addr) → IsTrue (is_valid m.layout a) → IsTrue (are_objects m.layout m.pairs) → IsTrue (is_object m.layout (a, value_at m a))
value_at-object m a valid objects = and_from (is_valid m.layout a) (is_value_at (kind_of m.layout a.block) (value_at m a)) valid (found_fits m.layout m.pairs a valid objects)
