-- The map of a disk's blocks has each valid address, with the object there.
use Rattle.std.proofs.Common.{◌≡◌, ◌≢◌, ◌<◌, ◌≤◌, ◌+◌, ◌*◌, ◌/◌, ◌%◌, ℕ, zero, suc, Bool, true, false, ◌==◌, ◌&&◌, nat_le, nat_lt, List, [], ◌∷◌, IsTrue, Some, None, cond, refl, ap, sym, ◌∙◌, subst, arith, ⊎_elim}
use Rattle.std.specs.Prelude.{unwrap_or}
use Rattle.std.specs.List.{list_all}
use Rattle.std.proofs.lemmas.Bool.{and_from, eq-eqb, false≢true, cases_eq}
use Rattle.std.proofs.lemmas.Bool.Decides.{nat_tests}
use Rattle.std.proofs.lemmas.Grind.{common_steps}
use Rattle.journal_world.specs.declared.address.Addr.{Addr}
use Rattle.journal_world.specs.declared.address.Kind.TheVariants.{Block}
use Rattle.journal_world.specs.Addresses.{Value, Shape, kind_of, kind_among, starts_object, is_valid, is_same, is_value_of, zeros_of}
use Rattle.journal_world.specs.Maps.{Pair, value_among, zeros_at, is_value_at, is_object, are_objects}
use Rattle.journal_world.proofs.Lookups.{same_addr}
use Rattle.journal_block.specs.Block.{Bytes}
use Rattle.journal_object.specs.Objects.{object_at, nth_addr, objects_below, map_of_blocks, IsMapOf, ChangesOnly, OverwritesMap}
use Rattle.journal_object.proofs.Cuts.{starts_inside, is_value_at-object, zeros_at-object}

-- what a look-up finds, where the first pair may be left out
found_first : (a : Addr) (p : Pair) (rest : List Pair) (x : Value) (kept same : Bool) → is_same a p.0 ≡ same
    → (same ≡ true → (kept ≡ true) × (p.1 ≡ x)) → (same ≡ false → value_among rest a ≡ Some x) → value_among (cond kept (p ∷ rest) rest) a ≡ Some x
found_first a p rest x true true is here there = rw is (ap Some (here refl).1)
found_first a p rest x true false is here there = rw is (there refl)
found_first a p rest x false true is here there = absurd (false≢true (here refl).0)
found_first a p rest x false false is here there = there refl

-- an address's number gives it back
nth_addr-number : (a : Addr) (n : ℕ) → a.off < 32768 → a.block * 32768 + a.off ≡ n → is_same a (nth_addr n) ≡ true
nth_addr-number a n inside is =
    and_from (a.block == n / 32768) (a.off == n % 32768) (eq-eqb a.block (n / 32768) (omega arith)) (eq-eqb a.off (n % 32768) (omega arith))

-- the block of a valid address is one that holds objects
pub valid_block : (layout : Shape) (a : Addr) → IsTrue (is_valid layout a) → (513 ≤ a.block) × (a.block < layout.blocks)
valid_block layout a valid = by (nat_le 513 a.block) (nat_lt a.block layout.blocks) refl refl valid
  where
    by : (from to : Bool) → nat_le 513 a.block ≡ from → nat_lt a.block layout.blocks ≡ to
        → IsTrue (starts_object (cond (from && to) (kind_among layout.regions a.block None) None) a.off) → (513 ≤ a.block) × (a.block < layout.blocks)
    by true true from to valid = (grind (arith, nat_tests, from), grind (arith, nat_tests, to))
    by true false from to valid = absurd (false≢true valid)
    by false to from to_is valid = absurd (false≢true valid)

-- what holds of all pairs, where the first may be left out
kept_all : (test : Pair → Bool) (p : Pair) (rest : List Pair) (kept : Bool) → (kept ≡ true → test p ≡ true) → list_all test rest ≡ true
    → list_all test (cond kept (p ∷ rest) rest) ≡ true
kept_all test p rest true here all = and_from (test p) (list_all test rest) (here refl) all
kept_all test p rest false here all = all

module _ (layout : Shape) (content : ℕ → Bytes) where
  found_below : (n : ℕ) (a : Addr) → IsTrue (is_valid layout a) → a.block * 32768 + a.off < n
      → value_among (objects_below layout content n) a ≡ Some (object_at layout (content a.block) a)
  unfolding objects_below
  found_below zero a valid lt = absurd (omega arith)
  found_below (suc n) a valid lt =
      found_first a (nth_addr n, object_at layout (content (nth_addr n).block) (nth_addr n)) (objects_below layout content n) _
      (is_valid layout (nth_addr n)) (is_same a (nth_addr n)) refl
      (λ same. let e : a ≡ nth_addr n = same_addr a (nth_addr n) same in
      (subst (λ b. is_valid layout b ≡ true) e valid, ap (λ b. object_at layout (content b.block) b) (sym e)))
      (λ other. found_below n a valid (⊎_elim
      (λ (is : a.block * 32768 + a.off ≡ n). absurd (false≢true (sym other ∙ nth_addr-number a n (starts_inside (kind_of layout a.block) a.off valid) is)))
      (λ (not : a.block * 32768 + a.off ≢ n). omega arith)
      (cases_eq (a.block * 32768 + a.off) n)))

  objects_fit : ((b : ℕ) → b < layout.blocks → IsTrue (is_value_of Block (content b))) → (n : ℕ) → n ≤ layout.blocks * 32768
      → IsTrue (are_objects layout (objects_below layout content n))
  unfolding objects_below
  objects_fit each zero inside = refl
  objects_fit each (suc n) inside =
      let a = nth_addr n in
      kept_all (is_object layout) (a, object_at layout (content a.block) a) (objects_below layout content n) (is_valid layout a)
      (λ valid. and_from (is_valid layout a) (is_value_at (kind_of layout a.block) (object_at layout (content a.block) a)) valid
      (is_value_at-object (kind_of layout a.block) (content a.block) a.off valid (each a.block (omega arith))))
      (objects_fit each n (omega arith))

  pub IsMapOf-map_of_blocks : IsMapOf content (map_of_blocks layout content)
  unfolding map_of_blocks
  IsMapOf-map_of_blocks = record {
    values = λ a valid.
        let block = (valid_block layout a valid).1 in
        let off = starts_inside (kind_of layout a.block) a.off valid in
        ap (λ o. unwrap_or o (zeros_at (kind_of layout a.block))) (found_below (layout.blocks * 32768) a valid (omega arith));
  }

  pub are_objects-map_of_blocks : ((b : ℕ) → b < layout.blocks → IsTrue (is_value_of Block (content b))) → IsTrue (are_objects layout (map_of_blocks layout content).pairs)
  unfolding map_of_blocks
  are_objects-map_of_blocks each = objects_fit each (layout.blocks * 32768) (omega arith)

pub IsMapOf-zeros : (layout : Shape) → IsMapOf (λ _. zeros_of Block) (record { layout = layout; pairs = [] })
IsMapOf-zeros layout = record { values = λ a valid. zeros_at-object (kind_of layout a.block) a.off valid }

-- a block that changes in one object alone overwrites the map there
pub OverwritesMap-changes : (layout : Shape) (old new : Bytes) (a : Addr) (value : Value) → ChangesOnly layout old new a value → OverwritesMap layout old new a value
OverwritesMap-changes layout old new a value changes m before after size is was now elsewhere = record {
  values = λ b valid. grind (arith, common_steps, changes.changed, changes.others b, is.values b, elsewhere b.block);
}
