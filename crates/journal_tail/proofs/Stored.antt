-- A block that changes in one object overwrites the map there.
use Rattle.std.proofs.Common.{◌≡◌, ◌⊎◌, ⊎_elim, ◌<◌, ◌%◌, ◌==◌, nat_lt, ℕ, Bool, true, false, cond, List, [], ◌∷◌, IsTrue, Option, Some, refl, sym, ap, subst, ◌∙◌, arith}
use Rattle.std.specs.Prelude.{unwrap_or}
use Rattle.std.proofs.lemmas.Bool.{and_from, and_parts, eq-eqb, eqb-true, false≢true, cases_eq}
use Rattle.std.proofs.lemmas.Bool.Decides.{nat_tests}
use Rattle.journal_world.specs.declared.address.Addr.{Addr}
use Rattle.journal_world.specs.declared.address.Kind.{Kind}
use Rattle.journal_world.specs.declared.address.Kind.TheVariants.{Block}
use Rattle.journal_world.specs.Addresses.{Value, Shape, kind_of, starts_object, is_valid, is_same}
use Rattle.journal_world.specs.Maps.{Pair, Map, value_among, zeros_at, value_at, is_value_at, is_object, overwritten}
use Rattle.journal_block.specs.Block.{Bytes}
use Rattle.journal_block.specs.Updates.{Content}
use Rattle.journal_object.specs.Objects.{object_at, ChangesOnly}
use Rattle.journal_tail.specs.Maps.{object_or_zeros, HasObjects}
use Rattle.journal_world.proofs.Lookups.{same_addr}

pub value_at-first : (n : Shape) (p : Pair) (ps : List Pair) (a : Addr)
    → value_at (record { layout = n; pairs = p ∷ ps }) a ≡ cond (is_same a p.0) p.1 (value_at (record { layout = n; pairs = ps }) a)
value_at-first n p ps a = by (is_same a p.0)
  where
    by : (b : Bool) → unwrap_or (cond b (Some p.1) (value_among ps a)) (zeros_at (kind_of n a.block))
        ≡ cond b p.1 (unwrap_or (value_among ps a) (zeros_at (kind_of n a.block)))
    by true = refl
    by false = refl

-- a block's only object lies at its front
pub whole_off : (k : Option Kind) (off : ℕ) → k ≡ Some Block → IsTrue (starts_object k off) → off ≡ 0
whole_off k off is starts =
    let valid : IsTrue (starts_object (Some Block) off) = subst (λ (o : Option Kind). IsTrue (starts_object o off)) is starts in
    let parts = and_parts (nat_lt off 32768) (off % 32768 == 0) valid in
    let multiple : off % 32768 ≡ 0 = eqb-true (off % 32768) 0 parts.1 in
    let below : off < 32768 = grind (arith, nat_tests, parts.0) in
    omega arith

module _ (m : Map) (before after : Content) (a : Addr) (value : Value) (old new : Bytes)
    (has : HasObjects before m)
    (here : (kind_of m.layout a.block ≡ Some Block) ⊎ (old ≡ before a.block))
    (changes : ChangesOnly m.layout old new a value)
    (object : IsTrue (is_object m.layout (a, value)))
    (now : after a.block ≡ new)
    (elsewhere : (b : ℕ) → (b ≡ a.block → ⊥) → after b ≡ before b) where
  valid_a : IsTrue (is_valid m.layout a)
  valid_a = (and_parts (is_valid m.layout a) (is_value_at (kind_of m.layout a.block) value) object).0

  fits : is_value_at (kind_of m.layout a.block) value ≡ true
  fits = (and_parts (is_valid m.layout a) (is_value_at (kind_of m.layout a.block) value) object).1

  -- the address itself
  at_it : value ≡ object_or_zeros m.layout (after a.block) a
  at_it =
      let is : object_at m.layout (after a.block) a ≡ value = ap (λ (bytes : Bytes). object_at m.layout bytes a) now ∙ changes.changed in
      sym (ap (λ (v : Value). cond (is_value_at (kind_of m.layout a.block) v) v (zeros_at (kind_of m.layout a.block))) is
      ∙ ap (λ (b : Bool). cond b value (zeros_at (kind_of m.layout a.block))) fits)

  -- another of its block
  beside : (c : Addr) → IsTrue (is_valid m.layout c) → c.block ≡ a.block → (c.off ≡ a.off → ⊥)
      → object_or_zeros m.layout (before c.block) c ≡ object_or_zeros m.layout (after c.block) c
  beside c valid block other = ⊎_elim
      (λ (whole : kind_of m.layout a.block ≡ Some Block).
      let first = whole_off (kind_of m.layout a.block) a.off whole valid_a in
      let second = whole_off (kind_of m.layout c.block) c.off (ap (kind_of m.layout) block ∙ whole) valid in
      absurd (other (second ∙ sym first)))
      (λ (is : old ≡ before a.block).
      let same : object_at m.layout (before c.block) c ≡ object_at m.layout (after c.block) c =
      ap (λ (b : ℕ). object_at m.layout (before b) c) block
      ∙ ap (λ (bytes : Bytes). object_at m.layout bytes c) (sym is)
      ∙ sym (changes.others c valid block other)
      ∙ ap (λ (bytes : Bytes). object_at m.layout bytes c) (sym now)
      ∙ ap (λ (b : ℕ). object_at m.layout (after b) c) (sym block) in
      ap (λ (v : Value). cond (is_value_at (kind_of m.layout c.block) v) v (zeros_at (kind_of m.layout c.block))) same)
      here

  kept : (c : Addr) → IsTrue (is_valid m.layout c) → is_same c a ≡ false
      → object_or_zeros m.layout (before c.block) c ≡ object_or_zeros m.layout (after c.block) c
  kept c valid other = ⊎_elim
      (λ (block : c.block ≡ a.block). beside c valid block (λ (off : c.off ≡ a.off).
      false≢true (sym other ∙ and_from (c.block == a.block) (c.off == a.off) (eq-eqb c.block a.block block) (eq-eqb c.off a.off off))))
      (λ (block : c.block ≡ a.block → ⊥). ap (λ (bytes : Bytes). object_or_zeros m.layout bytes c) (sym (elsewhere c.block block)))
      (cases_eq c.block a.block)

  by_same : (c : Addr) → IsTrue (is_valid m.layout c) → (b : Bool) → is_same c a ≡ b
      → cond b value (value_at m c) ≡ object_or_zeros m.layout (after c.block) c
  by_same c valid true same = at_it ∙ ap (λ (d : Addr). object_or_zeros m.layout (after d.block) d) (sym (same_addr c a same))
  by_same c valid false same = has.values c valid ∙ kept c valid same

  pub HasObjects-stored : HasObjects after (overwritten m ((a, value) ∷ []))
  HasObjects-stored = record {
    values = λ c valid. value_at-first m.layout (a, value) m.pairs c ∙ by_same c valid (is_same c a) refl;
  }
