-- The map that blocks make has their objects, and equal blocks make the same map.
use Rattle.std.proofs.Common.{◌≡◌, ◌&&◌, ◌*◌, ℕ, zero, suc, Bool, true, false, cond, List, [], ◌∷◌, IsTrue, Option, Some, None, refl, sym, ap, subst, ◌∙◌}
use Rattle.std.specs.Prelude.{unwrap_or}
use Rattle.std.specs.List.{AllByRecursion, filter}
use Rattle.std.proofs.lemmas.Bool.{false≢true}
use Rattle.journal_world.specs.declared.address.Addr.{Addr}
use Rattle.journal_world.specs.Addresses.{Value, Shape, kind_of, is_valid, is_same}
use Rattle.journal_world.specs.Maps.{Pair, Map, value_among, zeros_at, SameMap, is_value_at, is_object}
use Rattle.journal_world.proofs.Lookups.{same_addr}
use Rattle.journal_world.proofs.SameMaps.{SameMap-refl}
use Rattle.journal_block.specs.Updates.{Content}
use Rattle.journal_object.specs.Objects.{object_at, nth_addr, objects_below, map_of_blocks, IsMapOf}
use Rattle.journal_object.proofs.MapOfBlocks.{valid_block, IsMapOf-map_of_blocks}
use Rattle.journal_tail.specs.Homes.{SameBlocks}
use Rattle.journal_tail.specs.Maps.{object_or_zeros, HasObjects, map_of}

-- the law of the map that blocks make, by one layout
abbrev pub Law : Shape → Type 0
Law n = (content : Content) → IsMapOf content (map_of_blocks n content)

-- it holds of each
pub law_of : (n : Shape) → Law n
law_of n content = IsMapOf-map_of_blocks n content

same_cond : (b : Bool) (o : Option Value) → o ≡ cond b o o
same_cond true o = refl
same_cond false o = refl

-- what is left of pairs that each have the value of a function
kept_value : (test : Pair → Bool) (f : Addr → Value) (a : Addr) (ps : List Pair) → AllByRecursion (λ p. p.1 ≡ f p.0) ps
    → value_among (filter test ps) a ≡ cond (test (a, f a)) (value_among ps a) None
kept_value test f a [] all = same_cond (test (a, f a)) None
kept_value test f a (p ∷ ps) all = by (is_same a p.0) (test p) (test (a, f a)) refl refl refl (kept_value test f a ps all.1)
  where
    here : is_same a p.0 ≡ true → p ≡ (a, f a)
    here same =
        let is : a ≡ p.0 = same_addr a p.0 same in
        let value : p ≡ (p.0, f p.0) = ap (λ (v : Value). (p.0, v)) all.0 in
        value ∙ ap (λ (b : Addr). (b, f b)) (sym is)

    by : (same kept whole : Bool) → is_same a p.0 ≡ same → test p ≡ kept → test (a, f a) ≡ whole
        → value_among (filter test ps) a ≡ cond (test (a, f a)) (value_among ps a) None
        → value_among (cond kept (p ∷ filter test ps) (filter test ps)) a ≡ cond whole (cond same (Some p.1) (value_among ps a)) None
    by true true true same kept whole rest = ap (λ b. cond b (Some p.1) (value_among (filter test ps) a)) same
    by true true false same kept whole rest = absurd (false≢true (sym whole ∙ ap test (sym (here same)) ∙ kept))
    by true false true same kept whole rest = absurd (false≢true (sym kept ∙ ap test (here same) ∙ whole))
    by true false false same kept whole rest = rest ∙ ap (λ b. cond b (value_among ps a) None) whole
    by false true whole same kept is rest = ap (λ b. cond b (Some p.1) (value_among (filter test ps) a)) same ∙ rest ∙ ap (λ b. cond b (value_among ps a) None) is
    by false false whole same kept is rest = rest ∙ ap (λ b. cond b (value_among ps a) None) is

-- the pairs of blocks' objects are these
pairs_are : (n : Shape) (content : Content) (k : ℕ) → AllByRecursion (λ p. p.1 ≡ object_at n (content p.0.block) p.0) (objects_below n content k)
unfolding objects_below
pairs_are n content zero = tt
pairs_are n content (suc k) = by (is_valid n (nth_addr k)) (pairs_are n content k)
  where
    by : (valid : Bool) → AllByRecursion (λ p. p.1 ≡ object_at n (content p.0.block) p.0) (objects_below n content k)
        → AllByRecursion (λ p. p.1 ≡ object_at n (content p.0.block) p.0)
        (cond valid ((nth_addr k, object_at n (content (nth_addr k).block) (nth_addr k)) ∷ objects_below n content k) (objects_below n content k))
    by true rest = (refl, rest)
    by false rest = rest

unwrap_kept : {A : Type 0} (kept : Bool) (o : Option A) (z : A) → unwrap_or (cond kept o None) z ≡ cond kept (unwrap_or o z) z
unwrap_kept true o z = refl
unwrap_kept false o z = refl

and_true : (b c : Bool) → b ≡ true → (b && c) ≡ c
and_true true c is = refl
and_true false c is = absurd (false≢true is)

pub HasObjects-map_of : (n : Shape) → Law n → (content : Content) → HasObjects content (map_of n content)
unfolding map_of map_of_blocks
HasObjects-map_of n law content = record {
  values = λ a valid.
      let kind = kind_of n a.block in
      let value = object_at n (content a.block) a in
      let pairs = (map_of_blocks n content).pairs in
      let found : unwrap_or (value_among pairs a) (zeros_at kind) ≡ value = (law content).values a valid in
      ap (λ o. unwrap_or o (zeros_at kind)) (kept_value (is_object n) (λ b. object_at n (content b.block) b) a pairs (pairs_are n content (n.blocks * 32768)))
      ∙ unwrap_kept (is_object n (a, value)) (value_among pairs a) (zeros_at kind)
      ∙ ap (λ v. cond (is_object n (a, value)) v (zeros_at kind)) found
      ∙ ap (λ b. cond b value (zeros_at kind)) (and_true (is_valid n a) (is_value_at kind value) valid);
}

pub SameMap-path : {m k : Map} → m ≡ k → SameMap m k
SameMap-path {m} {k} is = subst (λ (x : Map). SameMap m x) is (SameMap-refl m)

-- two maps that have the objects of the same blocks are the same
pub same_objects : (f g : Content) (m k : Map) → HasObjects f m → HasObjects g k → m.layout ≡ k.layout
    → SameBlocks m.layout.blocks f g → SameMap m k
same_objects f g m k first second layout same = record {
  layout = layout;
  values = λ a valid.
      let at = valid_block m.layout a valid in
      first.values a valid
      ∙ ap (λ bytes. object_or_zeros m.layout bytes a) (same a.block at.0 at.1)
      ∙ ap (λ n. object_or_zeros n (g a.block) a) layout
      ∙ sym (second.values a (subst (λ (n : Shape). IsTrue (is_valid n a)) layout valid));
}

pub map_of-same : (n : Shape) → Law n → (f g : Content) → SameBlocks n.blocks f g → SameMap (map_of n f) (map_of n g)
unfolding map_of
map_of-same n law f g same =
    same_objects f g (map_of n f) (map_of n g) (HasObjects-map_of n law f) (HasObjects-map_of n law g) refl same

-- the map that blocks make is any that has their objects
pub map_of-is : (n : Shape) → Law n → (f : Content) (m : Map) → m.layout ≡ n → HasObjects f m → SameMap (map_of n f) m
unfolding map_of
map_of-is n law f m layout has =
    same_objects f f (map_of n f) m (HasObjects-map_of n law f) has (sym layout) (λ b home lt. refl)
