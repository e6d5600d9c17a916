-- A map's look-up by the order of addresses is the one by pairs.
use Rattle.std.proofs.Common.{◌≡◌, Bool, true, false, cond, ◌==◌, ◌&&◌, IsTrue, List, [], ◌∷◌, Some, Ordering, refl, sym, ap, subst, ◌∙◌}
use Rattle.std.specs.declared.cmp.Ordering.TheVariants.{Less, Equal, Greater}
use Rattle.std.specs.Ordering.{nat_cmp, ordering_then, is_eq, match_ordering}
use Rattle.std.specs.BTreeMap.{is_at, insert_entry}
use Rattle.std.specs.Map.{lookup}
use Rattle.std.specs.Cmp.{unsigned_ties}
use Rattle.std.proofs.lemmas.Bool.{and_from, and_parts}
use Rattle.std.proofs.lemmas.Bool.Decides.{Decides-eqb}
use Rattle.std.proofs.lemmas.Cmp.{nat_eq_equiv}
use Rattle.std.proofs.lemmas.List.Elements.{All-head, All-tail, All-cons}
use Rattle.journal_world.specs.declared.address.Addr.{Addr}
use Rattle.journal_world.specs.Addresses.{Shape, Value, is_same}
use Rattle.journal_world.specs.Maps.{Pair, Map, value_among, value_at, SamePairs, Agrees, is_object, are_objects}

-- by block, then by offset
abbrev pub addr_cmp : Addr → Addr → Ordering
addr_cmp a b = ordering_then (nat_cmp a.block b.block) (nat_cmp a.off b.off)

is_eq-then : (x y : Ordering) → is_eq (ordering_then x y) ≡ (is_eq x && is_eq y)
is_eq-then Less y = refl
is_eq-then Equal y = refl
is_eq-then Greater y = refl

pub is_same-at : (a b : Addr) → is_at (addr_cmp a) b ≡ is_same a b
is_same-at a b =
    is_eq-then (nat_cmp a.block b.block) (nat_cmp a.off b.off)
    ∙ ap (λ q. is_eq (nat_cmp a.block b.block) && q) (sym (unsigned_ties a.off b.off))
    ∙ ap (λ p. p && (a.off == b.off)) (sym (unsigned_ties a.block b.block))

pub lookup-addr : (es : List Pair) (a : Addr) → lookup (is_at (addr_cmp a)) es ≡ value_among es a
lookup-addr [] a = refl
lookup-addr (e ∷ es) a =
    ap (λ b. cond b (Some e.1) (lookup (is_at (addr_cmp a)) es)) (is_same-at a e.0)
    ∙ ap (cond (is_same a e.0) (Some e.1)) (lookup-addr es a)

-- addresses with the same fields are one
pub same_addr : (a b : Addr) → is_same a b ≡ true → a ≡ b
same_addr a b same = by_parts (a.block == b.block) (a.off == b.off) refl refl same
  where
    by_parts : (p q : Bool) → (a.block == b.block) ≡ p → (a.off == b.off) ≡ q → (p && q) ≡ true → a ≡ b
    by_parts true true p q h =
        ap (λ n. record { block = n; off = a.off }) ((Decides-eqb a.block b.block).0 p)
        ∙ ap (λ n. record { block = b.block; off = n }) ((Decides-eqb a.off b.off).0 q)
    by_parts true false p q h = absurd (cc (h))
    by_parts false q p r h = absurd (cc (h))

pub is_same-symm : (a b : Addr) → is_same a b ≡ is_same b a
is_same-symm a b =
    ap (λ p. p && (a.off == b.off)) (nat_eq_equiv.symm a.block b.block)
    ∙ ap (λ q. (b.block == a.block) && q) (nat_eq_equiv.symm a.off b.off)

-- after an insert the new pair is found first
pub inserted : (es fs : List Pair) (a : Addr) (v : Value)
    → ((q : Addr) → lookup (is_at (addr_cmp q)) fs ≡ cond (is_at (addr_cmp a) q) (Some v) (lookup (is_at (addr_cmp q)) es))
    → SamePairs fs ((a, v) ∷ es)
inserted es fs a v updates q =
    sym (lookup-addr fs q)
    ∙ updates q
    ∙ ap (λ b. cond b (Some v) (lookup (is_at (addr_cmp q)) es)) (is_same-at a q ∙ is_same-symm a q)
    ∙ ap (cond (is_same q a) (Some v)) (lookup-addr es q)

-- an insert of an object leaves objects
pub are_objects-insert_entry : (layout : Shape) (es : List Pair) (a : Addr) (v : Value)
    → IsTrue (are_objects layout es) → IsTrue (is_object layout (a, v)) → IsTrue (are_objects layout (insert_entry addr_cmp es a v))
are_objects-insert_entry layout [] a v old new = and_from (is_object layout (a, v)) true new refl
are_objects-insert_entry layout (e ∷ es) a v old new = by_order (addr_cmp a e.0) refl (λ rest. are_objects-insert_entry layout es a v rest new)
  where
    parts : IsTrue (is_object layout e) × IsTrue (are_objects layout es)
    parts = and_parts (is_object layout e) (are_objects layout es) old

    by_order : (o : Ordering) → addr_cmp a e.0 ≡ o → (IsTrue (are_objects layout es) → IsTrue (are_objects layout (insert_entry addr_cmp es a v)))
        → IsTrue (are_objects layout (match_ordering o ((a, v) ∷ e ∷ es) ((e.0, v) ∷ es) (e ∷ insert_entry addr_cmp es a v)))
    by_order Less is go = and_from (is_object layout (a, v)) (are_objects layout (e ∷ es)) new old
    by_order Equal is go =
        let same : a ≡ e.0 = same_addr a e.0 (sym (is_same-at a e.0) ∙ ap is_eq is) in
        and_from (is_object layout (e.0, v)) (are_objects layout es) (subst (λ b. IsTrue (is_object layout (b, v))) same new) parts.1
    by_order Greater is go = and_from (is_object layout e) (are_objects layout (insert_entry addr_cmp es a v)) parts.0 (go parts.1)

-- an insert of what the map gives leaves what it gives
pub Agrees-insert_entry : (m : Map) (es : List Pair) (a : Addr) (v : Value)
    → Agrees m es → value_at m a ≡ v → Agrees m (insert_entry addr_cmp es a v)
Agrees-insert_entry m [] a v old new = All-cons (λ (p : Pair). value_at m p.0 ≡ p.1) (a, v) [] new old
Agrees-insert_entry m (e ∷ es) a v old new = by_order (addr_cmp a e.0) refl (λ rest. Agrees-insert_entry m es a v rest new)
  where
    here : value_at m e.0 ≡ e.1
    here = All-head (λ (p : Pair). value_at m p.0 ≡ p.1) e es old

    later : Agrees m es
    later = All-tail (λ (p : Pair). value_at m p.0 ≡ p.1) e es old

    by_order : (o : Ordering) → addr_cmp a e.0 ≡ o → (Agrees m es → Agrees m (insert_entry addr_cmp es a v))
        → Agrees m (match_ordering o ((a, v) ∷ e ∷ es) ((e.0, v) ∷ es) (e ∷ insert_entry addr_cmp es a v))
    by_order Less is go = All-cons (λ (p : Pair). value_at m p.0 ≡ p.1) (a, v) (e ∷ es) new old
    by_order Equal is go =
        let same : a ≡ e.0 = same_addr a e.0 (sym (is_same-at a e.0) ∙ ap is_eq is) in
        All-cons (λ (p : Pair). value_at m p.0 ≡ p.1) (e.0, v) es (subst (λ b. value_at m b ≡ v) same new) later
    by_order Greater is go = All-cons (λ (p : Pair). value_at m p.0 ≡ p.1) e (insert_entry addr_cmp es a v) here (go later)
