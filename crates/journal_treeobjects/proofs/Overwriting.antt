-- A map that is overwritten by a call's writes is the disk after them.
use Rattle.std.proofs.Common.{◌≡◌, Bool, true, false, cond, ◌==◌, ◌&&◌, List, [], ◌∷◌, ◌++◌, Option, Some, None, refl, sym, ap, ◌∙◌}
use Rattle.std.specs.Prelude.{unwrap_or}
use Rattle.std.proofs.lemmas.Bool.{eq-eqb, eqb-true, false≢true}
use Rattle.journal_world.specs.declared.address.Addr.{Addr}
use Rattle.journal_world.specs.Addresses.{Value, kind_of, is_same}
use Rattle.journal_world.specs.Maps.{Map, Pair, value_among, zeros_at, value_at, overwritten}
use Rattle.journal_world.proofs.Lookups.{same_addr}
use Rattle.journal_world.proofs.SameMaps.{value_at-overwritten}
use Rattle.journal_treestore.specs.declared.place.Cut.{Cut}
use Rattle.journal_treestore.specs.Places.{Object, IsCut, addr_of, IsOnDisk, is_same_object}
use Rattle.journal_treestore.specs.Places.Object.{the_description, owner_of, inode_of, data_block}
use Rattle.journal_treestore.proofs.Placing.{places-apart}
use Rattle.journal_treecalls.specs.Disks.{Write, written, with_write}
use Rattle.journal_treecalls.specs.Disks.Write.{inode_write, owner_write, block_write}
use Rattle.journal_treeobjects.specs.Maps.{object, view_of}
use Rattle.journal_treeobjects.specs.Effects.{object_of, value_of, pairs_of, AreOnDisk, WritesShow}
use Rattle.journal_treeobjects.proofs.Viewing.{view-same, view-step}

-- ── one address, one object ──

same-itself : (o : Object) → is_same_object o o ≡ true
same-itself the_description = refl
same-itself (owner_of b) = eq-eqb b b refl
same-itself (inode_of n) = eq-eqb n n refl
same-itself (data_block b) = eq-eqb b b refl

same-one : (o p : Object) → is_same_object o p ≡ true → o ≡ p
same-one the_description the_description is = refl
same-one the_description (owner_of j) is = absurd (false≢true is)
same-one the_description (inode_of j) is = absurd (false≢true is)
same-one the_description (data_block j) is = absurd (false≢true is)
same-one (owner_of i) the_description is = absurd (false≢true is)
same-one (owner_of i) (owner_of j) is = ap owner_of (eqb-true i j is)
same-one (owner_of i) (inode_of j) is = absurd (false≢true is)
same-one (owner_of i) (data_block j) is = absurd (false≢true is)
same-one (inode_of i) the_description is = absurd (false≢true is)
same-one (inode_of i) (owner_of j) is = absurd (false≢true is)
same-one (inode_of i) (inode_of j) is = ap inode_of (eqb-true i j is)
same-one (inode_of i) (data_block j) is = absurd (false≢true is)
same-one (data_block i) the_description is = absurd (false≢true is)
same-one (data_block i) (owner_of j) is = absurd (false≢true is)
same-one (data_block i) (inode_of j) is = absurd (false≢true is)
same-one (data_block i) (data_block j) is = ap data_block (eqb-true i j is)

addr-itself : (a : Addr) → is_same a a ≡ true
addr-itself a = ap (λ p. p && (a.off == a.off)) (eq-eqb a.block a.block refl) ∙ eq-eqb a.off a.off refl

pub same-object : (c : Cut) (o p : Object) → IsCut c → IsOnDisk c o → IsOnDisk c p → is_same (addr_of c o) (addr_of c p) ≡ is_same_object o p
same-object c o p cut x y = by (is_same (addr_of c o) (addr_of c p)) (is_same_object o p) refl refl
  where
    by : (s t : Bool) → is_same (addr_of c o) (addr_of c p) ≡ s → is_same_object o p ≡ t → s ≡ t
    by true true s t = refl
    by false false s t = refl
    by true false s t = sym (same-itself p) ∙ ap (λ q. is_same_object q p) (sym (places-apart c o p cut x y (same_addr (addr_of c o) (addr_of c p) s))) ∙ t
    by false true s t = sym s ∙ ap (λ q. is_same (addr_of c o) (addr_of c q)) (sym (same-one o p t)) ∙ addr-itself (addr_of c o)

-- ── writes, one after another ──

pub object-step : (c : Cut) (m : Map) (w : Write) (ps : List Pair) → IsCut c → IsOnDisk c (object_of w) → (o : Object) → IsOnDisk c o
    → object c (overwritten m ((addr_of c (object_of w), value_of w) ∷ ps)) o ≡ cond (is_same_object o (object_of w)) (value_of w) (object c (overwritten m ps) o)
object-step c m w ps cut on o here =
    value_at-overwritten m (addr_of c (object_of w), value_of w) ps (addr_of c o)
    ∙ ap (λ b. cond b (value_of w) (object c (overwritten m ps) o)) (same-object c o (object_of w) cut here on)

view-written : (c : Cut) (m : Map) (ws : List Write) → IsCut c → AreOnDisk c ws → view_of c (overwritten m (pairs_of c ws)) ≡ written ws (view_of c m)
view-written c m [] cut on = refl
view-written c m (w ∷ ws) cut on =
    view-step c (overwritten m (pairs_of c ws)) (overwritten m (pairs_of c (w ∷ ws))) w on.0 (object-step c m w (pairs_of c ws) cut on.0)
    ∙ ap (λ V. with_write V w) (view-written c m ws cut on.1)

no_description : (w : Write) → is_same_object the_description (object_of w) ≡ false
no_description (inode_write n v) = refl
no_description (owner_write b v) = refl
no_description (block_write b v) = refl

description-kept : (c : Cut) (m : Map) (ws : List Write) → IsCut c → AreOnDisk c ws → object c (overwritten m (pairs_of c ws)) the_description ≡ object c m the_description
description-kept c m [] cut on = refl
description-kept c m (w ∷ ws) cut on =
    object-step c m w (pairs_of c ws) cut on.0 the_description tt
    ∙ ap (λ b. cond b (value_of w) (object c (overwritten m (pairs_of c ws)) the_description)) (no_description w)
    ∙ description-kept c m ws cut on.1

-- ── pairs that give what these writes give ──

abbrev or_else : Option Value → Option Value → Option Value
or_else None p = p
or_else (Some x) p = Some x

among-first : (ps qs : List Pair) (a : Addr) → value_among (ps ++ qs) a ≡ or_else (value_among ps a) (value_among qs a)
among-first [] qs a = refl
among-first (p ∷ ps) qs a = by (is_same a p.0) (among-first ps qs a)
  where
    by : (b : Bool) → value_among (ps ++ qs) a ≡ or_else (value_among ps a) (value_among qs a)
        → cond b (Some p.1) (value_among (ps ++ qs) a) ≡ or_else (cond b (Some p.1) (value_among ps a)) (value_among qs a)
    by true rest = refl
    by false rest = rest

value-same : (m : Map) (ps qs : List Pair) (a : Addr) → value_among ps a ≡ value_among qs a → value_at (overwritten m ps) a ≡ value_at (overwritten m qs) a
value-same m ps qs a same =
    ap (λ o. unwrap_or o (zeros_at (kind_of m.layout a.block)))
    (among-first ps m.pairs a ∙ ap (λ o. or_else o (value_among m.pairs a)) same ∙ sym (among-first qs m.pairs a))

pub writes-show : WritesShow
writes-show c m pairs ws cut on same = record {
  disk = view-same c (overwritten m (pairs_of c ws)) (overwritten m pairs) (λ o here. value-same m pairs (pairs_of c ws) (addr_of c o) (same (addr_of c o))) ∙ view-written c m ws cut on;
  description = value-same m pairs (pairs_of c ws) (addr_of c the_description) (same (addr_of c the_description)) ∙ description-kept c m ws cut on;
}
