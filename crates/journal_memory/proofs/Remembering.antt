-- What a transaction keeps as the history grows, and once it has read one more address.
use Rattle.std.proofs.Common.{◌≡◌, ◌≢◌, ℕ, zero, suc, Bool, true, false, cond, IsTrue, List, [], ◌∷◌, Some, All, get_or, slice_get, ◌==◌, refl, sym, ap, subst, ◌∙◌}
use mathlib.Core.List.{IsPrefix}
use Rattle.std.proofs.lemmas.Bool.{and_from, eq-eqb}
use Rattle.std.proofs.lemmas.Option.{same_Some}
use Rattle.std.proofs.lemmas.List.Elements.{All-nil, All-head, All-tail, All-cons}
use Rattle.journal_world.specs.declared.address.Addr.{Addr}
use Rattle.journal_world.specs.Addresses.{Value, is_same, slot_of, Shape}
use Rattle.journal_world.specs.Maps.{Pair, Map, value_among, value_at, SamePairs, Agrees, is_object, are_objects}
use Rattle.journal_world.specs.Histories.{Entry, opened, is_trusted, latest, touched}
use Rattle.journal_world.proofs.Lookups.{same_addr}
use Rattle.journal_world.proofs.LongerHistories.{opened-append}
use Rattle.journal_world.proofs.MapsOfHistories.{is_trusted-append}
use Rattle.journal_world.proofs.Slots.{latest-untouched}
use Rattle.journal_lockmap.specs.Numbers.{HeldState}
use Rattle.journal_memory.specs.SlotCounts.{AgreeWith, AreUnder}
use Rattle.journal_memory.specs.Transactions.{TransactionState, AreUnmoved, IsTransaction, Remembers}

same_itself : (a : Addr) → is_same a a ≡ true
same_itself a = and_from (a.block == a.block) (a.off == a.off) (eq-eqb a.block a.block refl) (eq-eqb a.off a.off refl)

module _ (P : Addr → Type 0) where
  -- what holds of each address that has a value holds of each pair's
  of_values : (ps : List Pair) → ((a : Addr) (v : Value) → value_among ps a ≡ Some v → P a) → All (λ (p : Pair). P p.0) ps
  of_values [] each = All-nil (λ (p : Pair). P p.0)
  of_values (p ∷ ps) each = All-cons (λ (p : Pair). P p.0) p ps here (of_values ps (λ a v is. later a v is (is_same a p.0) refl))
    where
      here : P p.0
      here = each p.0 p.1 (ap (λ (b : Bool). cond b (Some p.1) (value_among ps p.0)) (same_itself p.0))

      later : (a : Addr) (v : Value) → value_among ps a ≡ Some v → (b : Bool) → is_same a p.0 ≡ b → P a
      later a v is true same = each a p.1 (ap (λ (b : Bool). cond b (Some p.1) (value_among ps a)) same)
      later a v is false same = each a v (ap (λ (b : Bool). cond b (Some p.1) (value_among ps a)) same ∙ is)

  -- and the other way round
  to_values : (ps : List Pair) → All (λ (p : Pair). P p.0) ps → (a : Addr) (v : Value) → value_among ps a ≡ Some v → P a
  to_values [] all a v is = absurd (cc (is))
  to_values (p ∷ ps) all a v is = by (is_same a p.0) refl (λ rest. to_values ps (All-tail (λ (p : Pair). P p.0) p ps all) a v rest)
    where
      by : (b : Bool) → is_same a p.0 ≡ b → (value_among ps a ≡ Some v → P a) → P a
      by true same go = subst P (sym (same_addr a p.0 same)) (All-head (λ (p : Pair). P p.0) p ps all)
      by false same go = go (sym (ap (λ (b : Bool). cond b (Some p.1) (value_among ps a)) same) ∙ is)

  module _ (a : Addr) (v : Value) (old new : List Pair) (same : SamePairs new ((a, v) ∷ old)) where
    -- what holds of all that was read once one more is, and what holds of both
    pub of_both : P a → All (λ (p : Pair). P p.0) old → All (λ (p : Pair). P p.0) new
    of_both own all = of_values new (λ b w is. to_values ((a, v) ∷ old) (All-cons (λ (p : Pair). P p.0) (a, v) old own all) b w (sym (same b) ∙ is))

-- a beginning of nothing is nothing
front_empty : (seen history : List Entry) → IsPrefix seen history → history ≡ [] → seen ≡ []
front_empty [] history begins empty = refl
front_empty (e ∷ es) history begins empty = absurd (cc (begins.1, empty))

-- what was read is what the map gives still, where no slot of it was touched
pub agrees_later : (layout : Shape) (seen history : List Entry) (reads : List Pair) → seen ≢ [] → IsPrefix seen history
    → All (λ (p : Pair). touched layout history (slot_of layout p.0) ≡ touched layout seen (slot_of layout p.0)) reads
    → (IsTrue (is_trusted seen) → Agrees (latest seen) reads) → IsTrue (is_trusted history) → Agrees (latest history) reads
agrees_later layout seen history reads some begins still agrees trusted = λ k d lt.
    let p : Pair = get_or reads k d in
    subst (λ (h : List Entry). value_at (latest h) p.0 ≡ p.1) begins.1
    (latest-untouched layout seen begins.0 p.0 some (ap (λ (h : List Entry). touched layout h (slot_of layout p.0)) begins.1 ∙ still k d lt)
    ∙ agrees was k d lt)
  where
    was : IsTrue (is_trusted seen)
    was = subst IsTrue (is_trusted-append seen begins.0 some) (subst (λ (h : List Entry). IsTrue (is_trusted h)) (sym begins.1) trusted)

-- what was read under slots that are held has not moved, where these agree with the history:
-- nothing is compared
pub verified_under : (layout : Shape) (history : List Entry) (held : List HeldState) (t : TransactionState) → AgreeWith layout history held → AreUnder layout held t.seen t.reads → AreUnmoved layout history t
verified_under layout history held t agree under = λ k d lt.
    let here = under k d lt in
    ap (touched layout history) (sym here.3) ∙ sym (agrees_at held here.0 here.1 agree here.2) ∙ here.4
  where
    agrees_at : (held : List HeldState) (k : ℕ) (h : HeldState) → AgreeWith layout history held → slice_get held k ≡ Some h → h.count ≡ touched layout history h.slot
    agrees_at [] k h all at = absurd (cc at)
    agrees_at (x ∷ xs) zero h all at = subst (λ (y : HeldState). y.count ≡ touched layout history y.slot) (same_Some x h at) (All-head (λ (y : HeldState). y.count ≡ touched layout history y.slot) x xs all)
    agrees_at (x ∷ xs) (suc k) h all at = agrees_at xs k h (All-tail (λ (y : HeldState). y.count ≡ touched layout history y.slot) x xs all) at

-- what a transaction keeps once it has read the value of one more address at the end of a history
pub remembered : (layout : Shape) (t : TransactionState) → IsTransaction layout t → (history : List Entry) (a : Addr) (v : Value)
    → IsPrefix t.seen history → AreUnmoved layout history t
    → IsTrue (is_object layout (a, v))
    → (IsTrue (is_trusted history) → v ≡ value_at (latest history) a)
    → IsTransaction layout (record { reads = (a, v) ∷ t.reads; writes = t.writes; seen = history })
remembered layout t kept history a v begins still object gives = record {
  begun = λ empty. kept.begun (front_empty t.seen history begins empty);
  on_disk = ap (λ (h : List Entry). (opened h).layout) (sym begins.1) ∙ ap (λ (m : Map). m.layout) (opened-append t.seen begins.0 kept.begun) ∙ kept.on_disk;
  reads = and_from (is_object layout (a, v)) (are_objects layout t.reads) object kept.reads;
  writes = kept.writes;
  agrees = λ trusted. All-cons (λ (p : Pair). value_at (latest history) p.0 ≡ p.1) (a, v) t.reads (sym (gives trusted))
      (agrees_later layout t.seen history t.reads kept.begun begins still kept.agrees trusted);
}

-- what was read is remembered
pub remembers : (t : TransactionState) (a : Addr) (v : Value) (history : List Entry)
    → Remembers t a v history (record { reads = (a, v) ∷ t.reads; writes = t.writes; seen = history })
remembers t a v history = record {
  reads = λ b. refl;
  objects = λ layout old new. and_from (is_object layout (a, v)) (are_objects layout t.reads) new old;
  agrees = λ m old new. All-cons (λ (p : Pair). value_at m p.0 ≡ p.1) (a, v) t.reads new old;
  others = refl;
}
