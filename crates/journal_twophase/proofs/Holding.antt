-- What an open transaction keeps of the slots that it holds, as it takes one, gives one back, reads
-- and overwrites.
use Rattle.std.proofs.Common.{◌≡◌, ◌≢◌, ◌<◌, ◌==◌, ◌||◌, ℕ, zero, suc, Bool, true, false, cond, IsTrue, List, [], ◌∷◌, ◌++◌, length, length-append, take, drop, get_or, Option, Some, None, Result, Ok, Err, IfOk, OnErr, slice_get, nat_lt, refl, eq-eqb, sym, ap, subst, ◌∙◌, arith}
use mathlib.Core.List.{IsPrefix}
use Rattle.std.specs.Prelude.{slice_index}
use Rattle.std.specs.List.{list_any}
use Rattle.std.specs.Option.{option_to_list}
use Rattle.std.proofs.Math.Bool.{or-false, or-true}
use Rattle.std.proofs.Math.ListN.{get_or-append}
use Rattle.std.proofs.Math.Seq.{get_or-append_seam}
use Rattle.std.proofs.lemmas.Bool.{ne_eqb, eqb-true, eqb-false, false≢true}
use Rattle.std.proofs.lemmas.Option.{same_Some}
use Rattle.std.proofs.lemmas.List.{append-nil, take_all, drop_all, length-map, map-append}
use Rattle.std.proofs.lemmas.List.Elements.{All-head, All-tail}
use Rattle.std.proofs.lemmas.List.Folds.{list_any-append, list_any_at}
use Rattle.journal_world.specs.declared.address.Addr.{Addr}
use Rattle.journal_world.specs.Addresses.{Value, slot_of, Shape}
use Rattle.journal_world.specs.Histories.{Entry, touched}
use Rattle.journal_lockmap.specs.Numbers.{HeldState, slots_of, is_held, HoldsSlots, AreApart}
use Rattle.journal_memory.specs.SlotCounts.{AgreeWith, IsUnder, AreUnder}
use Rattle.journal_memory.specs.Transactions.{TransactionState, ReadResultState, Remembers, Overwrites}
use Rattle.journal_memory.proofs.Remembering.{of_both}
use Rattle.journal_twophase.specs.Transactions.{TxnState, holds, holds_above, with_slot, IsClearOf, KeepsHeld, ReadsObject}

-- a slot is held where its number is among those that are shown
pub holds-slots : (held : List HeldState) (slot : ℕ) → holds (slots_of held) slot ≡ is_held held slot
holds-slots [] slot = refl
holds-slots (h ∷ hs) slot = ap (λ b. (h.slot == slot) || b) (holds-slots hs slot)

pub holds_above-slots : (held : List HeldState) (slot : ℕ) → holds_above (slots_of held) slot ≡ list_any (λ (h : HeldState). nat_lt slot h.slot) held
holds_above-slots [] slot = refl
holds_above-slots (h ∷ hs) slot = ap (λ b. nat_lt slot h.slot || b) (holds_above-slots hs slot)

-- and what is held of it has its place
place_of : (held : List HeldState) (slot : ℕ) → is_held held slot ≡ true → (k : ℕ) × (h : HeldState) × (slice_get held k ≡ Some h) × (h.slot ≡ slot)
place_of [] slot is = absurd (false≢true is)
place_of (h ∷ hs) slot is = by (h.slot == slot) refl (λ rest. place_of hs slot rest)
  where
    by : (b : Bool) → (h.slot == slot) ≡ b
        → (is_held hs slot ≡ true → (k : ℕ) × (g : HeldState) × (slice_get hs k ≡ Some g) × (g.slot ≡ slot))
        → (k : ℕ) × (g : HeldState) × (slice_get (h ∷ hs) k ≡ Some g) × (g.slot ≡ slot)
    by true same later = (0, h, refl, eqb-true h.slot slot same)
    by false other later =
        let rest = later (sym (ap (λ b. b || is_held hs slot) other) ∙ is) in
        (suc rest.0, rest.1, rest.2, rest.3)

-- a place is the same once one more is held
place_more : (held : List HeldState) (x : HeldState) (k : ℕ) (h : HeldState) → slice_get held k ≡ Some h → slice_get (held ++ x ∷ []) k ≡ Some h
place_more [] x k h at = absurd (cc at)
place_more (y ∷ ys) x zero h at = at
place_more (y ∷ ys) x (suc k) h at = place_more ys x k h at

-- and once the last is not held, but for its own
place_fewer : (held : List HeldState) (x : HeldState) (k : ℕ) (h : HeldState) → slice_get (held ++ x ∷ []) k ≡ Some h → h.slot ≢ x.slot → slice_get held k ≡ Some h
place_fewer [] x zero h at differ = absurd (differ (ap (λ (g : HeldState). g.slot) (sym (same_Some x h at))))
place_fewer [] x (suc k) h at differ = absurd (cc at)
place_fewer (y ∷ ys) x zero h at differ = at
place_fewer (y ∷ ys) x (suc k) h at differ = place_fewer ys x k h at differ

is_held-more : (held : List HeldState) (x : HeldState) (slot : ℕ) → IsTrue (is_held held slot) → IsTrue (is_held (held ++ x ∷ []) slot)
is_held-more held x slot is =
    list_any-append (λ (h : HeldState). h.slot == slot) held (x ∷ []) ∙ ap (λ b. b || is_held (x ∷ []) slot) is

is_held-fewer : (held : List HeldState) (x : HeldState) (slot : ℕ) → IsTrue (is_held (held ++ x ∷ []) slot) → slot ≢ x.slot → IsTrue (is_held held slot)
is_held-fewer held x slot is differ =
    sym (or-false (is_held held slot))
    ∙ sym (ap (λ b. is_held held slot || (b || false)) (ne_eqb x.slot slot (λ same. differ (sym same))))
    ∙ sym (list_any-append (λ (h : HeldState). h.slot == slot) held (x ∷ []))
    ∙ is

-- Numbers of which each stands once

abbrev AreOnce : List ℕ → Type 0
AreOnce ns = (i j : ℕ) → i < length ns → j < length ns → slice_index ns i ≡ slice_index ns j → i ≡ j

once_more : (ns : List ℕ) (n : ℕ) → holds ns n ≡ false → AreOnce ns → AreOnce (ns ++ n ∷ [])
once_more ns n free once = λ i j lt_i lt_j same. by i j lt_i lt_j same (i == length ns) refl (j == length ns) refl
  where
    front : (i : ℕ) → i < length (ns ++ n ∷ []) → i ≢ length ns → (i < length ns) × (slice_index (ns ++ n ∷ []) i ≡ slice_index ns i)
    front i lt other =
        let below : i < length ns = omega (arith, lt, length-append ns (n ∷ []), other) in
        (below, get_or-append ns (n ∷ []) 0 i below)

    last : (i : ℕ) → i ≡ length ns → slice_index (ns ++ n ∷ []) i ≡ n
    last i is = ap (λ k. slice_index (ns ++ n ∷ []) k) is ∙ get_or-append_seam ns n [] 0

    not_there : (i : ℕ) → i < length ns → slice_index ns i ≢ n
    not_there i lt same = false≢true (sym free ∙ list_any_at (λ (h : ℕ). h == n) ns i 0 lt (ap (λ h. h == n) same ∙ eq-eqb n n refl))

    by : (i j : ℕ) → i < length (ns ++ n ∷ []) → j < length (ns ++ n ∷ []) → slice_index (ns ++ n ∷ []) i ≡ slice_index (ns ++ n ∷ []) j
        → (b : Bool) → (i == length ns) ≡ b → (d : Bool) → (j == length ns) ≡ d → i ≡ j
    by i j lt_i lt_j same true is_i true is_j = eqb-true i (length ns) is_i ∙ sym (eqb-true j (length ns) is_j)
    by i j lt_i lt_j same true is_i false is_j =
        let at = front j lt_j (eqb-false j (length ns) is_j) in
        absurd (not_there j at.0 (sym at.1 ∙ sym same ∙ last i (eqb-true i (length ns) is_i)))
    by i j lt_i lt_j same false is_i true is_j =
        let at = front i lt_i (eqb-false i (length ns) is_i) in
        absurd (not_there i at.0 (sym at.1 ∙ same ∙ last j (eqb-true j (length ns) is_j)))
    by i j lt_i lt_j same false is_i false is_j =
        let at_i = front i lt_i (eqb-false i (length ns) is_i) in
        let at_j = front j lt_j (eqb-false j (length ns) is_j) in
        once i j at_i.0 at_j.0 (sym at_i.1 ∙ same ∙ at_j.1)

once_fewer : (ns : List ℕ) (n : ℕ) → AreOnce (ns ++ n ∷ []) → AreOnce ns
once_fewer ns n once = λ i j lt_i lt_j same.
    once i j (omega (arith, lt_i, length-append ns (n ∷ []))) (omega (arith, lt_j, length-append ns (n ∷ [])))
    (get_or-append ns (n ∷ []) 0 i lt_i ∙ same ∙ sym (get_or-append ns (n ∷ []) 0 j lt_j))

-- what is held of slots that each stand once
from_once : (held : List HeldState) → AreOnce (slots_of held) → AreApart held
from_once held once = λ i j lt_i lt_j same.
    once i j (omega (arith, lt_i, length-map held (λ (h : HeldState). h.slot))) (omega (arith, lt_j, length-map held (λ (h : HeldState). h.slot))) same

to_once : (held : List HeldState) → AreApart held → AreOnce (slots_of held)
to_once held apart = λ i j lt_i lt_j same.
    apart i j (omega (arith, lt_i, length-map held (λ (h : HeldState). h.slot))) (omega (arith, lt_j, length-map held (λ (h : HeldState). h.slot))) same

pub slots_more : (held : List HeldState) (x : HeldState) → slots_of (held ++ x ∷ []) ≡ slots_of held ++ x.slot ∷ []
slots_more held x = map-append (λ (h : HeldState). h.slot) held (x ∷ [])

-- The transaction's promise

-- one more is held, of a slot that was not
pub keeps_more : (layout : Shape) (held : List HeldState) (x : HeldState) (t : TransactionState) → holds (slots_of held) x.slot ≡ false → KeepsHeld layout held t → KeepsHeld layout (held ++ x ∷ []) t
keeps_more layout held x t free kept = record {
  reads = λ k d lt. let u = kept.reads k d lt in (u.0, u.1, place_more held x u.0 u.1 u.2, u.3, u.4);
  writes = λ k d lt. is_held-more held x (slot_of layout (get_or t.writes k d).0) (kept.writes k d lt);
  apart = from_once (held ++ x ∷ []) (subst AreOnce (sym (slots_more held x)) (once_more (slots_of held) x.slot free (to_once held kept.apart)));
}

-- the last is held no more, and nothing lay under it
pub keeps_fewer : (layout : Shape) (held : List HeldState) (x : HeldState) (t : TransactionState) → IsClearOf layout x.slot t.reads → IsClearOf layout x.slot t.writes → KeepsHeld layout (held ++ x ∷ []) t → KeepsHeld layout held t
keeps_fewer layout held x t reads writes kept = record {
  reads = λ k d lt. let u = kept.reads k d lt in (u.0, u.1, place_fewer held x u.0 u.1 u.2 (λ same. reads k d lt (sym u.3 ∙ same)), u.3, u.4);
  writes = λ k d lt. is_held-fewer held x (slot_of layout (get_or t.writes k d).0) (kept.writes k d lt) (writes k d lt);
  apart = from_once held (once_fewer (slots_of held) x.slot (subst AreOnce (slots_more held x) (to_once (held ++ x ∷ []) kept.apart)));
}

-- what stands there is held
held_at : (held : List HeldState) (k : ℕ) (h : HeldState) (slot : ℕ) → slice_get held k ≡ Some h → h.slot ≡ slot → IsTrue (is_held held slot)
held_at [] k h slot at same = absurd (cc at)
held_at (x ∷ xs) zero h slot at same =
    ap (λ b. b || is_held xs slot) (ap (λ (g : HeldState). g.slot == slot) (same_Some x h at) ∙ ap (λ n. n == slot) same ∙ eq-eqb slot slot refl)
held_at (x ∷ xs) (suc k) h slot at same = ap (λ b. (x.slot == slot) || b) (held_at xs k h slot at same) ∙ or-true (x.slot == slot)

-- one was pushed, or for want of memory not
pub keeps_pushed : (layout : Shape) (b : Bool) (held now : List HeldState) (x : HeldState) (t : TransactionState) → now ≡ cond b (held ++ x ∷ []) held → holds (slots_of held) x.slot ≡ false
    → KeepsHeld layout held t → KeepsHeld layout now t
keeps_pushed layout true held now x t is free kept = subst (λ (l : List HeldState). KeepsHeld layout l t) (sym is) (keeps_more layout held x t free kept)
keeps_pushed layout false held now x t is free kept = subst (λ (l : List HeldState). KeepsHeld layout l t) (sym is) kept

-- the last was popped, if there was one
pub keeps_popped : (layout : Shape) (last : Option HeldState) (held now : List HeldState) (t : TransactionState) → held ≡ now ++ option_to_list last
    → ((before : List ℕ) (slot : ℕ) → slots_of held ≡ before ++ slot ∷ [] → IsClearOf layout slot t.reads × IsClearOf layout slot t.writes)
    → KeepsHeld layout held t → KeepsHeld layout now t
keeps_popped layout None held now t is clear kept = subst (λ (l : List HeldState). KeepsHeld layout l t) (is ∙ append-nil now) kept
keeps_popped layout (Some x) held now t is clear kept =
    let apart = clear (slots_of now) x.slot (ap slots_of is ∙ slots_more now x) in
    keeps_fewer layout now x t apart.0 apart.1 (subst (λ (l : List HeldState). KeepsHeld layout l t) is kept)

-- nothing lies under a slot that is not held
pub clear_of : (layout : Shape) (held : List HeldState) (t : TransactionState) (slot : ℕ) → holds (slots_of held) slot ≡ false → KeepsHeld layout held t
    → IsClearOf layout slot t.reads × IsClearOf layout slot t.writes
clear_of layout held t slot free kept = (
  λ k d lt same.
      let u = kept.reads k d lt in
      none (held_at held u.0 u.1 slot u.2 (u.3 ∙ same)),
  λ k d lt same. none (sym (ap (is_held held) same) ∙ kept.writes k d lt),
)
  where
    none : IsTrue (is_held held slot) → ⊥
    none is = false≢true (sym free ∙ holds-slots held slot ∙ is)

-- what is held agrees at its place
agrees_at : (layout : Shape) (history : List Entry) (held : List HeldState) (k : ℕ) (h : HeldState) → AgreeWith layout history held → slice_get held k ≡ Some h → h.count ≡ touched layout history h.slot
agrees_at layout history [] k h all at = absurd (cc at)
agrees_at layout history (x ∷ xs) zero h all at = subst (λ (y : HeldState). y.count ≡ touched layout history y.slot) (same_Some x h at) (All-head (λ (y : HeldState). y.count ≡ touched layout history y.slot) x xs all)
agrees_at layout history (x ∷ xs) (suc k) h all at = agrees_at layout history xs k h (All-tail (λ (y : HeldState). y.count ≡ touched layout history y.slot) x xs all) at

-- one more address was read under a slot that is held
pub keeps_read : (layout : Shape) (held : List HeldState) (t after : TransactionState) (a : Addr) (v bytes : Value) (found : ReadResultState) → KeepsHeld layout held t → ReadsObject layout t a held bytes found
    → IsTrue (holds (slots_of held) (slot_of layout a)) → Remembers t found.addr v found.seen after → KeepsHeld layout held after
keeps_read layout held t after a v bytes found kept read slot remembers = record {
  reads = subst (λ (h : List Entry). AreUnder layout held h after.reads) (sym seen) (of_both (λ b. IsUnder layout held found.seen (b, v)) found.addr v t.reads after.reads remembers.reads own before);
  writes = subst (HoldsSlots layout held) (sym (ap (λ (u : TransactionState). u.writes) remembers.others)) kept.writes;
  apart = kept.apart;
}
  where
    seen : after.seen ≡ found.seen
    seen = ap (λ (u : TransactionState). u.seen) remembers.others

    before : AreUnder layout held found.seen t.reads
    before = λ k d lt. let u = kept.reads k d lt in (u.0, u.1, u.2, u.3, u.4 ∙ sym (read.unmoved k d lt))

    own : IsUnder layout held found.seen (found.addr, v)
    own =
        let here : IsTrue (is_held held (slot_of layout found.addr)) = sym (holds-slots held (slot_of layout found.addr)) ∙ subst (λ (b : Addr). IsTrue (holds (slots_of held) (slot_of layout b))) (sym read.addr) slot in
        let u = place_of held (slot_of layout found.addr) here in
        (u.0, u.1, u.2, u.3, agrees_at layout found.seen held u.0 u.1 read.agree u.2 ∙ ap (touched layout found.seen) u.3)

-- one more address was overwritten under a slot that is held
pub keeps_written : (layout : Shape) (held : List HeldState) (t after : TransactionState) (a : Addr) (v : Value) → KeepsHeld layout held t → IsTrue (holds (slots_of held) (slot_of layout a)) → Overwrites t a v after
    → KeepsHeld layout held after
keeps_written layout held t after a v kept slot overwrites = record {
  reads = subst (λ (u : TransactionState). AreUnder layout held u.seen u.reads) (sym overwrites.others) kept.reads;
  writes = of_both (λ b. IsTrue (is_held held (slot_of layout b))) a v t.writes after.writes overwrites.writes (sym (holds-slots held (slot_of layout a)) ∙ slot) kept.writes;
  apart = kept.apart;
}

-- and it has seen what it had
pub begun_still : (began : List Entry) (t after : TransactionState) (a : Addr) (v : Value) → IsPrefix began t.seen → Overwrites t a v after → IsPrefix began after.seen
begun_still began t after a v begins overwrites = subst (λ (u : TransactionState). IsPrefix began u.seen) (sym overwrites.others) begins

-- a list of that length, lent as a slice and given back as it was
pub lent_back : {A : Type 0} (n : ℕ) (xs ys : List A) → xs ≡ ys → n ≡ length ys → take n (xs ++ drop (length xs) ys) ≡ ys
lent_back n xs ys same is =
    subst (λ (zs : List _). take n (zs ++ drop (length zs) ys) ≡ ys) (sym same)
    (ap (λ (zs : List _). take n (ys ++ zs)) (drop_all (length ys) ys (omega arith)) ∙ ap (take n) (append-nil ys) ∙ take_all n ys (omega (arith, is)))

-- and what is as long as what was lent comes back whole
pub filled_back : {A : Type 0} (n : ℕ) (xs ys : List A) → length xs ≡ n → n ≡ length ys → take n (xs ++ drop (length xs) ys) ≡ xs
filled_back n xs ys same is =
    ap (λ (zs : List _). take n (xs ++ zs)) (drop_all (length xs) ys (omega (arith, same, is))) ∙ ap (take n) (append-nil xs) ∙ take_all n xs (omega (arith, same))

pub keeps_lent : (layout : Shape) (n : ℕ) (now held : List HeldState) (t : TransactionState) → now ≡ held → n ≡ length held → KeepsHeld layout held t → KeepsHeld layout (take n (now ++ drop (length now) held)) t
keeps_lent layout n now held t same is kept = subst (λ (l : List HeldState). KeepsHeld layout l t) (sym (lent_back n now held same is)) kept

-- what is said of a call that may have taken a slot
pub if_took : {X E : Type 0} (r : Result Bool E) → X → IfOk r (λ took. IsTrue took → X)
if_took (Ok took) holds = λ _. holds
if_took (Err why) holds = tt

-- the slot that was taken is held then
pub holds_with : (held : List ℕ) (slot : ℕ) → IsTrue (holds (with_slot held slot) slot)
holds_with held slot = by (holds held slot) refl
  where
    by : (b : Bool) → holds held slot ≡ b → IsTrue (holds (cond b held (held ++ slot ∷ [])) slot)
    by true is = is
    by false is =
        list_any-append (λ (h : ℕ). h == slot) held (slot ∷ []) ∙ ap (λ b. b || holds (slot ∷ []) slot) is ∙ ap (λ b. b || false) (eq-eqb slot slot refl)

last_same : (before held : List ℕ) (slot last : ℕ) → held ++ slot ∷ [] ≡ before ++ last ∷ [] → slot ≡ last
last_same before held slot last same =
    let long : length held ≡ length before = omega (arith, ap length same, length-append held (slot ∷ []), length-append before (last ∷ [])) in
    sym (get_or-append_seam held slot [] 0)
    ∙ ap (λ (ns : List ℕ). get_or ns (length held) 0) same
    ∙ ap (λ (n : ℕ). get_or (before ++ last ∷ []) n 0) long
    ∙ get_or-append_seam before last [] 0

-- nothing lies under the last slot where it was just taken
pub clear_last : (layout : Shape) (took : Bool) (held : List ℕ) (t : TxnState) (slot : ℕ) → t.held ≡ cond took (held ++ slot ∷ []) held
    → (IsTrue took → IsClearOf layout slot t.reads × IsClearOf layout slot t.writes)
    → IsTrue took → (before : List ℕ) (last : ℕ) → t.held ≡ before ++ last ∷ [] → IsClearOf layout last t.reads × IsClearOf layout last t.writes
clear_last layout took held t slot is clear took_it before last same =
    subst (λ (n : ℕ). IsClearOf layout n t.reads × IsClearOf layout n t.writes)
    (last_same before held slot last (sym (ap (λ b. cond b (held ++ slot ∷ []) held) took_it) ∙ sym is ∙ same)) (clear took_it)

-- a transaction as contracts see it
abbrev pub state_of : List Entry → TransactionState → List HeldState → TxnState
state_of began t held = record { began = began; reads = t.reads; writes = t.writes; seen = t.seen; held = slots_of held }

-- it is the same once what it holds was lent
pub same_lent : (began : List Entry) (t : TransactionState) (n : ℕ) (now held : List HeldState) → now ≡ held → n ≡ length held
    → state_of began t (take n (now ++ drop (length now) held)) ≡ state_of began t held
same_lent began t n now held same is = ap (state_of began t) (lent_back n now held same is)

-- what is so is so where a call was refused
pub on_err_so : {T E X : Type 0} (r : Result T E) → X → OnErr r X
on_err_so (Ok value) holds = tt
on_err_so (Err why) holds = holds
