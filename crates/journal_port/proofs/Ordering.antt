-- The order of parts: what a stable sort keeps, and that each part is ready when its turn comes.
use Rattle.std.proofs.Common.{ℕ, ◌≡◌, ◌<◌, ◌≤◌, ◌+◌, ◌*◌, Bool, true, false, cond, not, ◌&&◌, nat_lt, ◌||◌, List, [], ◌∷◌, ◌++◌, Option, Some, None, length, get_or, refl, sym, ap, subst, ◌∙◌, arith}
use Rattle.std.specs.List.{list_any, filter, AllWithin}
use Rattle.std.specs.List.Sorted.{ties, IsStableByKey, IsNonDecreasingBy}
use Rattle.std.proofs.lemmas.List.{get_or_default}
use Rattle.std.specs.Ordering.{is_lt, nat_cmp}
use Rattle.std.proofs.lemmas.Bool.{false≢true}
use Rattle.std.proofs.lemmas.Bool.Decides.{nat_tests}
use Rattle.journal_world.specs.declared.address.Addr.{Addr}
use Rattle.journal_world.specs.Addresses.{is_same, slot_of, Shape}
use Rattle.journal_world.specs.Maps.{Pair, SamePairs, value_among}
use Rattle.journal_world.proofs.Lookups.{same_addr}
use Rattle.journal_twophase.specs.Transactions.{TxnState, holds, holds_above, with_slot}
use Rattle.journal_records.specs.declared.request.Action.{Action}
use Rattle.journal_records.specs.declared.request.Action.TheVariants.{Compare, Write}
use Rattle.journal_records.specs.declared.request.Part.{Part}
use Rattle.journal_port.specs.Requests.{if_compared, if_written, compared, written, action_order, order_of}
use Rattle.journal_port.specs.Parts.{Does, IsReady}
use Rattle.journal_port.proofs.Lists.{or_else, among_append}

-- ---- what a stable sort keeps

or_else_none : {A : Type 0} (o q : Option A) → q ≡ None → or_else o q ≡ o
or_else_none None q none = none
or_else_none (Some x) q none = refl

single_none : (a : Addr) (r : Pair) → is_same a r.0 ≡ false → value_among (r ∷ []) a ≡ None
single_none a r other = ap (λ b. cond b (Some r.1) None) other

not_true : (b : Bool) → (b ≡ true → ⊥) → b ≡ false
not_true true denied = absurd (denied refl)
not_true false denied = refl

-- a test that each part of the address passes which does this keeps what is done at the address
compared_kept : (q : Part → Bool) (a : Addr) → ((p : Part) → p.action ≡ Compare → is_same a p.addr ≡ true → q p ≡ true) → (ps : List Part)
    → value_among (compared (filter q ps)) a ≡ value_among (compared ps) a
compared_kept q a passes [] = refl
compared_kept q a passes (p ∷ ps) = by_test (q p) refl (compared_kept q a passes ps)
  where
    others : (act : Action) → p.action ≡ act → q p ≡ false → value_among (if_compared act (p.addr, p.value)) a ≡ None
    others Write is out = refl
    others Compare is out = single_none a (p.addr, p.value) (not_true (is_same a p.addr) (λ same. false≢true (sym out ∙ passes p is same)))

    by_test : (b : Bool) → q p ≡ b → value_among (compared (filter q ps)) a ≡ value_among (compared ps) a
        → value_among (compared (cond b (p ∷ filter q ps) (filter q ps))) a ≡ value_among (compared ps ++ if_compared p.action (p.addr, p.value)) a
    by_test true is rest =
        among_append (compared (filter q ps)) (if_compared p.action (p.addr, p.value)) a
        ∙ ap (λ o. or_else o (value_among (if_compared p.action (p.addr, p.value)) a)) rest
        ∙ sym (among_append (compared ps) (if_compared p.action (p.addr, p.value)) a)
    by_test false is rest =
        rest
        ∙ sym (or_else_none (value_among (compared ps) a) (value_among (if_compared p.action (p.addr, p.value)) a) (others p.action refl is))
        ∙ sym (among_append (compared ps) (if_compared p.action (p.addr, p.value)) a)

written_kept : (q : Part → Bool) (a : Addr) → ((p : Part) → p.action ≡ Write → is_same a p.addr ≡ true → q p ≡ true) → (ps : List Part)
    → value_among (written (filter q ps)) a ≡ value_among (written ps) a
written_kept q a passes [] = refl
written_kept q a passes (p ∷ ps) = by_test (q p) refl (written_kept q a passes ps)
  where
    others : (act : Action) → p.action ≡ act → q p ≡ false → value_among (if_written act (p.addr, p.value)) a ≡ None
    others Compare is out = refl
    others Write is out = single_none a (p.addr, p.value) (not_true (is_same a p.addr) (λ same. false≢true (sym out ∙ passes p is same)))

    by_test : (b : Bool) → q p ≡ b → value_among (written (filter q ps)) a ≡ value_among (written ps) a
        → value_among (written (cond b (p ∷ filter q ps) (filter q ps))) a ≡ value_among (written ps ++ if_written p.action (p.addr, p.value)) a
    by_test true is rest =
        among_append (written (filter q ps)) (if_written p.action (p.addr, p.value)) a
        ∙ ap (λ o. or_else o (value_among (if_written p.action (p.addr, p.value)) a)) rest
        ∙ sym (among_append (written ps) (if_written p.action (p.addr, p.value)) a)
    by_test false is rest =
        rest
        ∙ sym (or_else_none (value_among (written ps) a) (value_among (if_written p.action (p.addr, p.value)) a) (others p.action refl is))
        ∙ sym (among_append (written ps) (if_written p.action (p.addr, p.value)) a)

abbrev pub by_order : Shape → Part → Part → Bool
by_order layout x y = is_lt (nat_cmp (order_of layout x) (order_of layout y))

-- a part of the address that does this, whatever its value
abbrev pub at_addr : Action → Addr → Part
at_addr action a = record { action = action; addr = a; value = [] }

not_below_itself : (n : ℕ) → is_lt (nat_cmp n n) ≡ false
not_below_itself n = grind (arith, nat_tests)

ties_itself : (m n : ℕ) → m ≡ n → (not (is_lt (nat_cmp m n)) && not (is_lt (nat_cmp n m))) ≡ true
ties_itself m n is = subst (λ k. (not (is_lt (nat_cmp m k)) && not (is_lt (nat_cmp k m))) ≡ true) is (ap (λ b. not b && not b) (not_below_itself m))

same_order : (layout : Shape) (action : Action) (a : Addr) (p : Part) → p.action ≡ action → is_same a p.addr ≡ true → slot_of layout a * 2 + action_order action ≡ order_of layout p
same_order layout action a p is same = ap (λ b. slot_of layout b * 2 + action_order action) (same_addr a p.addr same) ∙ ap (λ act. slot_of layout p.addr * 2 + action_order act) (sym is)

pub compared_sorted : (layout : Shape) (xs ys : List Part) → IsStableByKey (order_of layout) nat_cmp xs ys → SamePairs (compared ys) (compared xs)
compared_sorted layout xs ys stable a =
    sym (compared_kept (ties (by_order layout) (at_addr Compare a)) a passes ys)
    ∙ ap (λ l. value_among (compared l) a) (stable (at_addr Compare a))
    ∙ compared_kept (ties (by_order layout) (at_addr Compare a)) a passes xs
  where
    passes : (p : Part) → p.action ≡ Compare → is_same a p.addr ≡ true → ties (by_order layout) (at_addr Compare a) p ≡ true
    passes p is same = ties_itself (order_of layout (at_addr Compare a)) (order_of layout p) (same_order layout Compare a p is same)

pub written_sorted : (layout : Shape) (xs ys : List Part) → IsStableByKey (order_of layout) nat_cmp xs ys → SamePairs (written ys) (written xs)
written_sorted layout xs ys stable a =
    sym (written_kept (ties (by_order layout) (at_addr Write a)) a passes ys)
    ∙ ap (λ l. value_among (written l) a) (stable (at_addr Write a))
    ∙ written_kept (ties (by_order layout) (at_addr Write a)) a passes xs
  where
    passes : (p : Part) → p.action ≡ Write → is_same a p.addr ≡ true → ties (by_order layout) (at_addr Write a) p ≡ true
    passes p is same = ties_itself (order_of layout (at_addr Write a)) (order_of layout p) (same_order layout Write a p is same)

-- ---- what is ready

action_bit : (action : Action) → action_order action ≤ 1
action_bit Compare = omega arith
action_bit Write = omega arith

or_parts : (a b : Bool) → (a || b) ≡ false → (a ≡ false) × (b ≡ false)
or_parts true b is = absurd (false≢true (sym is))
or_parts false b is = (refl, is)

any_push : (f : ℕ → Bool) (xs : List ℕ) (x : ℕ) → list_any f xs ≡ false → f x ≡ false → list_any f (xs ++ x ∷ []) ≡ false
any_push f [] x none one = ap (λ b. b || false) one
any_push f (y ∷ ys) x none one = let both = or_parts (f y) (list_any f ys) none in ap (λ b. b || list_any f (ys ++ x ∷ [])) both.0 ∙ any_push f ys x both.1 one

pub ascends_with : (held : List ℕ) (s t : ℕ) → s ≤ t → holds_above held t ≡ false → holds_above (with_slot held s) t ≡ false
ascends_with held s t le none = by_test (holds held s)
  where
    by_test : (b : Bool) → holds_above (cond b held (held ++ s ∷ [])) t ≡ false
    by_test true = none
    by_test false = any_push (λ h. nat_lt t h) held s none (grind (arith, nat_tests))

-- what a part of a later turn compares was not written by this one
not_written : (layout : Shape) (p q : Part) → order_of layout p ≤ order_of layout q → q.action ≡ Compare → value_among (if_written p.action (p.addr, p.value)) q.addr ≡ None
not_written layout p q le compares = by_action p.action refl
  where
    elsewhere : p.action ≡ Write → is_same q.addr p.addr ≡ true → ⊥
    elsewhere writes same =
        let slots : slot_of layout q.addr ≡ slot_of layout p.addr = ap (slot_of layout) (same_addr q.addr p.addr same) in
        let first : action_order p.action ≡ 1 = ap action_order writes in
        let second : action_order q.action ≡ 0 = ap action_order compares in
        omega (arith, slots, first, second, le)

    by_action : (act : Action) → p.action ≡ act → value_among (if_written act (p.addr, p.value)) q.addr ≡ None
    by_action Compare is = refl
    by_action Write is = single_none q.addr (p.addr, p.value) (not_true (is_same q.addr p.addr) (elsewhere is))

-- a part of a later turn stays ready
pub IsReady-next : (layout : Shape) (old new : TxnState) (p q : Part) → order_of layout p ≤ order_of layout q → IsReady layout old q → Does (p ∷ []) old new → new.held ≡ with_slot old.held (slot_of layout p.addr) → IsReady layout new q
IsReady-next layout old new p q le ready did held = record {
  ascends =
      ap (λ h. holds_above h (slot_of layout q.addr)) held
      ∙ ascends_with old.held (slot_of layout p.addr) (slot_of layout q.addr) (let one : action_order q.action ≤ 1 = action_bit q.action in omega (arith, le, one)) ready.ascends;
  unwritten = λ compares.
      did.writes q.addr
      ∙ among_append (if_written p.action (p.addr, p.value)) old.writes q.addr
      ∙ ap (λ o. or_else o (value_among old.writes q.addr)) (not_written layout p q le compares)
      ∙ ready.unwritten compares;
}

-- a transaction that has done nothing is ready for any
pub IsReady-begun : (layout : Shape) (t : TxnState) (p : Part) → t.held ≡ [] → t.writes ≡ [] → IsReady layout t p
IsReady-begun layout t p held writes = record {
  ascends = ap (λ h. holds_above h (slot_of layout p.addr)) held;
  unwritten = λ compares. ap (λ ws. value_among ws p.addr) writes;
}

-- in a list whose parts are in order, those behind one that was done
pub AllReady-next : (layout : Shape) (parts : List Part) (i : ℕ) (x : Part) (middle new : TxnState) → IsNonDecreasingBy (order_of layout) parts → i < length parts → x ≡ get_or parts i x
    → AllWithin (IsReady layout middle) parts i (length parts) → Does (x ∷ []) middle new → new.held ≡ with_slot middle.held (slot_of layout x.addr) → AllWithin (IsReady layout new) parts (i + 1) (length parts)
AllReady-next layout parts i x middle new up low is ready did held k d from below =
    IsReady-next layout middle new x (get_or parts k d)
    (subst (λ p. order_of layout p ≤ order_of layout (get_or parts k d)) (get_or_default parts i d x low ∙ sym is) (up i k d (omega (arith, from)) below))
    (ready k d (omega (arith, from)) below) did held
