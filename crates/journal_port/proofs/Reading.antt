-- What a request to read learned.
use Rattle.std.proofs.Common.{ℕ, ◌≡◌, ◌<◌, ◌≤◌, ◌+◌, Bool, true, false, cond, ◌==◌, ◌||◌, IsTrue, Result, Ok, Err, List, [], ◌∷◌, ◌++◌, length, take, get_or, refl, sym, ap, subst, ◌∙◌, arith}
use Rattle.std.specs.Prelude.{MatchOption, IfOk, OnOk}
use Rattle.std.specs.List.{All, AllWithin, Contains, list_any}
use Rattle.std.specs.List.Sorted.{IsNonDecreasingBy}
use Rattle.std.proofs.lemmas.Bool.{false≢true, eq-eqb}
use Rattle.std.proofs.lemmas.List.{get_or_default}
use Rattle.std.proofs.lemmas.List.Elements.{All-more, All-weaker}
use Rattle.journal_world.specs.declared.address.Addr.{Addr}
use Rattle.journal_world.specs.declared.refusal.Refusal.{Refusal}
use Rattle.journal_world.specs.declared.refusal.Refusal.TheVariants.{NoMemory, BadAddress, BadSize, TooLarge, Busy, DeviceFailed, BadLog, BadSuper, Stale, Stranger, Worn, Full, Closed, Fenced}
use Rattle.journal_world.specs.Addresses.{Value, slot_of, Shape}
use Rattle.journal_world.specs.Maps.{Agrees, value_among}
use Rattle.journal_world.specs.Histories.{is_trusted, latest}
use Rattle.journal_memory.specs.Causes.{CauseState}
use Rattle.journal_twophase.specs.Transactions.{TxnState, holding, holds, holds_above, with_slot, Learns, ReadsValue}
use Rattle.journal_port.specs.Answers.{IsAddrRefusal, IsReadRefusal}
use Rattle.journal_port.specs.Reads.{KeepsReads}
use Rattle.journal_port.proofs.Keeping.{kept_reads}
use Rattle.journal_port.proofs.Ordering.{ascends_with}

-- ---- one address

pub Learns-clear : (layout : Shape) (old new : TxnState) (a : Addr) (v : Value) → old.writes ≡ [] → ReadsValue (holding layout old a) a v new → Learns (holding layout old a) a v new
Learns-clear layout old new a v none reads =
    subst (λ ws. MatchOption (value_among ws a) (Learns (holding layout old a) a v new) (λ w. (v ≡ w) × (new ≡ holding layout old a))) none reads

-- a value that was read is read still
pub read_keeps : {E : Type 0} (layout : Shape) (r : Result Value E) (old new : TxnState) (a : Addr) → old.writes ≡ [] → IfOk r (λ v. ReadsValue (holding layout old a) a v new)
    → OnOk r (IsTrue (is_trusted new.seen) → Agrees (latest new.seen) old.reads) → OnOk r (IsTrue (is_trusted new.seen) → Agrees (latest new.seen) new.reads)
    → OnOk r (IsTrue (is_trusted old.seen) → KeepsReads old.reads new.reads)
read_keeps layout (Ok v) old new a none reads before after = kept_reads layout old new a v (Learns-clear layout old new a v none reads) before after
read_keeps layout (Err why) old new a none reads before after = tt

pub read_refused : (layout : Shape) (addrs : List Addr) (a : Addr) (why : Refusal CauseState) → Contains addrs a → IsAddrRefusal layout a why → IsReadRefusal layout addrs why
read_refused layout addrs a NoMemory has is = is
read_refused layout addrs a BadAddress has is = (a, has, is)
read_refused layout addrs a BadSize has is = is
read_refused layout addrs a TooLarge has is = is
read_refused layout addrs a Busy has is = is
read_refused layout addrs a (DeviceFailed cause) has is = is
read_refused layout addrs a BadLog has is = is
read_refused layout addrs a BadSuper has is = is
read_refused layout addrs a (Stale cause) has is = is
read_refused layout addrs a (Stranger cause) has is = is
read_refused layout addrs a (Worn cause) has is = is
read_refused layout addrs a (Full cause) has is = is
read_refused layout addrs a (Closed cause) has is = is
read_refused layout addrs a Fenced has is = is

-- ---- the slots

any_kept : (f : ℕ → Bool) (xs : List ℕ) (x : ℕ) → list_any f xs ≡ true → list_any f (xs ++ x ∷ []) ≡ true
any_kept f [] x some = absurd (false≢true some)
any_kept f (y ∷ ys) x some = by_test (f y) (any_kept f ys x) some
  where
    by_test : (b : Bool) → (list_any f ys ≡ true → list_any f (ys ++ x ∷ []) ≡ true) → (b || list_any f ys) ≡ true → (b || list_any f (ys ++ x ∷ [])) ≡ true
    by_test true rest is = refl
    by_test false rest is = rest is

any_last : (f : ℕ → Bool) (xs : List ℕ) (x : ℕ) → f x ≡ true → list_any f (xs ++ x ∷ []) ≡ true
any_last f [] x one = ap (λ b. b || false) one
any_last f (y ∷ ys) x one = by_test (f y) (any_last f ys x one)
  where
    by_test : (b : Bool) → list_any f (ys ++ x ∷ []) ≡ true → (b || list_any f (ys ++ x ∷ [])) ≡ true
    by_test true rest = refl
    by_test false rest = rest

pub holds_last : (held : List ℕ) (s : ℕ) → holds (with_slot held s) s ≡ true
holds_last held s = by_test (holds held s) refl
  where
    by_test : (b : Bool) → holds held s ≡ b → holds (cond b held (held ++ s ∷ [])) s ≡ true
    by_test true is = is
    by_test false is = any_last (λ h. h == s) held s (eq-eqb s s refl)

pub holds_kept : (held : List ℕ) (s t : ℕ) → holds held t ≡ true → holds (with_slot held s) t ≡ true
holds_kept held s t is = by_test (holds held s)
  where
    by_test : (b : Bool) → holds (cond b held (held ++ s ∷ [])) t ≡ true
    by_test true = is
    by_test false = any_kept (λ h. h == t) held s is

-- a slot that is held stays among those that are
pub with_held : (held : List ℕ) (s : ℕ) → holds held s ≡ true → with_slot held s ≡ held
with_held held s is = ap (λ b. cond b held (held ++ s ∷ [])) is

pub Held-next : (layout : Shape) (addrs : List Addr) (i : ℕ) (a : Addr) (middle new : TxnState) → i < length addrs → a ≡ get_or addrs i a → new.held ≡ with_slot middle.held (slot_of layout a)
    → All (λ b. holds middle.held (slot_of layout b) ≡ true) (take i addrs) → All (λ b. holds new.held (slot_of layout b) ≡ true) (take (i + 1) addrs)
Held-next layout addrs i a middle new low is held all =
    All-more (λ b. holds new.held (slot_of layout b) ≡ true) addrs i a low
    (All-weaker (λ b. holds middle.held (slot_of layout b) ≡ true) (λ b. holds new.held (slot_of layout b) ≡ true) (λ b has. ap (λ h. holds h (slot_of layout b)) held ∙ holds_kept middle.held (slot_of layout a) (slot_of layout b) has) (take i addrs) all)
    (subst (λ b. holds new.held (slot_of layout b) ≡ true) is (ap (λ h. holds h (slot_of layout a)) held ∙ holds_last middle.held (slot_of layout a)))

pub Ascends-next : (layout : Shape) (addrs : List Addr) (i : ℕ) (a : Addr) (middle new : TxnState) → IsNonDecreasingBy (slot_of layout) addrs → i < length addrs → a ≡ get_or addrs i a → new.held ≡ with_slot middle.held (slot_of layout a)
    → AllWithin (λ b. holds_above middle.held (slot_of layout b) ≡ false) addrs i (length addrs) → AllWithin (λ b. holds_above new.held (slot_of layout b) ≡ false) addrs (i + 1) (length addrs)
Ascends-next layout addrs i a middle new up low is held all k d from below =
    ap (λ h. holds_above h (slot_of layout (get_or addrs k d))) held
    ∙ ascends_with middle.held (slot_of layout a) (slot_of layout (get_or addrs k d))
    (subst (λ b. slot_of layout b ≤ slot_of layout (get_or addrs k d)) (get_or_default addrs i d a low ∙ sym is) (up i k d (omega (arith, from)) below))
    (all k d (omega (arith, from)) below)

-- a slot that was held from the start is held no more than before
pub Held-stays : (layout : Shape) (addrs : List Addr) (i : ℕ) (a : Addr) (first middle last : List ℕ) → i < length addrs → a ≡ get_or addrs i a → All (λ b. IsTrue (holds first (slot_of layout b))) addrs
    → middle ≡ first → last ≡ with_slot middle (slot_of layout a) → last ≡ first
Held-stays layout addrs i a first middle last low is all same taken =
    taken ∙ ap (λ h. with_slot h (slot_of layout a)) same ∙ with_held first (slot_of layout a) (subst (λ b. holds first (slot_of layout b) ≡ true) (sym is) (all i a low))
