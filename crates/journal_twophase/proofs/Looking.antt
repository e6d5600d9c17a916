-- What a look-up says to the reader of an address.
use Rattle.std.proofs.Common.{◌≡◌, ◌≢◌, ◌<◌, ℕ, Bool, true, false, cond, IsTrue, List, [], ◌∷◌, Option, Some, None, IfSome, Result, Ok, Err, IfOk, IfErr, All, map, refl, sym, ap, subst, ◌∙◌, arith}
use mathlib.Core.List.{IsPrefix}
use Rattle.std.proofs.lemmas.Bool.{and_parts}
use Rattle.std.proofs.lemmas.List.Elements.{All-head, All-tail, All-cons}
use Rattle.journal_world.specs.declared.address.Addr.{Addr}
use Rattle.journal_block.specs.declared.update.Update.{Update}
use Rattle.journal_world.specs.declared.refusal.Refusal.{Refusal}
use Rattle.journal_world.specs.declared.refusal.Refusal.TheVariants.{NoMemory, BadAddress, BadSize, TooLarge, Busy, DeviceFailed, BadLog, BadSuper, Stale, Stranger, Worn, Full, Closed, Fenced}
use Rattle.journal_world.specs.Addresses.{Value, is_valid, is_same, Shape}
use Rattle.journal_world.specs.Maps.{Pair, SamePairs, value_among, value_at, is_object, are_objects, Agrees}
use Rattle.journal_world.specs.Histories.{Entry, is_trusted, latest}
use Rattle.journal_world.proofs.Prefixes.{IsPrefix-trans}
use Rattle.journal_world.proofs.Lookups.{same_addr}
use Rattle.journal_lockmap.specs.Numbers.{HeldState}
use Rattle.journal_memory.specs.Causes.{CauseState}
use Rattle.journal_memory.specs.SlotCounts.{AgreeWith}
use Rattle.journal_memory.specs.Fetches.{FetchedState}
use Rattle.journal_memory.specs.Transactions.{TransactionState, ReadResultState, Remembers, AreUnmoved}
use Rattle.journal_memory.specs.Volatiles.{VolatileState}
use Rattle.journal_memory.specs.VolatileHolds.{AnswersRead}
use Rattle.journal_memory.proofs.Remembering.{agrees_later}
use Rattle.journal_twophase.specs.Transactions.{TxnState, core_of, holding, ReadsObject, Learns, IsCheckRefusal, IsReadRefusal}

-- what objects give an address is an object
value_among-object : (layout : Shape) (ps : List Pair) (a : Addr) (v : Value) → IsTrue (are_objects layout ps) → value_among ps a ≡ Some v → IsTrue (is_object layout (a, v))
value_among-object layout [] a v objects is = absurd (cc is)
value_among-object layout (p ∷ ps) a v objects is = by_test (is_same a p.0) refl (value_among-object layout ps a v parts.1) is
  where
    parts : IsTrue (is_object layout p) × IsTrue (are_objects layout ps)
    parts = and_parts (is_object layout p) (are_objects layout ps) objects

    by_test : (b : Bool) → is_same a p.0 ≡ b → (value_among ps a ≡ Some v → IsTrue (is_object layout (a, v)))
        → cond b (Some p.1) (value_among ps a) ≡ Some v → IsTrue (is_object layout (a, v))
    by_test true same later found =
        let here : p.1 ≡ v = cc found in
        subst (λ (w : Value). IsTrue (is_object layout (a, w))) here (subst (λ (b : Addr). IsTrue (is_object layout (b, p.1))) (sym (same_addr a p.0 same)) parts.0)
    by_test false same later found = later found

-- and so is what is found of one
pub own_object : (layout : Shape) (ps : List Pair) (a : Addr) (own : Option Value) → own ≡ value_among ps a → IsTrue (are_objects layout ps)
    → IfSome own (λ value. IsTrue (is_object layout (a, value)))
own_object layout ps a None is objects = tt
own_object layout ps a (Some v) is objects = value_among-object layout ps a v objects (sym is)

-- why a transaction reads nothing, whose slot is held
pub read_refusal : (layout : Shape) (t : TxnState) (a : Addr) (why : Refusal CauseState) → IsTrue (is_valid layout a) → IsCheckRefusal (core_of t) why → IsReadRefusal layout t a why
read_refusal layout t a NoMemory valid look = (valid, look)
read_refusal layout t a BadAddress valid look = absurd look
read_refusal layout t a BadSize valid look = absurd look
read_refusal layout t a TooLarge valid look = absurd look
read_refusal layout t a Busy valid look = absurd look
read_refusal layout t a (DeviceFailed cause) valid look = look
read_refusal layout t a BadLog valid look = absurd look
read_refusal layout t a BadSuper valid look = absurd look
read_refusal layout t a (Stale cause) valid look = (valid, look)
read_refusal layout t a (Stranger cause) valid look = absurd look
read_refusal layout t a (Worn cause) valid look = absurd look
read_refusal layout t a (Full cause) valid look = absurd look
read_refusal layout t a (Closed cause) valid look = look
read_refusal layout t a Fenced valid look = absurd look

pub read_refused : (layout : Shape) (t held : TxnState) (a : Addr) (answer : Result Value (Refusal CauseState))
    → held ≡ holding layout t a → IsTrue (is_valid layout a) → IfErr answer (IsCheckRefusal (core_of held)) → IfErr answer (IsReadRefusal layout t a)
read_refused layout t held a (Ok v) same valid look = tt
read_refused layout t held a (Err why) same valid look = read_refusal layout t a why valid (subst (λ (h : TxnState). IsCheckRefusal (core_of h) why) same look)

-- what is read for the open transaction, and remembered, is what it learns
pub learns : (layout : Shape) (began : List Entry) (held : List ℕ) (t after : TransactionState) (a : Addr) (slots : List HeldState) (v w : Value) (found : ReadResultState)
    → ReadsObject layout t a slots w found → v ≡ w → Remembers t found.addr v found.seen after
    → Learns (record { began = began; reads = t.reads; writes = t.writes; seen = t.seen; held = held }) a v
    (record { began = began; reads = after.reads; writes = after.writes; seen = after.seen; held = held })
learns layout began held t after a slots v w found read same remembers = record {
  value = λ trusted. same ∙ subst (λ (h : List Entry). IsTrue (is_trusted h) → w ≡ value_at (latest h) a) (sym seen) read.value trusted;
  reads = subst (λ (b : Addr). SamePairs after.reads ((b, v) ∷ t.reads)) read.addr remembers.reads;
  later = subst (IsPrefix t.seen) (sym seen) read.later;
  others = λ i. record { began = began; reads = after.reads; writes = (remembers.others i).writes; seen = after.seen; held = held };
}
  where
    seen : after.seen ≡ found.seen
    seen = ap (λ (u : TransactionState). u.seen) remembers.others

-- what it has seen goes on from its beginning
pub later_on : (layout : Shape) (began : List Entry) (t after : TransactionState) (a : Addr) (held : List HeldState) (v w : Value) (found : ReadResultState) → IsPrefix began t.seen
    → ReadsObject layout t a held w found → Remembers t found.addr v found.seen after → IsPrefix began after.seen
later_on layout began t after a held v w found begins read remembers =
    subst (IsPrefix began) (sym (ap (λ (u : TransactionState). u.seen) remembers.others)) (IsPrefix-trans began t.seen found.seen begins read.later)

-- and what was read before is what the map gives still
pub reads_stay : (layout : Shape) (t after : TransactionState) (a : Addr) (held : List HeldState) (v w : Value) (found : ReadResultState) → t.seen ≢ []
    → (IsTrue (is_trusted t.seen) → Agrees (latest t.seen) t.reads) → ReadsObject layout t a held w found → Remembers t found.addr v found.seen after
    → IsTrue (is_trusted after.seen) → Agrees (latest after.seen) t.reads
reads_stay layout t after a held v w found some agrees read remembers =
    subst (λ (h : List Entry). IsTrue (is_trusted h) → Agrees (latest h) t.reads) (sym (ap (λ (u : TransactionState). u.seen) remembers.others))
    (agrees_later layout t.seen found.seen t.reads some read.later read.unmoved agrees)

-- what is read in memory is read for the transaction, where what is held agrees with the history
-- after the read
pub reads_object : (layout : Shape) (old new : VolatileState) (t : TransactionState) (a : Addr) (f : FetchedState) (held : List HeldState) (bytes : Value)
    (answer : Result (Option ReadResultState) (Refusal CauseState)) → AnswersRead layout old t a f answer bytes new → AgreeWith layout new.ledger.history held
    → IfOk answer (λ found. IfSome found (ReadsObject layout t a held bytes))
reads_object layout old new t a f held bytes (Err why) event agree = tt
reads_object layout old new t a f held bytes (Ok None) event agree = tt
reads_object layout old new t a f held bytes (Ok (Some found)) event agree = record {
  addr = ap (λ (r : ReadResultState). r.addr) event.found;
  later = subst (IsPrefix t.seen) seen event.may.later;
  unmoved = subst (λ (h : List Entry). AreUnmoved layout h t) seen event.may.unmoved;
  agree = subst (λ (h : List Entry). AgreeWith layout h held) (ap (λ (v : VolatileState). v.ledger.history) event.same ∙ seen) agree;
  value = subst (λ (h : List Entry). IsTrue (is_trusted h) → bytes ≡ value_at (latest h) a) seen event.value;
  object = event.object;
}
  where
    seen : old.ledger.history ≡ found.seen
    seen = sym (ap (λ (r : ReadResultState). r.seen) event.found)

-- memory for blocks of the disk is of blocks of the disk
pub rooms_below : (n : ℕ) (rooms : List Update) → All (λ b. b < n) (map (λ u. u.block) rooms) → All (λ u. u.block < n) rooms
rooms_below n [] all = λ k d lt. absurd (omega (arith, lt))
rooms_below n (u ∷ us) all =
    All-cons (λ (v : Update). v.block < n) u us (All-head (λ b. b < n) u.block (map (λ (v : Update). v.block) us) all)
    (rooms_below n us (All-tail (λ b. b < n) u.block (map (λ (v : Update). v.block) us) all))
