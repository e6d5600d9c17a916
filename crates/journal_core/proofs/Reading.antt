-- Why a read is refused.
use Rattle.std.proofs.Common.{◌≡◌, ℕ, inl, ⊎_elim, Result, Ok, Err, IfErr, refl, sym, subst, ◌∙◌, arith}
use Rattle.journal_world.specs.Addresses.{Shape}
use Rattle.journal_world.proofs.Prefixes.{IsPrefix-length}
use Rattle.std.proofs.lemmas.Bool.{false≢true}
use mathlib.Core.List.{IsPrefix}
use Rattle.journal_world.specs.declared.address.Addr.{Addr}
use Rattle.journal_world.specs.declared.refusal.Refusal.{Refusal}
use Rattle.journal_world.specs.declared.refusal.Refusal.TheVariants.{NoMemory, BadAddress, BadSize, TooLarge, Busy, DeviceFailed, BadLog, BadSuper, Stale, Stranger, Worn, Full, Closed, Fenced}
use Rattle.journal_memory.specs.Causes.{CauseState}
use Rattle.journal_memory.specs.Transactions.{TransactionState}
use Rattle.journal_memory.specs.Outsets.{Outset, MayRead, IsCheckRefusal}
use Rattle.journal_memory.specs.Fetches.{FetchedState}
use Rattle.journal_memory.specs.Volatiles.{VolatileState, IsReadRefusal as IsRefusedIn, outset_of}
use Rattle.journal_parts.specs.CoreStates.{CoreState}
use Rattle.journal_parts.specs.CoreParts.{outset}
use Rattle.journal_core.specs.Steps.{IsReadRefusal}
use Rattle.journal_parts.proofs.Pairing.{begins_not}

-- by what is known before the value is looked for
check_refused : (layout : Shape) (c : CoreState) (t : TransactionState) (a : Addr) (why : Refusal CauseState) → IsCheckRefusal layout (outset c) t a why → IsReadRefusal layout c t a c why
check_refused layout c t a BadAddress it = it
check_refused layout c t a (Stale cause) it = (it.0, it.1, it.2, refl)
check_refused layout c t a (Stranger cause) it = absurd it
check_refused layout c t a (Closed cause) it = record { unexplained = it.0; closed = it.1; same = refl }
check_refused layout c t a (DeviceFailed cause) it = record { unexplained = it.0; not_closed = it.1; fault = inl it.2; faulted = it.2; others = refl }
check_refused layout c t a NoMemory it = absurd it
check_refused layout c t a BadSize it = absurd it
check_refused layout c t a TooLarge it = absurd it
check_refused layout c t a Busy it = absurd it
check_refused layout c t a BadLog it = absurd it
check_refused layout c t a BadSuper it = absurd it
check_refused layout c t a (Worn cause) it = absurd it
check_refused layout c t a (Full cause) it = absurd it
check_refused layout c t a Fenced it = absurd it

-- where nothing but a fetch can refuse it, and the fetch has seen no more of the history
pub reads_not : (layout : Shape) (v : VolatileState) (c : CoreState) (t : TransactionState) (a : Addr) (f : FetchedState) (why : Refusal CauseState) → outset_of v ≡ outset c
    → (MayRead layout (outset_of v) t a → IsPrefix f.front v.ledger.history) → IsRefusedIn layout v t a f why → IsReadRefusal layout c t a c why
reads_not layout v c t a f why same begins it = ⊎_elim
    (λ look. check_refused layout c t a why (subst (λ (p : Outset). IsCheckRefusal layout p t a why) same look))
    (λ front. absurd (begins_not v.ledger.history f.front why front.1 (begins front.0)))
    it

-- what may be read is not refused by what is known
may_check : (layout : Shape) (o : Outset) (t : TransactionState) (a : Addr) (why : Refusal CauseState) → MayRead layout o t a → IsCheckRefusal layout o t a why → ⊥
may_check layout o t a BadAddress may it = false≢true (sym it.1 ∙ may.valid)
may_check layout o t a (Stale cause) may it = omega (arith, it.2.1.1, IsPrefix-length t.seen o.history may.later)
may_check layout o t a (Stranger cause) may it = it
may_check layout o t a (Closed cause) may it = false≢true (sym may.running.0 ∙ it.1)
may_check layout o t a (DeviceFailed cause) may it = false≢true (sym may.running.1 ∙ it.2)
may_check layout o t a NoMemory may it = it
may_check layout o t a BadSize may it = it
may_check layout o t a TooLarge may it = it
may_check layout o t a Busy may it = it
may_check layout o t a BadLog may it = it
may_check layout o t a BadSuper may it = it
may_check layout o t a (Worn cause) may it = it
may_check layout o t a (Full cause) may it = it
may_check layout o t a Fenced may it = it

pub may_be_read : (layout : Shape) (v : VolatileState) (t : TransactionState) (a : Addr) (f : FetchedState) (why : Refusal CauseState) → MayRead layout (outset_of v) t a
    → IsPrefix f.front v.ledger.history → IsRefusedIn layout v t a f why → ⊥
may_be_read layout v t a f why may begins it = ⊎_elim
    (may_check layout (outset_of v) t a why may)
    (λ front. begins_not v.ledger.history f.front why front.1 begins)
    it
