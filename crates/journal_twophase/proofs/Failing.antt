-- Why a device call is refused, as the refusal of who made it.
use Rattle.std.proofs.Common.{◌≡◌, ◌⊎◌, ⊎_elim, ℕ, List, sym, subst}
use Rattle.journal_world.specs.declared.refusal.Refusal.{Refusal}
use Rattle.journal_world.specs.declared.refusal.Refusal.TheVariants.{NoMemory, BadAddress, BadSize, TooLarge, Busy, DeviceFailed, BadLog, BadSuper, Stale, Stranger, Worn, Full, Closed, Fenced}
use Rattle.journal_world.specs.Histories.{Entry}
use Rattle.journal_memory.specs.Causes.{CauseState}
use Rattle.journal_memory.specs.Ledgers.{IsStale, IsStaleRefusal}
use Rattle.journal_memory.specs.Volatiles.{VolatileState, IsFrontRefusal}
use Rattle.journal_parts.specs.Pairs.{IsUntied, IsMarkedAbove}
use Rattle.journal_parts.specs.Durables.{DurableState, IsCallRefusal, IsInstallRefusal as IsHomeRefusal}
use Rattle.journal_twophase.specs.Journals.{IsLogRefusal, IsInstallRefusal, IsFetchRefusal, IsCloseRefusal}

call_refused : (d e : DurableState) (why : Refusal CauseState) → IsCallRefusal d e why → IsLogRefusal why
call_refused d e (DeviceFailed cause) it = it.unexplained
call_refused d e NoMemory it = absurd it
call_refused d e BadAddress it = absurd it
call_refused d e BadSize it = absurd it
call_refused d e TooLarge it = absurd it
call_refused d e Busy it = absurd it
call_refused d e BadLog it = absurd it
call_refused d e BadSuper it = absurd it
call_refused d e (Stale cause) it = absurd it
call_refused d e (Stranger cause) it = absurd it
call_refused d e (Worn cause) it = absurd it
call_refused d e (Full cause) it = absurd it
call_refused d e (Closed cause) it = absurd it
call_refused d e Fenced it = absurd it

pub noted_refused : (d e : DurableState) (why told : Refusal CauseState) → IsCallRefusal d e why → told ≡ why → IsLogRefusal told
noted_refused d e why told it is = subst IsLogRefusal (sym is) (call_refused d e why it)

-- as the installer's
home_refused : (d e : DurableState) (why : Refusal CauseState) → IsHomeRefusal d e why → IsInstallRefusal why
home_refused d e (DeviceFailed cause) it = it.unexplained
home_refused d e NoMemory it = tt
home_refused d e BadAddress it = absurd it
home_refused d e BadSize it = absurd it
home_refused d e TooLarge it = absurd it
home_refused d e Busy it = absurd it
home_refused d e BadLog it = absurd it
home_refused d e BadSuper it = absurd it
home_refused d e (Stale cause) it = absurd it
home_refused d e (Stranger cause) it = absurd it
home_refused d e (Worn cause) it = absurd it
home_refused d e (Full cause) it = absurd it
home_refused d e (Closed cause) it = absurd it
home_refused d e Fenced it = absurd it

pub noted_home : (d e : DurableState) (why told : Refusal CauseState) → IsHomeRefusal d e why → told ≡ why → IsInstallRefusal told
noted_home d e why told it is = subst IsInstallRefusal (sym is) (home_refused d e why it)

-- and as a fetch's
unfetched : (d e : DurableState) (why : Refusal CauseState) → IsCallRefusal d e why → IsFetchRefusal why
unfetched d e (DeviceFailed cause) it = it.unexplained
unfetched d e NoMemory it = absurd it
unfetched d e BadAddress it = absurd it
unfetched d e BadSize it = absurd it
unfetched d e TooLarge it = absurd it
unfetched d e Busy it = absurd it
unfetched d e BadLog it = absurd it
unfetched d e BadSuper it = absurd it
unfetched d e (Stale cause) it = absurd it
unfetched d e (Stranger cause) it = absurd it
unfetched d e (Worn cause) it = absurd it
unfetched d e (Full cause) it = absurd it
unfetched d e (Closed cause) it = absurd it
unfetched d e Fenced it = absurd it

pub noted_fetch : (d e : DurableState) (why told : Refusal CauseState) → IsCallRefusal d e why → told ≡ why → IsFetchRefusal told
noted_fetch d e why told it is = subst IsFetchRefusal (sym is) (unfetched d e why it)

-- why the disk is not shown, as the refusal of a close
pub close_refused : (history : List Entry) (v : VolatileState) (d : DurableState) (n : ℕ) (why : Refusal CauseState) → IsStaleRefusal history why ⊎ IsUntied v d n why → IsCloseRefusal why
close_refused history v d n (Stale cause) it = ⊎_elim
    (λ (stale : IsStale history cause). (stale.0, stale.1))
    (λ (untied : IsUntied v d n (Stale cause)). ⊎_elim (λ (front : IsFrontRefusal v.ledger.history d.front (Stale cause)). (d.front, front.0))
    (λ (above : IsMarkedAbove v n (Stale cause)). (v.ledger.history, above.0)) untied)
    it
close_refused history v d n NoMemory it = ⊎_elim (λ x. x) (λ other. ⊎_elim (λ x. x) (λ x. x) other) it
close_refused history v d n BadAddress it = ⊎_elim (λ x. x) (λ other. ⊎_elim (λ x. x) (λ x. x) other) it
close_refused history v d n BadSize it = ⊎_elim (λ x. x) (λ other. ⊎_elim (λ x. x) (λ x. x) other) it
close_refused history v d n TooLarge it = ⊎_elim (λ x. x) (λ other. ⊎_elim (λ x. x) (λ x. x) other) it
close_refused history v d n Busy it = ⊎_elim (λ x. x) (λ other. ⊎_elim (λ x. x) (λ x. x) other) it
close_refused history v d n (DeviceFailed cause) it = ⊎_elim (λ x. x) (λ other. ⊎_elim (λ x. x) (λ x. x) other) it
close_refused history v d n BadLog it = ⊎_elim (λ x. x) (λ other. ⊎_elim (λ x. x) (λ x. x) other) it
close_refused history v d n BadSuper it = ⊎_elim (λ x. x) (λ other. ⊎_elim (λ x. x) (λ x. x) other) it
close_refused history v d n (Stranger cause) it = ⊎_elim (λ x. x) (λ other. ⊎_elim (λ x. x) (λ x. x) other) it
close_refused history v d n (Worn cause) it = ⊎_elim (λ x. x) (λ other. ⊎_elim (λ x. x) (λ x. x) other) it
close_refused history v d n (Full cause) it = ⊎_elim (λ x. x) (λ other. ⊎_elim (λ x. x) (λ x. x) other) it
close_refused history v d n (Closed cause) it = ⊎_elim (λ x. x) (λ other. ⊎_elim (λ x. x) (λ x. x) other) it
close_refused history v d n Fenced it = ⊎_elim (λ x. x) (λ other. ⊎_elim (λ x. x) (λ x. x) other) it
