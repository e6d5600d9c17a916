-- Why an attempt at a call is undone.
use Rattle.journal_world.specs.declared.address.Addr.{Addr}
use Rattle.journal_world.specs.declared.refusal.Refusal.{Refusal}
use Rattle.journal_world.specs.declared.refusal.Refusal.TheVariants.{NoMemory, BadAddress, TooLarge, Busy, DeviceFailed, Stale, Stranger, Worn, Closed, Fenced}
use Rattle.journal_memory.specs.declared.refusal_number.RefusalNumber.TheVariants.{J6, J9, J10, J11, J13}
use Rattle.journal_memory.specs.Causes.{CauseState, IsUnexplained}
use Rattle.journal_twophase.specs.Journals.{IsShown}
use Rattle.journal_attempts.specs.declared.fault.AttemptFault.{AttemptFault}
use Rattle.journal_attempts.specs.declared.fault.AttemptFault.TheVariants.{Held, Refused}

-- a call that asked for the address was refused so
abbrev pub fault_at : {C : Type 0} → Addr → Refusal C → AttemptFault C
fault_at addr Busy = Held addr
fault_at addr other = Refused other

-- Why a call is refused: for too many blocks where it may be so large, never for the size of a
-- value, and never for room
abbrev pub IsAttemptRefusal : Type 0 → Refusal CauseState → Type 0
IsAttemptRefusal large NoMemory = Unit {0}
IsAttemptRefusal large BadAddress = Unit {0}
IsAttemptRefusal large TooLarge = large
IsAttemptRefusal large Busy = Unit {0}
IsAttemptRefusal large (DeviceFailed cause) = IsUnexplained J6 cause
IsAttemptRefusal large (Stale cause) = IsShown J9 cause
IsAttemptRefusal large (Stranger cause) = IsShown J10 cause
IsAttemptRefusal large (Worn cause) = IsUnexplained J11 cause
IsAttemptRefusal large (Closed cause) = IsUnexplained J13 cause
IsAttemptRefusal large Fenced = Unit {0}
IsAttemptRefusal large other = ⊥

-- Why an attempt at one is undone. Only its commit can be too large
abbrev pub IsAttemptEnd : AttemptFault CauseState → Type 0
IsAttemptEnd (Held addr) = Unit {0}
IsAttemptEnd (Refused why) = IsAttemptRefusal ⊥ why
