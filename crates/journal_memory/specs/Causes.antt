-- The core's refusals, by those of the layers below.
use Rattle.std.specs.Prelude.{◌≡◌, List, Option, None, Some}
use Rattle.journal_world.specs.declared.refusal.Refusal.{Refusal}
use Rattle.journal_world.specs.declared.refusal.Refusal.TheVariants.{NoMemory, BadAddress, BadSize, TooLarge, Busy, DeviceFailed, BadLog, BadSuper, Stale, Stranger, Worn, Full, Closed, Fenced}
use Rattle.journal_world.specs.Histories.{Entry}
use Rattle.journal_memory.specs.declared.refusal_number.RefusalNumber.{RefusalNumber}
use Rattle.journal_memory.specs.declared.refusal_number.RefusalNumber.TheVariants.{J6, J9, J10, J11, J12, J13}

-- The state of a cause: the number of the refusal that it was made for, and the history that
-- explains it, if one does
pub record CauseState : Type 0 where
  pub number : RefusalNumber
  pub story : Option (List Entry)

-- made for the refusal of this number, which no history explains
abbrev pub unexplained : RefusalNumber → CauseState
unexplained number = record { number = number; story = None }

-- made for the refusal of this number, which this history explains
abbrev pub explained : RefusalNumber → List Entry → CauseState
explained number history = record { number = number; story = Some history }

-- the cause is of the refusal of this number, and no history explains it
abbrev pub IsUnexplained : RefusalNumber → CauseState → Type 0
IsUnexplained number cause = cause ≡ unexplained number

-- the cause is of the refusal of this number, and this history explains it
abbrev pub IsExplained : RefusalNumber → List Entry → CauseState → Type 0
IsExplained number history cause = cause ≡ explained number history

-- the same refusal, with a cause of its number, which no history explains
abbrev pub raised_of : {A : Type 0} → Refusal A → Refusal CauseState
raised_of NoMemory = NoMemory
raised_of BadAddress = BadAddress
raised_of BadSize = BadSize
raised_of TooLarge = TooLarge
raised_of Busy = Busy
raised_of (DeviceFailed cause) = DeviceFailed (unexplained J6)
raised_of BadLog = BadLog
raised_of BadSuper = BadSuper
raised_of (Stale cause) = Stale (unexplained J9)
raised_of (Stranger cause) = Stranger (unexplained J10)
raised_of (Worn cause) = Worn (unexplained J11)
raised_of (Full cause) = Full (unexplained J12)
raised_of (Closed cause) = Closed (unexplained J13)
raised_of Fenced = Fenced
