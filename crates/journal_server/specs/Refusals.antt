-- Why connections are not served.
use Rattle.journal_world.specs.declared.refusal.Refusal.{Refusal}
use Rattle.journal_world.specs.declared.refusal.Refusal.TheVariants.{NoMemory, Worn}
use Rattle.journal_memory.specs.declared.refusal_number.RefusalNumber.TheVariants.{J11}
use Rattle.journal_memory.specs.Causes.{CauseState, IsUnexplained}

-- memory or a thread was refused, or the numbers of sessions are worn
abbrev pub IsWorkersRefusal : Refusal CauseState → Type 0
IsWorkersRefusal NoMemory = Unit {0}
IsWorkersRefusal (Worn cause) = IsUnexplained J11 cause
IsWorkersRefusal other = ⊥
