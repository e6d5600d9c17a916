-- How the logger is woken, and which of its steps end a group.
use Rattle.std.specs.Prelude.{◌≡◌}
use Rattle.journal_parts.specs.declared.step.LogStep.{LogStep}
use Rattle.journal_parts.specs.declared.step.LogStep.TheVariants.{Marked, Idle}
use Rattle.journal_twophase.specs.declared.locked_parts.LoggerState.{LoggerState}
use Rattle.journal_twophase.specs.declared.locked_parts.LoggerState.TheVariants.{Sleeps, Delays, Woken}
use Rattle.journal_twophase.specs.declared.locked_parts.LoggerWake.{LoggerWake}
use Rattle.journal_twophase.specs.declared.locked_parts.LoggerWake.TheVariants.{None, Work, GroupFull}

-- The logger is to be woken from the wait that it is in, and nobody else wakes it from that
abbrev pub IsWakeFrom : LoggerState → LoggerWake → LoggerState → Type 0
IsWakeFrom old None new = new ≡ old
IsWakeFrom old Work new = (old ≡ Sleeps) × (new ≡ Woken)
IsWakeFrom old GroupFull new = (old ≡ Delays) × (new ≡ Woken)

-- A step of the logger after which a group is marked, or there is none
abbrev pub IsGroupEnd : LogStep → Type 0
IsGroupEnd (Marked count) = Unit {0}
IsGroupEnd Idle = Unit {0}
IsGroupEnd other = ⊥
