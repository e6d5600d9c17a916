-- The answers of a device call, where a hold of both parts has to follow some of them.
use Rattle.std.specs.Prelude.{ℕ, Result, Ok, Err}
use Rattle.journal_world.specs.declared.refusal.Refusal.{Refusal}
use Rattle.journal_world.specs.declared.refusal.Refusal.TheVariants.{NoMemory}
use Rattle.journal_wal.specs.declared.step.GroupStep.{GroupStep}
use Rattle.journal_wal.specs.declared.step.GroupStep.TheVariants.{Idle, Put, Logged}
use Rattle.journal_wal.specs.declared.step.InstallStep.{InstallStep}
use Rattle.journal_wal.specs.declared.step.InstallStep.TheVariants.{Idle as IdleInstall, Put as PutInstall, Freed}
use Rattle.journal_parts.specs.declared.due.LogCall.{LogCall}
use Rattle.journal_parts.specs.declared.due.LogCall.TheVariants.{Put as PutCall, Logged as LoggedCall, AtRest}
use Rattle.journal_parts.specs.declared.due.InstallCall.{InstallCall}
use Rattle.journal_parts.specs.declared.due.InstallCall.TheVariants.{Idle as IdleCall, Put as PutHome, Freed as FreedCall}
use Rattle.journal_parts.specs.declared.due.InstallFault.{InstallFault}
use Rattle.journal_parts.specs.declared.due.InstallFault.TheVariants.{NoMemory as NoRoom, Failed}
use Rattle.journal_memory.specs.Causes.{CauseState}

-- the step that the logger's device call was, by its answer
abbrev pub log_step_of : LogCall → GroupStep
log_step_of PutCall = Put
log_step_of LoggedCall = Logged
log_step_of (AtRest rest) = Idle

abbrev pub log_answer : Result LogCall (Refusal CauseState) → Result GroupStep (Refusal CauseState)
log_answer (Ok call) = Ok (log_step_of call)
log_answer (Err why) = Err why

-- the step that the installer's device call was, by its answer
abbrev pub install_step_of : InstallCall → InstallStep
install_step_of IdleCall = IdleInstall
install_step_of PutHome = PutInstall
install_step_of (FreedCall upto) = Freed upto

-- why it was not made
abbrev pub install_refusal_of : InstallFault (Refusal CauseState) → Refusal CauseState
install_refusal_of NoRoom = NoMemory
install_refusal_of (Failed why) = why

abbrev pub install_answer : Result InstallCall (InstallFault (Refusal CauseState)) → Result InstallStep (Refusal CauseState)
install_answer (Ok call) = Ok (install_step_of call)
install_answer (Err fault) = Err (install_refusal_of fault)

-- where positions are free
abbrev pub IfFreed : (ℕ → Type 0) → InstallCall → Type 0
IfFreed holds (FreedCall upto) = holds upto
IfFreed holds other = Unit {0}

-- where the device failed
abbrev pub IfFailed : Type 0 → InstallFault (Refusal CauseState) → Type 0
IfFailed holds NoRoom = Unit {0}
IfFailed holds (Failed why) = holds
