-- Why an operation has no answer: the refusals that it may have.
use Rattle.journal_world.specs.declared.refusal.Refusal.{Refusal}
use Rattle.journal_history.specs.Tokens.{SessionState}
use Rattle.journal_memory.specs.Causes.{CauseState}
use Rattle.journal_twophase.specs.Waits.{IsWaitRefusal}
use Rattle.journal_attempts.specs.Refusals.{IsAttemptRefusal}
use Rattle.journal_file_types.specs.declared.fault.Fault.{Fault}
use Rattle.journal_file_types.specs.declared.fault.Fault.TheVariants as fault

-- Why a transaction on files is refused: never for the size of a value or for too many blocks, and
-- never for room
abbrev pub IsFilesRefusal : Refusal CauseState → Type 0
IsFilesRefusal why = IsAttemptRefusal ⊥ why

-- Why an operation has no answer: it is refused, or its wait until it is stable is, after which the
-- session has seen this
abbrev pub IsFaultOf : SessionState → Fault CauseState → Type 0
IsFaultOf s (fault.Refused why) = IsFilesRefusal why
IsFaultOf s (fault.Unsure why) = IsWaitRefusal s why
