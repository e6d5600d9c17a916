-- How the program ends.
use Rattle.std.specs.Prelude.{ℕ, true, false, List, Option, Result, Ok, Err}
use Rattle.journal_command.specs.declared.ask.AskFault.{AskFault}
use Rattle.journal_command.specs.declared.ask.AskFault.TheVariants as asks
use Rattle.journal_script.specs.declared.script_fault.ScriptFault.{ScriptFault}
use Rattle.journal_script.specs.declared.script_fault.ScriptFault.TheVariants as stops
use Rattle.journal_script.specs.Transcripts.{IsTranscript}
use Rattle.jtool.specs.declared.fault.Fault.{Fault}
use Rattle.jtool.specs.declared.fault.Fault.TheVariants.{Usage, BadSize, BadLine, BadFile, Label, Device, CannotListen, Refused, CannotRead, CannotWrite}

-- the status of a program that does not end well
abbrev pub status_of : Fault → ℕ
status_of Usage = 2
status_of BadSize = 2
status_of BadLine = 2
status_of (BadFile path) = 1
status_of (Label path why) = 1
status_of (Device path why) = 1
status_of CannotListen = 1
status_of (Refused why) = 1
status_of CannotRead = 1
status_of CannotWrite = 1

-- the fault of a program whose words ask for nothing that there can be
abbrev pub refused_words : AskFault → Fault
refused_words asks.Usage = Usage
refused_words asks.BadSize = BadSize

-- the fault of a program whose script was given up
abbrev pub stopped : ScriptFault → Fault
stopped (stops.Refused why) = Refused why
stopped stops.CannotRead = CannotRead
stopped stops.CannotWrite = CannotWrite

-- A script was answered to its end, well or with bad lines, or it was given up
abbrev pub EndsScript : Option (List ℕ) → Option (List ℕ) → Option (List ℕ) → Result (Unit {0}) Fault → Type 0
EndsScript left held new (Ok done) = IsTranscript left held new false
EndsScript left held new (Err BadLine) = IsTranscript left held new true
EndsScript left held new (Err (Refused why)) = Unit {0}
EndsScript left held new (Err CannotRead) = Unit {0}
EndsScript left held new (Err CannotWrite) = Unit {0}
EndsScript left held new (Err fault) = ⊥
