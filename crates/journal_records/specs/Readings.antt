-- The answers of reading.
use Rattle.std.specs.Prelude.{◌≡◌, ℕ, List, Some, None, Result, Ok, Err}
use Rattle.journal_xdr.specs.Items.{Item, Spelled}
use Rattle.journal_xdr.specs.Basic.{word}
use Rattle.journal_records.specs.declared.fault.ReadFault.{ReadFault}
use Rattle.journal_records.specs.declared.fault.ReadFault.TheVariants as fault
use Rattle.journal_records.specs.declared.fault.WriteFault.{WriteFault}
use Rattle.journal_records.specs.declared.fault.WriteFault.TheVariants as refused
use Rattle.journal_records.specs.declared.request.Request.{Request}
use Rattle.journal_records.specs.declared.answer.Answer.{Answer}
use Rattle.journal_records.specs.Operations.{operation_of}
use Rattle.journal_records.specs.Requests.{request, message_of}
use Rattle.journal_records.specs.Answers.{answer, told_of}

-- The answer of a reader, seen by view, is the reading of the bytes: new is the bytes after the
-- value
abbrev pub Reads : {T X : Type 0} → Item T → (X → T) → List ℕ → List ℕ → Result X ReadFault → Type 0
Reads item view old new (Ok x) = item.reading old ≡ Some (view x, new)
Reads item view old new (Err fault.Malformed) = item.reading old ≡ None
Reads item view old new (Err fault.UnknownOperation) = ⊥
Reads item view old new (Err fault.NoMemory) = Unit {0}

-- the bytes are the value's spelling, and nothing more
abbrev pub IsSpelling : {T : Type 0} → Item T → List ℕ → T → Type 0
IsSpelling item bytes value = item.Has value × (bytes ≡ item.spelling value)

abbrev pub SpellsNone : {T : Type 0} → Item T → List ℕ → Type 0
SpellsNone {T} item bytes = (value : T) → ¬ (IsSpelling item bytes value)

-- the bytes begin with a number that is no operation's
abbrev pub AsksUnknown : List ℕ → Type 0
AsksUnknown bytes = (n : ℕ) × (rest : List ℕ) × Spelled word bytes n rest × (operation_of n ≡ None)

-- The answer of reading a record as a request
abbrev pub ReadsRequest : List ℕ → Result Request ReadFault → Type 0
ReadsRequest bytes (Ok asked) = IsSpelling request bytes (message_of asked)
ReadsRequest bytes (Err fault.UnknownOperation) = AsksUnknown bytes
ReadsRequest bytes (Err fault.Malformed) = SpellsNone request bytes × ¬ (AsksUnknown bytes)
ReadsRequest bytes (Err fault.NoMemory) = Unit {0}

-- The answer of reading a record as an answer
abbrev pub ReadsAnswer : List ℕ → Result Answer ReadFault → Type 0
ReadsAnswer bytes (Ok told) = IsSpelling answer bytes (told_of told)
ReadsAnswer bytes (Err fault.UnknownOperation) = ⊥
ReadsAnswer bytes (Err fault.Malformed) = SpellsNone answer bytes
ReadsAnswer bytes (Err fault.NoMemory) = Unit {0}

-- it is refused since no record can hold it
abbrev pub IsTooLong : {X : Type 0} → Result X WriteFault → Type 0
IsTooLong (Err refused.TooLong) = Unit {0}
IsTooLong other = ⊥
