-- What was read before a fault.
use Rattle.std.proofs.Common.{◌≡◌, List, ℕ, None, Err}
use Rattle.journal_xdr.specs.Items.{Item}
use Rattle.journal_records.specs.declared.fault.ReadFault.{ReadFault}
use Rattle.journal_records.specs.declared.fault.ReadFault.TheVariants.{NoMemory, UnknownOperation, Malformed}
use Rattle.journal_records.specs.Readings.{Reads}

-- a part is not read, and so the whole is not
pub reads_fault : {T U X Y : Type 0} (part : Item T) (whole : Item U) (part_view : X → T) (whole_view : Y → U) (old new first last : List ℕ) (why : ReadFault)
    → Reads part part_view old new (Err why) → (part.reading old ≡ None → whole.reading first ≡ None) → Reads whole whole_view first last (Err why)
reads_fault part whole part_view whole_view old new first last NoMemory reads none = tt
reads_fault part whole part_view whole_view old new first last UnknownOperation reads none = absurd reads
reads_fault part whole part_view whole_view old new first last Malformed reads none = none reads
