-- Records on a stream.
use Rattle.std.specs.Prelude.{◌≡◌, ℕ, ◌<◌, ◌≤◌, ◌⊎◌, List, ◌++◌, length}
use Rattle.std.specs.List.{flat_map, AllByRecursion}
use Rattle.journal_xdr.specs.Items.{Item, Spelled}
use Rattle.journal_xdr.specs.Basic.{word}
use Rattle.journal_records.specs.declared.limits.TheConstants.{RECORD_BYTES}

-- a record: its length, and its bytes
abbrev pub framed : List ℕ → List ℕ
framed record_bytes = word.spelling (length record_bytes) ++ record_bytes

-- records, one after another
abbrev pub frames : List (List ℕ) → List ℕ
frames records = flat_map framed records

abbrev pub IsShort : List ℕ → Type 0
IsShort record_bytes = length record_bytes ≤ RECORD_BYTES

-- the bytes begin with the length of a record that is longer than a record may be
abbrev pub BeginsTooLong : List ℕ → Type 0
BeginsTooLong bytes = (n : ℕ) × (rest : List ℕ) × Spelled word bytes n rest × (RECORD_BYTES < n)

-- the bytes are less than a record, and with more they may be one
abbrev pub IsPartial : List ℕ → Type 0
IsPartial bytes = (length bytes < 4) ⊎ ((n : ℕ) × (rest : List ℕ) × Spelled word bytes n rest × (n ≤ RECORD_BYTES) × (length rest < n))

-- no record is at the front
abbrev pub HasNoRecord : List ℕ → Type 0
HasNoRecord bytes = IsPartial bytes ⊎ BeginsTooLong bytes

-- The bytes of a stream are these records, and then rest, which has none at its front
pub record IsStream (bytes : List ℕ) (records : List (List ℕ)) (rest : List ℕ) : Type 0 where
  pub is : bytes ≡ frames records ++ rest
  pub each : AllByRecursion IsShort records
  pub ends : HasNoRecord rest

-- a value that one record can hold
pub record FitsRecord {T : Type 0} (item : Item T) (value : T) : Type 0 where
  pub has : item.Has value
  pub short : IsShort (item.spelling value)

-- The bytes are the value's record, as a stream has it
pub record IsRecordOf {T : Type 0} (item : Item T) (value : T) (bytes : List ℕ) : Type 0 where
  pub fits : FitsRecord item value
  pub text : bytes ≡ framed (item.spelling value)
