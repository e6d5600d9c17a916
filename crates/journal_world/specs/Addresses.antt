-- Addresses, the kinds of object that they name, and values.
use Rattle.std.specs.Prelude.{ℕ, ◌+◌, ◌*◌, ◌%◌, Bool, true, false, ◌&&◌, ◌||◌, ◌==◌, nat_lt, nat_le, if◌then◌else◌, List, [], ◌∷◌, length, replicate, Option, Some, None}
use Rattle.std.specs.List.{list_all}
use Rattle.journal_world.specs.declared.address.Addr.{Addr}
use Rattle.journal_world.specs.declared.address.Kind.{Kind}
use Rattle.journal_world.specs.declared.address.Kind.TheVariants.{Bit, Record, Block}
use Rattle.journal_world.specs.declared.address.RecordSize.{RecordSize}
use Rattle.journal_world.specs.declared.address.RecordSize.TheVariants.{Bytes8, Bytes16, Bytes32, Bytes64, Bytes128, Bytes256, Bytes512, Bytes1024, Bytes2048}
use Rattle.journal_world.specs.declared.layout.Region.{Region}
use Rattle.journal_world.specs.declared.layout.TheConstants.{SUPERBLOCK, UNUSED, BLOCK_BITS, BLOCK_BYTES}

-- a value is its bytes
abbrev pub Value : Type 0
Value = List ℕ

-- A layout: how many blocks the disk has, its regions, and how many slots a journal over it has. A
-- region is the first of its blocks and the kind of their objects. It ends where the next one
-- begins, and the last one where the disk ends
pub record Shape : Type 0 where
  pub blocks : ℕ
  pub regions : List Region
  pub slots : ℕ

-- each region begins above the one before it, or is not in use, and then so is each after it
abbrev pub rise_from : ℕ → List Region → Bool
rise_from before [] = true
rise_from before (r ∷ rs) = (nat_lt before r.first || r.first == UNUSED) && rise_from r.first rs

-- the first region begins at block 513, and the others rise
abbrev pub are_regions : List Region → Bool
are_regions [] = false
are_regions (r ∷ rs) = rise_from 0 (r ∷ rs) && r.first == SUPERBLOCK

-- the kind of the last of the regions that begins at or below a block, or where none does the one
-- that was found before
abbrev pub kind_among : List Region → ℕ → Option Kind → Option Kind
kind_among [] block found = found
kind_among (r ∷ rs) block found = kind_among rs block (if nat_le r.first block then Some r.kind else found)

-- the kind of the objects of a block, on a disk of a layout: that of its region. The blocks below
-- 513 and those after the disk's end have none
abbrev pub kind_of : Shape → ℕ → Option Kind
kind_of s block = if nat_le SUPERBLOCK block && nat_lt block s.blocks then kind_among s.regions block None else None

-- how many bytes a record of a size has
abbrev pub record_bytes : RecordSize → ℕ
record_bytes Bytes8 = 8
record_bytes Bytes16 = 16
record_bytes Bytes32 = 32
record_bytes Bytes64 = 64
record_bytes Bytes128 = 128
record_bytes Bytes256 = 256
record_bytes Bytes512 = 512
record_bytes Bytes1024 = 1024
record_bytes Bytes2048 = 2048

-- how many bits the objects of a kind are apart in their block: 1, 64 to 16384, 32768
abbrev pub bits_of : Kind → ℕ
bits_of Bit = 1
bits_of (Record size) = 8 * record_bytes size
bits_of Block = BLOCK_BITS

abbrev pub starts_object : Option Kind → ℕ → Bool
starts_object None off = false
starts_object (Some kind) off = nat_lt off BLOCK_BITS && off % bits_of kind == 0

-- the address names an object: its block has a kind, and its bit offset is below 32768 and a
-- multiple of the kind's bits
abbrev pub is_valid : Shape → Addr → Bool
is_valid layout a = starts_object (kind_of layout a.block) a.off

-- how many bytes a value of a kind has
abbrev pub bytes_of : Kind → ℕ
bytes_of Bit = 1
bytes_of (Record size) = record_bytes size
bytes_of Block = BLOCK_BYTES

-- each byte of a value of a kind is below this
abbrev pub limit_of : Kind → ℕ
limit_of Bit = 2
limit_of (Record size) = 256
limit_of Block = 256

-- the value is one of the kind
abbrev pub is_value_of : Kind → Value → Bool
is_value_of kind v = length v == bytes_of kind && list_all (λ byte. nat_lt byte (limit_of kind)) v

-- the value that an object has until it is overwritten
unfoldable pub zeros_of : Kind → Value
zeros_of kind = replicate (bytes_of kind) 0

-- two addresses are one
abbrev pub is_same : Addr → Addr → Bool
is_same a b = a.block == b.block && a.off == b.off

-- the slot of an address: (block * 32768 + off) mod the number of slots. Transactions that use
-- addresses of one slot exclude one another
abbrev pub slot_of : Shape → Addr → ℕ
slot_of layout a = (a.block * BLOCK_BITS + a.off) % layout.slots
