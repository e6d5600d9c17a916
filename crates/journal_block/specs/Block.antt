-- The content of a block: its bytes, the little-endian numbers in them, and its bits.
use Rattle.std.specs.Prelude.{ℕ, ◌+◌, ◌-◌, ◌*◌, ◌/◌, ◌%◌, ◌^◌, Bool, ◌==◌, if◌then◌else◌, List, ◌++◌, length, take, drop, slice_index, slice_range, slice_set}
use Rattle.std.specs.Int.{bit_at}
use Rattle.byteorder.specs.Endian.{little_bytes, little_number}

-- the bytes of a block, in their order
abbrev pub Bytes : Type 0
Bytes = List ℕ

-- the bytes with those from place `at` on replaced by the piece
unfoldable pub with_bytes : Bytes → ℕ → Bytes → Bytes
with_bytes bytes at piece = take at bytes ++ piece ++ drop (at + length piece) bytes

-- the 8 bytes of a number, the lowest first
unfoldable pub u64_bytes : ℕ → Bytes
u64_bytes n = little_bytes 8 n

-- the number in the 8 bytes from place `at` on, the lowest byte first
unfoldable pub u64_at : Bytes → ℕ → ℕ
u64_at bytes at = little_number 8 (slice_range bytes at (at + 8))

-- bit i is set: bit i % 8, the least significant first, of byte i / 8
unfoldable pub bit_of : Bytes → ℕ → Bool
bit_of bytes i = bit_at (slice_index bytes (i / 8)) (i % 8) == 1

-- the byte with its bit k set or cleared: the bit's old weight is taken away, and its new one added
unfoldable pub byte_with_bit : ℕ → ℕ → Bool → ℕ
byte_with_bit byte k value = byte - bit_at byte k * 2 ^ k + (if value then 2 ^ k else 0)

-- the bytes with bit i set or cleared
unfoldable pub with_bit : Bytes → ℕ → Bool → Bytes
with_bit bytes i value = slice_set bytes (i / 8) (byte_with_bit (slice_index bytes (i / 8)) (i % 8) value)
