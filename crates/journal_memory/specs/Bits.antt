-- The bits of one block that are asked for, as the map and as the block's bytes have them.
use Rattle.std.specs.Prelude.{ℕ, ◌≡◌, ◌<◌, ◌≤◌, ◌+◌, ◌-◌, Bool, true, false, ◌&&◌, ◌==◌, nat_lt, if◌then◌else◌, IsTrue, List, [], ◌∷◌, take, length, Option, Some}
use Rattle.std.specs.List.{filter, range_with_len}
use Rattle.journal_world.specs.declared.address.Kind.{Kind}
use Rattle.journal_world.specs.declared.address.Kind.TheVariants.{Bit}
use Rattle.journal_world.specs.declared.layout.TheConstants.{BLOCK_BITS}
use Rattle.journal_world.specs.Addresses.{Value, Shape, kind_of}
use Rattle.journal_world.specs.Maps.{Map, value_at}
use Rattle.journal_block.specs.Block.{Bytes, bit_of}
use Rattle.journal_memory.specs.declared.bit_scan.BitScan.{BitScan}

-- the objects of this kind are bits
abbrev pub are_bits : Option Kind → Bool
are_bits (Some Bit) = true
are_bits other = false

-- On a disk of a layout: the block has bits, and the first that is asked for is one of them
abbrev pub is_scan : Shape → BitScan → Bool
is_scan layout s = nat_lt s.first BLOCK_BITS && are_bits (kind_of layout s.block)

-- the numbers of a block's bits that pass the test, ascending: from the first that is asked for on,
-- and no more than are asked for
unfoldable pub first_passing : (ℕ → Bool) → BitScan → List ℕ
first_passing test s = take s.most (filter test (range_with_len s.first (BLOCK_BITS - s.first)))

-- the value is that of a bit which is set, or of one which is clear
abbrev pub is_bit : Bool → Value → Bool
is_bit set [] = false
is_bit set (byte ∷ []) = byte == (if set then 1 else 0)
is_bit set (byte ∷ other ∷ more) = false

-- the value of a bit in the bytes of its block
abbrev pub bit_in : Bytes → ℕ → Value
bit_in bytes n = (if bit_of bytes n then 1 else 0) ∷ []

-- the numbers of the bits that are asked for, as the map has them
abbrev pub found_bits : Map → BitScan → List ℕ
found_bits m s = first_passing (λ n. is_bit s.value (value_at m (record { block = s.block; off = n }))) s

-- the same, as these bytes of the block have them
abbrev pub bits_in : Bytes → BitScan → List ℕ
bits_in bytes s = first_passing (λ n. is_bit s.value (bit_in bytes n)) s

-- The block has these bytes where the map gives each bit its value
pub record AreBitsOf (m : Map) (block : ℕ) (bytes : Bytes) : Type 0 where
  pub values : (n : ℕ) → n < BLOCK_BITS → value_at m (record { block = block; off = n }) ≡ bit_in bytes n

-- the numbers ascend, each once, from the first on, and all are below the end
abbrev pub Ascend : ℕ → ℕ → List ℕ → Type 0
Ascend first end [] = Unit {0}
Ascend first end (n ∷ ns) = (first ≤ n) × (n < end) × Ascend (n + 1) end ns

-- The answer, whatever the history: numbers of bits from the first that is asked for on, ascending,
-- and no more than are asked for
pub record AreInOrder (s : BitScan) (bits : List ℕ) : Type 0 where
  pub ascend : Ascend s.first BLOCK_BITS bits
  pub few : length bits ≤ s.most
