-- The objects of a block, and the map that a disk's blocks make.
use Rattle.std.specs.Prelude.{ℕ, zero, suc, ◌≡◌, ◌≢◌, ◌+◌, ◌*◌, ◌/◌, ◌%◌, ◌==◌, if◌then◌else◌, IsTrue, List, [], ◌∷◌, slice_index, slice_range, Option, Some, None}
use Rattle.journal_world.specs.declared.address.Addr.{Addr}
use Rattle.journal_world.specs.declared.address.Kind.{Kind}
use Rattle.journal_world.specs.declared.address.Kind.TheVariants.{Bit, Record, Block}
use Rattle.journal_world.specs.declared.layout.TheConstants.{BLOCK_BITS}
use Rattle.journal_world.specs.Addresses.{Value, Shape, kind_of, is_valid, bytes_of, record_bytes}
use Rattle.journal_world.specs.Maps.{Pair, Map, value_at, overwritten}
use Rattle.journal_block.specs.Block.{Bytes, bit_of, with_bit, with_bytes}

-- the object of a kind that begins at bit `off` of a block, as a value
unfoldable pub object_of : Option Kind → Bytes → ℕ → Value
object_of None bytes off = []
object_of (Some Bit) bytes off = (if bit_of bytes off then 1 else 0) ∷ []
object_of (Some (Record size)) bytes off = slice_range bytes (off / 8) (off / 8 + record_bytes size)
object_of (Some Block) bytes off = bytes

-- the block with that object replaced
unfoldable pub with_object_of : Option Kind → Bytes → ℕ → Value → Bytes
with_object_of None bytes off value = bytes
with_object_of (Some Bit) bytes off value = with_bit bytes off (slice_index value 0 == 1)
with_object_of (Some (Record size)) bytes off value = with_bytes bytes (off / 8) value
with_object_of (Some Block) bytes off value = value

abbrev pub value_size : Option Kind → ℕ
value_size None = 0
value_size (Some kind) = bytes_of kind

-- On a disk of a layout: how many bytes a value of the address has
abbrev pub size_at : Shape → Addr → ℕ
size_at layout a = value_size (kind_of layout a.block)

-- the object that the address names, cut from these bytes of its block: one byte 0 or 1 for a bit,
-- the bytes of a record, or all 4096
abbrev pub object_at : Shape → Bytes → Addr → Value
object_at layout bytes a = object_of (kind_of layout a.block) bytes a.off

-- these bytes with that object replaced
abbrev pub with_object_at : Shape → Bytes → Addr → Value → Bytes
with_object_at layout bytes a value = with_object_of (kind_of layout a.block) bytes a.off value

-- Of the objects of the block, this one now is the value, and each other is as it was
pub record ChangesOnly (layout : Shape) (old new : Bytes) (a : Addr) (value : Value) : Type 0 where
  pub changed : object_at layout new a ≡ value
  pub others : (b : Addr) → IsTrue (is_valid layout b) → b.block ≡ a.block → b.off ≢ a.off
      → object_at layout new b ≡ object_at layout old b

-- The map gives each valid address the object that its block holds there. The content is each
-- block's bytes, by its number
pub record IsMapOf (content : ℕ → Bytes) (m : Map) : Type 0 where
  pub values : (a : Addr) → IsTrue (is_valid m.layout a) → value_at m a ≡ object_at m.layout (content a.block) a

-- To change this one block from the old bytes to the new is to overwrite the map of the disk's
-- blocks by the value
abbrev pub OverwritesMap : Shape → Bytes → Bytes → Addr → Value → Type 0
OverwritesMap layout old new a value =
    (m : Map) (before after : ℕ → Bytes) → m.layout ≡ layout → IsMapOf before m
    → before a.block ≡ old → after a.block ≡ new → ((b : ℕ) → b ≢ a.block → after b ≡ before b)
    → IsMapOf after (overwritten m ((a, value) ∷ []))

-- the n-th of all addresses, block by block
abbrev pub nth_addr : ℕ → Addr
nth_addr n = record { block = n / BLOCK_BITS; off = n % BLOCK_BITS }

-- the objects that the first n addresses name
unfoldable pub objects_below : Shape → (ℕ → Bytes) → ℕ → List Pair
objects_below layout content zero = []
objects_below layout content (suc n) =
    let a = nth_addr n in
    let rest = objects_below layout content n in
    if is_valid layout a then (a, object_at layout (content a.block) a) ∷ rest else rest

-- the map that a disk's blocks make: each is cut into its objects
unfoldable pub map_of_blocks : Shape → (ℕ → Bytes) → Map
map_of_blocks layout content = record { layout = layout; pairs = objects_below layout content (layout.blocks * BLOCK_BITS) }
