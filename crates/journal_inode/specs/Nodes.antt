-- An inode and its 128 bytes.
use Rattle.std.specs.Prelude.{ℕ, ◌≡◌, ◌<◌, ◌+◌, ◌*◌, ◌^◌, ◌==◌, if◌then◌else◌, List, ◌++◌, length, map, take, drop, flat_map, replicate, slice_range, slice_index}
use Rattle.std.specs.List.{range_with_len}
use Rattle.std.specs.Int.{w32, w64, to_le_bytes, from_le_bytes}
use Rattle.journal_world.specs.Addresses.{Value}
use Rattle.journal_inode.specs.declared.node.TheConstants.{MORE_BLOCKS}
use Rattle.journal_inode.specs.declared.node.Time.{Time}
use Rattle.journal_inode.specs.declared.node.FileNode.{FileNode}
use Rattle.journal_inode.specs.declared.node.Node.{Node}
use Rattle.journal_inode.specs.declared.node.Node.TheVariants.{Free, Root, File}

-- a piece over the bytes from a place on
abbrev pub with_piece : List ℕ → ℕ → List ℕ → List ℕ
with_piece bytes at piece = take at bytes ++ piece ++ drop (at + length piece) bytes

abbrev pub no_time : Time
no_time = record { secs = 0; nanos = 0 }

-- no blocks beside the first
abbrev pub no_more : List ℕ
no_more = replicate MORE_BLOCKS 0

-- kind, generation, size, block, seconds, nanoseconds and the further blocks, little-endian, and
-- zeros
unfoldable pub bytes_of_fields : ℕ → ℕ → ℕ → ℕ → Time → List ℕ → Value
bytes_of_fields kind generation size block mtime more =
    to_le_bytes w32 kind ++ to_le_bytes w32 generation ++ to_le_bytes w64 size ++ to_le_bytes w64 block
    ++ to_le_bytes w32 mtime.secs ++ to_le_bytes w32 mtime.nanos ++ flat_map (to_le_bytes w64) more ++ replicate 8 0

-- the bytes of an inode: kind 0 is free, 1 a directory, 2 a file
abbrev pub inode_bytes : Node → Value
inode_bytes (Free generation) = bytes_of_fields 0 generation 0 0 no_time no_more
inode_bytes (Root mtime) = bytes_of_fields 1 1 0 0 mtime no_more
inode_bytes (File f) = bytes_of_fields 2 f.generation f.size f.block f.mtime f.more

-- the numbers of 4 and of 8 bytes from a place on
unfoldable pub word_at : Value → ℕ → ℕ
word_at v at = from_le_bytes w32 (slice_range v at (at + 4))

unfoldable pub long_at : Value → ℕ → ℕ
long_at v at = from_le_bytes w64 (slice_range v at (at + 8))

abbrev pub time_at : Value → ℕ → Time
time_at v at = record { secs = word_at v at; nanos = word_at v (at + 4) }

-- the numbers of the further blocks
abbrev pub more_at : Value → List ℕ
more_at v = map (λ j. long_at v (32 + 8 * j)) (range_with_len 0 MORE_BLOCKS)

abbrev pub file_from : Value → FileNode
file_from v = record { generation = word_at v 4; size = long_at v 8; block = long_at v 16; more = more_at v; mtime = time_at v 24 }

-- the inode of which these are the bytes, if they are an inode's
unfoldable pub node_of : Value → Node
node_of v =
    if word_at v 0 == 2 then File (file_from v)
    else if word_at v 0 == 1 then Root (time_at v 24)
    else Free (word_at v 4)

abbrev pub IsTime : Time → Type 0
IsTime t = (t.secs < 2 ^ 32) × (t.nanos < 2 ^ 32)

-- the numbers of the inode fit their bytes
abbrev pub Fits : Node → Type 0
Fits (Free generation) = generation < 2 ^ 32
Fits (Root mtime) = IsTime mtime
Fits (File f) = (f.generation < 2 ^ 32) × (f.size < 2 ^ 64) × (f.block < 2 ^ 64) × IsTime f.mtime
    × (length f.more ≡ MORE_BLOCKS) × ((k : ℕ) → slice_index f.more k < 2 ^ 64)
