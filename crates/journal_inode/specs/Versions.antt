-- The versions of the format, and what differs between them.
use Rattle.std.specs.Prelude.{ℕ, ◌-◌, ◌*◌, ◌+◌, ◌/◌}
use Rattle.journal_world.specs.declared.layout.TheConstants.{BLOCK_BYTES}
use Rattle.journal_inode.specs.declared.version.FormatVersion.{FormatVersion}
use Rattle.journal_inode.specs.declared.version.FormatVersion.TheVariants.{One, Two}

-- the number that the superblock has
abbrev pub number_of : FormatVersion → ℕ
number_of One = 1
number_of Two = 2

-- the most bytes of a file
abbrev pub most_bytes : FormatVersion → ℕ
most_bytes One = 4096
most_bytes Two = 49152

-- the number of blocks of a file of this size beside its first: block j > 0 is there if the size
-- exceeds 4096 * j
abbrev pub extra_count : FormatVersion → ℕ → ℕ
extra_count One size = 0
extra_count Two size = (size - 1) / BLOCK_BYTES

-- how many bytes its blocks have
abbrev pub room_of : FormatVersion → ℕ → ℕ
room_of version size = BLOCK_BYTES * (1 + extra_count version size)
