-- How many objects a WRITE writes.
use Rattle.std.specs.Prelude.{ℕ, ◌+◌, ◌-◌, ◌*◌, ◌/◌}
use Rattle.journal_treestore.specs.declared.inode.TheConstants.{INDEX_NUMBERS}

-- the most blocks of a file in which `count` bytes lie, one after another
abbrev pub most_blocks : ℕ → ℕ
most_blocks count = (count + 4094) / 4096 + 1

-- the most index blocks in which the numbers of `blocks` blocks lie
abbrev pub most_leaves : ℕ → ℕ
most_leaves blocks = (blocks + (INDEX_NUMBERS - 2)) / INDEX_NUMBERS + 1

-- the most objects that a WRITE of `count` bytes writes: these blocks, these index blocks, and the
-- block with the numbers of the index blocks, each with its record; the block in which the file
-- ended; and the inode
abbrev pub most_written : ℕ → ℕ
most_written count = 2 * (most_blocks count + most_leaves (most_blocks count) + 1) + 2
