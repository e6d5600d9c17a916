-- The blocks of a directory in which a name may lie. Any name may lie in one of the first 48. After
-- them come levels of 4, 16, 64 and 256 blocks, and in each level a name has one block, by its tag.
-- So few blocks are read for a name, however many a directory has.
use Rattle.std.specs.Prelude.{ℕ, zero, suc, ◌≡◌, ◌<◌, ◌+◌, ◌*◌, ◌%◌}
use Rattle.journal_tree.specs.declared.limits.TheConstants.{FIRST_BLOCKS}
use Rattle.journal_treestore.specs.declared.level.TheConstants.{LEVELS}

-- how many blocks a level has: four times as many as the one before
abbrev pub level_width : ℕ → ℕ
level_width zero = 4
level_width (suc level) = 4 * level_width level

-- its first block
abbrev pub level_begin : ℕ → ℕ
level_begin zero = FIRST_BLOCKS
level_begin (suc level) = level_begin level + level_width level

-- the block of a level that is for the names of a tag
abbrev pub level_block : ℕ → ℕ → ℕ
level_block tag level = level_begin level + tag % level_width level

-- A name of this tag may lie in the block
pub data IsBlockFor (tag j : ℕ) : Type 0 where
  any_name : j < FIRST_BLOCKS → IsBlockFor tag j
  in_level : (level : ℕ) → level < LEVELS → j ≡ level_block tag level → IsBlockFor tag j
