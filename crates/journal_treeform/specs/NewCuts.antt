-- How a new disk with a tree may be cut.
use Rattle.std.specs.Prelude.{ℕ, ◌≡◌, ◌≢◌, ◌<◌, ◌≤◌, ◌*◌, ◌/◌, ◌%◌, ◌⊎◌, max, min}
use Rattle.journal_treestore.specs.declared.place.TheConstants.{BLOCK_INODES, FEWEST_BLOCKS, MOST_DISK_BLOCKS, MOST_NUMBERS}
use Rattle.journal_treestore.specs.declared.place.Cut.{Cut}
use Rattle.journal_treestore.specs.Places.{made_cut, first_data, IsCut}
use Rattle.journal_treeobjects.specs.Maps.{IsWhole}
use Rattle.journal_treeform.specs.declared.cutting.TheConstants.{FEWEST_INODES, MOST_DEFAULT_INODES}
use Rattle.journal_treeform.specs.declared.cutting.NoCut.{NoCut}
use Rattle.journal_treeform.specs.declared.cutting.NoCut.TheVariants.{Blocks, Inodes, NoData}

-- one inode for each 8 blocks, as many as fill their blocks, within bounds
abbrev pub default_inodes : ℕ → ℕ
default_inodes blocks = max (min (blocks / 64 * 8) MOST_DEFAULT_INODES) FEWEST_INODES

-- A new disk may be cut so: it has the blocks that it is made with
pub record IsNewCut (c : Cut) : Type 0 where
  pub cut : IsCut c
  pub whole : IsWhole c
  pub made : c.size ≡ c.base
  pub enough : FEWEST_INODES ≤ c.numbers

-- or why it may not
abbrev pub IsNoCut : ℕ → ℕ → NoCut → Type 0
IsNoCut blocks inodes Blocks = (blocks < FEWEST_BLOCKS) ⊎ (MOST_DISK_BLOCKS < blocks)
IsNoCut blocks inodes Inodes = (inodes < FEWEST_INODES) ⊎ ((MOST_NUMBERS < inodes) ⊎ (inodes % BLOCK_INODES ≢ 0))
IsNoCut blocks inodes NoData = blocks ≤ first_data (made_cut blocks inodes)
