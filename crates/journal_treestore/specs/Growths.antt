-- A disk with a tree gets more blocks.
use Rattle.std.specs.Prelude.{ℕ, ◌≡◌, ◌<◌, ◌≤◌, ◌+◌, ◌-◌, ◌/◌, max}
use Rattle.journal_tree.specs.Trees.{Tree}
use Rattle.journal_treestore.specs.declared.place.TheConstants.{BLOCK_OWNERS, MOST_DISK_BLOCKS}
use Rattle.journal_treestore.specs.declared.place.Cut.{Cut}
use Rattle.journal_treestore.specs.declared.growth.NoGrowth.{NoGrowth}
use Rattle.journal_treestore.specs.declared.growth.NoGrowth.TheVariants.{Fewer, TooFew, TooMany}
use Rattle.journal_treestore.specs.Places.{later_owners, IsCut}
use Rattle.journal_treestore.specs.Views.{View, tree_of}
use Rattle.journal_treestore.specs.Sound.{IsSoundView}

-- the first block after the records of later blocks
abbrev pub records_end : Cut → ℕ
records_end c = c.blocks + later_owners c

-- The disk has at least as many blocks, and as many of them with a record, and was made with the
-- same numbers
pub record IsWider (c d : Cut) : Type 0 where
  pub cut : IsCut d
  pub numbers : d.numbers ≡ c.numbers
  pub base : d.base ≡ c.base
  pub size : c.size ≤ d.size
  pub blocks : c.blocks ≤ d.blocks

-- It has more with a record, and the records of later blocks come after all that it used before
pub record IsGrowth (c d : Cut) : Type 0 where
  pub wider : IsWider c d
  pub more : c.blocks < d.blocks
  pub after : records_end c ≤ d.blocks

-- how many blocks a disk of this base has, if as many of them have a record
abbrev pub size_with : ℕ → ℕ → ℕ
size_with base blocks = blocks + (blocks - base + 511) / BLOCK_OWNERS

-- the fewest blocks of a growth
abbrev pub fewest_size : Cut → ℕ
fewest_size c = size_with c.base (max (c.blocks + 1) (records_end c))

-- As many blocks as can be have a record, if the disk has so many
abbrev pub IsWidest : Cut → Type 0
IsWidest d = (blocks : ℕ) → size_with d.base blocks ≤ d.size → blocks ≤ d.blocks

-- why a disk does not get as many blocks
abbrev pub IsNoGrowth : Cut → ℕ → NoGrowth → Type 0
IsNoGrowth c size Fewer = size < c.size
IsNoGrowth c size TooFew = size < fewest_size c
IsNoGrowth c size TooMany = MOST_DISK_BLOCKS < size

-- ── its tree ──

-- A disk has more blocks of data than another one, and else the same: each inode, the record of
-- each block of the other one, and its content
pub record IsGrownView (V W : View) : Type 0 where
  pub numbers : W.numbers ≡ V.numbers
  pub first_data : W.first_data ≡ V.first_data
  pub more : V.data_blocks ≤ W.data_blocks
  pub few : W.first_data + W.data_blocks ≤ MOST_DISK_BLOCKS
  pub inodes : (n : ℕ) → W.inode n ≡ V.inode n
  pub owners : (b : ℕ) → b < V.first_data + V.data_blocks → W.owner b ≡ V.owner b
  pub blocks : (b : ℕ) → V.first_data ≤ b → b < V.first_data + V.data_blocks → W.block b ≡ V.block b

-- the same nodes, with more blocks for them
abbrev pub with_blocks : Tree → ℕ → Tree
with_blocks T blocks = record { numbers = T.numbers; blocks = blocks; at = T.at }

-- A sound disk is sound then, with the same nodes
abbrev pub GrowthKeepsTheTree : Type 0
GrowthKeepsTheTree = (V W : View) → IsSoundView V → IsGrownView V W → IsSoundView W × (tree_of W ≡ with_blocks (tree_of V) W.data_blocks)
