-- The label of a disk, in block 1: the label.
use Rattle.std.specs.Prelude.{ℕ, ◌≡◌, ◌≢◌, ◌<◌, ◌≤◌, ◌+◌, ◌*◌, IsTrue, List, length, Option, Some, None, ◌==◌, if◌then◌else◌, slice_index_or}
use Rattle.journal_world.specs.declared.address.Kind.TheVariants.{Block}
use Rattle.journal_world.specs.declared.layout.Region.{Region}
use Rattle.journal_world.specs.declared.layout.TheConstants.{MIN_BLOCKS, MAX_LAYOUT_BLOCKS, REGIONS, UNUSED}
use Rattle.journal_world.specs.Addresses.{are_regions, bits_of}
use Rattle.journal_world.specs.Files.{no_region}
use Rattle.journal_block.specs.Block.{Bytes, u64_at}
use Rattle.journal_program.specs.declared.label.Label.{Label}
use Rattle.journal_program.specs.declared.label.TheConstants.{MAGIC, VERSION}

-- where the first of the regions begins
abbrev pub first_of : List Region → ℕ
first_of regions = (slice_index_or regions 0 no_region).first

-- no region is in use
abbrev pub AreUnused : List Region → Type 0
AreUnused regions = (k : ℕ) → k < REGIONS → (slice_index_or regions k no_region).first ≡ UNUSED

-- each region that is not in use is written as one of blocks
abbrev pub UnusedAreBlocks : List Region → Type 0
UnusedAreBlocks regions = (k : ℕ) → k < REGIONS → (slice_index_or regions k no_region).first ≡ UNUSED
    → (slice_index_or regions k no_region).kind ≡ Block

-- A layout has such regions, or none is in use; and those that are not in use are those of blocks
pub record AreTold (regions : List Region) : Type 0 where
  pub kinds : UnusedAreBlocks regions
  pub used : first_of regions ≢ UNUSED → IsTrue (are_regions regions)
  pub unused : first_of regions ≡ UNUSED → AreUnused regions

-- A disk has so many blocks, and a label tells such regions
pub record IsLabel (label : Label) : Type 0 where
  pub blocks : (MIN_BLOCKS ≤ label.blocks) × (label.blocks ≤ MAX_LAYOUT_BLOCKS)
  pub regions : AreTold label.regions

-- each region has two numbers: its first block, and how many bits its objects are apart
pub record HasRegions (block : Bytes) (regions : List Region) : Type 0 where
  pub many : length regions ≡ REGIONS
  pub firsts : (k : ℕ) → k < REGIONS → u64_at block (32 + 16 * k) ≡ (slice_index_or regions k no_region).first
  pub kinds : (k : ℕ) → k < REGIONS → u64_at block (40 + 16 * k) ≡ bits_of (slice_index_or regions k no_region).kind

-- the numbers behind the label are zeros
abbrev pub HasZeros : Bytes → Type 0
HasZeros block = (k : ℕ) → 20 ≤ k → k < 512 → u64_at block (8 * k) ≡ 0

-- Block 1 has the label
pub record HasLabel (block : Bytes) (label : Label) : Type 0 where
  pub magic : u64_at block 8 ≡ MAGIC
  pub version : u64_at block 16 ≡ VERSION
  pub blocks : u64_at block 24 ≡ label.blocks
  pub regions : HasRegions block label.regions
  pub zeros : HasZeros block

-- the regions that a label tells: its own, or none where the first is not in use
abbrev pub regions_told : Label → Option (List Region)
regions_told label = if first_of label.regions == UNUSED then None else Some label.regions
