use Rattle.std.proofs.Common.{◌≡◌, ℕ, ◌<◌, ◌+◌, ◌*◌, length, slice_index_or}
use Rattle.journal_block.specs.Block.{u64_at}
use Rattle.journal_world.specs.Addresses.{bits_of}
use Rattle.journal_world.specs.declared.layout.TheConstants.{REGIONS}
use Rattle.journal_world.specs.Files.{no_region}
use Rattle.journal_program.proofs.label.read_regions.Given as goal

-- the regions below the index are read
abbrev pub invariant-loop-index : goal.invariant-loop-index
invariant-loop-index l = record {
  many : length l.regions ≡ REGIONS;
  firsts : (k : ℕ) → k < l.index → u64_at l.block (32 + 16 * k) ≡ (slice_index_or l.regions k no_region).first;
  kinds : (k : ℕ) → k < l.index → u64_at l.block (40 + 16 * k) ≡ bits_of (slice_index_or l.regions k no_region).kind;
}
