use Rattle.std.proofs.Common.{◌≡◌, ℕ, ◌<◌, ◌≤◌, ◌+◌, ◌*◌, slice_index_or}
use Rattle.journal_block.specs.Block.{u64_at}
use Rattle.journal_world.specs.Addresses.{bits_of}
use Rattle.journal_world.specs.Files.{no_region}
use Rattle.journal_program.proofs.label.write_regions.Given as goal

-- the regions below the index are written, and the numbers before the regions stay
abbrev pub invariant-loop-index : goal.invariant-loop-index
invariant-loop-index l = record {
  firsts : (k : ℕ) → k < l.index → u64_at l.block (32 + 16 * k) ≡ (slice_index_or l.regions k no_region).first;
  kinds : (k : ℕ) → k < l.index → u64_at l.block (40 + 16 * k) ≡ bits_of (slice_index_or l.regions k no_region).kind;
  before : (k : ℕ) → k + 8 ≤ 32 → u64_at l.block k ≡ u64_at l.fn.block k;
}
