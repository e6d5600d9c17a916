use Rattle.std.proofs.Common.{◌≡◌, ℕ, ◌<◌, ◌≤◌, ◌+◌, ◌*◌}
use Rattle.journal_block.specs.Block.{u64_at}
use Rattle.journal_program.proofs.label.write_zeros.Given as goal

-- the numbers below the place are zeros, and those of the label stay
abbrev pub invariant-loop-place : goal.invariant-loop-place
invariant-loop-place l = record {
  zeros : (k : ℕ) → 20 ≤ k → k < l.place → u64_at l.block (8 * k) ≡ 0;
  before : (k : ℕ) → k + 8 ≤ 160 → u64_at l.block k ≡ u64_at l.fn.block k;
}
