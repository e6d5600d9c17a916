use Rattle.std.proofs.Common.{◌≡◌, ℕ, ◌<◌, ◌≤◌, ◌*◌}
use Rattle.journal_block.specs.Block.{u64_at}
use Rattle.journal_program.proofs.label.has_zeros.Given as goal

-- the numbers below the place are zeros
abbrev pub invariant-loop-place : goal.invariant-loop-place
invariant-loop-place l = (k : ℕ) → 20 ≤ k → k < l.place → u64_at l.block (8 * k) ≡ 0
