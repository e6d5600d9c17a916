use Rattle.std.proofs.Common.{◌≡◌, ℕ, ◌<◌, slice_index_or}
use Rattle.journal_world.specs.declared.layout.TheConstants.{UNUSED}
use Rattle.journal_world.specs.Files.{no_region}
use Rattle.journal_program.proofs.label.are_unused.Given as goal

-- the regions below the index are not in use
abbrev pub invariant-loop-index : goal.invariant-loop-index
invariant-loop-index l = (k : ℕ) → k < l.index → (slice_index_or l.regions k no_region).first ≡ UNUSED
