use Rattle.std.proofs.Common.{◌≡◌, ℕ, ◌<◌, slice_index_or}
use Rattle.journal_world.specs.declared.address.Kind.TheVariants.{Block}
use Rattle.journal_world.specs.declared.layout.TheConstants.{UNUSED}
use Rattle.journal_world.specs.Files.{no_region}
use Rattle.journal_program.proofs.label.unused_are_blocks.Given as goal

-- of the regions below the index each that is not in use is one of blocks
abbrev pub invariant-loop-index : goal.invariant-loop-index
invariant-loop-index l = (k : ℕ) → k < l.index → (slice_index_or l.regions k no_region).first ≡ UNUSED
    → (slice_index_or l.regions k no_region).kind ≡ Block
