-- The updates in memory are of blocks that hold objects.
use Rattle.std.proofs.Common.{◌≡◌, ◌≤◌, ◌<◌, ℕ, Some, subst, arith}
use Rattle.std.specs.List.{slice_get}
use Rattle.std.proofs.lemmas.Option.{get_or_from_slice_get, slice_get_within}
use Rattle.journal_block.specs.declared.update.Update.{Update}
use Rattle.journal_circ.specs.Ring.{Ring}
use Rattle.journal_memlog.specs.Logs.{LogState}
use Rattle.journal_wal.specs.States.{AreTied}

pub home_at : (ring : Ring) (log : LogState) → AreTied ring log → (k : ℕ) (u : Update) → slice_get log.updates k ≡ Some u
    → (513 ≤ u.block) × (u.block < ring.disk.past.size)
home_at ring log tied k u found = (is.0, omega (arith, is.1, tied.size))
  where
    is : (513 ≤ u.block) × (u.block < log.blocks)
    is = subst (λ (v : Update). (513 ≤ v.block) × (v.block < log.blocks)) (get_or_from_slice_get log.updates k u u found)
        (tied.blocks k u (slice_get_within log.updates k u found))
