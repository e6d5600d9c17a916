use Rattle.std.proofs.Common.{◌≡◌, drop}
use Rattle.journal_world.specs.Addresses.{rise_from}
use Rattle.journal_world.proofs.layout.are_regions.Given as goal

-- those that are left rise from the one before them where all rise
abbrev pub invariant-loop-index : goal.invariant-loop-index
invariant-loop-index l = rise_from l.before (drop l.index l.regions) ≡ rise_from 0 l.regions
