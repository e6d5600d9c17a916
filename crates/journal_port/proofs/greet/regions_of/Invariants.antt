use Rattle.std.proofs.Common.{◌≡◌, take}
use Rattle.journal_port.specs.Answers.{told_regions}
use Rattle.journal_port.proofs.greet.regions_of.Given as goal

abbrev pub invariant-loop-region : goal.invariant-loop-region
invariant-loop-region l = l.told.items ≡ told_regions (take l.region-index l.regions)
