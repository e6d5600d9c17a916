use Rattle.std.proofs.Common.{arith}
use Rattle.journal_treerule.proofs.Cutting.{first-is}
use Rattle.journal_treerule.proofs.cut.region_first.Goals as goal

pub returns : goal.returns
returns c = first-is c.args.regions.now c.args.index _ (omega (arith, c.told-regions, c.requires))
