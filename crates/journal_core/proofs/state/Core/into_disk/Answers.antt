use Rattle.journal_core.proofs.Joining.{leaves_given}
use Rattle.journal_core.proofs.state.Core.into_disk.Goals as goal

pub returns-clause-images : goal.returns-clause-images
returns-clause-images g c =
    leaves_given g.J.Naming.layout c.self.inside.volatile c.self.inside.durable c.args.self c.self.invariant.pair c.self.view_is (g.D.BlockDisk.state c.into_disk.result) c.into_disk.ensures.images
