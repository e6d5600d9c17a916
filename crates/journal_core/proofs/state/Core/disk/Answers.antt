use Rattle.journal_core.proofs.Joining.{leaves_lent}
use Rattle.journal_core.proofs.state.Core.disk.Goals as goal

pub returns-clause-images : goal.returns-clause-images
returns-clause-images g c =
    leaves_lent g.J.Naming.layout c.self.inside.volatile c.self.inside.durable c.args.self.now c.self.invariant.pair c.self.view_is c.disk.ensures.images
