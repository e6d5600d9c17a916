use Rattle.journal_core.proofs.Joining.{crashes_still}
use Rattle.journal_core.proofs.state.Core.check_running.Goals as goal

pub returns-clause-crash : goal.returns-clause-crash
returns-clause-crash g c = crashes_still g.J.Naming.layout c.self.inside.volatile c.self.inside.durable c.args.self.now c.self.invariant.pair c.self.view_is
