use Rattle.std.proofs.Common.{rules}
use Rattle.journal_core.proofs.Joining.{pair_joined, crashes_noticed}
use Rattle.journal_core.proofs.Events.{begins_session, answers_session}
use Rattle.journal_core.proofs.state.Core.session_step.Goals as goal

pub invariant_of-self : goal.invariant_of-self
invariant_of-self g c = record {
  pair = pair_joined g.J.Naming.layout c.self.inside.volatile c.self.inside.durable c.self.invariant.pair c.session.new.self c.session.result c.session.ensures.others c.session.ensures.same;
  room = c.self.invariant.room;
}

pub returns-clause-crash : goal.returns-clause-crash
returns-clause-crash g c =
    crashes_noticed g.J.Naming.layout c.self.inside.volatile c.self.inside.durable c.args.self.now c.self.invariant.pair c.self.view_is c.session.new.self (invariant_of-self g c).pair

pub returns-clause-begun : goal.returns-clause-begun
returns-clause-begun g c =
    begins_session c.self.inside.volatile c.session.new.self c.self.inside.durable c.args.self.now c.session.result c.self.view_is c.session.ensures.is c.session.ensures.fresh
    c.session.ensures.unfenced c.session.ensures.others

pub returns-clause-event : goal.returns-clause-event
returns-clause-event g c = answers_session _ _ (returns-clause-crash g c) c.session.result (returns-clause-begun g c) (search rules) (search rules)
