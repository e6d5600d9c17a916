use Rattle.std.proofs.Common.{true, ap, sym, subst, ◌∙◌}
use Rattle.journal_memory.specs.Volatiles.{VolatileState}
use Rattle.journal_parts.specs.CoreStates.{CoreState}
use Rattle.journal_parts.specs.CoreParts.{IsPair, core_of}
use Rattle.journal_core.proofs.Joining.{pair_noted, crashes_noticed}
use Rattle.journal_core.proofs.state.Core.stop_step.Goals as goal

pub invariant_of-self : goal.invariant_of-self
invariant_of-self g c = record {
  pair = subst (λ (v : VolatileState). IsPair g.J.Naming.layout v c.self.inside.durable) (sym c.stop.ensures.event)
      (pair_noted g.J.Naming.layout c.self.inside.volatile c.self.inside.durable c.self.invariant.pair c.self.inside.volatile.ledger.next true);
  room = c.self.invariant.room;
}

pub returns : goal.returns
returns g c = record {
  stops = record {
    closed = ap (λ (v : VolatileState). core_of v c.self.inside.durable) c.stop.ensures.event ∙ ap (λ (s : CoreState). record s { closed = true }) c.self.view_is;
    crash = crashes_noticed g.J.Naming.layout c.self.inside.volatile c.self.inside.durable c.args.self.now c.self.invariant.pair c.self.view_is c.stop.new.self (invariant_of-self g c).pair;
  };
}
