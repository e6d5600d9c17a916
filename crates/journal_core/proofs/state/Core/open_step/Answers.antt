use Rattle.journal_core.proofs.state.Core.open_step.Goals as goal

pub returns-clause-begun : goal.returns-clause-begun
returns-clause-begun g c = c.in_ok-durable.ensures.begun

pub returns-clause-well_formed : goal.returns-clause-well_formed
returns-clause-well_formed g c = c.in_ok-durable.ensures.well_formed

pub returns-clause-bounds : goal.returns-clause-bounds
returns-clause-bounds g c = c.in_ok-durable.ensures.bounds

pub invariant_of-core : goal.invariant_of-core
invariant_of-core g c = record { pair = c.in_ok-durable.ensures.pair; room = λ running. c.in-Some.ensures }
