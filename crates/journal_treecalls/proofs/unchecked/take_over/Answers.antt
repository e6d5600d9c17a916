use Rattle.journal_treecalls.proofs.Takeovers.{take-kept, take-done}
use Rattle.journal_treecalls.proofs.Learning.{none-few}
use Rattle.journal_treecalls.proofs.unchecked.take_over.Goals as goal

pub returns-in-Some-clause-takes : goal.returns-in-Some-clause-takes
returns-in-Some-clause-takes g c = take-kept _ _ c.args.caller.now c.args.directory c.args.hit.now c.args.name.now c.args.size c.args.now c.taking_status.result c.in-Some.status c.requires.first c.taking_status.ensures c.in-Some.is

pub returns-in_ok-head-in-None-clause-takes : goal.returns-in_ok-head-in-None-clause-takes
returns-in_ok-head-in-None-clause-takes g c = take-done _ _ _ c.args.caller.now c.args.directory c.args.hit.now c.args.name.now c.args.size c.args.now c.taking_status.result _ c.taken_made.result c.taking_status.ensures c.in-None.is c.in_ok-head-in-None.ensures.sizes c.taken_made.ensures

pub returns-in-Some-clause-few : goal.returns-in-Some-clause-few
returns-in-Some-clause-few g c = none-few _ 3 c.requires.first
