use Rattle.journal_treecalls.proofs.Learned.{IfOk-like}
use Rattle.journal_treecalls.proofs.Made.{made-there, made-missing}
use Rattle.journal_treecalls.proofs.Learning.{none-few}
use Rattle.journal_treecalls.proofs.creation.make_found.Goals as goal

pub returns-in-None-clause-makes : goal.returns-in-None-clause-makes
returns-in-None-clause-makes g c = IfOk-like c.make_planned.result _ _ (λ reply k. made-missing _ _ _ c.args.number c.args.found.now c.args.name.now c.args.plan.now c.args.now reply c.in-None.is k) c.make_planned.ensures.makes

pub returns-in-Some-clause-makes : goal.returns-in-Some-clause-makes
returns-in-Some-clause-makes g c = made-there _ _ c.args.number c.args.found.now c.args.name.now c.args.plan.now c.args.now _ c.requires.first c.in-Some.is

pub returns-in-Some-clause-few : goal.returns-in-Some-clause-few
returns-in-Some-clause-few g c = none-few _ 8 c.requires.first
