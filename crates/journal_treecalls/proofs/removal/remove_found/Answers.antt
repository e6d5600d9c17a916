use Rattle.journal_treecalls.proofs.Learned.{IfOk-like}
use Rattle.journal_treecalls.proofs.Learning.{none-few}
use Rattle.journal_treecalls.proofs.Removed.{removes-missed, removes-hit}
use Rattle.journal_treecalls.proofs.removal.remove_found.Goals as goal

pub returns-in-None-clause-removes : goal.returns-in-None-clause-removes
returns-in-None-clause-removes g c = removes-missed _ _ _ c.args.caller.now c.args.number c.args.found.now c.args.now (λ V m. m) c.requires.first c.in-None.is

pub returns-in-Some-clause-removes : goal.returns-in-Some-clause-removes
returns-in-Some-clause-removes g c = IfOk-like c.remove_hit.result _ _ (λ reply k. removes-hit _ _ _ c.args.caller.now c.args.number c.args.found.now c.in-Some.hit c.args.now reply c.in-Some.is k) c.remove_hit.ensures.removes

pub returns-in-None-clause-few : goal.returns-in-None-clause-few
returns-in-None-clause-few g c = none-few _ 4 c.requires.first
