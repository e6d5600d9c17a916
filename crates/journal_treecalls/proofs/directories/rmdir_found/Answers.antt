use Rattle.journal_treecalls.proofs.Learned.{IfOk-like}
use Rattle.journal_treecalls.proofs.Cleared.{rmdir-gone, rmdir-there}
use Rattle.journal_treecalls.proofs.Learning.{none-few}
use Rattle.journal_treecalls.proofs.directories.rmdir_found.Goals as goal

pub returns-in-None-clause-removes : goal.returns-in-None-clause-removes
returns-in-None-clause-removes g c = rmdir-gone _ _ c.args.caller.now c.args.number c.args.found.now c.args.now c.requires.first c.in-None.is

pub returns-in-Some-clause-removes : goal.returns-in-Some-clause-removes
returns-in-Some-clause-removes g c = IfOk-like c.rmdir_hit.result _ _ (λ reply k. rmdir-there _ _ _ c.args.caller.now c.args.number c.args.found.now c.in-Some.hit c.args.now reply c.in-Some.is k) c.rmdir_hit.ensures.removes

pub returns-in-None-clause-few : goal.returns-in-None-clause-few
returns-in-None-clause-few g c = none-few _ 4 c.requires.first
