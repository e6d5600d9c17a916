use Rattle.journal_treecalls.proofs.Learned.{IfOk-like}
use Rattle.journal_treecalls.proofs.Cleared.{dir-kept, dir-tried}
use Rattle.journal_treecalls.proofs.Learning.{none-few}
use Rattle.journal_treecalls.proofs.directories.rmdir_hit.Goals as goal

pub returns-in-Some-clause-removes : goal.returns-in-Some-clause-removes
returns-in-Some-clause-removes g c = dir-kept _ _ c.args.caller.now c.args.number c.args.directory.now c.args.hit.now c.args.now c.rmdir_status.result c.in-Some.status c.requires.first c.rmdir_status.ensures c.in-Some.is

pub returns-in-None-clause-removes : goal.returns-in-None-clause-removes
returns-in-None-clause-removes g c = IfOk-like c.rmdir_bare.result _ _ (λ reply k. dir-tried _ _ _ c.args.caller.now c.args.number c.args.directory.now c.args.hit.now c.args.now c.rmdir_status.result reply c.rmdir_status.ensures c.in-None.is k) c.rmdir_bare.ensures.removes

pub returns-in-Some-clause-few : goal.returns-in-Some-clause-few
returns-in-Some-clause-few g c = none-few _ 4 c.requires.first
