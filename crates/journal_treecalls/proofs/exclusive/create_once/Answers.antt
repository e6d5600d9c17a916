use Rattle.journal_treecalls.proofs.Learned.{IfOk-like}
use Rattle.journal_treecalls.proofs.Retelling.{once-there, once-missing}
use Rattle.journal_treecalls.proofs.Learning.{none-few}
use Rattle.journal_treecalls.proofs.exclusive.create_once.Goals as goal

pub returns-in-None-clause-creates : goal.returns-in-None-clause-creates
returns-in-None-clause-creates g c = IfOk-like c.make_planned.result _ _ (λ reply k. once-missing _ _ _ c.args.wanted.now.directory c.args.found.now c.args.name.now c.args.wanted.now.plan c.args.wanted.now.verifier c.args.now reply c.in-None.is k) c.make_planned.ensures.makes

pub returns-in-Some-clause-creates : goal.returns-in-Some-clause-creates
returns-in-Some-clause-creates g c = once-there _ _ _ c.args.wanted.now.directory c.args.found.now c.args.name.now c.args.wanted.now.plan c.args.wanted.now.verifier c.args.now c.in-Some.hit c.told-directory.result c.told_before.result c.requires.first c.in-Some.is c.told-directory.ensures c.told_before.ensures (λ V m. m)

pub returns-in-Some-clause-few : goal.returns-in-Some-clause-few
returns-in-Some-clause-few g c = none-few _ 8 c.requires.first
