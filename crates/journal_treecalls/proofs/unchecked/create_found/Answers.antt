use Rattle.std.proofs.Common.{arith}
use Rattle.journal_treecalls.proofs.Learned.{IfOk-like}
use Rattle.journal_treecalls.proofs.Takeovers.{creates-there, creates-missing}
use Rattle.journal_treecalls.proofs.unchecked.create_found.Goals as goal

pub returns-in-None-clause-creates : goal.returns-in-None-clause-creates
returns-in-None-clause-creates g c = IfOk-like c.make_planned.result _ _ (λ reply k. creates-missing _ _ _ c.args.caller.now c.args.wanted.now.directory c.args.found.now c.args.name.now c.args.wanted.now.plan c.args.wanted.now.size c.args.now reply c.in-None.is k) c.make_planned.ensures.makes

pub returns-in-Some-clause-creates : goal.returns-in-Some-clause-creates
returns-in-Some-clause-creates g c = IfOk-like c.take_over.result _ _ (λ reply k. creates-there _ _ _ c.args.caller.now c.args.wanted.now.directory c.args.found.now c.args.name.now c.args.wanted.now.plan c.args.wanted.now.size c.args.now c.in-Some.hit c.told-directory.result reply c.in-Some.is c.told-directory.ensures k) c.take_over.ensures.takes

pub returns-in-Some-clause-few : goal.returns-in-Some-clause-few
returns-in-Some-clause-few g c = IfOk-like c.take_over.result _ _ (λ _ few. omega (arith, few)) c.take_over.ensures.few
