use Rattle.journal_treecalls.proofs.Learned.{IfOk-like}
use Rattle.journal_treecalls.proofs.Takeovers.{size-none, size-some}
use Rattle.journal_treecalls.proofs.Learning.{none-few}
use Rattle.journal_treecalls.proofs.unchecked.set_size.Goals as goal

pub returns-in-None-clause-sizes : goal.returns-in-None-clause-sizes
returns-in-None-clause-sizes g c = size-none _ _ c.args.caller.now c.args.hit.now c.args.name.now c.args.size c.args.now c.requires.first c.in-None.is

pub returns-in-Some-clause-sizes : goal.returns-in-Some-clause-sizes
returns-in-Some-clause-sizes g c = IfOk-like c.set_some_size.result _ _ (λ head k. size-some _ _ _ c.args.caller.now c.args.hit.now c.args.name.now c.args.size c.args.now c.in-Some._bytes head c.in-Some.is k) c.set_some_size.ensures.sizes

pub returns-in-None-clause-few : goal.returns-in-None-clause-few
returns-in-None-clause-few g c = none-few _ 3 c.requires.first
