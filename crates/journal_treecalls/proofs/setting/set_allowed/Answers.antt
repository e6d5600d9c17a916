use Rattle.std.proofs.Common.{sym, ◌∙◌}
use Rattle.journal_treecalls.proofs.Learned.{IfOk-like}
use Rattle.journal_treecalls.proofs.Learning.{none-few}
use Rattle.journal_treecalls.proofs.Setters.{allowed-stays, allowed-sets}
use Rattle.journal_treecalls.proofs.setting.set_allowed.Goals as goal

pub returns-then-asks_nothing-clause-sets : goal.returns-then-asks_nothing-clause-sets
returns-then-asks_nothing-clause-sets g c = allowed-stays _ _ c.args.caller.now c.args.settings.now c.args.now c.args.number c.args.target.now c.told-same.result c.requires.first (sym c.asks_nothing.ensures ∙ c.if-asks_nothing.true) c.told-same.ensures

pub returns-clause-sets : goal.returns-clause-sets
returns-clause-sets g c = IfOk-like c.put_head.result _ _ (λ changed k. allowed-sets _ _ _ c.args.caller.now c.args.settings.now c.args.now c.args.number c.args.target.now c.set_head-head.result changed (sym c.asks_nothing.ensures ∙ c.if-asks_nothing.false) c.set_head-head.ensures k) c.put_head.ensures.sets

pub returns-then-asks_nothing-clause-few : goal.returns-then-asks_nothing-clause-few
returns-then-asks_nothing-clause-few g c = none-few _ 3 c.requires.first
