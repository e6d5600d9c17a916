use Rattle.journal_treecalls.proofs.Learning.{none-few}
use Rattle.journal_treecalls.proofs.Setters.{node-kept, node-done}
use Rattle.journal_treecalls.proofs.setting.set_node.Goals as goal

pub returns-in-Some-clause-sets : goal.returns-in-Some-clause-sets
returns-in-Some-clause-sets g c = node-kept _ _ c.args.caller.now c.args.settings.now c.args.guard c.args.now c.args.number c.args.target.now c.setting_status.result c.in-Some.status c.requires.first c.setting_status.ensures c.in-Some.is

pub returns-in_ok-changed-in-None-clause-sets : goal.returns-in_ok-changed-in-None-clause-sets
returns-in_ok-changed-in-None-clause-sets g c = node-done _ _ _ c.args.caller.now c.args.settings.now c.args.guard c.args.now c.args.number c.args.target.now c.setting_status.result _ c.setting_status.ensures c.in-None.is c.in_ok-changed-in-None.ensures.sets

pub returns-in-Some-clause-few : goal.returns-in-Some-clause-few
returns-in-Some-clause-few g c = none-few _ 3 c.requires.first
