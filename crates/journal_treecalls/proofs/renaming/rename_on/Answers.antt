use Rattle.std.proofs.Common.{sym, ◌∙◌}
use Rattle.journal_treecalls.proofs.Learned.{IfOk-like}
use Rattle.journal_treecalls.proofs.Renames.{new-short, on-refused, on-named}
use Rattle.journal_treecalls.proofs.Learning.{none-few}
use Rattle.journal_treecalls.proofs.renaming.rename_on.Goals as goal

pub returns-in-Some-clause-renames : goal.returns-in-Some-clause-renames
returns-in-Some-clause-renames g c = on-refused _ _ (g.T.TreeDisk.are_sound c.args.disk.now) _ c.args.caller.now c.args.way.now c.args.name.now c.args.new_name.now c.args.now c.names_status.result c.in-Some.status (λ V m. m) c.requires.first c.names_status.ensures c.in-Some.is

pub returns-in-None-clause-renames : goal.returns-in-None-clause-renames
returns-in-None-clause-renames g c = IfOk-like c.rename_named.result _ _ (λ reply k. on-named _ _ (g.T.TreeDisk.are_sound c.rename_named.new.disk) _ c.args.caller.now c.args.way.now c.args.name.now c.args.new_name.now c.args.now c.names_status.result reply c.names_status.ensures c.in-None.is k) c.rename_named.ensures.renames

pub rename_named-requires-clause-short : goal.rename_named-requires-clause-short
rename_named-requires-clause-short g c = new-short c.args.name.now c.args.new_name.now (sym c.names_status.ensures ∙ c.in-None.is)

pub returns-in-Some-clause-few : goal.returns-in-Some-clause-few
returns-in-Some-clause-few g c = none-few _ 11 c.requires.first
