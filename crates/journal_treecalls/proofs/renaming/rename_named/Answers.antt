use Rattle.journal_treecalls.proofs.Renames.{named-ok}
use Rattle.journal_treecalls.proofs.Learning.{none-few}
use Rattle.journal_treecalls.proofs.renaming.rename_named.Goals as goal

pub returns-in_ok-renamed-in-Ok-clause-renames : goal.returns-in_ok-renamed-in-Ok-clause-renames
returns-in_ok-renamed-in-Ok-clause-renames g c = named-ok _ _ (g.T.TreeDisk.are_sound c.perform.new.disk) _ c.args.caller.now c.args.way.now c.args.name.now c.args.new_name.now c.args.now _ _ c.in-Ok.decision c.in_ok-renamed-in-Ok.renamed c.in_ok-decision.ensures.learns c.in-Ok.is c.in_ok-renamed-in-Ok.ensures.performs

pub returns-in-Err-clause-few : goal.returns-in-Err-clause-few
returns-in-Err-clause-few g c = none-few _ 11 c.in_ok-decision.ensures.first
