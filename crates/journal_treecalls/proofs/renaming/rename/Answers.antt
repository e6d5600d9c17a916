use Rattle.journal_treecalls.proofs.Learned.{IfOk-like}
use Rattle.journal_treecalls.proofs.Renames.{rename-err, rename-ok}
use Rattle.journal_treecalls.proofs.Learning.{none-few}
use Rattle.journal_treecalls.proofs.renaming.rename.Goals as goal

pub returns-in-Ok-clause-does : goal.returns-in-Ok-clause-does
returns-in-Ok-clause-does g c = IfOk-like c.rename_on.result _ _ (λ reply k. rename-ok _ _ _ (g.T.TreeDisk.are_sound c.rename_on.new.disk) _ c.args.source.now.directory c.args.goal.now.directory c.args.caller.now c.args.source.now.name.now c.args.goal.now.name.now c.args.now _ c.in_ok-way.ensures.learns
    c.are_words.ensures c.requires.time c.in-Ok.way reply c.in-Ok.is k) c.rename_on.ensures.renames

pub returns-in-Err-clause-does : goal.returns-in-Err-clause-does
returns-in-Err-clause-does g c = rename-err _ _ _ (g.T.TreeDisk.are_sound c.find_way.new.disk) _ c.args.source.now.directory c.args.goal.now.directory c.args.caller.now c.args.source.now.name.now c.args.goal.now.name.now c.args.now _ c.in_ok-way.ensures.learns c.in-Err.status c.in_ok-way.ensures.first c.in-Err.is (λ V m. m)

pub returns-in-Err-clause-few : goal.returns-in-Err-clause-few
returns-in-Err-clause-few g c = none-few _ 11 c.in_ok-way.ensures.first
