use Rattle.journal_treecalls.proofs.Learned.{IfOk-like}
use Rattle.journal_treecalls.proofs.Cleared.{rmdir-err, rmdir-ok}
use Rattle.journal_treecalls.proofs.Learning.{none-few}
use Rattle.journal_treecalls.proofs.directories.rmdir.Goals as goal

pub returns-in-Ok-clause-does : goal.returns-in-Ok-clause-does
returns-in-Ok-clause-does g c = IfOk-like c.rmdir_found.result _ _ (λ reply k. rmdir-ok _ _ _ (g.T.TreeDisk.are_sound c.rmdir_found.new.disk) _ c.args.directory c.args.name.now c.args.caller.now c.args.now _ c.in_ok-found.ensures.learns c.in-Ok.found c.in-Ok.is c.are_words.ensures c.requires.time reply k) c.rmdir_found.ensures.removes

pub returns-in-Err-clause-does : goal.returns-in-Err-clause-does
returns-in-Err-clause-does g c = rmdir-err _ _ _ (g.T.TreeDisk.are_sound c.find_name.new.disk) _ c.args.directory c.args.name.now c.args.caller.now c.args.now _ c.in_ok-found.ensures.learns c.in-Err.status c.in_ok-found.ensures.first c.in-Err.is (λ V m. m)

pub returns-in-Err-clause-few : goal.returns-in-Err-clause-few
returns-in-Err-clause-few g c = none-few _ 4 c.in_ok-found.ensures.first
