use Rattle.journal_treecalls.proofs.Learned.{IfOk-like, lookup-err, lookup-ok}
use Rattle.journal_treecalls.proofs.lookups.lookup.Goals as goal

pub returns-in-Ok-clause-does : goal.returns-in-Ok-clause-does
returns-in-Ok-clause-does g c = IfOk-like c.lookup_in.result _ _ (λ reply k now. lookup-ok _ _ _ (g.T.TreeDisk.are_sound c.lookup_in.new.disk) _ c.lookup_in.ensures.first c.args.directory c.args.name.now c.args.caller.now now _ c.in_ok-target.ensures.learns c.in-Ok.target reply c.in-Ok.is k) c.lookup_in.ensures.learns

pub returns-in-Err-clause-does : goal.returns-in-Err-clause-does
returns-in-Err-clause-does g c = λ now. lookup-err _ _ _ (g.T.TreeDisk.are_sound c.searched.new.disk) _ c.in_ok-target.ensures.first c.args.directory c.args.name.now c.args.caller.now now _ c.in_ok-target.ensures.learns c.in-Err.status c.in-Err.is (λ V m. m)
