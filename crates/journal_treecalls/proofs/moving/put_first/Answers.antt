use Rattle.journal_treecalls.proofs.Learned.{IfOk-like}
use Rattle.journal_treecalls.proofs.Going.{first-put}
use Rattle.journal_treecalls.proofs.moving.put_first.Goals as goal

pub returns-clause-puts : goal.returns-clause-puts
returns-clause-puts g c = IfOk-like c.put_growth.result _ _ (λ _ k. first-put _ _ _ _ c.args.number c.args.growth.now c.args.entry _ _ _ c.in_ok-zeros.ensures.zeros c.put_entry-block.ensures.written c.bytes.ensures k) c.put_growth.ensures.lays
