use Rattle.journal_treecalls.proofs.Learned.{IfOk-like}
use Rattle.journal_treecalls.proofs.Putting.{puts-all}
use Rattle.journal_treecalls.proofs.changes.put_changes.Goals as goal

pub returns-clause-puts : goal.returns-clause-puts
returns-clause-puts g c = IfOk-like c.put_blocks.result _ _ (λ _ k. puts-all _ _ _ c.args.changes.now k) c.put_blocks.ensures.puts
