use Rattle.std.proofs.Common.{refl}
use Rattle.journal_treecalls.proofs.Learned.{IfOk-like}
use Rattle.journal_treecalls.proofs.Lining.{adds-none, adds-some}
use Rattle.journal_treecalls.proofs.lines.add.Goals as goal

pub returns-in-None : goal.returns-in-None
returns-in-None g c = adds-none c.args.page.now _ c.args.line c.left_after-left.result c.left_after-left.ensures c.in-None.is refl refl

pub returns-in-Some : goal.returns-in-Some
returns-in-Some g c = IfOk-like c.add_line.result _ _ (λ _ pushed. adds-some c.args.page.now _ c.args.line c.left_after-left.result c.in-Some._room c.left_after-left.ensures c.in-Some.is pushed refl) c.add_line.ensures
