use Rattle.journal_treecalls.proofs.Lining.{node-line}
use Rattle.journal_treecalls.proofs.walk.line_of.Goals as goal

pub returns : goal.returns
returns c = node-line c.named_line.result _ c.args.number c.args.name.now c.args.head.now c.told.result c.told.ensures c.named_line.ensures
