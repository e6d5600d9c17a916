use Rattle.std.proofs.Common.{refl}
use Rattle.journal_treecalls.proofs.Lining.{line-named}
use Rattle.journal_treecalls.proofs.lines.named_line.Goals as goal

pub returns : goal.returns
returns c = line-named c.args.cookie c.args.number c.args.name.now c.args.generation c.args.node _ _ c.put.ensures refl
