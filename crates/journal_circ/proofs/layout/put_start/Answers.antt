use Rattle.std.proofs.Common.{ap, ◌∙◌}
use Rattle.journal_circ.specs.Log.{label_of}
use Rattle.journal_circ.proofs.Bytes.{start_put, label_stays}
use Rattle.journal_circ.proofs.layout.put_start.Goals as goal

pub returns-clause-contents : goal.returns-clause-contents
returns-clause-contents c = c.put_u64.ensures.contents ∙ start_put c.args.block.now c.args.start

pub returns-clause-label : goal.returns-clause-label
returns-clause-label c = ap label_of (returns-clause-contents c) ∙ label_stays c.args.block.now c.args.start
