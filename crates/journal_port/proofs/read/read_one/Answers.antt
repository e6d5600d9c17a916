use Rattle.journal_port.proofs.Reading.{read_keeps}
use Rattle.journal_port.proofs.read.read_one.Goals as goal

pub returns-clause-kept : goal.returns-clause-kept
returns-clause-kept g c = read_keeps g.J.Naming.layout c.read.result c.args.txn.now _ c.args.addr c.requires.writes c.read.ensures.reads c.read.ensures.kept c.read.ensures.agrees
