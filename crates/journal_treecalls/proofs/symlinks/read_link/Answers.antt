use Rattle.journal_treecalls.proofs.Linked.{link-refused, link-read}
use Rattle.journal_treecalls.proofs.symlinks.read_link.Goals as goal

pub returns-in-Directory : goal.returns-in-Directory
returns-in-Directory g c = record { learns = link-refused _ c.args.number c.args.target.now c.in-Directory.is; first = c.requires.first }

pub returns-in_ok-read-in-Link-clause-learns : goal.returns-in_ok-read-in-Link-clause-learns
returns-in_ok-read-in-Link-clause-learns g c = link-read _ _ c.args.number c.args.target.now _ c.in-Link.is c.in_ok-read-in-Link.ensures.learns
