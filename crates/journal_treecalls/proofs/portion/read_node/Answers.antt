use Rattle.journal_treecalls.proofs.Portioning.{node-kept, node-read}
use Rattle.journal_treecalls.proofs.portion.read_node.Goals as goal

pub returns-in-Some-clause-learns : goal.returns-in-Some-clause-learns
returns-in-Some-clause-learns g c = node-kept _ c.args.caller.now c.args.number c.args.target.now c.args.offset c.args.count c.reading_status.result c.in-Some.status c.reading_status.ensures c.in-Some.is

pub returns-in_ok-reply-in-None-clause-learns : goal.returns-in_ok-reply-in-None-clause-learns
returns-in_ok-reply-in-None-clause-learns g c = node-read _ _ c.args.caller.now c.args.number c.args.target.now c.args.offset c.args.count c.reading_status.result _ c.reading_status.ensures c.in-None.is c.in_ok-reply-in-None.ensures.learns
