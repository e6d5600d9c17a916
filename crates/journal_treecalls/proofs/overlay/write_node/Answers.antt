use Rattle.journal_treecalls.proofs.Learned.{IfOk-like}
use Rattle.journal_treecalls.proofs.Writes.{fits-within, writing-kept, writing-done}
use Rattle.journal_treecalls.proofs.Learning.{none-few}
use Rattle.journal_treecalls.proofs.overlay.write_node.Goals as goal

pub write_allowed-requires-clause-fits : goal.write_allowed-requires-clause-fits
write_allowed-requires-clause-fits g c = fits-within c.args.caller.now c.args.target.now.head c.args.data.now.offset c.args.data.now.count _ c.writing_status.result c.writing_status.ensures c.in-None.is

pub returns-in-Some-clause-writes : goal.returns-in-Some-clause-writes
returns-in-Some-clause-writes g c = writing-kept _ _ c.args.caller.now c.args.data.now.offset c.args.data.now.count c.args.data.now.bytes.now c.args.now c.args.number c.args.target.now c.writing_status.result c.in-Some.status c.requires.first c.writing_status.ensures c.in-Some.is

pub returns-in-None-clause-writes : goal.returns-in-None-clause-writes
returns-in-None-clause-writes g c = IfOk-like c.write_allowed.result _ _ (λ reply k. writing-done _ _ _ c.args.caller.now c.args.data.now.offset c.args.data.now.count c.args.data.now.bytes.now c.args.now c.args.number c.args.target.now c.writing_status.result reply c.writing_status.ensures c.in-None.is k) c.write_allowed.ensures.writes

pub returns-in-Some-clause-few : goal.returns-in-Some-clause-few
returns-in-Some-clause-few g c = none-few _ _ c.requires.first
