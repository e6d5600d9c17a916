use Rattle.journal_protocol.proofs.Serving.{pauses_at_once, gives_up}
use Rattle.journal_protocol.proofs.connection.serve_protocol.Goals as goal

pub returns-in_default-clause-given_up : goal.returns-in_default-clause-given_up
returns-in_default-clause-given_up g c = (g.P.Protocol.seen c.args.session.now, c.fence.ensures.extends, gives_up _ _ (g.met.P.Protocol.lawful c.args.answerer.now.protocol.now) _ _ _ _ _ _ _ (pauses_at_once _ _ _ _ _ 0))
