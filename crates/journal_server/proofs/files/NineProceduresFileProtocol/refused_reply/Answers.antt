use Rattle.journal_server.specs.NineLaws.{nine_stands}
use Rattle.journal_server.proofs.files.NineProceduresFileProtocol.refused_reply.Goals as goal

pub returns-in-Ok : goal.returns-in-Ok
returns-in-Ok g c = (_, c.in-Ok.ensures.text, nine_stands g.V.Version.VERSION c.args.self.now.verifier.0 c.args.xid c.args.procedure _ c.in-Ok.ensures.takes_place)
