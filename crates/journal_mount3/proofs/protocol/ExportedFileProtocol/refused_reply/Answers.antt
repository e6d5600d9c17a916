use Rattle.std.proofs.Common.{refl}
use Rattle.journal_mount3.proofs.Answering.{stands_so}
use Rattle.journal_mount3.proofs.protocol.ExportedFileProtocol.refused_reply.Goals as goal

pub returns-in-Ok : goal.returns-in-Ok
returns-in-Ok g c = (_, c.in-Ok.ensures.text, stands_so g.V.Version.VERSION c.args.self.now.layout.blocks c.args.self.now.verifier.0 c.args.xid c.args.procedure c.args.why.now _ refl)
