use Rattle.std.proofs.Common.{refl}
use Rattle.journal_mount3.specs.ReaderLaws.{reader_stands}
use Rattle.journal_mount3.proofs.Answering.{stands_so}
use Rattle.journal_mount3.proofs.reader.ExportedToReadFileProtocol.refused_reply.Goals as goal

pub returns-in-Ok : goal.returns-in-Ok
returns-in-Ok g c =
    let exported = c.args.self.now.exported in (
      _,
      c.in-Ok.ensures.text,
      reader_stands g.V.Version.VERSION exported.layout.blocks exported.verifier.0 c.args.xid c.args.procedure _
          (stands_so g.V.Version.VERSION exported.layout.blocks exported.verifier.0 c.args.xid c.args.procedure c.args.why.now _ refl),
    )
