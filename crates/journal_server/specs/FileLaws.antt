-- The replies of a protocol over files, as those of a protocol.
use Rattle.journal_nfs3.specs.Served.{marked}
use Rattle.journal_protocol.specs.Protocols.{IsLawful, IsRefusable}
use Rattle.journal_server.specs.FileProtocols.{FileAnswering, IsFileLawful, service_by, replaced_by}

pub told_lawful : (answers : FileAnswering) → IsFileLawful answers → IsLawful (service_by answers)
told_lawful answers laws = record {
  grows = λ history now call old new text. laws.grows (marked history) now call old new text;
  stays = laws.stays;
  done = λ history now call old new text is. is;
}

pub replaced_refusable : (answers : FileAnswering) → IsFileLawful answers → IsRefusable (replaced_by answers)
replaced_refusable answers laws = λ call. laws.refusable call.xid call.procedure
