use Rattle.journal_mount3.proofs.Denying.{denied_short}
use Rattle.journal_mount3.proofs.reader.deny.Goals as goal

pub write_reply-requires : goal.write_reply-requires
write_reply-requires c = λ x is. denied_short
