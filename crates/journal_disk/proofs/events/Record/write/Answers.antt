use Rattle.std.proofs.Common.{length, ap, arith}
use Rattle.journal_disk.specs.Disks.{pending_in}
use Rattle.journal_disk.specs.Records.{Recorded}
use Rattle.journal_disk.proofs.Links.{pending_within}
use Rattle.journal_disk.proofs.events.Record.write.Goals as goal

pub overflow_add-entry : goal.overflow_add-entry
overflow_add-entry c = omega (arith, c.pending.ensures, pending_within c.self.inside.entries.items c.args.block, ap (λ (r : Recorded). length (pending_in r.events c.args.block)) c.self.view_is, c.self.inside.entries.ok, c.self.inside.entries.small)
