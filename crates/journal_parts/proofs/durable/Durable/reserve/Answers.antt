use Rattle.journal_parts.proofs.Enduring.{crashes_read}
use Rattle.journal_parts.proofs.CallsOfLogs.{reads_room}
use Rattle.journal_parts.proofs.durable.Durable.reserve.Goals as goal

pub returns-clause-crash : goal.returns-clause-crash
returns-clause-crash g c =
    crashes_read g.J.Naming.layout _ _ c.reserve_group.new.self c.self.invariant c.self.view_is
    (reads_room c.self.inside.objects.log c.reserve_group.new.self c.reserve_group.ensures.same)
