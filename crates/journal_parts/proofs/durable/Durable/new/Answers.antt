use Rattle.journal_parts.proofs.Enduring.{kept_begun}
use Rattle.journal_parts.proofs.durable.Durable.new.Goals as goal

pub invariant_of-result : goal.invariant_of-result
invariant_of-result g c =
    rw (c.new.ensures, c.new-2.ensures, c.new-3.ensures)
    (kept_begun g.J.Naming.layout c.args.objects.log c.args.front c.requires.size c.requires.rest c.requires.begun c.requires.images)
