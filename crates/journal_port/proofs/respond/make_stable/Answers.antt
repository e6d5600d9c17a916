use Rattle.std.proofs.Common.{◌∙◌}
use Rattle.journal_port.proofs.Flushing.{IsFlushed-noted}
use Rattle.journal_port.proofs.respond.make_stable.Goals as goal

pub returns-clause-stable : goal.returns-clause-stable
returns-clause-stable g c =
    IsFlushed-noted c.args.session.now c.observe.new.self c.flush.new.session c.in_ok-note.note _ c.observe.ensures c.flush.ensures.session c.in_ok-note.ensures.stable (c.get.ensures ∙ c.count.ensures.count)
