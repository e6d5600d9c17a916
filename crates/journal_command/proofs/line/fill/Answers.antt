use Rattle.std.proofs.Common.{length, subst, Some}
use Rattle.std.specs.Io.Buffered.{reader_remaining, reader_buffer}
use Rattle.std.specs.Io.BufRead.{FillKeeps}
use Rattle.journal_command.proofs.LineEnds.{end_from_shown}
use Rattle.journal_command.proofs.line.fill.Goals as goal

pub returns-in-Ok-clause-end : goal.returns-in-Ok-clause-end
returns-in-Ok-clause-end g c =
    let rested = c.fill_buf.follows.lender-at-none in
    let filled = subst (FillKeeps _ (reader_remaining g.I.Read.remaining rested) (Some (length (reader_buffer rested)))) c.in-Ok.is c.fill_buf.follows.holds-at-none in
    end_from_shown _ _ c.in-Ok.field-0.now _ c.loop.invariant c.in-Ok.ensures.end filled.1
