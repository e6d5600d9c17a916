use Rattle.std.proofs.Common.{◌∙◌, ◌+◌, ◌-◌, ◌++◌, ap, subst, arith, length, take, min}
use Rattle.std.specs.Io.Buffered.{reader_remaining, reader_capacity, reader_buffer}
use Rattle.journal_command.specs.Lines.{LinesState, ShowsPiece, TakesPiece}
use Rattle.journal_command.proofs.LineEnds.{consumed, takes_piece}
use Rattle.journal_command.proofs.line.Lines.take_piece.Goals as goal

pub returns : goal.returns
returns g c =
    let left = reader_remaining g.I.Read.remaining in
    let input = c.fill.new.input in
    let now = c.consume.new.self in
    let n = c.first_piece-len.result.0 in
    let shown = reader_buffer input in
    let line = c.self.inside.line.items in
    let is = c.buffer-shown.ensures in
    let consumes = consumed (g.I.Read.remaining input.inner) (g.I.Read.remaining now.inner) (reader_capacity input) (reader_capacity now) (n + 1) shown (reader_buffer now)
    (ap g.I.Read.remaining c.consume.ensures.inner) c.consume.ensures.capacity c.consume.ensures.buffer in
    subst (λ (s : LinesState). TakesPiece s (record { left = left now; line = c.extend_from_slice.new.self.items }) c.first_piece-len.result.1) c.self.view_is
    (takes_piece c.first_piece-len.result.1 (left c.self.inside.input) (left input) (left now) shown line c.extend_from_slice.new.self.items n (20001 - c.len.result)
    c.fill.ensures.left (c.in_ok-fill.ensures.end) consumes (subst (λ l. ShowsPiece l n c.first_piece-len.result.1) is c.first_piece-len.ensures) (omega arith) (omega arith)
    (c.in_ok-extend_from_slice.ensures.items ∙ ap (λ l. line ++ take c.min.result (take n l)) is ∙ ap (λ k. line ++ take k (take n shown)) (c.min.ensures ∙ ap (λ l. min (20001 - c.len.result) (length (take n l))) is)))
