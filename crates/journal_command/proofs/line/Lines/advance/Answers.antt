use Rattle.std.proofs.Common.{ap, subst, ◌∙◌, length}
use Rattle.std.specs.Prelude.{◌==◌}
use Rattle.journal_command.specs.Lines.{LinesState, TakesPiece}
use Rattle.journal_command.proofs.LineEnds.{none_taken, taken_more, taken_whole, taken_end}
use Rattle.journal_command.proofs.line.Lines.advance.Goals as goal

pub loop-init : goal.loop-init
loop-init g c = none_taken _ _ c.clear.ensures.items (ap (λ (l : LinesState). l.left) c.self.view_is)

pub returns-in-Whole : goal.returns-in-Whole
returns-in-Whole g c = taken_whole _ _ _ c.loop.invariant (subst (TakesPiece c.loop.self c.take_piece.new.self) c.in-Whole.is c.in_ok-take_piece.ensures)

pub returns-in-End : goal.returns-in-End
returns-in-End g c = taken_end _ _ _ c.is_empty.result c.loop.invariant (subst (TakesPiece c.loop.self c.take_piece.new.self) c.in-End.is c.in_ok-take_piece.ensures)
    (c.is_empty.ensures ∙ ap (λ n. n == 0) (c.self-in-loop.inside.line.ok.0 ∙ ap (λ (s : LinesState). length s.line) c.self-in-loop.view_is))

pub loop-preserved : goal.loop-preserved
loop-preserved g c = taken_more _ _ _ c.loop.invariant (subst (TakesPiece c.loop.self c.take_piece.new.self) c.in-Part.is c.in_ok-take_piece.ensures)
