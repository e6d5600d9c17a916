use Rattle.std.proofs.Common.{sym, ◌∙◌, arith}
use Rattle.std.proofs.lemmas.Bool.Decides.{nat_tests}
use Rattle.journal_command.proofs.LineEnds.{shows_whole, shows_part}
use Rattle.journal_command.proofs.line.first_piece.Goals as goal

pub returns-in-Some : goal.returns-in-Some
returns-in-Some c = shows_whole _ _ (sym c.first_break.ensures ∙ c.in-Some.is)

pub returns-in-None-2 : goal.returns-in-None-2
returns-in-None-2 c = shows_part _ (sym c.first_break.ensures ∙ c.in-None.is) (grind (arith, nat_tests))
