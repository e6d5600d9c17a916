use Rattle.std.proofs.Common.{arith}
use Rattle.journal_history.proofs.Moves.{makes_as}
use Rattle.journal_history.proofs.count_steps.make.Goals as goal

pub split_pass-requires : goal.split_pass-requires
split_pass-requires c = (omega arith, (omega arith, (c.requires.cell, makes_as _ _ c.requires.keeper)))
