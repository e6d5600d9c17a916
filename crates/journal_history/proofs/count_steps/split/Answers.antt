use Rattle.std.proofs.Common.{arith}
use Rattle.journal_history.proofs.Moves.{splits_as}
use Rattle.journal_history.proofs.count_steps.split.Goals as goal

pub split_pass-requires : goal.split_pass-requires
split_pass-requires c = (omega arith, (omega arith, (c.requires.cell, splits_as _ _ c.requires.holder)))
