use Rattle.std.proofs.Common.{arith}
use Rattle.journal_history.proofs.Moves.{raises_as}
use Rattle.journal_history.proofs.count_steps.raise.Goals as goal

pub swap_as-requires : goal.swap_as-requires
swap_as-requires g c = (omega arith, (omega arith, (c.requires.cell, raises_as _ _ c.args.bound c.requires.keeper)))
