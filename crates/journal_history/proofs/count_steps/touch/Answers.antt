use Rattle.std.proofs.Common.{arith}
use Rattle.journal_history.proofs.Moves.{touches_as}
use Rattle.journal_history.proofs.count_steps.touch.Goals as goal

pub load_as-requires : goal.load_as-requires
load_as-requires g c = (omega arith, (omega arith, (c.requires.cell, touches_as _ _ c.requires.holder c.requires.number)))
