use Rattle.std.proofs.Common.{arith, ◌∙◌}
use Rattle.journal_history.proofs.Moves.{joins_as, verifies_as}
use Rattle.journal_history.proofs.count_steps.join.Goals as goal

pub join_pass-requires : goal.join_pass-requires
join_pass-requires g c = (omega arith, (omega arith, (c.requires.cell, joins_as _ _ _ _ c.requires.keeper c.requires.token)))

pub load_as-requires : goal.load_as-requires
load_as-requires g c = (omega arith, (omega arith, (c.join_pass.ensures.0.0 ∙ c.requires.cell.0, verifies_as _ _ _ _ _ c.join_pass.ensures.1)))
