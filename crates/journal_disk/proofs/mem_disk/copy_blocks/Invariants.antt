use Rattle.std.proofs.Common.{get_or, []}
use Rattle.journal_disk.proofs.Fillings.{Fills}
use Rattle.journal_disk.proofs.mem_disk.copy_blocks.Given as goal

abbrev pub invariant-loop-block : goal.invariant-loop-block
invariant-loop-block l = Fills (λ b. get_or l.from b []) l.initial.blocks.items l.block l.blocks.items
