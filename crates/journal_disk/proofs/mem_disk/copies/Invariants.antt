use Rattle.std.proofs.Common.{◌≡◌, take}
use Rattle.journal_disk.proofs.mem_disk.copies.Given as goal

abbrev pub invariant-loop-block : goal.invariant-loop-block
invariant-loop-block g l = l.all.items ≡ take l.block-index l.blocks
