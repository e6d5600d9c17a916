use Rattle.std.proofs.Common.{◌≡◌, replicate}
use Rattle.journal_world.specs.Addresses.{zeros_of}
use Rattle.journal_world.specs.declared.address.Kind.TheVariants.{Block}
use Rattle.journal_disk.proofs.mem_disk.zero_blocks.Given as goal

abbrev pub invariant-loop-i : goal.invariant-loop-i
invariant-loop-i g l = l.all.items ≡ replicate l._i (zeros_of Block)
