use Rattle.std.proofs.Common.{◌≡◌, ◌-◌, take}
use Rattle.journal_memlog.specs.Logs.{tail_of}
use Rattle.journal_tail.proofs.tail.Tail.copy_tail.Given as goal

-- the updates before the position are copied
abbrev pub invariant-loop-position : goal.invariant-loop-position
invariant-loop-position l = l.group.items ≡ take (l.position - l.self-inside.memory.cut) (tail_of l.self-inside.memory)
