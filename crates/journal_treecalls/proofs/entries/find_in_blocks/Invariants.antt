use Rattle.std.proofs.Common.{◌≡◌, []}
use Rattle.journal_treecalls.specs.Disks.{Learns}
use Rattle.journal_treecalls.specs.Directories.{HasNoneInBlocks}
use Rattle.journal_treecalls.proofs.entries.find_in_blocks.Given as goal

-- no block before this one has an entry
abbrev pub invariant-loop-j : goal.invariant-loop-j
invariant-loop-j g l = record {
  first : g.T.TreeDisk.writes l.disk ≡ [];
  learns : Learns (g.T.TreeDisk.may_be l.fn.disk) (g.T.TreeDisk.may_be l.disk) (λ V. HasNoneInBlocks V l.numbers l.j);
}
