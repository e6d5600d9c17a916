use Rattle.std.proofs.Common.{◌≡◌, []}
use Rattle.journal_treecalls.specs.Disks.{Learns}
use Rattle.journal_treecalls.specs.Walks.{ShowsBlocks}
use Rattle.journal_treecalls.proofs.walk.show_blocks.Given as goal

-- the entries of the blocks before this one are on the page
abbrev pub invariant-loop-j : goal.invariant-loop-j
invariant-loop-j g l = record {
  first : g.T.TreeDisk.writes l.disk ≡ [];
  learns : Learns (g.T.TreeDisk.may_be l.fn.disk) (g.T.TreeDisk.may_be l.disk) (λ V. ShowsBlocks V l.begin l.numbers l.j l.fn.page l.page);
}
