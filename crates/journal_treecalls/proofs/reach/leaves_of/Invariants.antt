use Rattle.std.proofs.Common.{◌≡◌, ◌*◌, [], length}
use Rattle.journal_treecalls.specs.Disks.{Learns}
use Rattle.journal_treecalls.specs.Reaches.{HasLeaves}
use Rattle.journal_treecalls.proofs.reach.leaves_of.Given as goal

-- the index blocks before this one were put
abbrev pub invariant-loop-i : goal.invariant-loop-i
invariant-loop-i g l = record {
  first : g.T.TreeDisk.writes l.disk ≡ [];
  long : length l.leaves.items ≡ 4096 * l.reach.leaves;
  learns : Learns (g.T.TreeDisk.may_be l.fn.disk) (g.T.TreeDisk.may_be l.disk) (λ V. HasLeaves V l.reach l.root l.i l.leaves.items);
}
