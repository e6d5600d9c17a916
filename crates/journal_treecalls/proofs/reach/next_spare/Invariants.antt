use Rattle.std.proofs.Common.{◌≡◌, ◌≤◌, []}
use Rattle.journal_treestore.specs.Views.{View}
use Rattle.journal_treecalls.proofs.reach.next_spare.Given as goal

-- those before this one are none to be had
abbrev pub invariant-loop-at : goal.invariant-loop-at
invariant-loop-at g l = record {
  first : g.T.TreeDisk.writes l.disk ≡ [];
  same : (V : View) → g.T.TreeDisk.may_be l.disk V → g.T.TreeDisk.may_be l.fn.disk V;
  low : l.from ≤ l.at;
}
