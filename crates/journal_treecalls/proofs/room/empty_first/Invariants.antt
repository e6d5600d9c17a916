use Rattle.std.proofs.Common.{◌≡◌, []}
use Rattle.journal_treestore.specs.Views.{View}
use Rattle.journal_treecalls.proofs.room.empty_first.Given as goal

abbrev pub invariant-loop-j : goal.invariant-loop-j
invariant-loop-j g l = record { first : g.T.TreeDisk.writes l.disk ≡ []; same : (V : View) → g.T.TreeDisk.may_be l.disk V → g.T.TreeDisk.may_be l.fn.disk V }
