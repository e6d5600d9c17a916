use Rattle.std.proofs.Common.{◌≡◌, []}
use Rattle.journal_treestore.specs.Views.{View}
use Rattle.journal_treecalls.proofs.room.empty_in_levels.Given as goal

abbrev pub invariant-loop-level : goal.invariant-loop-level
invariant-loop-level g l = record { first : g.T.TreeDisk.writes l.disk ≡ []; same : (V : View) → g.T.TreeDisk.may_be l.disk V → g.T.TreeDisk.may_be l.fn.disk V }
