use Rattle.std.proofs.Common.{◌≡◌}
use Rattle.journal_treeobjects.proofs.Waiting.{IsWrittenTo}
use Rattle.journal_treeobjects.proofs.tree_transaction.overwrite_all.Given as goal

-- the writes before this one have been overwritten
abbrev pub invariant-loop-write : goal.invariant-loop-write
invariant-loop-write g l =
    IsWrittenTo l.cut l.waiting l.write-index (g.T.ObjectTransaction.writes l.transaction)
    × (g.T.ObjectTransaction.reads l.transaction ≡ g.T.ObjectTransaction.reads l.fn.transaction)
    × (g.T.ObjectTransaction.layout l.transaction ≡ g.T.ObjectTransaction.layout l.fn.transaction)
