use Rattle.journal_twophase.proofs.txn.release_all.Given as goal

abbrev pub decreases-loop-last : goal.decreases-loop-last
decreases-loop-last g l = goal.left-loop-last g l
