use Rattle.journal_treestore.proofs.Leveling.{IsNoneUpTo}
use Rattle.journal_treestore.proofs.level.is_block_for.Given as goal

-- none of the levels that were looked at has it for the tag
abbrev pub invariant-loop-level : goal.invariant-loop-level
invariant-loop-level l = IsNoneUpTo l.tag l.block l.level
