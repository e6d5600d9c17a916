use Rattle.std.proofs.Common.{◌≡◌, length}
use Rattle.journal_treecalls.specs.Changes.{AreInside, changed_block}
use Rattle.journal_treecalls.proofs.changes.changed_block.Given as goal

-- those that are left make the rest of the changes
abbrev pub invariant-loop-change : goal.invariant-loop-change
invariant-loop-change l = (changed_block l.rest l.number l.changed ≡ changed_block l.changes l.number l.fn.block) × (length l.changed ≡ 4096) × AreInside l.rest

abbrev pub decreases-loop-change : goal.decreases-loop-change
decreases-loop-change l = length l.rest
