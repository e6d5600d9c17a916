use Rattle.std.proofs.Common.{rules, ◌+◌, ap, ◌∙◌}
use Rattle.journal_block.specs.Block.{u64_bytes, with_bytes}
use Rattle.journal_block.proofs.Pieces.{u64_at-bytes, u64_at-same}
use Rattle.journal_block.proofs.block.Block.put_u64.Goals as goal

pub returns-clause-contents : goal.returns-clause-contents
unfolding u64_bytes
returns-clause-contents c = c.copy_range.ensures.contents ∙ ap (with_bytes c.args.self.now c.args.at) c.write_u64.ensures

pub returns-clause-number : goal.returns-clause-number
unfolding u64_bytes
returns-clause-number c = u64_at-bytes _ c.args.at c.args.value (search rules) (rw c.write_u64.ensures at c.copy_range.ensures.range)

pub returns-clause-before : goal.returns-clause-before
returns-clause-before c k ends = u64_at-same _ _ k (c.copy_range.ensures.before k (k + 8) ends)

pub returns-clause-after : goal.returns-clause-after
returns-clause-after c k starts = u64_at-same _ _ k (c.copy_range.ensures.after k (k + 8) (rw c.write_u64.ensures starts))
