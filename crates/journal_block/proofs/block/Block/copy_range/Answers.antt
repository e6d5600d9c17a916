use Rattle.std.proofs.Common.{rules, ◌≡◌, ap, arith, length}
use Rattle.journal_block.proofs.Pieces.{written-with_bytes, before-with_bytes, after-with_bytes}
use Rattle.journal_block.proofs.block.Block.copy_range.Goals as goal

pub returns-clause-contents : goal.returns-clause-contents
returns-clause-contents c =
    let old : c.deref_mut.result.now ≡ c.args.self.now = search rules in
    rw old (written-with_bytes c.args.self.now c.args.bytes.now c.args.at (search rules) _ _ _ _ (search rules) (omega arith) (omega (arith, ap length old)))

pub returns-clause-before : goal.returns-clause-before
returns-clause-before c j k ends =
    rw (returns-clause-contents c) (before-with_bytes c.args.self.now c.args.bytes.now c.args.at (search rules) j k ends)

pub returns-clause-after : goal.returns-clause-after
returns-clause-after c j k starts =
    rw (returns-clause-contents c) (after-with_bytes c.args.self.now c.args.bytes.now c.args.at (search rules) j k starts)
