use Rattle.std.proofs.Common.{rules, refl, arith, ◌≡◌}
use Rattle.journal_block.proofs.block.Block.as_mut_bytes.Goals as goal

pub returns : goal.returns
returns c =
    let size : c.self.inside.bytes.len ≡ 4096 = omega arith in
    ((refl, λ left. rw (size, c.self.view_is) refl), search rules)
