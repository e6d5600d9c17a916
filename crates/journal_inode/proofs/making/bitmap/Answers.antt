use Rattle.std.proofs.Common.{◌-◌, sym, ap, ◌∙◌}
use Rattle.journal_block.specs.Block.{Bytes, bit_of}
use Rattle.journal_inode.proofs.Zeros.{zero_bit, none_between}
use Rattle.journal_inode.proofs.making.bitmap.Goals as goal

pub loop-i-init : goal.loop-i-init
loop-i-init c = λ k low.
    ap (λ (b : Bytes). bit_of b k) c.in_ok-block.ensures.contents ∙ zero_bit k ∙ sym (none_between (c.args.blocks - 531) k)
