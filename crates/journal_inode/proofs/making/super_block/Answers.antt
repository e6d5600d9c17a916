use Rattle.std.proofs.Common.{ap, ◌∙◌}
use Rattle.journal_world.specs.declared.address.Kind.TheVariants.{Block}
use Rattle.journal_world.specs.Addresses.{zeros_of}
use Rattle.journal_block.specs.Block.{Bytes, with_bytes}
use Rattle.journal_inode.proofs.Zeros.{zeros-superblock}
use Rattle.journal_inode.proofs.making.super_block.Goals as goal

pub returns-clause-bytes : goal.returns-clause-bytes
returns-clause-bytes c =
    c.copy_range.ensures.contents
    ∙ ap (λ (b : Bytes). with_bytes b 0 c.front.result) c.in_ok-block.ensures.contents
    ∙ ap (with_bytes (zeros_of Block) 0) c.front.ensures
    ∙ zeros-superblock c.args.version c.args.blocks
