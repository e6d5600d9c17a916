use Rattle.std.proofs.Common.{[], ap, ◌∙◌}
use Rattle.journal_world.specs.declared.address.Kind.TheVariants.{Block}
use Rattle.journal_world.specs.Addresses.{zeros_of}
use Rattle.journal_block.specs.Block.{Bytes, with_bytes}
use Rattle.journal_treestore.specs.declared.inode.Head.{Head}
use Rattle.journal_treestore.specs.declared.inode.Inode.TheVariants.{Used}
use Rattle.journal_treestore.specs.Inodes.{inode_bytes}
use Rattle.journal_treeform.proofs.Roots.{root-block-is}
use Rattle.journal_treeform.proofs.new_tree.NewTree.inodes.Goals as goal

pub returns-clause-content : goal.returns-clause-content
returns-clause-content g c =
    c.copy_range.ensures.contents
    ∙ ap (λ (b : Bytes). with_bytes b 512 c.bytes.result) c.in_ok-block.ensures.contents
    ∙ ap (with_bytes (zeros_of Block) 512) (c.bytes.ensures.written ∙ ap (λ (h : Head). inode_bytes (Used h) []) c.root.ensures)
    ∙ root-block-is c.args.self.now
