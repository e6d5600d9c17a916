use Rattle.std.proofs.Common.{[], ◌∷◌}
use Rattle.journal_inode.specs.declared.node.Node.TheVariants.{File}
use Rattle.journal_inode.specs.Nodes.{inode_bytes}
use Rattle.journal_inode.specs.Places.Object.{inode}
use Rattle.journal_filestore.proofs.Doings.{OnOk-like}
use Rattle.journal_filestore.proofs.Lasting.{WritesEach-append, WritesEach-one}
use Rattle.journal_filestore.proofs.blocks.write_file.Goals as goal

pub returns-clause-writes : goal.returns-clause-writes
returns-clause-writes g c =
    OnOk-like c.write_node.result _ _
    (λ wrote.
    WritesEach-append _ _ _ _ _ _ c.in_ok-write_bits.ensures.writes
    (WritesEach-append _ _ _ _ _ ((inode c.args.number, inode_bytes (File c.args.file)) ∷ []) c.in_ok-write_blocks.ensures.writes (WritesEach-one _ _ _ (inode c.args.number) (inode_bytes (File c.args.file)) wrote)))
    c.write_node.ensures.writes
