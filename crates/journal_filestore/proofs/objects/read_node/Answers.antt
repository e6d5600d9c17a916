use Rattle.std.proofs.Common.{length, sym, ap, ◌∙◌}
use Rattle.journal_inode.specs.Places.Object.{inode}
use Rattle.journal_inode.specs.Nodes.{node_of}
use Rattle.journal_filestore.proofs.Fitting.{inode_whole}
use Rattle.journal_filestore.proofs.Doings.{Tells-object, Tells-like}
use Rattle.journal_filestore.proofs.objects.read_node.Goals as goal

pub read-node-requires : goal.read-node-requires
read-node-requires g c = ap length c.bytes.ensures ∙ inode_whole _ c.requires.cut c.args.number _ _ c.inode_addr.ensures c.requires.number c.in_ok-value.ensures.object

pub returns-clause-told : goal.returns-clause-told
returns-clause-told g c =
    Tells-like _ _ _ _ _ (λ m sound is. ap node_of (is ∙ sym c.bytes.ensures) ∙ sym c.read-node.ensures.read)
    (Tells-object _ _ _ (inode c.args.number) _ _ c.inode_addr.ensures c.requires.writes c.requires.unread c.in_ok-value.ensures.reads)
