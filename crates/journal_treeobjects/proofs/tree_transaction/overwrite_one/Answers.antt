use Rattle.std.proofs.Common.{◌≡◌, rules, subst}
use Rattle.journal_treestore.specs.Places.{IsOnDisk, addr_of}
use Rattle.journal_treecalls.specs.Disks.Write.{inode_write, owner_write}
use Rattle.journal_treeobjects.specs.Effects.{object_of}
use Rattle.journal_treeobjects.specs.States.{write_of, IsSized}
use Rattle.journal_treeobjects.proofs.ObjectKinds.{bytes-at}
use Rattle.journal_treeobjects.proofs.tree_transaction.overwrite_one.Goals as goal

pub overwrite-requires : goal.overwrite-requires
overwrite-requires g c =
    let at : c.inode_addr.result ≡ addr_of c.args.cut.now (object_of (inode_write c.in-Inode.number c.in-Inode.bytes)) = search rules in
    bytes-at c.args.cut.now c.requires.cut _ _ (inode_write c.in-Inode.number c.in-Inode.bytes) c.requires.layout at
    (subst (λ w. IsOnDisk c.args.cut.now (object_of (write_of w))) c.in-Inode.is c.requires.on_disk) (subst (λ w. IsSized (write_of w)) c.in-Inode.is c.requires.sized)

pub overwrite-requires-in-Owner : goal.overwrite-requires-in-Owner
overwrite-requires-in-Owner g c =
    let at : c.owner_addr.result ≡ addr_of c.args.cut.now (object_of (owner_write c.in-Owner.block c.in-Owner.bytes)) = search rules in
    bytes-at c.args.cut.now c.requires.cut _ _ (owner_write c.in-Owner.block c.in-Owner.bytes) c.requires.layout at
    (subst (λ w. IsOnDisk c.args.cut.now (object_of (write_of w))) c.in-Owner.is c.requires.on_disk) (subst (λ w. IsSized (write_of w)) c.in-Owner.is c.requires.sized)
