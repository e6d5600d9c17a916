use Rattle.journal_treeobjects.proofs.ObjectKinds.{bytes-object}
use Rattle.journal_treeobjects.proofs.tree_transaction.overwrite.Goals as goal

pub overwrite-requires : goal.overwrite-requires
overwrite-requires g c = record { object = bytes-object _ c.args.addr c.args.bytes.now c.requires c.type_inv.bytes }
