use Rattle.journal_filestore.proofs.Fitting.{inode_fits}
use Rattle.journal_filestore.proofs.objects.write_inode.Goals as goal

pub overwrite-requires : goal.overwrite-requires
overwrite-requires g c = record { kind = λ valid. inode_fits _ c.requires.cut c.args.number _ c.args.bytes.now c.inode_addr.ensures c.requires.number c.requires.whole c.type_inv.bytes }
