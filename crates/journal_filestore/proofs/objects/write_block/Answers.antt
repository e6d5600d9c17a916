use Rattle.journal_filestore.proofs.Fitting.{block_fits}
use Rattle.journal_filestore.proofs.objects.write_block.Goals as goal

pub overwrite-requires : goal.overwrite-requires
overwrite-requires g c = record { kind = block_fits _ c.requires.cut c.args.number _ c.args.bytes.now c.block_addr.ensures c.if-number-lt-FIRST_DATA.false c.requires.whole c.type_inv.bytes }
