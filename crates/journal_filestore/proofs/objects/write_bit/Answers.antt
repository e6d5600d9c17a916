use Rattle.std.proofs.Common.{rules}
use Rattle.journal_filestore.proofs.Fitting.{bit_fits}
use Rattle.journal_filestore.proofs.objects.write_bit.Goals as goal

pub overwrite-requires : goal.overwrite-requires
overwrite-requires g c = record { kind = λ valid. bit_fits _ c.requires.cut _ _ _ c.bit_addr.ensures (search rules) }
