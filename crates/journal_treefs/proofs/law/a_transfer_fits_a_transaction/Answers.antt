use Rattle.std.proofs.Common.{arith}
use Rattle.journal_treefs.proofs.law.a_transfer_fits_a_transaction.Goals as goal

pub returns : goal.returns
returns c = λ count few. omega (arith, few)
