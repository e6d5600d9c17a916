use Rattle.std.proofs.Common.{IsTrue, subst}
use Rattle.journal_disk.specs.Images.{EveryImage}
use Rattle.journal_wal.specs.Wal.{WalState, MayStandFor}
use Rattle.journal_wal.proofs.wal.Wal.is_faulted.Goals as goal

pub returns-clause-images : goal.returns-clause-images
returns-clause-images g c =
    subst (λ (w : WalState). IsTrue w.ring.disk.honest → EveryImage w.ring.disk.past (MayStandFor w)) c.self.view_is c.self.invariant.images
