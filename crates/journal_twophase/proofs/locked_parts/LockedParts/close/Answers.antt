use Rattle.std.proofs.Common.{IsTrue, sym, subst}
use Rattle.journal_disk.specs.Disks.{DiskState}
use Rattle.journal_disk.specs.Images.{EveryImage}
use Rattle.journal_parts.specs.Cores.{Leaves}
use Rattle.journal_twophase.proofs.locked_parts.LockedParts.close.Goals as goal

pub returns-in-Ok-clause-images : goal.returns-in-Ok-clause-images
returns-in-Ok-clause-images g c =
    subst (λ (d : DiskState). IsTrue d.honest → EveryImage d.past (Leaves c.show_images.new.session.seen)) (sym c.into_disk.ensures.disk) c.in-Ok.ensures.images
