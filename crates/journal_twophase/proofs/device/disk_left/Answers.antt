use Rattle.std.proofs.Common.{List, sym, subst}
use Rattle.journal_world.specs.Histories.{Entry}
use Rattle.journal_disk.specs.Images.{EveryImage}
use Rattle.journal_parts.specs.Cores.{Leaves}
use Rattle.journal_twophase.proofs.device.disk_left.Goals as goal

pub returns-clause-images : goal.returns-clause-images
returns-clause-images g c = λ honest.
    subst (λ (front : List Entry). EveryImage (g.D.BlockDisk.state c.into_disk-disk.result).past (Leaves front)) (sym c.front-front.ensures.front) (c.into_disk-disk.ensures.opens honest)
