use Rattle.std.proofs.Common.{IsTrue, subst}
use Rattle.journal_circ.specs.Log.{label_of}
use Rattle.journal_circ.specs.Ring.{Ring}
use Rattle.journal_circ.specs.Mending.{IsMendable}
use Rattle.journal_circ.proofs.Failing.{mendable}
use Rattle.journal_circ.proofs.Steps.{ring}
use Rattle.journal_circ.proofs.circ.Circ.into_disk.Goals as goal

pub returns-clause-mendable : goal.returns-clause-mendable
returns-clause-mendable g c =
    let s = c.self.inside in
    subst (λ (r : Ring). IsTrue r.disk.honest → IsMendable r.disk.past) c.self.view_is
    (mendable (ring (g.D.BlockDisk.state s.device.disk) s.header s.tags (label_of s.start_block) s.sealed s.extent s.next s.device.faulted) c.self.invariant)
