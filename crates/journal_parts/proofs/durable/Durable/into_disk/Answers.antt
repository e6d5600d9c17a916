use Rattle.std.proofs.Common.{subst}
use Rattle.journal_world.proofs.Prefixes.{IsPrefix-refl}
use Rattle.journal_parts.specs.Durables.{IsDurable}
use Rattle.journal_parts.proofs.Enduring.{leaves_disk}
use Rattle.journal_parts.proofs.Pairing.{leaves_history}
use Rattle.journal_parts.proofs.durable.Durable.into_disk.Goals as goal

pub returns-clause-images : goal.returns-clause-images
returns-clause-images g c =
    leaves_disk g.J.Naming.layout _ c.args.self (g.D.BlockDisk.state c.into_disk.result) c.self.invariant c.self.view_is c.into_disk.ensures.disk

pub returns-clause-opens : goal.returns-clause-opens
returns-clause-opens g c = λ honest image one.
    let kept = subst (IsDurable g.J.Naming.layout) c.self.view_is c.self.invariant in
    leaves_history g.J.Naming.layout c.args.self c.args.self.front image kept (IsPrefix-refl c.args.self.front) kept.floored
    (leaves_disk g.J.Naming.layout _ c.args.self (g.D.BlockDisk.state c.into_disk.result) c.self.invariant c.self.view_is c.into_disk.ensures.disk honest image one)
