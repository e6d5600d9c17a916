use Rattle.journal_parts.proofs.Enduring.{leaves_disk}
use Rattle.journal_parts.specs.Durables.{disk_of}
use Rattle.std.proofs.Common.{rules}
use Rattle.journal_parts.proofs.durable.Durable.disk.Goals as goal

pub returns-clause-images : goal.returns-clause-images
returns-clause-images g c = leaves_disk g.J.Naming.layout _ c.args.self.now (disk_of c.args.self.now) c.self.invariant c.self.view_is (search rules)
