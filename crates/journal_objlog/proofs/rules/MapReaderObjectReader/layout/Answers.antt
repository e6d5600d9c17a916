use Rattle.std.proofs.Common.{sym, ◌∙◌}
use Rattle.journal_wal.specs.Wal.{blocks_now}
use Rattle.journal_tail.specs.MapLaws.{map_of-layout}
use Rattle.journal_objlog.proofs.rules.MapReaderObjectReader.layout.Goals as goal

pub returns : goal.returns
returns g c = c.self.invariant.0 ∙ sym (map_of-layout g.O.Opening.layout (blocks_now g.O.Opening.log))
