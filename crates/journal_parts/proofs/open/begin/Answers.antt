use Rattle.std.proofs.Common.{◌∙◌}
use Rattle.journal_world.specs.Files.{shape}
use Rattle.journal_wal.specs.Wal.{blocks_now}
use Rattle.journal_tail.specs.MapLaws.{map_of-layout, map_of-objects}
use Rattle.journal_parts.proofs.open.begin.Goals as goal

pub begin-requires-clause-layout : goal.begin-requires-clause-layout
begin-requires-clause-layout g c = map_of-layout (shape c.args.layout) (blocks_now c.args.objects.now.log) ∙ c.requires.layout

pub begin-requires-clause-objects : goal.begin-requires-clause-objects
begin-requires-clause-objects g c = λ honest. map_of-objects (shape c.args.layout) (blocks_now c.args.objects.now.log)
