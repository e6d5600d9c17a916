use Rattle.std.proofs.Common.{arith}
use Rattle.journal_treewire.proofs.LineTexts.{counts_at}
use Rattle.journal_treewire.proofs.length.room_of.Goals as goal

pub loop-line-preserved : goal.loop-line-preserved
loop-line-preserved c = (
  counts_at c.args.disk c.loop-line.line-index c.args.lines.now _ c.loop-line.room c.line_room-room.result c.loop-line-test.true c.line_room-room.ensures.is c.loop-line.invariant.0,
  omega (arith, c.loop-line.invariant.1, c.line_room-room.ensures.few),
)
