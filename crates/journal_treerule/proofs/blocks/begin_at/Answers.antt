use Rattle.std.proofs.Common.{arith}
use Rattle.journal_treerule.proofs.BlockParts.{begins-early, begins-index, begins-late}
use Rattle.journal_treerule.proofs.blocks.begin_at.Goals as goal

pub returns-then-place-lt-INDEX_PLACE : goal.returns-then-place-lt-INDEX_PLACE
returns-then-place-lt-INDEX_PLACE c = begins-early c.args.place c.from.result c.if-place-lt-INDEX_PLACE.true c.from.ensures

pub returns-then-place-eq-INDEX_PLACE : goal.returns-then-place-eq-INDEX_PLACE
returns-then-place-eq-INDEX_PLACE c = begins-index c.args.place c.if-place-eq-INDEX_PLACE.true

pub returns-else-place-eq-INDEX_PLACE : goal.returns-else-place-eq-INDEX_PLACE
returns-else-place-eq-INDEX_PLACE c = begins-late c.args.place c.from-else-place-eq-INDEX_PLACE.result (omega (arith, c.if-place-lt-INDEX_PLACE.false)) c.if-place-eq-INDEX_PLACE.false c.from-else-place-eq-INDEX_PLACE.ensures
