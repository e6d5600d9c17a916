use Rattle.std.proofs.Common.{[], refl, ◌∙◌, arith}
use Rattle.journal_treeobjects.proofs.Waiting.{on-disk-at, sized-at, written-none, written-next, written-all}
use Rattle.journal_treeobjects.proofs.tree_transaction.overwrite_all.Goals as goal

pub loop-write-init : goal.loop-write-init
loop-write-init g c = (written-none c.args.cut.now c.args.waiting.now _ c.requires.unwritten, refl, refl)

pub overwrite_one-requires-clause-on_disk : goal.overwrite_one-requires-clause-on_disk
overwrite_one-requires-clause-on_disk g c =
    on-disk-at c.args.cut.now c.args.waiting.now [] c.loop-write.write-index c.write-item.result c.requires.on_disk c.loop-write-test.true c.write-item.is

pub overwrite_one-requires-clause-sized : goal.overwrite_one-requires-clause-sized
overwrite_one-requires-clause-sized g c = sized-at c.args.waiting.now [] c.loop-write.write-index c.write-item.result c.requires.sized c.loop-write-test.true c.write-item.is

pub overwrite_one-requires-clause-layout : goal.overwrite_one-requires-clause-layout
overwrite_one-requires-clause-layout g c = c.loop-write.invariant.2 ∙ c.requires.layout

pub loop-write-preserved : goal.loop-write-preserved
loop-write-preserved g c = (
  written-next c.args.cut.now c.args.waiting.now c.loop-write.write-index c.write-item.result _ _ c.loop-write-test.true c.write-item.is c.loop-write.invariant.0 c.in_ok-overwrite_one.ensures.writes,
  c.in_ok-overwrite_one.ensures.same_reads ∙ c.loop-write.invariant.1,
  c.in_ok-overwrite_one.ensures.same_layout ∙ c.loop-write.invariant.2,
)

pub returns-clause-writes : goal.returns-clause-writes
returns-clause-writes g c = written-all c.args.cut.now c.args.waiting.now c.loop-write.write-index _ (omega (arith, c.loop-write-test.false)) c.loop-write.invariant.0
