use Rattle.std.proofs.Common.{◌∙◌, arith}
use Rattle.journal_treeform.proofs.Copied.{none-copied, one-copied, after-failure, after-try}
use Rattle.journal_treeform.proofs.growing.copy_records.Goals as goal

pub loop-index-init : goal.loop-index-init
loop-index-init g c = none-copied c.args.old c.args.new _

pub loop-index-preserved : goal.loop-index-preserved
loop-index-preserved g c =
    let low = c.loop-index-test.true in
    let owners = c.later_owners-index-end.ensures in
    one-copied c.args.old c.args.new (g.D.BlockDisk.state c.args.disk.now) (g.D.BlockDisk.state c.loop-index.disk) (g.D.BlockDisk.state c.copy.new.disk) c.loop-index.index c.requires.growth
    (omega (arith, low, owners)) c.loop-index.invariant c.copy.ensures.keeps c.in_ok-copy.ensures.copied

pub returns-in_err-copy-clause-after : goal.returns-in_err-copy-clause-after
returns-in_err-copy-clause-after g c = λ honest.
    after-failure c.args.old c.args.new (g.D.BlockDisk.state c.args.disk.now) (g.D.BlockDisk.state c.loop-index.disk) (g.D.BlockDisk.state c.copy.new.disk).past c.loop-index.index _
    c.loop-index.invariant honest (c.copy.ensures.copied_or_not (c.loop-index.invariant.keeps.honest ∙ honest))

pub returns-clause-after : goal.returns-clause-after
returns-clause-after g c = λ honest.
    after-try c.args.old c.args.new (g.D.BlockDisk.state c.args.disk.now) (g.D.BlockDisk.state c.loop-index.disk) (g.D.BlockDisk.state c.barrier.new.self).past c.loop-index.index c.barrier.result
    c.loop-index.invariant honest c.barrier.ensures.synced c.barrier.ensures.not_synced
