use Rattle.std.proofs.Common.{◌≡◌, ◌+◌, ◌++◌, length, take, sym, ap, subst, ◌∙◌, arith, length-append}
use Rattle.journal_inode.specs.Sound.{held}
use Rattle.journal_filestore.specs.Doing.{LearnsThat}
use Rattle.journal_filestore.proofs.Gathering.{NotAmong-more, Tells-next, Tells-whole}
use Rattle.journal_filestore.proofs.blocks.read_blocks.Goals as goal

pub loop-j-preserved : goal.loop-j-preserved
loop-j-preserved g c =
    let items : c.extend_from_slice.new.self.items ≡ c.loop-j.bytes.items ++ c.in_ok-block.block = c.in_ok-extend_from_slice.ensures.items ∙ ap (λ x. c.loop-j.bytes.items ++ x) c.bytes.ensures in (
      subst (λ x. LearnsThat g.V.Version.VERSION g.J.Naming.layout c.args.txn.now c.read_block-in-loop-j.new.txn (λ m. held m (take (c.loop-j.j + 1) c.args.numbers.now) ≡ x)) (sym items)
          (Tells-next _ _ _ _ c.args.numbers.now c.loop-j.bytes.items c.in_ok-block.block c.loop-j.j (omega (arith, c.loop-j-test.true)) c.loop-j.invariant.0 c.in_ok-block.ensures.told),
      ap length items ∙ length-append c.loop-j.bytes.items c.in_ok-block.block ∙ (omega (arith, c.loop-j.invariant.1, c.in_ok-block.ensures.whole)),
      NotAmong-more c.loop-j.txn c.read_block-in-loop-j.new.txn c.args.numbers.now c.loop-j.j (omega (arith, c.loop-j-test.true)) c.loop-j.invariant.2 c.in_ok-block.ensures.reads,
    )

pub returns-clause-told : goal.returns-clause-told
returns-clause-told g c = Tells-whole _ _ _ c.args.numbers.now _ c.loop-j.j (omega (arith, c.loop-j-test.false)) c.loop-j.invariant.0
