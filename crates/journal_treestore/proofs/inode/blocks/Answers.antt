use Rattle.std.proofs.Common.{◌≢◌, ◌+◌, ◌*◌, ◌<◌, ◌∙◌, length, arith, below_more, get_or-set_other, get_or-set_same}
use Rattle.std.proofs.lemmas.List.{length-set}
use Rattle.std.proofs.lemmas.List.FromFn.{fill_by_all}
use Rattle.journal_treestore.specs.Bytes.{word_at}
use Rattle.journal_treestore.proofs.inode.blocks.Goals as goal

pub loop-j-preserved : goal.loop-j-preserved
loop-j-preserved c = (
  length-set c.loop-j.blocks c.loop-j.j c.word.result ∙ c.loop-j.invariant.0,
  below_more _ _
      (λ k low. let ne : k ≢ c.loop-j.j = omega (arith, low) in rw get_or-set_other (c.loop-j.invariant.1 k low))
      (let inside : c.loop-j.j < length c.loop-j.blocks = omega (arith, c.loop-j.invariant.0, c.loop-j-test.true) in rw get_or-set_same c.word.ensures),
)

pub returns : goal.returns
returns c =
    fill_by_all (λ k. word_at c.args.bytes.now (48 + 4 * k)) c.loop-j.blocks 48 0 c.loop-j.invariant.0
    (λ k low. c.loop-j.invariant.1 k (omega (arith, low, c.loop-j-test.false)))
