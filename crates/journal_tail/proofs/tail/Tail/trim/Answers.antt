use Rattle.std.proofs.Common.{List, length, refl, ap, arith}
use Rattle.journal_tail.specs.Tails.{TailState, known_blocks}
use Rattle.journal_tail.specs.declared.tail.CutPoint.{CutPoint}
use Rattle.journal_tail.proofs.Kept.{no_other_then}
use Rattle.journal_tail.proofs.Tailing.{drops_first}
use Rattle.journal_tail.proofs.tail.Tail.trim.Goals as goal

pub loop-upto-smaller : goal.loop-upto-smaller
loop-upto-smaller c =
    let first = c.loop-upto-test.ensures.yes refl in
    omega (
      arith,
      ap (λ (cs : List CutPoint). length cs) first.2,
      ap (λ (t : TailState). length t.cuts) (c.drop_first_cut.ensures.drops first.0 first.1 first.2),
    )

pub loop-upto-preserved : goal.loop-upto-preserved
loop-upto-preserved c =
    let first = c.loop-upto-test.ensures.yes refl in (
      drops_first c.args.self.now c.loop-upto.self c.drop_first_cut.new.self c.args.upto first.0 first.1 c.drop_first_cut.new.self.cache c.loop-upto.invariant.0
          first.2 first.3 first.4 (c.drop_first_cut.ensures.drops first.0 first.1 first.2),
      no_other_then (known_blocks c.args.self.now) (known_blocks c.loop-upto.self) (known_blocks c.drop_first_cut.new.self) c.loop-upto.invariant.1 c.drop_first_cut.ensures.known,
    )
