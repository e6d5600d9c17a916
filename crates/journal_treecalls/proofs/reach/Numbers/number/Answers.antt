use Rattle.std.proofs.Common.{◌-◌, refl, ap, arith, rules}
use Rattle.journal_treecalls.proofs.Reaching.{finds-direct, finds-leafed, finds-index, finds-rooted}
use Rattle.journal_treecalls.proofs.reach.Numbers.number.Goals as goal

pub returns-then-place : goal.returns-then-place
returns-then-place c others = finds-direct others c.args.reach c.args.self.now c.args.place _ c.requires.fits c.requires.known (omega (arith, c.if-place.true)) refl

pub returns-then-place-lt-MOST_FILE_BLOCKS : goal.returns-then-place-lt-MOST_FILE_BLOCKS
returns-then-place-lt-MOST_FILE_BLOCKS c others = finds-leafed others c.args.reach c.args.self.now c.args.place _ c.requires.fits c.requires.known (c.args.place - c.leaf_begin-begin.result) _ (omega (arith, c.if-place.false)) (omega (arith, c.if-place-lt-MOST_FILE_BLOCKS.true))
    (ap (λ b. c.args.place - b) c.leaf_begin-begin.ensures) (search rules) c.number_at.ensures

pub returns-then-place-index : goal.returns-then-place-index
returns-then-place-index c others = finds-index others c.args.reach c.args.self.now c.args.place _ c.requires.fits c.requires.known (let e = c.from-index.ensures in let t = c.if-place-index.true in omega (arith, e, t)) refl

pub returns : goal.returns
returns c others = finds-rooted others c.args.reach c.args.self.now c.args.place _ c.requires.fits c.requires.known (c.args.place - c.from-first.result) _ (omega (arith, c.if-place-lt-MOST_FILE_BLOCKS.false))
    (λ e. c.if-place-index.false (let i = c.from-index.ensures in omega (arith, i, e))) (ap (λ b. c.args.place - b) c.from-first.ensures) (search rules) c.number_at-2.ensures
