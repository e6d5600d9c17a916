use Rattle.std.proofs.Common.{◌-◌, refl, ap, arith}
use Rattle.journal_treecalls.proofs.Reaching.{puts-number, leafed-room, rooted-room, sets-direct, sets-leafed, sets-index, sets-rooted}
use Rattle.journal_treecalls.proofs.reach.Numbers.set_number.Goals as goal

pub returns-then-place-clause-set : goal.returns-then-place-clause-set
returns-then-place-clause-set c others p = sets-direct c.args.reach c.args.self.now _ c.args.place c.args.number c.requires.fits c.requires.known c.requires.sized (omega (arith, c.if-place.true)) refl refl refl refl others p

pub returns-then-place-lt-MOST_FILE_BLOCKS-clause-set : goal.returns-then-place-lt-MOST_FILE_BLOCKS-clause-set
returns-then-place-lt-MOST_FILE_BLOCKS-clause-set c others p =
    let is = ap (λ b. c.args.place - b) c.leaf_begin-begin.ensures in
    sets-leafed c.args.reach c.args.self.now _ c.args.place c.args.number c.requires.fits c.requires.known c.requires.sized (c.args.place - c.leaf_begin-begin.result) (omega (arith, c.if-place.false)) (omega (arith, c.if-place-lt-MOST_FILE_BLOCKS.true)) is
    (puts-number c.args.self.now.leaves.items _ (c.args.place - c.leaf_begin-begin.result) c.args.number (leafed-room c.args.reach c.args.self.now c.args.place (c.args.place - c.leaf_begin-begin.result) c.requires.fits c.requires.known c.requires.sized (omega (arith, c.if-place.false)) (omega (arith, c.if-place-lt-MOST_FILE_BLOCKS.true)) is) c.put_number.ensures.fits c.put_number.ensures.put)
    refl refl refl others p

pub returns-then-place-index-clause-set : goal.returns-then-place-index-clause-set
returns-then-place-index-clause-set c others p = sets-index c.args.reach c.args.self.now _ c.args.place c.args.number c.requires.fits c.requires.known c.requires.sized (let e = c.from-index.ensures in let t = c.if-place-index.true in omega (arith, e, t)) refl refl refl refl others p

pub returns-else-place-index-clause-set : goal.returns-else-place-index-clause-set
returns-else-place-index-clause-set c others p =
    let is = ap (λ b. c.args.place - b) c.from-first.ensures in
    sets-rooted c.args.reach c.args.self.now _ c.args.place c.args.number c.requires.fits c.requires.known c.requires.sized (c.args.place - c.from-first.result) (omega (arith, c.if-place-lt-MOST_FILE_BLOCKS.false)) (λ e. c.if-place-index.false (let i = c.from-index.ensures in omega (arith, i, e))) is
    (puts-number c.args.self.now.root.items _ (c.args.place - c.from-first.result) c.args.number (rooted-room c.args.reach c.args.self.now c.args.place (c.args.place - c.from-first.result) c.requires.fits c.requires.known c.requires.sized (omega (arith, c.if-place-lt-MOST_FILE_BLOCKS.false)) (λ e. c.if-place-index.false (let i = c.from-index.ensures in omega (arith, i, e))) is) c.put_number-else-place-index.ensures.fits c.put_number-else-place-index.ensures.put)
    refl refl refl others p
