use Rattle.std.proofs.Common.{◌-◌, arith, refl}
use Rattle.journal_treecalls.proofs.Learned.{IfOk-like}
use Rattle.journal_treecalls.proofs.Numbers.{place-direct, place-content, place-index, place-leaf, place-between, place-far}
use Rattle.journal_treecalls.proofs.index.block_at.Goals as goal

pub returns-then-at-lt-DIRECT_BLOCKS-clause-learns : goal.returns-then-at-lt-DIRECT_BLOCKS-clause-learns
returns-then-at-lt-DIRECT_BLOCKS-clause-learns g c = place-direct _ c.args.head.now c.args.place c.args.place refl c.if-at-lt-DIRECT_BLOCKS.true

pub returns-then-from-lt-MOST_FILE_BLOCKS-clause-learns : goal.returns-then-from-lt-MOST_FILE_BLOCKS-clause-learns
returns-then-from-lt-MOST_FILE_BLOCKS-clause-learns g c = IfOk-like c.indexed_block.result _ _ (λ block l. place-content _ _ c.args.head.now c.args.place c.args.place block refl c.if-at-lt-DIRECT_BLOCKS.false (let e = c.from.ensures in let t = c.if-from-lt-MOST_FILE_BLOCKS.true in omega (arith, e, t)) l) c.indexed_block.ensures.learns

pub returns-then-place-eq-INDEX_PLACE-clause-learns : goal.returns-then-place-eq-INDEX_PLACE-clause-learns
returns-then-place-eq-INDEX_PLACE-clause-learns g c = place-index _ c.args.head.now c.args.place c.if-place-eq-INDEX_PLACE.true

pub returns-then-place-lt-FIRST_INDEX_PLACE-clause-learns : goal.returns-then-place-lt-FIRST_INDEX_PLACE-clause-learns
returns-then-place-lt-FIRST_INDEX_PLACE-clause-learns g c = place-between _ c.args.head.now c.args.place (let e = c.from.ensures in let t = c.if-from-lt-MOST_FILE_BLOCKS.false in omega (arith, e, t)) c.if-place-eq-INDEX_PLACE.false c.if-place-lt-FIRST_INDEX_PLACE.true

pub returns-then-i-ge-INDEX_NUMBERS-clause-learns : goal.returns-then-i-ge-INDEX_NUMBERS-clause-learns
returns-then-i-ge-INDEX_NUMBERS-clause-learns g c = place-far _ c.args.head.now c.args.place (c.args.place - 2147483649) c.if-place-lt-FIRST_INDEX_PLACE.false refl c.if-i-ge-INDEX_NUMBERS.true

pub returns-clause-learns : goal.returns-clause-learns
returns-clause-learns g c = IfOk-like c.index_block.result _ _ (λ block l. place-leaf _ _ c.args.head.now c.args.place (c.args.place - 2147483649) block c.if-place-lt-FIRST_INDEX_PLACE.false refl c.if-i-ge-INDEX_NUMBERS.false l) c.index_block.ensures.learns
