use Rattle.std.proofs.Common.{refl, sym, ◌∙◌}
use Rattle.journal_treecalls.proofs.Fetching.{needed-parts, block-none, block-unneeded, block-filled}
use Rattle.journal_treecalls.proofs.fetch.fetch_block.Goals as goal

pub fill-requires-clause-before : goal.fill-requires-clause-before
fill-requires-clause-before g c = (needed-parts c.args.but c.args.offset _ c.args.j (sym c.is_needed.ensures ∙ c.if-not-is_needed.false)).0

pub fill-requires-clause-after : goal.fill-requires-clause-after
fill-requires-clause-after g c = (needed-parts c.args.but c.args.offset _ c.args.j (sym c.is_needed.ensures ∙ c.if-not-is_needed.false)).1

pub returns-then-number-eq0-clause-learns : goal.returns-then-number-eq0-clause-learns
returns-then-number-eq0-clause-learns g c = block-none _ c.args.number _ c.args.j c.args.offset c.args.bytes.now c.if-number-eq0.true

pub returns-then-not-is_needed-clause-learns : goal.returns-then-not-is_needed-clause-learns
returns-then-not-is_needed-clause-learns g c = block-unneeded _ c.args.number c.args.but c.args.j c.args.offset _ c.args.bytes.now refl (sym c.is_needed.ensures ∙ c.if-not-is_needed.true)

pub returns-clause-learns : goal.returns-clause-learns
returns-clause-learns g c = block-filled _ _ c.args.number _ c.args.j c.args.offset c.in_ok-block.block c.bytes.result.now c.args.bytes.now _ c.in_ok-block.ensures.learns c.bytes.ensures c.if-number-eq0.false c.fill.ensures
