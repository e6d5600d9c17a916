use Rattle.journal_treecalls.proofs.Emptying.{no-entry-block, entry-block}
use Rattle.journal_treecalls.proofs.entries.entry_of_block.Goals as goal

pub returns-then-number-eq0-clause-learns : goal.returns-then-number-eq0-clause-learns
returns-then-number-eq0-clause-learns g c = no-entry-block _ c.args.number c.if-number-eq0.true

pub returns-clause-learns : goal.returns-clause-learns
returns-clause-learns g c = entry-block _ _ c.args.number c.in_ok-block.block c.bytes.result.now c.entry_in.result c.in_ok-block.ensures.learns c.bytes.ensures c.if-number-eq0.false c.entry_in.ensures
