use Rattle.journal_treecalls.proofs.Rooming.{free-number, young-number}
use Rattle.journal_treecalls.proofs.room.free_number.Goals as goal

pub returns-in-Free-clause-learns : goal.returns-in-Free-clause-learns
returns-in-Free-clause-learns g c = free-number _ _ c.args.number c.numbers-count.result c.from-index.result c.in-Free.generation _ c.if_young.result c.in_ok-generation.ensures.learns c.in-Free.is c.if_young.ensures c.if-number-eq0.false c.numbers-count.ensures c.from-index.ensures c.if-count-index.false

pub returns-in-Free-clause-young : goal.returns-in-Free-clause-young
returns-in-Free-clause-young g c = young-number c.args.number c.in-Free.generation c.if_young.result c.if_young.ensures
