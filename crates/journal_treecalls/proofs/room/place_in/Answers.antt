use Rattle.journal_treecalls.proofs.Rooming.{place-some, place-inside}
use Rattle.journal_treecalls.proofs.room.place_in.Goals as goal

pub returns-in-Some-clause-learns : goal.returns-in-Some-clause-learns
returns-in-Some-clause-learns g c = place-some _ _ c.args.which c.in_ok-block.block c.bytes.result.now c.empty_in.result c.in-Some.at c.in_ok-block.ensures.learns c.bytes.ensures c.if-which-eq0.false c.empty_in.ensures c.in-Some.is

pub returns-in-Some-clause-inside : goal.returns-in-Some-clause-inside
returns-in-Some-clause-inside g c = place-inside c.args.which c.bytes.result.now c.empty_in.result c.in-Some.at c.requires.few c.empty_in.ensures c.in-Some.is
