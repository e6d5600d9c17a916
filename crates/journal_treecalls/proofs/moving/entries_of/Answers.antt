use Rattle.journal_treecalls.proofs.Learning.{learns-as}
use Rattle.journal_treecalls.proofs.Going.{entries-are}
use Rattle.journal_treecalls.proofs.moving.entries_of.Goals as goal

pub returns-clause-learns : goal.returns-clause-learns
returns-clause-learns g c = learns-as _ _ _ _ c.in_ok-numbers.ensures.learns (λ V m has. entries-are V c.args.directory.now c.args.hit.now _ _ has c.places_of.ensures.is)
