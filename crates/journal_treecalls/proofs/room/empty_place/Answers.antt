use Rattle.journal_treecalls.proofs.Learning.{learns-last}
use Rattle.journal_treecalls.proofs.Learned.{IfOk-like}
use Rattle.journal_treecalls.proofs.Rooming.{place-first}
use Rattle.journal_treecalls.proofs.room.empty_place.Goals as goal

pub returns-in-Some-clause-learns : goal.returns-in-Some-clause-learns
returns-in-Some-clause-learns g c = place-first _ _ c.args.directory.now c.args.tag _ c.in-Some.place c.in-Some.is c.in_ok-place.ensures.learns

pub returns-in-None-clause-learns : goal.returns-in-None-clause-learns
returns-in-None-clause-learns g c = IfOk-like c.empty_above.result _ _ (λ p k. learns-last _ _ _ _ _ c.in_ok-place.ensures.learns k) c.empty_above.ensures.learns
