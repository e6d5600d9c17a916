use Rattle.std.proofs.Common.{◌≡◌, Some, None}
use Rattle.journal_program.proofs.label.Label.read.Goals as goal

pub returns-in-Some-clause-label : goal.returns-in-Some-clause-label
returns-in-Some-clause-label c = λ label. (
  λ e. (c.in-Some.ensures label).0 (cc),
  λ p. let s : Some c.in-Some.label ≡ Some label = (c.in-Some.ensures label).1 p in cc,
)

pub returns-in-None-clause-label : goal.returns-in-None-clause-label
returns-in-None-clause-label c = λ label. (
  λ e. let impossible : ⊥ = cc in absurd impossible,
  λ p. let s : None ≡ Some label = (c.in-None.ensures label).1 p in let impossible : ⊥ = cc in absurd impossible,
)
