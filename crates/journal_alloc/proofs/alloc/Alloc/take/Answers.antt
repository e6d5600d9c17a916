use Rattle.std.proofs.Common.{◌∙◌, sym, subst}
use Rattle.journal_alloc.specs.Numbers.{IsFree}
use Rattle.journal_alloc.proofs.Counting.{none_free}
use Rattle.journal_alloc.proofs.alloc.Alloc.take.Goals as goal

pub returns-then-self-eq0-clause-none : goal.returns-then-self-eq0-clause-none
returns-then-self-eq0-clause-none c = λ n free.
    none_free c.self.inside.out.items _ (sym c.self.invariant.3 ∙ c.if-self-eq0.true) (subst (λ numbers. IsFree numbers n) (sym c.self.view_is) free).1
