use Rattle.std.proofs.Common.{Some, ap, sym, subst, ◌∙◌}
use Rattle.journal_treestore.specs.Places.{shape_of, IsCut}
use Rattle.journal_treerule.proofs.Scanning.{fails-test}
use Rattle.journal_treerule.proofs.cut.cut_of_layout.Goals as goal

pub returns-then-not-is_possible-clause-found : goal.returns-then-not-is_possible-clause-found
returns-then-not-is_possible-clause-found c = λ d cut whole is. absurd (fails-test c.is_possible.result c.is_possible.ensures c.if-not-is_possible.true (subst IsCut (sym (c.guess-cut.ensures.found d cut whole is)) cut))

pub returns-then-not-is_same-clause-found : goal.returns-then-not-is_same-clause-found
returns-then-not-is_same-clause-found c = λ d cut whole is. absurd (fails-test c.is_same.result c.is_same.ensures c.if-not-is_same.true (c.layout.ensures ∙ ap shape_of (c.guess-cut.ensures.found d cut whole is) ∙ sym is))

pub returns-clause-is : goal.returns-clause-is
returns-clause-is c =
    let cut = c.is_possible.ensures.0 c.if-not-is_possible.false in
    (cut, c.guess-cut.ensures.whole cut.few_numbers, sym (c.is_same.ensures.0 c.if-not-is_same.false) ∙ c.layout.ensures)

pub returns-clause-found : goal.returns-clause-found
returns-clause-found c = λ d cut whole is. ap Some (c.guess-cut.ensures.found d cut whole is)
