use Rattle.std.proofs.Common.{◌∙◌, sym}
use Rattle.std.proofs.lemmas.Bool.{false≢true}
use Rattle.journal_treecalls.proofs.Naming.{kind-dot, kind-dots, kind-none, kind-other}
use Rattle.journal_treecalls.proofs.name.name_kind.Goals as goal

pub returns-then-are_same : goal.returns-then-are_same
returns-then-are_same c = kind-dot c.args.name.now (c.are_same.ensures.0 c.if-are_same.true)

pub returns-then-are_same-2 : goal.returns-then-are_same-2
returns-then-are_same-2 c = kind-dots c.args.name.now (c.are_same-2.ensures.0 c.if-are_same-2.true)

pub returns-then-are_same-3 : goal.returns-then-are_same-3
returns-then-are_same-3 c = kind-none c.args.name.now (c.are_same-3.ensures.0 c.if-are_same-3.true)

pub returns : goal.returns
returns c =
    c.other_kind.ensures ∙ sym (kind-other c.args.name.now
    (λ e. false≢true (sym c.if-are_same.false ∙ c.are_same.ensures.1 e))
    (λ e. false≢true (sym c.if-are_same-2.false ∙ c.are_same-2.ensures.1 e))
    (λ e. false≢true (sym c.if-are_same-3.false ∙ c.are_same-3.ensures.1 e)))
