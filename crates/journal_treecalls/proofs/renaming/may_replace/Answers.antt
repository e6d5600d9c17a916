use Rattle.std.proofs.Common.{sym, ◌∙◌}
use Rattle.journal_treecalls.specs.Renamings.MayReplace.{of_directory}
use Rattle.journal_treecalls.proofs.Learning.{learns-as}
use Rattle.journal_treecalls.proofs.Learned.{IfOk-like}
use Rattle.journal_treecalls.proofs.Deciding.{directory-kind, replaces-file}
use Rattle.journal_treecalls.proofs.renaming.may_replace.Goals as goal

pub returns-then-is_directory_kind-clause-learns : goal.returns-then-is_directory_kind-clause-learns
returns-then-is_directory_kind-clause-learns g c = IfOk-like c.is_bare.result _ _
    (λ may k. learns-as _ _ _ _ k (λ V m e. of_directory may (directory-kind c.args.node.now.kind c.is_directory_kind.result c.is_directory_kind.ensures c.if-is_directory_kind.true) e)) c.is_bare.ensures.learns

pub returns-clause-learns : goal.returns-clause-learns
returns-clause-learns g c = record { before = λ V m. m; now = λ V m. replaces-file V c.args.node.now c.args.over.now c.is_directory_kind-2.result (sym c.is_directory_kind.ensures ∙ c.if-is_directory_kind.false) c.is_directory_kind-2.ensures }
