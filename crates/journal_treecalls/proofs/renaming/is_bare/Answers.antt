use Rattle.std.proofs.Common.{sym, ◌∙◌}
use Rattle.journal_treecalls.specs.Renamings.IsBareIf.{plain}
use Rattle.journal_treecalls.proofs.Learning.{learns-as}
use Rattle.journal_treecalls.proofs.Deciding.{directory-kind, bare-if}
use Rattle.journal_treecalls.proofs.renaming.is_bare.Goals as goal

pub returns-then-not-is_directory_kind-clause-learns : goal.returns-then-not-is_directory_kind-clause-learns
returns-then-not-is_directory_kind-clause-learns g c = record { before = λ V m. m; now = λ V m. plain (sym c.is_directory_kind.ensures ∙ c.if-not-is_directory_kind.true) }

pub returns-clause-learns : goal.returns-clause-learns
returns-clause-learns g c = learns-as _ _ _ _ c.in_ok-entry.ensures.learns (λ V m e. bare-if V c.args.over.now (directory-kind c.args.over.now.kind c.is_directory_kind.result c.is_directory_kind.ensures c.if-not-is_directory_kind.false) c.in_ok-entry.entry e c.is_none.result c.is_none.ensures)
