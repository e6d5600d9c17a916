use Rattle.std.proofs.Common.{sym, subst}
use Rattle.journal_memory.specs.Rules.{KeepsMapRule}
use Rattle.journal_parts.specs.CoreStates.{CoreState}
use Rattle.journal_core.proofs.state.Core.commit_verified.Goals as goal

pub commit_step-requires-clause-rule : goal.commit_step-requires-clause-rule
commit_step-requires-clause-rule g c =
    subst (λ (s : CoreState). KeepsMapRule g.R.MapRule.statement s.history c.args.transaction.now) (sym c.self.view_is) c.requires.rule
