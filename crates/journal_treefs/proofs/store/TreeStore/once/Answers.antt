use Rattle.std.proofs.Common.{◌≡◌, sym, subst, ap, ◌∙◌}
use Rattle.std.proofs.lemmas.Result.{IfOk-at_ok}
use Rattle.journal_treestore.specs.declared.place.Cut.{Cut}
use Rattle.journal_treeobjects.proofs.Ruling.{cut-once}
use Rattle.journal_attempts.proofs.Committing.{commit-of, commit-later}
use Rattle.journal_attempts.proofs.Refusing.{refused-more}
use Rattle.journal_treefs.specs.Calls.{StoreState, IsCommittedCall}
use Rattle.journal_treefs.proofs.Committing.{call-does}
use Rattle.journal_treefs.proofs.Few.{call-large}
use Rattle.journal_treefs.proofs.store.TreeStore.once.Goals as goal

pub commit-requires : goal.commit-requires
commit-requires g c =
    let at = c.finish-transaction.ensures in
    record {
      rule = (call-does g.R.MapRule.statement g.met.R.TreeRule.has_tree g.J.Naming.layout c.attempt.new.disk.cut at.cut at.whole at.layout g.met.R.TreeRule.admits_tree
          (g.O.TreeOperation.call c.args.operation.now) c.args.asking.caller c.args.asking.now (g.O.TreeOperation.told c.in-Ok.reply) _ _ _ _
          (IfOk-at_ok _ c.in_default-outcome.is (at.calls _ _ _ _ c.in-Ok.ensures.does)) (IfOk-at_ok _ c.in_default-outcome.is at.writes) c.in-Ok.ensures.few).keeps;
    }

pub returns-in-Ok-commit-clause-committed : goal.returns-in-Ok-commit-clause-committed
returns-in-Ok-commit-clause-committed g c =
    let at = c.finish-transaction.ensures in
    let own : c.self.inside.cut ≡ c.args.self.now.cut = ap (λ (s : StoreState). s.cut) c.self.view_is in
    let same : c.attempt.new.disk.cut ≡ c.self.inside.cut =
    cut-once c.attempt.new.disk.cut c.self.inside.cut at.cut c.self.invariant.0 at.whole c.self.invariant.1 (sym at.layout ∙ c.self.invariant.2) in
    let does = call-does g.R.MapRule.statement g.met.R.TreeRule.has_tree g.J.Naming.layout c.attempt.new.disk.cut at.cut at.whole at.layout g.met.R.TreeRule.admits_tree
    (g.O.TreeOperation.call c.args.operation.now) c.args.asking.caller c.args.asking.now (g.O.TreeOperation.told c.in-Ok.reply) _ _ _ _
    (IfOk-at_ok _ c.in_default-outcome.is (at.calls _ _ _ _ c.in-Ok.ensures.does)) (IfOk-at_ok _ c.in_default-outcome.is at.writes) c.in-Ok.ensures.few in
    subst (λ (k : Cut). IsCommittedCall k (g.O.TreeOperation.call c.args.operation.now) c.args.asking.caller c.args.asking.now c.args.session.now c.commit.new.session (g.O.TreeOperation.told c.in-Ok.reply) c.in-Ok-commit.receipt) (same ∙ own)
    (commit-later _ _ _ _ _ c.begin-txn.ensures.session _
    (commit-of g.R.MapRule.statement g.J.Naming.layout _ _ _ c.finish-transaction.result.transaction.txn does c.begin-txn.new.session c.commit.new.session c.in-Ok-commit.receipt c.in-Ok-commit.ensures.committed))

pub returns-clause-refusal : goal.returns-clause-refusal
returns-clause-refusal g c =
    let disk = c.attempt.new.disk in
    let same = IfOk-at_ok _ c.in_default-outcome.is c.finish-transaction.ensures.writes in
    refused-more _ _ c.in-Err-commit.refusal (call-large disk.cut disk.writes _ _ same c.in-Ok.ensures.few) c.in-Err-commit.ensures.refusal
