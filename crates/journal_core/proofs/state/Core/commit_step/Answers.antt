use Rattle.std.proofs.Common.{◌≡◌, IsTrue, IfOk, IfErr, OnOk, OnErr, List, length, sym, subst}
use Rattle.journal_world.specs.Maps.{Agrees}
use Rattle.journal_world.specs.Histories.{is_trusted, latest}
use Rattle.journal_history.specs.Tokens.{next_transaction, IsReceiptFor}
use Rattle.journal_lockmap.specs.Numbers.{HeldState, AreApart, HoldsSlots}
use Rattle.journal_memory.specs.Ledgers.{ShowsLonger}
use Rattle.journal_memory.specs.Transactions.{AreUnmoved}
use Rattle.journal_parts.specs.CoreStates.{CoreState, Crashes, OnlyReads}
use Rattle.journal_core.specs.Commits.{IsCommitted, CanCommit, IsCommitRefusal}
use Rattle.journal_core.specs.Interleavings.{AnswersCommit}
use Rattle.journal_core.proofs.Verified.{agree_committed}
use Rattle.journal_memory.proofs.Committing.{keeps_rule}
use Rattle.journal_memory.proofs.Remembering.{verified_under}
use Rattle.journal_core.proofs.state.Core.commit_step.Goals as goal

pub commit_verified-requires-clause-rule : goal.commit_verified-requires-clause-rule
commit_verified-requires-clause-rule g c =
    keeps_rule g.J.Naming.layout g.R.MapRule.statement c.verify_tokens.new.self.history c.args.transaction.now c.front-front.ensures.size c.front-front.ensures.sound c.requires.rule

pub commit_verified-requires-clause-unmoved : goal.commit_verified-requires-clause-unmoved
commit_verified-requires-clause-unmoved g c =
    subst (λ (s : CoreState). AreUnmoved g.J.Naming.layout s.history c.args.transaction.now) (sym c.verify_tokens.ensures.same)
    (verified_under g.J.Naming.layout c.args.self.now.history c.args.held.now c.args.transaction.now c.verify_tokens.ensures.agree c.requires.under)

pub commit_verified-requires-clause-covered : goal.commit_verified-requires-clause-covered
commit_verified-requires-clause-covered g c = subst (λ (l : List HeldState). HoldsSlots g.J.Naming.layout l c.args.transaction.now.writes) (sym c.verify_tokens.ensures.held) c.requires.covered

pub commit_verified-requires-clause-apart : goal.commit_verified-requires-clause-apart
commit_verified-requires-clause-apart g c = subst AreApart (sym c.verify_tokens.ensures.held) c.requires.apart

pub returns-clause-same : goal.returns-clause-same
returns-clause-same g c =
    subst (λ (s : CoreState). OnErr c.commit_verified.result (c.commit_verified.new.self ≡ record s { objects = c.commit_verified.new.self.objects })) c.verify_tokens.ensures.same
    c.commit_verified.ensures.same

pub returns-clause-held : goal.returns-clause-held
returns-clause-held g c =
    subst (λ (l : List HeldState). OnErr c.commit_verified.result (c.commit_verified.new.held ≡ l)) c.verify_tokens.ensures.held c.commit_verified.ensures.held

pub returns-clause-agree : goal.returns-clause-agree
returns-clause-agree g c =
    agree_committed g.J.Naming.layout c.commit_verified.result c.args.self.now c.commit_verified.new.self c.args.held.now c.commit_verified.new.held c.verify_tokens.ensures.agree
    c.commit_verified.ensures.agree (returns-clause-same g c) (returns-clause-held g c)

pub returns-clause-committed : goal.returns-clause-committed
returns-clause-committed g c =
    subst (λ (s : CoreState). OnOk c.commit_verified.result
    (IsCommitted c.args.transaction.now.reads c.args.transaction.now.writes c.args.session.now c.commit_verified.new.session s c.commit_verified.new.self))
    c.verify_tokens.ensures.same c.commit_verified.ensures.committed

pub returns-clause-receipt : goal.returns-clause-receipt
returns-clause-receipt g c =
    subst (λ (s : CoreState). IfOk c.commit_verified.result (IsReceiptFor
    (next_transaction c.args.session.now c.args.transaction.now.reads c.args.transaction.now.writes) c.commit_verified.new.self.history (length s.history)))
    c.verify_tokens.ensures.same c.commit_verified.ensures.receipt

pub returns-clause-can : goal.returns-clause-can
returns-clause-can g c =
    subst (λ (s : CoreState). OnOk c.commit_verified.result (CanCommit s c.args.session.now c.args.transaction.now)) c.verify_tokens.ensures.same c.commit_verified.ensures.can

pub returns-clause-agrees : goal.returns-clause-agrees
returns-clause-agrees g c =
    subst (λ (s : CoreState). OnOk c.commit_verified.result (IsTrue (is_trusted s.history) → Agrees (latest s.history) c.args.transaction.now.reads)) c.verify_tokens.ensures.same
    c.commit_verified.ensures.agrees

pub returns-clause-refusal : goal.returns-clause-refusal
returns-clause-refusal g c =
    subst (λ (s : CoreState). IfErr c.commit_verified.result (IsCommitRefusal s c.args.session.now c.args.transaction.now c.commit_verified.new.self)) c.verify_tokens.ensures.same
    c.commit_verified.ensures.refusal

pub returns-clause-left : goal.returns-clause-left
returns-clause-left g c =
    subst (λ (s : CoreState). OnErr c.commit_verified.result (OnlyReads s.objects c.commit_verified.new.self.objects)) c.verify_tokens.ensures.same c.commit_verified.ensures.left

pub returns-clause-longer : goal.returns-clause-longer
returns-clause-longer g c =
    subst (λ (s : CoreState). IfErr c.commit_verified.result (ShowsLonger s.history c.commit_verified.new.session)) c.verify_tokens.ensures.same c.commit_verified.ensures.longer

pub returns-clause-crash : goal.returns-clause-crash
returns-clause-crash g c = subst (λ (s : CoreState). Crashes s c.commit_verified.new.self) c.verify_tokens.ensures.same c.commit_verified.ensures.crash

pub returns-clause-event : goal.returns-clause-event
returns-clause-event g c =
    subst (λ (s : CoreState). AnswersCommit s c.args.session.now c.args.transaction.now c.commit_verified.result c.commit_verified.new.self c.commit_verified.new.session)
    c.verify_tokens.ensures.same c.commit_verified.ensures.event
