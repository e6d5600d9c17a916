use Rattle.std.proofs.Common.{◌≡◌, IfOk, OnErr, List, sym, subst}
use Rattle.journal_lockmap.specs.Numbers.{HeldState, AreApart, HoldsSlots}
use Rattle.journal_memory.specs.Transactions.{AreUnmoved}
use Rattle.journal_memory.specs.Volatiles.{VolatileState}
use Rattle.journal_memory.specs.VolatileCommits.{DoesCommit, IfMissing}
use Rattle.journal_memory.proofs.Answering.{answers_commit_in}
use Rattle.journal_memory.proofs.Committing.{keeps_rule}
use Rattle.journal_memory.proofs.Verifying.{agree_after}
use Rattle.journal_memory.proofs.Remembering.{verified_under}
use Rattle.journal_memory.proofs.volatile.Volatile.commit.Goals as goal

pub commit_verified-answer-requires-clause-rule : goal.commit_verified-answer-requires-clause-rule
commit_verified-answer-requires-clause-rule g c =
    keeps_rule g.J.Naming.layout g.R.MapRule.statement c.verify_tokens.new.self.ledger.history c.args.transaction.now c.front-front.ensures.size c.front-front.ensures.sound c.requires.rule

pub commit_verified-answer-requires-clause-unmoved : goal.commit_verified-answer-requires-clause-unmoved
commit_verified-answer-requires-clause-unmoved g c =
    subst (λ (s : VolatileState). AreUnmoved g.J.Naming.layout s.ledger.history c.args.transaction.now) (sym c.verify_tokens.ensures.same)
    (verified_under g.J.Naming.layout c.args.self.now.ledger.history c.args.held.now c.args.transaction.now c.verify_tokens.ensures.agree c.requires.under)

pub commit_verified-answer-requires-clause-covered : goal.commit_verified-answer-requires-clause-covered
commit_verified-answer-requires-clause-covered g c = subst (λ (l : List HeldState). HoldsSlots g.J.Naming.layout l c.args.transaction.now.writes) (sym c.verify_tokens.ensures.held) c.requires.covered

pub commit_verified-answer-requires-clause-apart : goal.commit_verified-answer-requires-clause-apart
commit_verified-answer-requires-clause-apart g c = subst AreApart (sym c.verify_tokens.ensures.held) c.requires.apart

pub returns-clause-commit : goal.returns-clause-commit
returns-clause-commit g c =
    subst (λ (s : VolatileState). DoesCommit g.J.Naming.layout s c.args.session.now c.args.transaction.now c.args.fetched.now c.commit_verified-answer.result c.commit_verified-answer.new.self
    c.commit_verified-answer.new.session) c.verify_tokens.ensures.same c.commit_verified-answer.ensures.commit

pub returns-clause-stays : goal.returns-clause-stays
returns-clause-stays g c =
    subst (λ (l : List HeldState). IfOk c.commit_verified-answer.result (IfMissing (λ _. c.commit_verified-answer.new.held ≡ l))) c.verify_tokens.ensures.held c.commit_verified-answer.ensures.stays

pub returns-clause-held : goal.returns-clause-held
returns-clause-held g c =
    subst (λ (l : List HeldState). OnErr c.commit_verified-answer.result (c.commit_verified-answer.new.held ≡ l)) c.verify_tokens.ensures.held c.commit_verified-answer.ensures.held

pub returns-clause-agree : goal.returns-clause-agree
returns-clause-agree g c =
    let does = returns-clause-commit g c in
    agree_after g.J.Naming.layout c.commit_verified-answer.result c.args.self.now c.commit_verified-answer.new.self c.args.held.now c.commit_verified-answer.new.held c.args.session.now c.commit_verified-answer.new.session
    c.verify_tokens.ensures.agree c.commit_verified-answer.ensures.agree does.waits (returns-clause-stays g c) does.same (returns-clause-held g c)

pub returns-clause-event : goal.returns-clause-event
returns-clause-event g c =
    let does = returns-clause-commit g c in
    answers_commit_in g.J.Naming.layout c.args.self.now c.commit_verified-answer.new.self c.args.session.now c.commit_verified-answer.new.session c.args.transaction.now c.args.fetched.now
    c.commit_verified-answer.result c.prove_invariant.ensures does.can does.committed does.agrees does.missing does.waits does.refusal does.same
