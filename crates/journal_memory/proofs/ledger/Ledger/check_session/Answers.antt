use Rattle.std.proofs.Common.{◌≡◌, List, length, ap, subst, ◌∙◌, arith}
use mathlib.Core.List.{IsPrefix}
use Rattle.journal_world.specs.Histories.{Entry, commits_of}
use Rattle.journal_world.proofs.Prefixes.{IsPrefix-trans}
use Rattle.journal_history.specs.Tokens.{made}
use Rattle.journal_memory.specs.Ledgers.{LedgerState}
use Rattle.journal_memory.proofs.Counting.{own_commits}
use Rattle.journal_memory.proofs.ledger.Ledger.check_session.Goals as goal

pub returns-then-len-clause-refusal : goal.returns-then-len-clause-refusal
returns-then-len-clause-refusal g c =
    let history : c.front-front.result ≡ c.args.self.now.history = c.front-front.ensures ∙ ap (λ (s : LedgerState). s.history) c.self.view_is in
    let begins : IsPrefix c.args.self.now.history c.observe.new.self = subst (λ (h : List Entry). IsPrefix h c.observe.new.self) history
    (IsPrefix-trans c.front-front.result c.see-2.new.self c.observe.new.self c.see-2.ensures.this c.observe.ensures) in (
      c.observe.new.self,
      c.of.ensures,
      (begins, omega (arith, c.if-len.true, c.len.ensures.length, c.len-2.ensures.length, ap length (ap (λ (s : LedgerState). s.history) c.self.view_is))),
    )

pub returns-clause-own : goal.returns-clause-own
returns-clause-own g c =
    subst (λ (s : LedgerState). length (commits_of c.args.session.now.number s.history) ≡ made c.args.session.now) c.self.view_is
    (own_commits c.self.inside.sessions c.self.inside.writer c.args.session.now.number (made c.args.session.now) c.self.invariant.counts.per_session c.verify_session.ensures.own)
