use Rattle.std.proofs.Common.{◌≡◌, true, length, rules, sym, subst}
use Rattle.journal_world.specs.declared.refusal.Refusal.{Refusal}
use Rattle.journal_world.specs.Addresses.{Shape}
use Rattle.journal_world.specs.Histories.{opened, commits_of, is_fenced}
use Rattle.journal_history.specs.Tokens.{made}
use Rattle.journal_tail.proofs.Exits.{if_err}
use Rattle.journal_memory.specs.Causes.{CauseState}
use Rattle.journal_memory.specs.Ledgers.{LedgerState, HasSeen, IsStaleRefusal, IsAdmissionRefusal}
use Rattle.journal_memory.specs.Transactions.{AreUnmoved}
use Rattle.journal_memory.proofs.Committing.{stale_admits}
use Rattle.journal_memory.proofs.Remembering.{agrees_later}
use Rattle.journal_memory.proofs.ledger.Ledger.admit.Goals as goal

pub returns-in_err-catch_up-clause-refusal : goal.returns-in_err-catch_up-clause-refusal
returns-in_err-catch_up-clause-refusal g c =
    if_err c.from_residual.result _ (IsAdmissionRefusal c.args.self.now.history c.args.session.now c.args.transaction.now) c.from_residual.ensures.1
    (λ (e : Refusal CauseState) is. stale_admits c.args.self.now.history c.args.session.now c.args.transaction.now e
    (subst (λ (r : Refusal CauseState). IsStaleRefusal c.args.self.now.history r) (sym is)
    (subst (λ (m : LedgerState). IsStaleRefusal m.history c.in_err-catch_up.field-0.0) c.self.view_is c.in_err-catch_up.ensures.refusal)))

pub returns-clause-unmoved : goal.returns-clause-unmoved
returns-clause-unmoved g c =
    let own : (opened c.args.self.now.history).layout ≡ g.J.Naming.layout =
    subst (λ (m : LedgerState). (opened m.history).layout ≡ g.J.Naming.layout) c.self.view_is c.len-len.ensures.on_disk in
    subst (λ (layout : Shape). AreUnmoved layout c.args.self.now.history c.args.transaction.now) (sym own) c.requires.unmoved

pub returns-then-has-clause-refusal : goal.returns-then-has-clause-refusal
returns-then-has-clause-refusal g c =
    let layout : (opened c.args.self.now.history).layout ≡ g.J.Naming.layout =
    subst (λ (m : LedgerState). (opened m.history).layout ≡ g.J.Naming.layout) c.self.view_is c.len-len.ensures.on_disk in
    let seen : HasSeen c.args.self.now.history c.args.session.now c.args.transaction.now = search rules in
    let own : length (commits_of c.args.session.now.number c.args.self.now.history) ≡ made c.args.session.now = search rules in
    let fenced : is_fenced c.args.session.now.number c.args.self.now.history ≡ true = search rules in
    record {
      seen = seen;
      own = own;
      unmoved = subst (λ (layout : Shape). AreUnmoved layout c.args.self.now.history c.args.transaction.now) (sym layout) c.requires.unmoved;
      fenced = fenced;
    }

pub returns-clause-agrees : goal.returns-clause-agrees
returns-clause-agrees g c =
    let seen : HasSeen c.args.self.now.history c.args.session.now c.args.transaction.now = search rules in
    agrees_later g.J.Naming.layout c.args.transaction.now.seen c.args.self.now.history c.args.transaction.now.reads c.front-front.ensures.begun seen.later c.requires.unmoved c.front-front.ensures.agrees
