use Rattle.std.proofs.Common.{◌≡◌, false, ap, sym, ◌∙◌, is_ok, rules}
use Rattle.journal_lockmap.specs.Numbers.{slots_of}
use Rattle.journal_twophase.specs.Transactions.{TxnState, holds}
use Rattle.journal_twophase.proofs.Verified.{knows_pushed}
use Rattle.journal_twophase.proofs.Holding.{keeps_pushed, clear_of, if_took}
use Rattle.journal_twophase.proofs.txn.Txn.take.Goals.{then-holds_above+in_ok-held, else-holds_above}
use Rattle.journal_twophase.proofs.txn.Txn.take.Goals as goal

pub invariant_of-self : goal.invariant_of-self
invariant_of-self g c =
    let free : holds (slots_of c.self.inside.held.items) c.args.slot ≡ false = ap (λ (s : TxnState). holds s.held c.args.slot) c.self.view_is ∙ sym c.holds.ensures ∙ c.if-holds.false in
    let own : c.if-holds_above.held.slot ≡ c.args.slot = elim c.if-holds_above.branch [
      | then-holds_above+in_ok-held w ↦ search rules
      | else-holds_above w ↦ search rules
    ] in (
      c.self.invariant.0,
      keeps_pushed g.J.Naming.layout (is_ok c.push.result) c.self.inside.held.items c.push.new.self.items c.if-holds_above.held c.self.inside.transaction c.push.ensures.items
          (ap (holds (slots_of c.self.inside.held.items)) own ∙ free) c.self.invariant.1,
      knows_pushed g.J.Naming.layout (is_ok c.push.result) c.self.inside.held.items c.push.new.self.items c.if-holds_above.held c.self.inside.transaction.seen c.self.inside.known c.push.ensures.items
          c.self.invariant.2,
    )

pub returns-clause-clear : goal.returns-clause-clear
returns-clause-clear g c =
    let free : holds (slots_of c.self.inside.held.items) c.args.slot ≡ false = ap (λ (s : TxnState). holds s.held c.args.slot) c.self.view_is ∙ sym c.holds.ensures ∙ c.if-holds.false in
    if_took c.match-push.result (clear_of g.J.Naming.layout c.self.inside.held.items c.self.inside.transaction c.args.slot free c.self.invariant.1)
