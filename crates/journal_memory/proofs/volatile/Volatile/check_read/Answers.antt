use Rattle.std.proofs.Common.{IfErr, OnOk, List, sym, subst}
use Rattle.journal_lockmap.specs.Numbers.{HeldState}
use Rattle.journal_memory.specs.SlotCounts.{AgreeWith}
use Rattle.journal_memory.specs.Transactions.{AreUnmoved}
use Rattle.journal_memory.specs.Outsets.{MayRead, IsCheckRefusal}
use Rattle.journal_memory.specs.Volatiles.{VolatileState, outset_of}
use Rattle.journal_memory.proofs.Remembering.{verified_under}
use Rattle.journal_memory.proofs.volatile.Volatile.check_read.Goals as goal

pub check_verified-requires : goal.check_verified-requires
check_verified-requires g c = record {
  unmoved = subst (λ (s : VolatileState). AreUnmoved g.J.Naming.layout s.ledger.history c.args.transaction.now) (sym c.verify_new_tokens.ensures.same)
      (verified_under g.J.Naming.layout c.args.self.now.ledger.history c.args.held.now c.args.transaction.now c.verify_new_tokens.ensures.agree c.requires.under);
}

pub returns-clause-agree : goal.returns-clause-agree
returns-clause-agree g c =
    subst (λ (s : VolatileState). AgreeWith g.J.Naming.layout s.ledger.history c.verify_new_tokens.new.held) (sym c.verify_new_tokens.ensures.same)
    (subst (λ (l : List HeldState). AgreeWith g.J.Naming.layout c.args.self.now.ledger.history l) (sym c.verify_new_tokens.ensures.held) c.verify_new_tokens.ensures.agree)

pub returns-clause-may : goal.returns-clause-may
returns-clause-may g c =
    subst (λ (s : VolatileState). OnOk c.check_verified.result (MayRead g.J.Naming.layout (outset_of s) c.args.transaction.now c.args.addr)) c.verify_new_tokens.ensures.same
    c.check_verified.ensures.may

pub returns-clause-refusal : goal.returns-clause-refusal
returns-clause-refusal g c =
    subst (λ (s : VolatileState). IfErr c.check_verified.result (IsCheckRefusal g.J.Naming.layout (outset_of s) c.args.transaction.now c.args.addr)) c.verify_new_tokens.ensures.same
    c.check_verified.ensures.refusal
