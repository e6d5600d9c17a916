use Rattle.std.proofs.Common.{IsTrue, sym, subst}
use Rattle.journal_memory.specs.Transactions.{TransactionState}
use Rattle.journal_world.specs.Addresses.{slot_of}
use Rattle.journal_twophase.specs.Transactions.{TxnState, KnowsHeld, holds}
use Rattle.journal_twophase.proofs.Holding.{keeps_written, begun_still}
use Rattle.journal_twophase.proofs.txn.Txn.remember.Goals as goal

pub invariant_of-self-2 : goal.invariant_of-self-2
invariant_of-self-2 g c = (
  begun_still c.self.inside.began c.self.inside.transaction c.overwrite.new.self c.args.addr c.new-value.result c.self.invariant.0 c.in_ok-overwrite.ensures.ok,
  keeps_written g.J.Naming.layout c.self.inside.held.items c.self.inside.transaction c.overwrite.new.self c.args.addr c.new-value.result c.self.invariant.1
      (subst (λ (s : TxnState). IsTrue (holds s.held (slot_of g.J.Naming.layout c.args.addr))) (sym c.self.view_is) c.requires.slot) c.in_ok-overwrite.ensures.ok,
  subst (λ (u : TransactionState). KnowsHeld g.J.Naming.layout c.self.inside.held.items u.seen c.self.inside.known) (sym c.in_ok-overwrite.ensures.ok.others) c.self.invariant.2,
)
