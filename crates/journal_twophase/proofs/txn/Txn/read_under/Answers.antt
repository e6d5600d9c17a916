use Rattle.std.proofs.Common.{◌≡◌, IsTrue, List, sym, ap, subst, ◌∙◌, rules}
use Rattle.journal_world.specs.Addresses.{slot_of}
use Rattle.journal_world.specs.Histories.{Entry}
use Rattle.journal_lockmap.specs.Numbers.{HeldState, slots_of}
use Rattle.journal_memory.specs.SlotCounts.{AgreeWith, AreUnder}
use Rattle.journal_memory.specs.Transactions.{TransactionState}
use Rattle.journal_twophase.specs.Transactions.{TxnState, holds, Learns}
use Rattle.journal_twophase.proofs.Verified.{knows_all, knows_lent}
use Rattle.journal_twophase.proofs.Holding.{state_of, keeps_read, keeps_lent, lent_back}
use Rattle.journal_twophase.proofs.Looking.{learns, later_on}
use Rattle.journal_twophase.proofs.txn.Txn.read_under.Goals as goal

pub find-requires-clause-under : goal.find-requires-clause-under
find-requires-clause-under g c =
    subst (λ (l : List HeldState). AreUnder g.J.Naming.layout l c.self.inside.transaction.seen c.self.inside.transaction.reads) (sym c.deref_mut.ensures.value) c.self.invariant.1.reads

pub invariant_of-self-2 : goal.invariant_of-self-2
invariant_of-self-2 g c =
    let t = c.self.inside.transaction in
    let same : c.find.new.held ≡ c.self.inside.held.items = c.find.ensures.held ∙ c.deref_mut.ensures.value in
    let slot : IsTrue (holds (slots_of c.self.inside.held.items) (slot_of g.J.Naming.layout c.args.addr)) =
    subst (λ (s : TxnState). IsTrue (holds s.held (slot_of g.J.Naming.layout c.args.addr))) (sym c.self.view_is) c.requires.slot in (
      later_on g.J.Naming.layout c.self.inside.began t c.remember.new.self c.args.addr _ c.new-value.result _ c.in_ok-found.found c.self.invariant.0 c.in_ok-found.ensures.read c.remember.ensures.remembered,
      keeps_lent g.J.Naming.layout c.self.inside.held.len c.find.new.held c.self.inside.held.items c.remember.new.self same c.self.inside.held.ok.0
          (keeps_read g.J.Naming.layout c.self.inside.held.items t c.remember.new.self c.args.addr c.new-value.result _ c.in_ok-found.found c.self.invariant.1
          (rw same at c.in_ok-found.ensures.read) slot c.remember.ensures.remembered),
      knows_lent g.J.Naming.layout c.self.inside.held.len c.find.new.held c.self.inside.held.items c.remember.new.self.seen _ same c.self.inside.held.ok.0
          (knows_all g.J.Naming.layout c.self.inside.held.items c.remember.new.self.seen _ (search rules)
          (subst (λ (h : List Entry). AgreeWith g.J.Naming.layout h c.self.inside.held.items) (sym (ap (λ (u : TransactionState). u.seen) c.remember.ensures.remembered.others))
          (subst (λ (l : List HeldState). AgreeWith g.J.Naming.layout c.in_ok-found.found.seen l) same c.in_ok-found.ensures.read.agree))),
    )

pub returns-clause-learns : goal.returns-clause-learns
returns-clause-learns g c =
    let t = c.self.inside.transaction in
    let items = c.self.inside.held.items in
    let back = lent_back c.self.inside.held.len c.find.new.held items (c.find.ensures.held ∙ c.deref_mut.ensures.value) c.self.inside.held.ok.0 in
    rw (← c.self.view_is)
    (subst (λ (l : List HeldState). Learns (state_of c.self.inside.began t items) c.args.addr c.new-value.result (state_of c.self.inside.began c.remember.new.self l)) (sym back)
    (learns g.J.Naming.layout c.self.inside.began (slots_of items) t c.remember.new.self c.args.addr _ c.new-value.result _ c.in_ok-found.found
    c.in_ok-found.ensures.read (search rules) c.remember.ensures.remembered))
