use Rattle.std.proofs.Common.{List, ◌∙◌, sym, subst}
use Rattle.journal_lockmap.specs.Numbers.{HeldState}
use Rattle.journal_memory.specs.SlotCounts.{AgreeUpTo, AreUnder}
use Rattle.journal_twophase.proofs.Verified.{knows_lent}
use Rattle.journal_twophase.proofs.Holding.{keeps_lent, same_lent}
use Rattle.journal_twophase.proofs.txn.Txn.no_memory.Goals.{in-Ok, in-Err}
use Rattle.journal_twophase.proofs.txn.Txn.no_memory.Goals as goal

pub check_read-requires-clause-under : goal.check_read-requires-clause-under
check_read-requires-clause-under g c =
    subst (λ (l : List HeldState). AreUnder g.J.Naming.layout l c.self.inside.transaction.seen c.self.inside.transaction.reads) (sym c.deref_mut.ensures.value) c.self.invariant.1.reads

pub check_read-requires-clause-known : goal.check_read-requires-clause-known
check_read-requires-clause-known g c =
    subst (λ (l : List HeldState). AgreeUpTo g.J.Naming.layout c.self.inside.transaction.seen c.self.inside.known l) (sym c.deref_mut.ensures.value) c.self.invariant.2.agree

pub invariant_of-self : goal.invariant_of-self
invariant_of-self g c = (
  c.self.invariant.0,
  keeps_lent g.J.Naming.layout c.self.inside.held.len c.check_read.new.held c.self.inside.held.items c.self.inside.transaction (c.check_read.ensures.held ∙ c.deref_mut.ensures.value)
      c.self.inside.held.ok.0 c.self.invariant.1,
  knows_lent g.J.Naming.layout c.self.inside.held.len c.check_read.new.held c.self.inside.held.items c.self.inside.transaction.seen c.self.inside.known (c.check_read.ensures.held ∙ c.deref_mut.ensures.value)
      c.self.inside.held.ok.0 c.self.invariant.2,
)

pub returns-clause-refusal : goal.returns-clause-refusal
returns-clause-refusal g c =
    rw (← c.self.view_is)
    (elim c.match-check_read.branch [
      | in-Ok w ↦ rw w.result-is tt
      | in-Err w ↦ rw w.result-is w.in-Err.ensures.refusal
    ])

pub returns-clause-same : goal.returns-clause-same
returns-clause-same g c =
    same_lent c.self.inside.began c.self.inside.transaction c.self.inside.held.len c.check_read.new.held c.self.inside.held.items (c.check_read.ensures.held ∙ c.deref_mut.ensures.value)
    c.self.inside.held.ok.0 ∙ c.self.view_is
