use Rattle.std.proofs.Common.{◌≡◌, ◌++◌, ◌∷◌, [], ℕ, List, IsTrue, sym, subst, rules}
use Rattle.journal_twophase.specs.Transactions.{TxnState, IsClearOf}
use Rattle.journal_twophase.proofs.Verified.{knows_popped}
use Rattle.journal_twophase.proofs.Holding.{keeps_popped}
use Rattle.journal_twophase.proofs.txn.Txn.give_back.Goals as goal

pub invariant_of-self : goal.invariant_of-self
invariant_of-self g c =
    let took : IsTrue c.args.took = search rules in (
      c.self.invariant.0,
      keeps_popped g.J.Naming.layout c.pop.result c.self.inside.held.items c.pop.new.self.items c.self.inside.transaction c.pop.ensures.items
          (subst (λ (s : TxnState). (before : List ℕ) (slot : ℕ) → s.held ≡ before ++ slot ∷ [] → IsClearOf g.J.Naming.layout slot s.reads × IsClearOf g.J.Naming.layout slot s.writes) (sym c.self.view_is) (c.requires.clear took))
          c.self.invariant.1,
      knows_popped g.J.Naming.layout c.pop.result c.self.inside.held.items c.pop.new.self.items c.self.inside.transaction.seen c.self.inside.known _ c.pop.ensures.items (search rules) c.self.invariant.2,
    )
