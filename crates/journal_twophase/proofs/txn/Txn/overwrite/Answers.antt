use Rattle.std.proofs.Common.{◌≡◌, ◌++◌, ◌∷◌, [], ℕ, List, IsTrue, rules, refl, sym, subst}
use Rattle.journal_world.specs.Addresses.{slot_of}
use Rattle.journal_twophase.specs.Transactions.{TxnState, holding, holds, IsClearOf}
use Rattle.journal_twophase.proofs.Holding.{holds_with, clear_last}
use Rattle.journal_twophase.proofs.txn.Txn.overwrite.Goals as goal

pub remember-answer-requires-clause-slot : goal.remember-answer-requires-clause-slot
remember-answer-requires-clause-slot g c =
    let taken : c.take.new.self ≡ holding g.J.Naming.layout c.args.self.now c.args.addr = rw (c.in_ok-took.ensures.taken, c.slot_of.ensures.slot) refl in
    subst (λ (t : TxnState). IsTrue (holds t.held (slot_of g.J.Naming.layout c.args.addr))) (sym taken) (holds_with c.args.self.now.held (slot_of g.J.Naming.layout c.args.addr))

pub give_back-requires : goal.give_back-requires
give_back-requires g c =
    let same : c.remember-answer.new.self ≡ c.take.new.self = search rules in
    record {
      clear = subst (λ (t : TxnState). IsTrue c.in_ok-took.took → (before : List ℕ) (last : ℕ) → t.held ≡ before ++ last ∷ [] → IsClearOf g.J.Naming.layout last t.reads × IsClearOf g.J.Naming.layout last t.writes) (sym same)
          (clear_last g.J.Naming.layout c.in_ok-took.took c.args.self.now.held c.take.new.self c.slot_of.result c.in_ok-took.ensures.took c.in_ok-took.ensures.clear);
    }
