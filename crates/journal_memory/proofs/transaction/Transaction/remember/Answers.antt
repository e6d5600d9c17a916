use Rattle.std.proofs.Common.{◌≡◌, IsTrue, List, sym, subst}
use mathlib.Core.List.{IsPrefix}
use Rattle.journal_world.specs.Maps.{Pair, is_object, value_at}
use Rattle.journal_world.specs.Histories.{is_trusted, latest}
use Rattle.journal_memory.specs.Transactions.{TransactionState, ReadResultState, IsTransaction, AreUnmoved, Remembers}
use Rattle.journal_memory.proofs.Remembering.{remembered, remembers}
use Rattle.journal_memory.proofs.transaction.Transaction.remember.Goals as goal

pub invariant_of-self : goal.invariant_of-self
invariant_of-self g c =
    let is = sym c.found.view_is in
    let t : TransactionState = record { reads = c.self.inside.reads; writes = c.self.inside.writes; seen = c.self.inside.front } in
    let found = c.found.inside in
    subst (λ (reads : List Pair). IsTransaction g.J.Naming.layout (record { reads = reads; writes = t.writes; seen = found.front })) (sym c.with.ensures.known)
    (remembered g.J.Naming.layout t c.self.invariant found.front found.addr c.args.value.now
    (subst (λ (f : ReadResultState). IsPrefix t.seen f.seen) is (subst (λ (u : TransactionState). IsPrefix u.seen c.args.found.seen) (sym c.self.view_is) c.requires.later))
    (subst (λ (f : ReadResultState). AreUnmoved g.J.Naming.layout f.seen t) is (subst (AreUnmoved g.J.Naming.layout c.args.found.seen) (sym c.self.view_is) c.requires.unmoved))
    (subst (λ (f : ReadResultState). IsTrue (is_object g.J.Naming.layout (f.addr, c.args.value.now))) is c.requires.object)
    (subst (λ (f : ReadResultState). IsTrue (is_trusted f.seen) → c.args.value.now ≡ value_at (latest f.seen) f.addr) is c.requires.value))

pub returns : goal.returns
returns g c =
    let t : TransactionState = record { reads = c.self.inside.reads; writes = c.self.inside.writes; seen = c.self.inside.front } in
    let found = c.found.inside in
    let now : List Pair → TransactionState = λ (reads : List Pair). record { reads = reads; writes = t.writes; seen = found.front } in
    record {
      remembered = subst (λ (f : ReadResultState). Remembers c.args.self.now f.addr c.args.value.now f.seen (now c.with.result)) c.found.view_is
          (subst (λ (u : TransactionState). Remembers u found.addr c.args.value.now found.front (now c.with.result)) c.self.view_is
          (subst (λ (reads : List Pair). Remembers t found.addr c.args.value.now found.front (now reads)) (sym c.with.ensures.known)
          (remembers t found.addr c.args.value.now found.front)));
    }
