use Rattle.std.proofs.Common.{◌++◌, IsTrue, sym, subst}
use Rattle.journal_world.specs.Histories.{is_trusted, latest}
use Rattle.journal_tail.specs.Tails.{TailState}
use Rattle.journal_memory.specs.Updates.{AreObjectsOf}
use Rattle.journal_memory.specs.Fetches.{FetchedState}
use Rattle.journal_memory.specs.Volatiles.{VolatileState, IsVolatile}
use Rattle.journal_memory.proofs.Staying.{kept_copies}
use Rattle.journal_memory.proofs.volatile.Volatile.keep_copies.Goals as goal

pub invariant_of-self : goal.invariant_of-self
invariant_of-self g c =
    let layout = g.J.Naming.layout in
    let held : IsTrue (is_trusted c.args.self.now.ledger.history) → AreObjectsOf layout (latest c.args.self.now.ledger.history) (c.args.fetched.updates ++ c.args.self.now.tail.log.updates) =
    c.can_keep.ensures c.if-can_keep.true in
    let inside : IsTrue (is_trusted c.self.inside.ledger.history) → AreObjectsOf layout (latest c.self.inside.ledger.history) (c.fetched.inside.updates.items ++ c.self.inside.tail.log.updates) =
    subst (λ (f : FetchedState). IsTrue (is_trusted c.self.inside.ledger.history) → AreObjectsOf layout (latest c.self.inside.ledger.history) (f.updates ++ c.self.inside.tail.log.updates)) (sym c.fetched.view_is)
    (subst (λ (v : VolatileState). IsTrue (is_trusted v.ledger.history) → AreObjectsOf layout (latest v.ledger.history) (c.args.fetched.updates ++ v.tail.log.updates)) (sym c.self.view_is) held) in
    subst (λ (t : TailState). IsVolatile layout (record { ledger = c.self.inside.ledger; tail = t; faulted = c.self.inside.faulted })) (sym c.keep.ensures.others)
    (kept_copies layout _ c.self.invariant c.keep.new.self.cache c.fetched.inside.updates.items inside c.keep.ensures.known)
