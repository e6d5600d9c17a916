use Rattle.std.proofs.Common.{IsTrue, List, [], sym, subst, arith}
use Rattle.std.proofs.lemmas.Map.Keys.{le_from_is_le}
use mathlib.Core.List.{IsPrefix}
use Rattle.journal_world.specs.Histories.{is_trusted, latest}
use Rattle.journal_block.specs.declared.update.Update.{Update}
use Rattle.journal_tail.specs.ObjectTails.{known_updates}
use Rattle.journal_memory.specs.Updates.{AreObjectsOf}
use Rattle.journal_memory.specs.Volatiles.{VolatileState}
use Rattle.journal_memory.proofs.Staying.{usable_latest, unfetched_latest}
use Rattle.journal_memory.proofs.volatile.Volatile.usable.Goals as goal

pub returns-then-le-clause-latest : goal.returns-then-le-clause-latest
returns-then-le-clause-latest g c = λ trusted.
    subst (λ (v : VolatileState). AreObjectsOf g.J.Naming.layout (latest v.ledger.history) (known_updates c.deref.result.now v.tail)) c.self.view_is
    (subst (λ (us : List Update). AreObjectsOf g.J.Naming.layout (latest c.self.inside.ledger.history) (known_updates us c.self.inside.tail)) (sym c.deref.ensures.value)
    (usable_latest g.J.Naming.layout _ _ c.self.invariant c.fetched.invariant
    (subst (λ (v : VolatileState). IsTrue (is_trusted v.ledger.history)) (sym c.self.view_is) trusted)
    (subst (λ (v : VolatileState). IsPrefix c.fetched.inside.front v.ledger.history) (sym c.self.view_is) c.in_ok-front_over.ensures.begins)
    (omega (arith, le_from_is_le c.trimmed.result c.fetched.inside.commits (sym c.if-le.ensures), c.trimmed.ensures))))

pub returns-else-le-clause-latest : goal.returns-else-le-clause-latest
returns-else-le-clause-latest g c = λ trusted.
    subst (λ (v : VolatileState). AreObjectsOf g.J.Naming.layout (latest v.ledger.history) (known_updates [] v.tail)) c.self.view_is
    (unfetched_latest g.J.Naming.layout _ c.self.invariant (subst (λ (v : VolatileState). IsTrue (is_trusted v.ledger.history)) (sym c.self.view_is) trusted))
