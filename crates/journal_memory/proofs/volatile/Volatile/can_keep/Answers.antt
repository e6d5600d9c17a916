use Rattle.std.proofs.Common.{◌++◌, ◌∙◌, IsTrue, sym, subst, arith}
use Rattle.std.proofs.lemmas.Map.Keys.{le_from_is_le}
use mathlib.Core.List.{IsPrefix}
use Rattle.journal_world.specs.Histories.{is_trusted, latest}
use Rattle.journal_memory.specs.Updates.{AreObjectsOf}
use Rattle.journal_memory.specs.Fetches.{FetchedState}
use Rattle.journal_memory.specs.Volatiles.{VolatileState}
use Rattle.journal_memory.proofs.Staying.{fetched_alone}
use Rattle.journal_memory.proofs.volatile.Volatile.can_keep.Goals as goal

pub returns : goal.returns
returns g c = λ yes trusted.
    let layout = g.J.Naming.layout in
    subst (λ (v : VolatileState). AreObjectsOf layout (latest v.ledger.history) (c.args.fetched.now.updates ++ v.tail.log.updates)) c.self.view_is
    (subst (λ (f : FetchedState). AreObjectsOf layout (latest c.self.inside.ledger.history) (f.updates ++ c.self.inside.tail.log.updates)) c.fetched.view_is
    (fetched_alone layout _ _ c.self.invariant c.fetched.invariant
    (subst (λ (v : VolatileState). IsTrue (is_trusted v.ledger.history)) (sym c.self.view_is) trusted)
    (subst (λ (v : VolatileState). IsPrefix c.fetched.inside.front v.ledger.history) (sym c.self.view_is) c.in-Ok.ensures.begins)
    (omega (arith, le_from_is_le c.trimmed.result c.fetched.inside.commits (sym c.le.ensures ∙ yes), c.trimmed.ensures))))
