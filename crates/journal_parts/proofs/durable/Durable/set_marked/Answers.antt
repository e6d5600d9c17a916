use Rattle.std.proofs.Common.{◌≤◌, refl, sym, subst}
use mathlib.Core.List.{IsPrefix}
use Rattle.journal_world.specs.Histories.{floor}
use Rattle.journal_parts.specs.Durables.{DurableState}
use Rattle.journal_parts.proofs.Enduring.{kept_mark, crashes_noted}
use Rattle.journal_parts.proofs.durable.Durable.set_marked.Goals as goal

pub invariant_of-self : goal.invariant_of-self
invariant_of-self g c =
    kept_mark g.J.Naming.layout _ c.self.invariant c.args.front (subst (λ (d : DurableState). IsPrefix d.front c.args.front) (sym c.self.view_is) c.requires.longer)
    (subst (λ (d : DurableState). floor c.args.front ≤ d.logged) (sym c.self.view_is) c.requires.floored)

pub returns-clause-crash : goal.returns-clause-crash
returns-clause-crash g c = crashes_noted g.J.Naming.layout _ _ _ c.self.invariant c.self.view_is (invariant_of-self g c) refl
