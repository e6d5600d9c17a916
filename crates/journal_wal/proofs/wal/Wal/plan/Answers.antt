use Rattle.std.proofs.Common.{◌≡◌, ℕ, sym, ap, subst, ◌∙◌}
use Rattle.journal_memlog.specs.declared.bounds.Bounds.{Bounds}
use Rattle.journal_wal.specs.Wal.{WalState, install_homes, IsPlanOf}
use Rattle.journal_wal.specs.States.{logging_of, installing_of, updates_to}
use Rattle.journal_wal.proofs.Phases.{of_parts, in_installing}
use Rattle.journal_wal.proofs.Installer.{plan_made}
use Rattle.journal_wal.proofs.wal.Wal.plan.Goals as goal

pub invariant_of-self-in-Resting-replace-2 : goal.invariant_of-self-in-Resting-replace-2
invariant_of-self-in-Resting-replace-2 g c =
    let w : WalState = of_parts c.self.inside.on_disk.circ c.self.inside.memory (logging_of c.self.inside.on_disk.logger) (installing_of c.self.inside.on_disk.installer) in
    let upto : c.bounds-upto.result.logged ≡ w.log.logged = ap (λ (b : Bounds). b.logged) c.bounds-upto.ensures.bounds in
    in_installing w.ring w.log w.logging (install_homes w.log.logged c.in_ok-plan.plan.homes.entries) (install_homes c.in_ok-plan.plan.upto c.in_ok-plan.plan.homes.entries)
    (λ i. install_homes (sym (c.in_ok-plan.ensures.upto ∙ upto) i) c.in_ok-plan.plan.homes.entries)
    (plan_made w c.self.invariant (ap installing_of (c.in-Resting.is)) c.in_ok-plan.plan.homes.entries
    (subst (λ (n : ℕ). IsPlanOf (updates_to w.log n) w.log.start c.in_ok-plan.plan.homes.entries) upto c.in_ok-plan.ensures.plan))
