use Rattle.std.proofs.Common.{List, [], ◌∷◌, ◌≢◌, ◌≤◌, length, refl, ap, subst, arith}
use mathlib.Core.List.{IsPrefix}
use Rattle.journal_world.specs.Histories.{Entry}
use Rattle.journal_twophase.proofs.journal.prove_goes_on.Goals as goal

some : (history : List Entry) → history ≢ [] → 1 ≤ length history
some [] begun = absurd (begun refl)
some (e ∷ es) begun = omega (arith)

pub returns : goal.returns
returns g c =
    let start = c.args.start.now in
    let same = c.again-longer.ensures in
    subst (λ (l : List Entry). IsPrefix start l)
    (c.see.ensures.whole (omega (arith, ap length same, c.requires.one, some c.args.front.now c.requires.begun)))
    (subst (λ (l : List Entry). IsPrefix l c.see.new.self) same c.see.ensures.this)
