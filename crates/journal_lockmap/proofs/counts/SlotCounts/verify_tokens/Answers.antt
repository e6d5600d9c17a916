use Rattle.std.proofs.Common.{◌≡◌, List, ℕ, get_or, ap, subst, ◌∙◌, arith}
use Rattle.journal_lockmap.specs.Numbers.{HeldState, HasNumber}
use Rattle.journal_lockmap.proofs.counts.SlotCounts.verify_tokens.Goals as goal

pub returns-clause-agree : goal.returns-clause-agree
returns-clause-agree g c = λ k d past low.
    let looked = c.loop-index.invariant.2 k d past (let t = c.loop-index-test.false in omega (arith, low, t)) in
    let one = subst (λ (held : List HeldState). HasNumber c.loop-index.self-inside.keeper (get_or held k d)) c.loop-index.invariant.1 looked in
    subst (λ (counts : List ℕ). HasNumber counts (get_or c.args.held.now k d)) (ap (λ s. s.keeper) c.loop-index.invariant.0 ∙ c.self.view_is) one
