use Rattle.std.proofs.Common.{ℕ, ◌≡◌, ◌<◌, ◌≤◌, get_or}
use Rattle.journal_lockmap.specs.Numbers.{HeldState, HasNumber}
use Rattle.journal_lockmap.proofs.counts.SlotCounts.verify_tokens.Given as goal

abbrev pub invariant-loop-index : goal.invariant-loop-index
invariant-loop-index g l =
    (l.self-inside ≡ l.initial.self-inside) × (l.held ≡ l.initial.held)
    × ((k : ℕ) (d : HeldState) → l.fn.from ≤ k → k < l.index → HasNumber l.self-inside.keeper (get_or l.held k d))
