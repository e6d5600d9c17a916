use Rattle.std.proofs.Common.{ℕ, ◌≡◌, ◌<◌, length, get_or}
use Rattle.journal_tree.specs.Callers.{squashed_number}
use Rattle.journal_treewire.proofs.credential.squashed_groups.Given as goal

abbrev pub invariant-loop-at : goal.invariant-loop-at
invariant-loop-at l = (length l.squashed ≡ 16) × ((k : ℕ) → k < l.at → get_or l.squashed k 0 ≡ squashed_number (get_or l.all k 0))
