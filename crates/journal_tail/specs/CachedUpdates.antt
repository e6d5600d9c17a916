-- Copies of blocks that are at home, as updates.
use Rattle.std.specs.Prelude.{ℕ, List, [], ◌∷◌, ◌++◌}
use Rattle.journal_block.specs.declared.update.Update.{Update}
use Rattle.journal_block.specs.Block.{Bytes}

-- the copies by their blocks' numbers, the most recently used first, as updates in the other order:
-- of two the first counts
abbrev pub cached_updates : List (ℕ × Bytes) → List Update
cached_updates [] = []
cached_updates (e ∷ es) = cached_updates es ++ record { block = e.0; bytes = e.1 } ∷ []
