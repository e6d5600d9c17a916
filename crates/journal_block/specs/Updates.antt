-- The blocks of a disk after updates, made one after the other.
use Rattle.std.specs.Prelude.{ℕ, ◌==◌, ◌||◌, Bool, false, if◌then◌else◌, List, [], ◌∷◌}
use Rattle.journal_block.specs.declared.update.Update.{Update}
use Rattle.journal_block.specs.Block.{Bytes}

-- each block's bytes, by the block's number
abbrev pub Content : Type 0
Content = ℕ → Bytes

-- the content of block b after the updates, where it was these bytes before
abbrev pub updated : List Update → ℕ → Bytes → Bytes
updated [] b bytes = bytes
updated (u ∷ later) b bytes = updated later b (if u.block == b then u.bytes else bytes)

-- the blocks after the updates
abbrev pub with_updates : Content → List Update → Content
with_updates blocks updates b = updated updates b (blocks b)

-- one of the updates is of block b
abbrev pub updates_block : List Update → ℕ → Bool
updates_block [] b = false
updates_block (u ∷ later) b = u.block == b || updates_block later b
