-- Blocks that hold objects: those from block 513 on.
use Rattle.std.specs.Prelude.{ℕ, ◌≡◌, ◌<◌, ◌≤◌, List}
use Rattle.std.specs.List.{All}
use Rattle.journal_block.specs.declared.update.Update.{Update}
use Rattle.journal_block.specs.Updates.{Content}
use Rattle.journal_world.specs.declared.layout.TheConstants.{FIRST_HOME}

-- each of the updates is of a block that holds objects
abbrev pub AreHomes : ℕ → List Update → Type 0
AreHomes n updates = All (λ u. (FIRST_HOME ≤ u.block) × (u.block < n)) updates

-- On a disk of n blocks these hold the same objects: from block 513 on they are equal
abbrev pub SameBlocks : ℕ → Content → Content → Type 0
SameBlocks n f g = (b : ℕ) → FIRST_HOME ≤ b → b < n → f b ≡ g b
