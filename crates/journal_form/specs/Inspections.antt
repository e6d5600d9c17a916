-- The facts that the blocks of a disk show.
use Rattle.std.specs.Prelude.{◌≡◌, ◌≢◌, Option, Some, None, take, drop}
use Rattle.journal_block.specs.Block.{Bytes}
use Rattle.journal_block.specs.Updates.{Content}
use Rattle.journal_disk.specs.Disks.{Past}
use Rattle.journal_disk.specs.Images.{EveryImage}
use Rattle.journal_circ.specs.StandsFor.{StandsFor}
use Rattle.journal_world.specs.declared.layout.TheConstants.{FIRST_HOME}
use Rattle.journal_form.specs.declared.inspecting.FileFormat.{FileFormat}
use Rattle.journal_form.specs.declared.inspecting.FileFormat.TheVariants.{Flat, Tree}
use Rattle.journal_form.specs.declared.inspecting.TheConstants.{FILES_MAGIC, TREE_VERSION}

-- The block has the format: it begins with the name of the formats where there are files, and the
-- next bytes are the version of a tree exactly where the files are one
abbrev pub HasFormat : Bytes → Option FileFormat → Type 0
HasFormat block None = take 8 block ≢ FILES_MAGIC
HasFormat block (Some Flat) = (take 8 block ≡ FILES_MAGIC) × (take 8 (drop 8 block) ≢ TREE_VERSION)
HasFormat block (Some Tree) = (take 8 block ≡ FILES_MAGIC) × (take 8 (drop 8 block) ≡ TREE_VERSION)

-- Whatever blocks the images stand for, the first home block has the format
abbrev pub TellsFiles : Past → Option FileFormat → Type 0
TellsFiles p files = (blocks : Content) → EveryImage p (StandsFor p.size blocks) → HasFormat (blocks FIRST_HOME) files
