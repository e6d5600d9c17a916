-- The change of a file, and of the numbers of its blocks.
use Rattle.std.specs.Prelude.{ℕ, ◌≡◌, ◌<◌, ◌+◌, ◌-◌, true, List, ◌++◌, length, take, replicate, Option, Some, None}
use Rattle.journal_world.specs.Addresses.{Shape}
use Rattle.journal_world.specs.Maps.{Map}
use Rattle.journal_twophase.specs.Transactions.{TxnState}
use Rattle.journal_inode.specs.declared.version.FormatVersion.{FormatVersion}
use Rattle.journal_inode.specs.declared.node.Time.{Time}
use Rattle.journal_inode.specs.declared.node.FileNode.{FileNode}
use Rattle.journal_inode.specs.declared.node.Node.TheVariants.{File}
use Rattle.journal_inode.specs.declared.node.TheConstants.{MORE_BLOCKS}
use Rattle.journal_inode.specs.Versions.{extra_count}
use Rattle.journal_inode.specs.Sound.{node_at}
use Rattle.journal_filestore.specs.Files.{is_file_number}
use Rattle.journal_filestore.specs.Operations.{attributes_of_node}
use Rattle.journal_filestore.specs.Doing.{LearnsThat, Puts, Makes}

-- the numbers of further blocks: these, then those, and zeros
abbrev pub extra_blocks_of : List ℕ → List ℕ → List ℕ
extra_blocks_of kept fresh = kept ++ fresh ++ replicate (MORE_BLOCKS - (length kept + length fresh)) 0

-- the inode of a file with another size and time: it keeps this many of its further blocks, and
-- gets new ones after them
abbrev pub with_blocks : FileNode → ℕ → List ℕ → ℕ → Time → FileNode
with_blocks f kept fresh size mtime = record f { size = size; more = extra_blocks_of (take kept f.more) fresh; mtime = mtime }

-- the file f at number i is one of these bytes and this time then
abbrev pub FileBecomes : FormatVersion → Map → Map → ℕ → FileNode → List ℕ → Time → Type 0
FileBecomes version m n i f bytes mtime =
    is_file_number i ≡ true → node_at m i ≡ File f → Puts version m n i (record { generation = f.generation; file = Some (record { bytes = bytes; mtime = mtime }) })

-- Blocks are not handed out that a file of the new size has beside those of the old one: the
-- transaction only read
pub record LacksBlocks (version : FormatVersion) (layout : Shape) (old new : TxnState) (from to : ℕ) : Type 0 where
  pub needed : extra_count version from < extra_count version to
  pub told : LearnsThat version layout old new (λ m. Unit {0})

-- The file became one of this size, time and bytes, which its inode has
pub record HasChanged (version : FormatVersion) (layout : Shape) (old new : TxnState) (i : ℕ) (f : FileNode) (size : ℕ) (mtime : Time) (bytes : Map → List ℕ) (g : FileNode) : Type 0 where
  pub attributes : attributes_of_node i g ≡ record { number = i; size = size; mtime = mtime }
  pub generation : g.generation ≡ f.generation
  pub makes : Makes version layout old new (λ m n. FileBecomes version m n i f (bytes m) mtime)

-- The change of a file that gets this size, time and bytes
abbrev pub ChangesFile : FormatVersion → Shape → TxnState → TxnState → ℕ → FileNode → ℕ → Time → (Map → List ℕ) → Option FileNode → Type 0
ChangesFile version layout old new i f size mtime bytes None = LacksBlocks version layout old new f.size size
ChangesFile version layout old new i f size mtime bytes (Some g) = HasChanged version layout old new i f size mtime bytes g
