-- The files of a map, without blocks and bitmap.
use Rattle.std.specs.Prelude.{ℕ, Bool, ◌&&◌, ◌==◌, nat_le, nat_lt, if◌then◌else◌, List, Option, Some, None}
use Rattle.journal_world.specs.Maps.{Map}
use Rattle.journal_inode.specs.declared.version.FormatVersion.{FormatVersion}
use Rattle.journal_inode.specs.declared.node.Time.{Time}
use Rattle.journal_inode.specs.declared.node.Node.{Node}
use Rattle.journal_inode.specs.declared.node.Node.TheVariants.{Free, Root, File}
use Rattle.journal_inode.specs.declared.place.TheConstants.{INODES}
use Rattle.journal_inode.specs.Nodes.{no_time}
use Rattle.journal_inode.specs.Sound.{node_at, content}

-- a file: its bytes, and the time of their last change
pub record FileData : Type 0 where
  pub bytes : List ℕ
  pub mtime : Time

-- the entry of a number: the generation of its last file, and that file if it is there
pub record FileEntry : Type 0 where
  pub generation : ℕ
  pub file : Option FileData

-- The root's time, and what each number has
pub record Files : Type 0 where
  pub root : Time
  pub at : ℕ → FileEntry

-- files have the numbers 2 to 511
abbrev pub is_file_number : ℕ → Bool
is_file_number i = nat_le 2 i && nat_lt i INODES

abbrev pub no_entry : FileEntry
no_entry = record { generation = 0; file = None }

-- the files with one of them, or its absence, replaced
abbrev pub with_entry : Files → ℕ → FileEntry → Files
with_entry F i e = record { root = F.root; at = λ j. if j == i then e else F.at j }

-- the entry of an inode's number, by the inode and the map
abbrev pub entry_of : FormatVersion → Map → Node → FileEntry
entry_of version m (File f) = record { generation = f.generation; file = Some (record { bytes = content version m f; mtime = f.mtime }) }
entry_of version m (Free generation) = record { generation = generation; file = None }
entry_of version m (Root mtime) = no_entry

abbrev pub root_time : Node → Time
root_time (Root mtime) = mtime
root_time _ = no_time

-- the files of a map of this version
unfoldable pub files_of : FormatVersion → Map → Files
files_of version m = record {
  root = root_time (node_at m 1);
  at = λ i. if is_file_number i then entry_of version m (node_at m i) else no_entry;
}
