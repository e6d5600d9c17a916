-- The target of a handle, on the disk and among the files.
use Rattle.std.specs.Prelude.{ℕ, ◌≡◌, ◌≤◌, ◌==◌, ◌&&◌, Bool, true, false, Option, Some, None, if◌then◌else◌}
use Rattle.journal_world.specs.declared.moment.Moment.{Moment}
use Rattle.journal_world.specs.Maps.{Map}
use Rattle.journal_inode.specs.declared.version.FormatVersion.{FormatVersion}
use Rattle.journal_inode.specs.declared.node.Time.{Time}
use Rattle.journal_inode.specs.declared.node.FileNode.{FileNode}
use Rattle.journal_inode.specs.declared.node.Node.{Node}
use Rattle.journal_inode.specs.declared.node.Node.TheVariants.{Free, Root, File}
use Rattle.journal_inode.specs.Nodes.{Fits}
use Rattle.journal_inode.specs.Versions.{most_bytes}
use Rattle.journal_inode.specs.Sound.{node_at, content}
use Rattle.journal_filestore.specs.declared.find.Target.{Target}
use Rattle.journal_filestore.specs.declared.find.Target.TheVariants.{Gone, Directory, Regular}
use Rattle.journal_file_types.specs.declared.reply.Found.{Found}
use Rattle.journal_file_types.specs.declared.settings.Settings.{Settings}
use Rattle.journal_file_types.specs.declared.settings.CreateMode.{CreateMode}
use Rattle.journal_file_types.specs.declared.settings.CreateMode.TheVariants.{Unchecked, Guarded, Exclusive}
use Rattle.journal_filestore.specs.Files.{FileData, is_file_number, files_of}
use Rattle.journal_filestore.specs.Operations.{attributes_of_node, of_root, file_target}
use Rattle.journal_filestore.specs.Operations.FileTarget.{gone, root, file}

-- a moment, as inodes have it
abbrev pub time_of : Moment → Time
time_of now = record { secs = now.secs; nanos = now.nanos }

-- the file of an inode
abbrev pub data_of : FormatVersion → Map → FileNode → FileData
data_of version m f = record { bytes = content version m f; mtime = f.mtime }

-- the settings of a file that is created, and whether it must not be there yet
abbrev pub asked : CreateMode → Option (Settings × Bool)
asked (Unchecked s) = Some (s, false)
asked (Guarded s) = Some (s, true)
asked Exclusive = None

-- a file that was found, from its inode, and the root
abbrev pub found_node : ℕ → FileNode → Time → Found
found_node i f mtime = record { generation = f.generation; file = attributes_of_node i f; root = of_root mtime }

-- the target of a handle of this number and generation, by the inode
abbrev pub target_of : Node → ℕ → ℕ → Target
target_of (Free g) i generation = Gone
target_of (Root t) i generation = if i == 1 && generation == 1 then Directory t else Gone
target_of (File f) i generation = if f.generation == generation then Regular f else Gone

-- This is what the handle names
abbrev pub IsAt : FormatVersion → ℕ → ℕ → Map → Target → Type 0
IsAt version i generation m Gone = file_target (files_of version m) i generation ≡ gone
IsAt version i generation m (Directory t) = (file_target (files_of version m) i generation ≡ root) × ((files_of version m).root ≡ t)
IsAt version i generation m (Regular f) =
    (file_target (files_of version m) i generation ≡ file i (data_of version m f)) × (node_at m i ≡ File f) × (is_file_number i ≡ true)

-- a file has no more bytes than its inode has blocks for
abbrev pub IsSmall : FormatVersion → Node → Type 0
IsSmall version (File f) = f.size ≤ most_bytes version
IsSmall version _ = Unit {0}

-- the numbers of a file's inode fit their bytes, its blocks are enough, and the root alone is a
-- directory
abbrev pub IsTarget : FormatVersion → ℕ → Target → Type 0
IsTarget version i (Regular f) = Fits (File f) × IsSmall version (File f)
IsTarget version i (Directory t) = i ≡ 1
IsTarget version i Gone = Unit {0}
