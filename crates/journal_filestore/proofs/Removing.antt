-- A file goes: its inode becomes free, and its blocks' bits are cleared.
use Rattle.std.proofs.Common.{ℕ, ◌≡◌, ◌<◌, ◌^◌, true, [], ◌∷◌, ◌++◌, None}
use Rattle.journal_world.specs.Maps.{Map}
use Rattle.journal_inode.specs.declared.version.FormatVersion.{FormatVersion}
use Rattle.journal_inode.specs.declared.node.FileNode.{FileNode}
use Rattle.journal_inode.specs.declared.node.Node.TheVariants.{Free, File}
use Rattle.journal_inode.specs.Places.Object.{inode}
use Rattle.journal_inode.specs.Nodes.{inode_bytes}
use Rattle.journal_inode.specs.Sound.{node_at, file_blocks, HasSoundFiles}
use Rattle.journal_filestore.specs.Files.{is_file_number}
use Rattle.journal_filestore.specs.Doing.{bits_written, Puts}
use Rattle.journal_filestore.proofs.Replacing.{IsInPlace-free}
use Rattle.journal_filestore.proofs.FilesReplaced.{IsFileNumber-test}
use Rattle.journal_filestore.proofs.Becoming.{Puts-replaced}
use Rattle.journal_filestore.proofs.Lasting.{Becomes}
use Rattle.journal_filestore.proofs.Changing.{HadBlocks-file, Replaces-changed}

Free-is-File : (g : ℕ) (f : FileNode) → Free g ≡ File f → ⊥
Free-is-File g f is = cc

-- REMOVE
pub Puts-removed : (version : FormatVersion) (m n : Map) (i : ℕ) (f : FileNode) → is_file_number i ≡ true → HasSoundFiles version m → node_at m i ≡ File f → f.generation < 2 ^ 32
    → Becomes m n (bits_written 0 (file_blocks version f) ++ (inode i, inode_bytes (Free f.generation)) ∷ []) → Puts version m n i (record { generation = f.generation; file = None })
Puts-removed version m n i f number sound is_file fits is =
    let among = IsFileNumber-test i number in
    Puts-replaced version m n i (Free f.generation) number sound
    (Replaces-changed version m n i (Free f.generation) [] (file_blocks version f) [] [] [] among.to sound (HadBlocks-file version m i f among.to sound is_file)
    (λ b none. absurd none) (λ b none. absurd none) (λ b has. absurd has) (λ b none. absurd none) (λ b none. absurd none) is fits)
    (record { placed = IsInPlace-free i f.generation among.from; file = λ g is. absurd (Free-is-File f.generation g is); distinct = λ g is. absurd (Free-is-File f.generation g is) })
