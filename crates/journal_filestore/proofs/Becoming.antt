-- A file becomes what it is to be, whatever blocks it has then.
use Rattle.std.proofs.Common.{ℕ, ◌≡◌, ◌≢◌, ◌≤◌, ◌-◌, true, List, [], ◌∷◌, ◌++◌, length, take, drop, replicate, Some, sym, ap, subst, ◌∙◌, arith}
use Rattle.std.specs.Prelude.{AllPairs}
use Rattle.std.specs.List.{AllByRecursion}
use Rattle.std.proofs.lemmas.List.{take_at, length-append, length-replicate}
use Rattle.journal_world.specs.declared.layout.TheConstants.{BLOCK_BYTES}
use Rattle.journal_world.specs.declared.moment.TheConstants.{MAX_NANOS}
use Rattle.journal_world.specs.Maps.{Map}
use Rattle.journal_inode.specs.declared.version.FormatVersion.{FormatVersion}
use Rattle.journal_inode.specs.declared.node.FileNode.{FileNode}
use Rattle.journal_inode.specs.declared.node.Node.{Node}
use Rattle.journal_inode.specs.declared.node.Node.TheVariants.{File}
use Rattle.journal_inode.specs.declared.node.TheConstants.{MORE_BLOCKS}
use Rattle.journal_inode.specs.Places.{object}
use Rattle.journal_inode.specs.Places.Object.{block}
use Rattle.journal_inode.specs.Versions.{most_bytes, extra_count, room_of}
use Rattle.journal_inode.specs.Sound.{file_blocks, stored, content, IsDataBlock, IsSoundFile, RepeatsNoBlock, HasSoundFiles}
use Rattle.journal_filestore.proofs.Replacing.{Replaces, IsSoundNode, IsInPlace-file, Sound-replaced}
use Rattle.journal_filestore.specs.Files.{is_file_number, entry_of}
use Rattle.journal_filestore.specs.Doing.{Puts}
use Rattle.journal_filestore.proofs.FilesReplaced.{IsFileNumber-test, files_of-replaced}

-- bytes and zeros behind them fill the room
pub padded_length : (k : ℕ) (p : List ℕ) → length p ≤ k → length (p ++ replicate (k - length p) 0) ≡ k
padded_length k p small = simp (length-append, length-replicate) (omega (arith, small))

-- one block is distinct from all others
pub one_block : (b : ℕ) → AllPairs ◌≢◌ (b ∷ [])
one_block b = λ i j d low high. absurd (omega (arith, low, high))

File-is : (g f : FileNode) → File g ≡ File f → g ≡ f
File-is g f is = cc

module _ (version : FormatVersion) where
  -- The inode g is one of a file of the bytes p: its blocks are distinct data blocks, whole, and
  -- hold p and zeros
  pub record Stores (n : Map) (g : FileNode) (p : List ℕ) : Type 0 where
    pub born : 1 ≤ g.generation
    pub size : g.size ≡ length p
    pub small : length p ≤ most_bytes version
    pub timed : g.mtime.nanos ≤ MAX_NANOS
    pub on_disk : AllByRecursion (IsDataBlock n.layout.blocks) (file_blocks version g)
    pub distinct : RepeatsNoBlock version g
    pub absent : drop (extra_count version g.size) g.more ≡ replicate (MORE_BLOCKS - extra_count version g.size) 0
    pub sized : AllByRecursion (λ b. length (object n (block b)) ≡ BLOCK_BYTES) (file_blocks version g)
    pub held_bytes : stored version n g ≡ p ++ replicate (room_of version g.size - length p) 0

  pub Puts-replaced : (m n : Map) (i : ℕ) (new : Node) → is_file_number i ≡ true → HasSoundFiles version m → Replaces version m n i new → IsSoundNode version n i new
      → Puts version m n i (entry_of version n new)
  Puts-replaced m n i new number sound r fine = record {
    sound = Sound-replaced version m n i new (IsFileNumber-test i number).to sound r fine;
    files = files_of-replaced version m n i new number sound r;
  }

  -- the bytes of such a file
  content-Stores : (n : Map) (g : FileNode) (p : List ℕ) → Stores n g p → content version n g ≡ p
  content-Stores n g p has = ap (take g.size) has.held_bytes ∙ take_at p _ g.size (sym has.size)

  -- it is sound
  IsSoundFile-Stores : (n : Map) (g : FileNode) (p : List ℕ) → Stores n g p → IsSoundFile version n g
  IsSoundFile-Stores n g p has = record {
    born = has.born;
    small = subst (λ k. k ≤ most_bytes version) (sym has.size) has.small;
    on_disk = has.on_disk;
    absent = has.absent;
    timed = has.timed;
    sized = has.sized;
    whole = ap length content_is ∙ sym has.size;
    padded = has.held_bytes
        ∙ ap (λ x. x ++ replicate (room_of version g.size - length p) 0) (sym content_is)
        ∙ ap (λ k. content version n g ++ replicate (room_of version g.size - k) 0) (sym has.size);
  }
    where
      content_is : content version n g ≡ p
      content_is = content-Stores n g p has

  -- The file at number i becomes one of the bytes p
  pub Puts-becomes : (m n : Map) (i : ℕ) (g : FileNode) (p : List ℕ) → is_file_number i ≡ true → HasSoundFiles version m → Replaces version m n i (File g) → Stores n g p
      → Puts version m n i (record { generation = g.generation; file = Some (record { bytes = p; mtime = g.mtime }) })
  Puts-becomes m n i g p number sound r has =
      subst (λ x. Puts version m n i (record { generation = g.generation; file = Some (record { bytes = x; mtime = g.mtime }) })) (content-Stores n g p has)
      (Puts-replaced m n i (File g) number sound r (record {
        placed = IsInPlace-file i g (IsFileNumber-test i number).from;
        file = λ f is. subst (IsSoundFile version n) (File-is g f is) (IsSoundFile-Stores n g p has);
        distinct = λ f is. subst (RepeatsNoBlock version) (File-is g f is) has.distinct;
      }))
