-- A file comes: its inode was free, and so were its blocks, which are written whole.
use Rattle.std.proofs.Common.{ℕ, ◌≡◌, ◌≤◌, ◌+◌, ◌-◌, ◌*◌, ◌⊎◌, inl, inr, true, List, [], ◌∷◌, ◌++◌, length, replicate, Some, sym, ap, ◌∙◌, arith}
use Rattle.std.proofs.lemmas.List.{append-nil, length-replicate}
use Rattle.journal_world.specs.declared.layout.TheConstants.{BLOCK_BYTES}
use Rattle.journal_world.specs.Maps.{Map}
use Rattle.journal_inode.specs.declared.version.FormatVersion.{FormatVersion}
use Rattle.journal_inode.specs.declared.node.FileNode.{FileNode}
use Rattle.journal_inode.specs.declared.node.Node.TheVariants.{Free}
use Rattle.journal_inode.specs.Versions.{extra_count, room_of}
use Rattle.journal_inode.specs.Sound.{node_at, HasSoundFiles}
use Rattle.journal_inode.proofs.Blocks.{room_enough}
use Rattle.journal_filestore.specs.Files.{is_file_number}
use Rattle.journal_filestore.specs.Doing.{AreClear, AreFresh, file_written, Puts}
use Rattle.journal_filestore.specs.Changes.{extra_blocks_of}
use Rattle.journal_filestore.proofs.Among.{Among, distinct_pairs}
use Rattle.journal_filestore.proofs.Lasting.{Becomes}
use Rattle.journal_filestore.proofs.Numbering.{blocks_more, zeros_join}
use Rattle.journal_filestore.proofs.Changing.{HadBlocks-free, IsNodeOf, Puts-changed}

-- CREATE of a file that was not there, of so many zeros
pub Puts-created : (version : FormatVersion) (m n : Map) (i g : ℕ) (f : FileNode) (rest bytes : List ℕ) → is_file_number i ≡ true → HasSoundFiles version m → node_at m i ≡ Free g
    → f.more ≡ extra_blocks_of rest [] → IsNodeOf version f (replicate f.size 0) → AreFresh (1 + extra_count version f.size) (f.block ∷ rest) → AreClear m (f.block ∷ rest)
    → bytes ≡ replicate (BLOCK_BYTES * (1 + extra_count version f.size)) 0 → Becomes m n (file_written i f (f.block ∷ rest) (f.block ∷ rest) bytes)
    → Puts version m n i (record { generation = f.generation; file = Some (record { bytes = replicate f.size 0; mtime = f.mtime }) })
Puts-created version m n i g f rest bytes number sound was_free more_is node new_ones clear zeros_are is =
    Puts-changed version m n i f (replicate f.size 0) [] [] (f.block ∷ rest) [] (f.block ∷ rest) [] bytes number sound (HadBlocks-free version m i g was_free)
    (distinct_pairs (f.block ∷ rest) new_ones.distinct) new_ones.bits clear
    (blocks_more version f rest [] more_is (omega (arith, new_ones.count)) ∙ ap (λ xs. f.block ∷ xs) (append-nil rest))
    (sym (append-nil (f.block ∷ rest))) stays whole is node holds
  where
    stays : (b : ℕ) → Among [] b ⊎ Among [] b → Among [] b
    stays b (inl none) = none
    stays b (inr none) = none

    whole : length bytes ≡ BLOCK_BYTES * length (f.block ∷ rest)
    whole = ap length zeros_are ∙ length-replicate {A = ℕ} (BLOCK_BYTES * (1 + extra_count version f.size)) 0 ∙ (omega (arith, new_ones.count))

    small : f.size ≤ room_of version f.size
    small = room_enough version f.size (omega (arith, node.small, length-replicate {A = ℕ} f.size 0))

    holds : bytes ++ [] ≡ replicate f.size 0 ++ replicate (room_of version f.size - length (replicate {A = ℕ} f.size 0)) 0
    holds =
        append-nil bytes ∙ zeros_are ∙ sym (append-nil (replicate (BLOCK_BYTES * (1 + extra_count version f.size)) 0))
        ∙ zeros_join (BLOCK_BYTES * (1 + extra_count version f.size)) 0 f.size (room_of version f.size - length (replicate {A = ℕ} f.size 0))
        (omega (arith, small, length-replicate {A = ℕ} f.size 0))
