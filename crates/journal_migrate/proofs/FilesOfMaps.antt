-- Maps that have the same inodes and whose blocks hold the same have the same files.
use Rattle.std.proofs.Common.{ℕ, ◌≡◌, ◌<◌, ◌-◌, ◌/◌, inl, inr, Bool, true, false, cond, Some, List, [], ◌∷◌, ◌++◌, take, refl, sym, ap, ◌∙◌, arith, lit<}
use Rattle.std.proofs.Math.Path.{fun_ext}
use Rattle.std.specs.List.{AllByRecursion}
use Rattle.journal_world.specs.Maps.{Map, SameMap}
use Rattle.journal_inode.specs.declared.version.FormatVersion.{FormatVersion}
use Rattle.journal_inode.specs.declared.version.FormatVersion.TheVariants.{One, Two}
use Rattle.journal_inode.specs.declared.node.FileNode.{FileNode}
use Rattle.journal_inode.specs.declared.node.Node.{Node}
use Rattle.journal_inode.specs.declared.node.Node.TheVariants.{Free, Root, File}
use Rattle.journal_inode.specs.declared.place.TheConstants.{INODES}
use Rattle.journal_inode.specs.Nodes.{node_of}
use Rattle.journal_inode.specs.Places.{HasFiles as IsCut, object}
use Rattle.journal_inode.specs.Places.Object.{inode, block}
use Rattle.journal_inode.specs.Sound.{node_at, file_blocks, held, stored, IsDataBlock}
use Rattle.journal_inode.specs.SameFiles.{object-same, Sound-same}
use Rattle.journal_inode.specs.Upgrades.{IsUpgraded}
use Rattle.journal_inode.proofs.Upgrading.{Sound-upgraded}
use Rattle.journal_filestore.specs.Files.{is_file_number, no_entry, entry_of, root_time, files_of, Files}
use Rattle.journal_filestore.proofs.FilesReplaced.{IsFileNumber-test}
use Rattle.journal_migrate.specs.Holding.{HasFiles, HasFilesOfEither}

entry_of-same : (v w : FormatVersion) (m n : Map) (x : Node) → ((f : FileNode) → x ≡ File f → stored w n f ≡ stored v m f) → entry_of w n x ≡ entry_of v m x
entry_of-same v w m n (File f) same = ap (λ s. record { generation = f.generation; file = Some (record { bytes = take f.size s; mtime = f.mtime }) }) (same f refl)
entry_of-same v w m n (Free g) same = refl
entry_of-same v w m n (Root t) same = refl

-- the files are the same, though the versions may not be
pub files_of-same : (v w : FormatVersion) (m n : Map) → ((i : ℕ) → i < INODES → node_at n i ≡ node_at m i)
    → ((i : ℕ) (f : FileNode) → i < INODES → node_at m i ≡ File f → stored w n f ≡ stored v m f) → files_of w n ≡ files_of v m
unfolding files_of
files_of-same v w m n nodes blocks =
    ap (λ t. record { root = t; at = λ j. cond (is_file_number j) (entry_of w n (node_at n j)) no_entry }) (ap root_time (nodes 1 (lit< tt)))
    ∙ ap (λ F. record { root = root_time (node_at m 1); at = F }) (fun_ext (λ j. by_range j (is_file_number j) refl))
  where
    by_range : (j : ℕ) (b : Bool) → is_file_number j ≡ b → cond b (entry_of w n (node_at n j)) no_entry ≡ cond b (entry_of v m (node_at m j)) no_entry
    by_range j false is = refl
    by_range j true is =
        let low = (IsFileNumber-test j is).to in
        ap (entry_of w n) (nodes j low) ∙ entry_of-same v w m n (node_at m j) (λ f is_file. blocks j f low is_file)

-- blocks that are on the disk hold the same
held-same : (m n : Map) (bs : List ℕ) → SameMap m n → IsCut m.layout → AllByRecursion (IsDataBlock m.layout.blocks) bs → held n bs ≡ held m bs
held-same m n [] same cut here = refl
held-same m n (b ∷ []) same cut here = sym (object-same m n (block b) same cut here.0)
held-same m n (b ∷ c ∷ bs) same cut here =
    ap (λ v. v ++ held n (c ∷ bs)) (sym (object-same m n (block b) same cut here.0)) ∙ ap (λ v. object m (block b) ++ v) (held-same m n (c ∷ bs) same cut here.1)

-- one map has one set of files
pub HasFiles-same : (version : FormatVersion) (files : Files) (m n : Map) → SameMap m n → HasFiles version files m → HasFiles version files n
HasFiles-same version files m n same has = record {
  sound = Sound-same version m n same has.sound;
  same = files_of-same version version m n
      (λ i low. ap node_of (sym (object-same m n (inode i) same has.sound.cut low)))
      (λ i f low is. held-same m n (file_blocks version f) same has.sound.cut (has.sound.files i f low is).on_disk)
      ∙ has.same;
}

pub Either-files-same : (files : Files) (m n : Map) → SameMap m n → HasFilesOfEither files m → HasFilesOfEither files n
Either-files-same files m n same (inl has) = inl (HasFiles-same One files m n same has)
Either-files-same files m n same (inr has) = inr (HasFiles-same Two files m n same has)

-- the version alone changes
pub HasFiles-upgraded : (files : Files) (m n : Map) → IsUpgraded m n → HasFiles One files m → HasFiles Two files n
HasFiles-upgraded files m n up has = record {
  sound = Sound-upgraded m n has.sound up;
  same = files_of-same One Two m n (λ i low. ap node_of (up.others (inode i) low refl)) blocks ∙ has.same;
}
  where
    none : (size : ℕ) → size < 4097 → (size - 1) / 4096 ≡ 0
    none size small = omega (arith, small)

    blocks : (i : ℕ) (f : FileNode) → i < INODES → node_at m i ≡ File f → stored Two n f ≡ stored One m f
    blocks i f low is =
        let file = has.sound.files i f low is in
        ap (λ k. held n (f.block ∷ take k f.more)) (none f.size (omega (arith, file.small))) ∙ up.others (block f.block) file.on_disk.0 refl
