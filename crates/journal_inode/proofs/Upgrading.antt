-- A sound map of version 1 is one of version 2, once its superblock says so.
use Rattle.std.proofs.Common.{ℕ, ◌≡◌, ◌<◌, ◌≤◌, ◌+◌, ◌-◌, ◌*◌, inl, inr, [], ◌∷◌, ◌++◌, length, take, drop, replicate, refl, sym, ap, subst, ◌∙◌, arith}
use Rattle.std.specs.Prelude.{AllPairs, ◌≢◌}
use Rattle.std.specs.List.{AllByRecursion}
use Rattle.journal_world.specs.declared.layout.TheConstants.{BLOCK_BYTES, FIRST_DATA, BLOCK_BITS}
use Rattle.journal_world.specs.Addresses.{Shape}
use Rattle.journal_world.specs.Maps.{Map}
use Rattle.journal_inode.specs.declared.version.FormatVersion.TheVariants.{One, Two}
use Rattle.journal_inode.specs.declared.node.FileNode.{FileNode}
use Rattle.journal_inode.specs.declared.node.Node.{Node}
use Rattle.journal_inode.specs.declared.node.Node.TheVariants.{Free, Root, File}
use Rattle.journal_inode.specs.declared.node.TheConstants.{MORE_BLOCKS}
use Rattle.journal_inode.specs.declared.place.TheConstants.{INODES}
use Rattle.journal_inode.specs.Nodes.{inode_bytes, node_of}
use Rattle.journal_inode.specs.Places.{HasFiles, object}
use Rattle.journal_inode.specs.Places.Object.{bit, inode, block}
use Rattle.journal_inode.specs.Sound.{superblock_of, node_at, file_blocks, held, stored, IsAmong, HasBlock, IsTaken, IsDataBlock, IsInPlace, IsSoundFile, IsBit, HasSoundFiles}
use Rattle.journal_inode.specs.Upgrades.{IsUpgraded}
use Rattle.journal_inode.specs.Versions.{extra_count, room_of}

-- a file of one block has no further one in version 2 either
count_none : (size : ℕ) → size ≤ 4096 → extra_count Two size ≡ 0
count_none size small = omega (arith, small)

blocks_same : (f : FileNode) → f.size ≤ 4096 → file_blocks Two f ≡ file_blocks One f
blocks_same f small = ap (λ n. f.block ∷ take n f.more) (count_none f.size small)

-- the disk has as many blocks
blocks_of : (m n : Map) → IsUpgraded m n → n.layout.blocks ≡ m.layout.blocks
blocks_of m n up = ap (λ (s : Shape). s.blocks) up.layout

-- a file stays sound
file_upgraded : (m n : Map) (f : FileNode) → IsUpgraded m n → IsSoundFile One m f → IsSoundFile Two n f
file_upgraded m n f up sound = record {
  born = sound.born;
  small = omega (arith, sound.small);
  on_disk = subst (AllByRecursion (IsDataBlock n.layout.blocks)) (sym blocks) (subst (λ k. AllByRecursion (IsDataBlock k) (f.block ∷ [])) (sym (blocks_of m n up)) sound.on_disk);
  absent = subst (λ k. drop k f.more ≡ replicate (MORE_BLOCKS - k) 0) (sym none) sound.absent;
  timed = sound.timed;
  sized = subst (AllByRecursion (λ b. length (object n (block b)) ≡ BLOCK_BYTES)) (sym blocks) (ap length same ∙ sound.sized.0, tt);
  whole = ap (λ v. length (take f.size v)) held_same ∙ sound.whole;
  padded = held_same ∙ sound.padded ∙ ap (λ v. take f.size v ++ replicate (room_of One f.size - f.size) 0) (sym held_same)
      ∙ ap (λ k. take f.size (stored Two n f) ++ replicate (BLOCK_BYTES * (1 + k) - f.size) 0) (sym none);
}
  where
    none : extra_count Two f.size ≡ 0
    none = count_none f.size sound.small

    blocks : file_blocks Two f ≡ f.block ∷ []
    blocks = blocks_same f sound.small

    same : object n (block f.block) ≡ object m (block f.block)
    same = up.others (block f.block) sound.on_disk.0 refl

    held_same : stored Two n f ≡ stored One m f
    held_same = ap (held n) blocks ∙ same

-- the inodes have the blocks that they had
module _ (m n : Map) (sound : HasSoundFiles One m) (up : IsUpgraded m n) where
  nodes : (i : ℕ) → i < INODES → node_at n i ≡ node_at m i
  nodes i low = ap node_of (up.others (inode i) low refl)

  had : (node : Node) (i b : ℕ) → i < INODES → node_at m i ≡ node → HasBlock Two node b → HasBlock One node b
  had (File f) i b low is has = subst (λ bs. IsAmong bs b) (blocks_same f (sound.files i f low is).small) has
  had (Free g) i b low is has = has
  had (Root t) i b low is has = has

  has_still : (node : Node) (i b : ℕ) → i < INODES → node_at m i ≡ node → HasBlock One node b → HasBlock Two node b
  has_still (File f) i b low is has = subst (λ bs. IsAmong bs b) (sym (blocks_same f (sound.files i f low is).small)) has
  has_still (Free g) i b low is has = has
  has_still (Root t) i b low is has = has

  back : (i b : ℕ) → i < INODES → HasBlock Two (node_at n i) b → HasBlock One (node_at m i) b
  back i b low has = had (node_at m i) i b low refl (subst (λ x. HasBlock Two x b) (nodes i low) has)

  forth : (i b : ℕ) → i < INODES → HasBlock One (node_at m i) b → HasBlock Two (node_at n i) b
  forth i b low has = subst (λ x. HasBlock Two x b) (sym (nodes i low)) (has_still (node_at m i) i b low refl has)

  taken : (b : ℕ) → IsTaken One m b → IsTaken Two n b
  taken b (inl past) = inl (subst (λ x. x ≤ b) (sym (blocks_of m n up)) past)
  taken b (inr t) = inr (t.0, t.1, forth t.0 b t.1 t.2)

  was_taken : (b : ℕ) → IsTaken Two n b → IsTaken One m b
  was_taken b (inl past) = inl (subst (λ x. x ≤ b) (blocks_of m n up) past)
  was_taken b (inr t) = inr (t.0, t.1, back t.0 b t.1 t.2)

  by_bit : (k : ℕ) → k < BLOCK_BITS → IsBit (object m (bit k)) (IsTaken One m (FIRST_DATA + k)) → IsBit (object n (bit k)) (IsTaken Two n (FIRST_DATA + k))
  by_bit k low (inl set) = inl (up.others (bit k) low refl ∙ set.0, taken _ set.1)
  by_bit k low (inr clear) = inr (up.others (bit k) low refl ∙ clear.0, λ t. clear.1 (was_taken _ t))

  upgraded : HasSoundFiles Two n
  upgraded = record {
    cut = subst HasFiles (sym up.layout) sound.cut;
    begins = up.begins ∙ ap (superblock_of Two) (sym (blocks_of m n up));
    written = λ i low. up.others (inode i) low refl ∙ sound.written i low ∙ ap inode_bytes (sym (nodes i low));
    placed = λ i low. subst (IsInPlace i) (sym (nodes i low)) (sound.placed i low);
    files = λ i f low is. file_upgraded m n f up (sound.files i f low (sym (nodes i low) ∙ is));
    apart = λ i j b low_i low_j has_i has_j. sound.apart i j b low_i low_j (back i b low_i has_i) (back j b low_j has_j);
    distinct = λ i f low is.
        subst (AllPairs ◌≢◌) (sym (blocks_same f (sound.files i f low (sym (nodes i low) ∙ is)).small)) (sound.distinct i f low (sym (nodes i low) ∙ is));
    bits = λ k low. by_bit k low (sound.bits k low);
  }

pub Sound-upgraded : (m n : Map) → HasSoundFiles One m → IsUpgraded m n → HasSoundFiles Two n
Sound-upgraded m n sound up = upgraded m n sound up
