-- The rule holds of both of two equal maps, or of neither.
use Rattle.std.proofs.Common.{ℕ, ◌≡◌, ◌<◌, ◌≤◌, ◌+◌, ◌-◌, inl, inr, List, [], ◌∷◌, ◌++◌, length, take, replicate, refl, sym, ap, subst, ◌∙◌}
use Rattle.journal_world.specs.declared.layout.TheConstants.{MIN_BLOCKS, BLOCK_BYTES, FIRST_DATA, BLOCK_BITS}
use Rattle.std.specs.Prelude.{IsTrue}
use Rattle.std.specs.List.{AllByRecursion}
use Rattle.std.proofs.Common.{arith}
use Rattle.std.proofs.lemmas.Bool.Decides.{nat_tests}
use Rattle.journal_world.specs.Addresses.{Shape, is_valid}
use Rattle.journal_world.specs.Files.{files}
use Rattle.journal_world.specs.Maps.{Map, SameMap}
use Rattle.journal_inode.specs.declared.version.FormatVersion.{FormatVersion}
use Rattle.journal_inode.specs.declared.node.FileNode.{FileNode}
use Rattle.journal_inode.specs.declared.place.TheConstants.{INODES}
use Rattle.journal_inode.specs.Places.{Object, addr_of, IsOnDisk, HasFiles, object}
use Rattle.journal_inode.specs.Places.Object.{superblock, bit, inode, block}
use Rattle.journal_inode.specs.Nodes.{inode_bytes, node_of}
use Rattle.journal_inode.specs.Sound.{superblock_of, node_at, file_blocks, held, stored, HasBlock, IsTaken, IsDataBlock, IsInPlace, IsSoundFile, IsBit, HasSoundFiles}
use Rattle.journal_inode.specs.Versions.{room_of}

-- each object of a disk has a valid address
in_files : (blocks : ℕ) (o : Object) → MIN_BLOCKS ≤ blocks → IsOnDisk blocks o → IsTrue (is_valid (files blocks) (addr_of o))
in_files blocks superblock large here = grind (arith, nat_tests)
in_files blocks (bit i) large here = grind (arith, nat_tests)
in_files blocks (inode i) large here = grind (arith, nat_tests)
in_files blocks (block b) large here = grind (arith, nat_tests)

pub IsOnDisk-is_valid : (layout : Shape) (o : Object) → HasFiles layout → IsOnDisk layout.blocks o → IsTrue (is_valid layout (addr_of o))
IsOnDisk-is_valid layout o has here = subst (λ (s : Shape). IsTrue (is_valid s (addr_of o))) (sym has.0) (in_files layout.blocks o has.1 here)

-- one map gives an object one value
pub object-same : (m n : Map) (o : Object) → SameMap m n → HasFiles m.layout → IsOnDisk m.layout.blocks o → object m o ≡ object n o
object-same m n o same has here = same.values (addr_of o) (IsOnDisk-is_valid m.layout o has here)

-- blocks that are on the disk hold the same
held-same : (m n : Map) (bs : List ℕ) → SameMap m n → HasFiles m.layout → AllByRecursion (IsDataBlock m.layout.blocks) bs → held n bs ≡ held m bs
held-same m n [] same has here = refl
held-same m n (b ∷ []) same has here = sym (object-same m n (block b) same has here.0)
held-same m n (b ∷ c ∷ bs) same has here =
    ap (λ v. v ++ held n (c ∷ bs)) (sym (object-same m n (block b) same has here.0)) ∙ ap (λ v. object m (block b) ++ v) (held-same m n (c ∷ bs) same has here.1)

sized-same : (m n : Map) (bs : List ℕ) → SameMap m n → HasFiles m.layout → AllByRecursion (IsDataBlock m.layout.blocks) bs → AllByRecursion (λ b. length (object m (block b)) ≡ BLOCK_BYTES) bs
    → AllByRecursion (λ b. length (object n (block b)) ≡ BLOCK_BYTES) bs
sized-same m n [] same has here sized = tt
sized-same m n (b ∷ bs) same has here sized = (ap length (sym (object-same m n (block b) same has here.0)) ∙ sized.0, sized-same m n bs same has here.1 sized.1)

-- a file whose blocks hold the same is sound too
pub IsSoundFile-held : (version : FormatVersion) (m n : Map) (f : FileNode) → m.layout.blocks ≡ n.layout.blocks → stored version n f ≡ stored version m f
    → AllByRecursion (λ b. length (object n (block b)) ≡ BLOCK_BYTES) (file_blocks version f) → IsSoundFile version m f → IsSoundFile version n f
IsSoundFile-held version m n f blocks same sized old = record {
  born = old.born;
  small = old.small;
  on_disk = subst (λ k. AllByRecursion (IsDataBlock k) (file_blocks version f)) blocks old.on_disk;
  absent = old.absent;
  timed = old.timed;
  sized = sized;
  whole = ap (λ s. length (take f.size s)) same ∙ old.whole;
  padded = subst (λ s. s ≡ take f.size s ++ replicate (room_of version f.size - f.size) 0) (sym same) old.padded;
}

-- a map that gives the same values is sound too
pub Sound-same : (version : FormatVersion) (m n : Map) → SameMap m n → HasSoundFiles version m → HasSoundFiles version n
Sound-same version m n same sound = record {
  cut = subst HasFiles same.layout sound.cut;
  begins = sym (objects superblock tt) ∙ sound.begins ∙ ap (λ (s : Shape). superblock_of version s.blocks) same.layout;
  written = λ i low. sym (objects (inode i) low) ∙ sound.written i low ∙ ap inode_bytes (nodes i low);
  placed = λ i low. subst (IsInPlace i) (nodes i low) (sound.placed i low);
  files = λ i f low is. file f (sound.files i f low (nodes i low ∙ is));
  apart = λ i j b low_i low_j has_i has_j. sound.apart i j b low_i low_j (back i b low_i has_i) (back j b low_j has_j);
  distinct = λ i f low is. sound.distinct i f low (nodes i low ∙ is);
  bits = λ k low. by_bit k low (sound.bits k low);
}
  where
    objects : (o : Object) → IsOnDisk m.layout.blocks o → object m o ≡ object n o
    objects o here = object-same m n o same sound.cut here

    nodes : (i : ℕ) → i < INODES → node_at m i ≡ node_at n i
    nodes i low = ap node_of (objects (inode i) low)

    back : (i b : ℕ) → i < INODES → HasBlock version (node_at n i) b → HasBlock version (node_at m i) b
    back i b low = subst (λ x. HasBlock version x b) (sym (nodes i low))

    file : (f : FileNode) → IsSoundFile version m f → IsSoundFile version n f
    file f old = IsSoundFile-held version m n f (ap (λ (s : Shape). s.blocks) same.layout) (held-same m n (file_blocks version f) same sound.cut old.on_disk)
        (sized-same m n (file_blocks version f) same sound.cut old.on_disk old.sized) old

    taken : (b : ℕ) → IsTaken version m b → IsTaken version n b
    taken b (inl past) = inl (subst (λ (s : Shape). s.blocks ≤ b) same.layout past)
    taken b (inr t) = inr (t.0, t.1, subst (λ x. HasBlock version x b) (nodes t.0 t.1) t.2)

    was_taken : (b : ℕ) → IsTaken version n b → IsTaken version m b
    was_taken b (inl past) = inl (subst (λ (s : Shape). s.blocks ≤ b) (sym same.layout) past)
    was_taken b (inr t) = inr (t.0, t.1, back t.0 b t.1 t.2)

    by_bit : (k : ℕ) → k < BLOCK_BITS → IsBit (object m (bit k)) (IsTaken version m (FIRST_DATA + k)) → IsBit (object n (bit k)) (IsTaken version n (FIRST_DATA + k))
    by_bit k low (inl set) = inl (sym (objects (bit k) low) ∙ set.0, taken _ set.1)
    by_bit k low (inr clear) = inr (sym (objects (bit k) low) ∙ clear.0, λ t. clear.1 (was_taken _ t))
