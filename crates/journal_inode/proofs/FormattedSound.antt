-- The map of a disk without files is sound.
use Rattle.std.proofs.Common.{ℕ, zero, suc, ◌≡◌, ◌≢◌, ◌<◌, ◌≤◌, ◌+◌, ◌-◌, ◌*◌, ◌/◌, ◌%◌, ◌⊎◌, inl, inr, Bool, true, false, cond, [], ◌∷◌, Option, Some, refl, sym, ap, subst, ◌∙◌, arith, lit<}
use Rattle.journal_inode.specs.declared.version.FormatVersion.{FormatVersion}
use Rattle.std.specs.Prelude.{nat_le, slice_range}
use Rattle.std.proofs.lemmas.Bool.{cases_eq}
use Rattle.std.proofs.lemmas.Bool.Decides.{nat_tests}
use Rattle.journal_world.specs.declared.address.Kind.{Kind}
use Rattle.journal_world.specs.declared.address.Kind.TheVariants.{Bit, Record, Block}
use Rattle.journal_world.specs.declared.address.RecordSize.TheVariants.{Bytes128}
use Rattle.journal_world.specs.declared.layout.TheConstants.{MIN_BLOCKS, FIRST_DATA, BLOCK_BITS}
use Rattle.journal_world.specs.declared.moment.TheConstants.{MAX_NANOS}
use Rattle.journal_world.specs.Addresses.{Shape, kind_of}
use Rattle.journal_world.specs.Files.{files}
use Rattle.journal_world.specs.Maps.{Map}
use Rattle.journal_block.specs.Block.{Bytes, bit_of}
use Rattle.journal_object.specs.Objects.{IsMapOf, object_of}
use Rattle.journal_inode.specs.declared.node.FileNode.{FileNode}
use Rattle.journal_inode.specs.declared.node.Node.{Node}
use Rattle.journal_inode.specs.declared.node.Node.TheVariants.{Free, Root, File}
use Rattle.journal_inode.specs.declared.node.Time.{Time}
use Rattle.journal_inode.specs.declared.place.TheConstants.{INODES}
use Rattle.journal_inode.specs.Formats.{IsFormatted, inode_in}
use Rattle.journal_inode.specs.Nodes.{inode_bytes, node_of, IsTime}
use Rattle.journal_inode.specs.Places.{addr_of, HasFiles, object}
use Rattle.journal_inode.specs.Places.Object.{superblock, bit, inode}
use Rattle.journal_inode.specs.SameFiles.{IsOnDisk-is_valid}
use Rattle.journal_inode.specs.Sound.{node_at, HasBlock, IsTaken, IsInPlace, IsBit, HasSoundFiles}
use Rattle.journal_inode.proofs.Fields.{node_of-bytes_of}

module _ (version : FormatVersion) where
  kind_of-superblock : (blocks : ℕ) → MIN_BLOCKS ≤ blocks → kind_of (files blocks) 513 ≡ Some Block
  kind_of-superblock blocks large = grind (arith, nat_tests)

  kind_of-bitmap : (blocks : ℕ) → MIN_BLOCKS ≤ blocks → kind_of (files blocks) 514 ≡ Some Bit
  kind_of-bitmap blocks large = grind (arith, nat_tests)

  superblock_read : (m : Map) (read : ℕ → Bytes) → HasFiles m.layout → IsMapOf read m → object m superblock ≡ read 513
  unfolding object_of
  superblock_read m read has is =
      is.values (addr_of superblock) (IsOnDisk-is_valid m.layout superblock has tt)
      ∙ ap (λ (kind : Option Kind). object_of kind (read 513) 0) (ap (λ (s : Shape). kind_of s 513) has.0 ∙ kind_of-superblock m.layout.blocks has.1)

  bit_read : (m : Map) (read : ℕ → Bytes) (k : ℕ) → HasFiles m.layout → IsMapOf read m → k < BLOCK_BITS → object m (bit k) ≡ cond (bit_of (read 514) k) 1 0 ∷ []
  unfolding object_of
  bit_read m read k has is low =
      is.values (addr_of (bit k)) (IsOnDisk-is_valid m.layout (bit k) has low)
      ∙ ap (λ (kind : Option Kind). object_of kind (read 514) k) (ap (λ (s : Shape). kind_of s 514) has.0 ∙ kind_of-bitmap m.layout.blocks has.1)

  kind_of-inode : (blocks i : ℕ) → MIN_BLOCKS ≤ blocks → i < INODES → kind_of (files blocks) (515 + i / 32) ≡ Some (Record Bytes128)
  kind_of-inode blocks i large low = grind (arith, nat_tests)

  of_inode : (bytes : Bytes) (i : ℕ) → object_of (Some (Record Bytes128)) bytes (i % 32 * 1024) ≡ slice_range bytes (i % 32 * 128) (i % 32 * 128 + 128)
  unfolding object_of
  of_inode bytes i = let place : i % 32 * 1024 / 8 ≡ i % 32 * 128 = omega arith in ap (λ at. slice_range bytes at (at + 128)) place

  inode_read : (m : Map) (read : ℕ → Bytes) (i : ℕ) → HasFiles m.layout → IsMapOf read m → i < INODES → object m (inode i) ≡ inode_in read i
  inode_read m read i has is low =
      is.values (addr_of (inode i)) (IsOnDisk-is_valid m.layout (inode i) has low)
      ∙ ap (λ (kind : Option Kind). object_of kind (read (515 + i / 32)) (i % 32 * 1024)) (ap (λ (s : Shape). kind_of s (515 + i / 32)) has.0 ∙ kind_of-inode m.layout.blocks i has.1 low)
      ∙ of_inode (read (515 + i / 32)) i

  free_in_place : (i : ℕ) → i ≢ 1 → IsInPlace i (Free 0)
  free_in_place zero ne = refl
  free_in_place (suc zero) ne = absurd (ne refl)
  free_in_place (suc (suc i)) ne = tt

  -- neither the root nor a free inode has a block, or is a file's
  abbrev IsBare : Node → Type 0
  IsBare n = ((b : ℕ) → HasBlock version n b → ⊥) × ((f : FileNode) → n ≡ File f → ⊥)

  bare_root : (t : Time) → IsBare (Root t)
  bare_root t = ((λ b has. has), λ f is. let impossible : ⊥ = cc in impossible)

  bare_free : (g : ℕ) → IsBare (Free g)
  bare_free g = ((λ b has. has), λ f is. let impossible : ⊥ = cc in impossible)

  at_or_past : (blocks k : ℕ) → nat_le (blocks - FIRST_DATA) k ≡ true → blocks ≤ FIRST_DATA + k
  at_or_past blocks k is = grind (arith, nat_tests)

  not_past : (blocks k : ℕ) → nat_le (blocks - FIRST_DATA) k ≡ false → blocks ≤ FIRST_DATA + k → ⊥
  not_past blocks k is past = grind (arith, nat_tests)

  pub IsFormatted-Sound : (m : Map) (made : Time) (read : ℕ → Bytes) → HasFiles m.layout → IsTime made → made.nanos ≤ MAX_NANOS → IsFormatted version m.layout.blocks made read → IsMapOf read m → HasSoundFiles version m
  IsFormatted-Sound m made read has fits timed formatted is = record {
    cut = has;
    begins = superblock_read m read has is ∙ formatted.superblock;
    written = λ i low. written_at i low (cases_eq i 1);
    placed = λ i low. placed_at i low (cases_eq i 1);
    files = λ i f low file. absurd ((bare i low (cases_eq i 1)).1 f file);
    apart = λ i j b low_i low_j has_i has_j. absurd ((bare i low_i (cases_eq i 1)).0 b has_i);
    distinct = λ i f low file. absurd ((bare i low (cases_eq i 1)).1 f file);
    bits = λ k low. bit_at_place k low (nat_le (m.layout.blocks - FIRST_DATA) k) refl;
  }
    where
      root : node_at m 1 ≡ Root made
      root = ap node_of (inode_read m read 1 has is (lit< tt) ∙ formatted.root) ∙ node_of-bytes_of (Root made) fits

      free : (i : ℕ) → i < INODES → i ≢ 1 → node_at m i ≡ Free 0
      free i low ne = ap node_of (inode_read m read i has is low ∙ formatted.free i low ne) ∙ node_of-bytes_of (Free 0) (lit< tt)

      written_at : (i : ℕ) → i < INODES → (i ≡ 1) ⊎ (i ≡ 1 → ⊥) → object m (inode i) ≡ inode_bytes (node_at m i)
      written_at i low (inl one) =
          subst (λ j. object m (inode j) ≡ inode_bytes (node_at m j)) (sym one)
          (inode_read m read 1 has is (lit< tt) ∙ formatted.root ∙ sym (ap inode_bytes root))
      written_at i low (inr ne) = inode_read m read i has is low ∙ formatted.free i low ne ∙ sym (ap inode_bytes (free i low ne))

      placed_at : (i : ℕ) → i < INODES → (i ≡ 1) ⊎ (i ≡ 1 → ⊥) → IsInPlace i (node_at m i)
      placed_at i low (inl one) = subst (λ j. IsInPlace j (node_at m j)) (sym one) (subst (IsInPlace 1) (sym root) timed)
      placed_at i low (inr ne) = subst (IsInPlace i) (sym (free i low ne)) (free_in_place i ne)

      bare : (i : ℕ) → i < INODES → (i ≡ 1) ⊎ (i ≡ 1 → ⊥) → IsBare (node_at m i)
      bare i low (inl one) = subst (λ j. IsBare (node_at m j)) (sym one) (subst IsBare (sym root) (bare_root made))
      bare i low (inr ne) = subst IsBare (sym (free i low ne)) (bare_free 0)

      not_taken : (k : ℕ) → (m.layout.blocks ≤ FIRST_DATA + k → ⊥) → IsTaken version m (FIRST_DATA + k) → ⊥
      not_taken k there (inl past) = there past
      not_taken k there (inr owner) = (bare owner.0 owner.1 (cases_eq owner.0 1)).0 (FIRST_DATA + k) owner.2

      bit_at_place : (k : ℕ) → k < BLOCK_BITS → (t : Bool) → nat_le (m.layout.blocks - FIRST_DATA) k ≡ t → IsBit (object m (bit k)) (IsTaken version m (FIRST_DATA + k))
      bit_at_place k low true past =
          inl (bit_read m read k has is low ∙ ap (λ (b : Bool). cond b 1 0 ∷ []) (formatted.bits k low ∙ past), inl (at_or_past m.layout.blocks k past))
      bit_at_place k low false here =
          inr (bit_read m read k has is low ∙ ap (λ (b : Bool). cond b 1 0 ∷ []) (formatted.bits k low ∙ here), not_taken k (not_past m.layout.blocks k here))
