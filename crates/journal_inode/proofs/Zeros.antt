-- What a block of zeros holds.
use Rattle.std.proofs.Common.{ℕ, zero, suc, ◌≡◌, ◌<◌, ◌≤◌, ◌+◌, ◌-◌, ◌*◌, ◌/◌, ◌%◌, ◌≢◌, ◌⊎◌, inl, inr, ◌&&◌, nat_lt, false, ◌++◌, replicate, take, drop, refl, sym, ap, ◌∙◌, arith}
use Rattle.std.specs.Prelude.{nat_le, slice_index, slice_range}
use Rattle.std.proofs.lemmas.List.{take-replicate, drop-replicate}
use Rattle.std.proofs.lemmas.Nat.Bits.{bit_at-zero}
use Rattle.std.proofs.lemmas.Bool.{cases_eq}
use Rattle.std.proofs.lemmas.Bool.Decides.{nat_tests}
use Rattle.journal_world.specs.declared.address.Kind.TheVariants.{Block}
use Rattle.journal_world.specs.Addresses.{zeros_of}
use Rattle.journal_block.specs.Block.{Bytes, bit_of, with_bytes}
use Rattle.journal_inode.specs.declared.version.FormatVersion.{FormatVersion}
use Rattle.journal_inode.specs.declared.node.Node.TheVariants.{Free}
use Rattle.journal_inode.specs.Nodes.{inode_bytes, bytes_of_fields}
use Rattle.journal_inode.specs.Sound.{superblock_head, superblock_of}

zero_byte : (n i : ℕ) → slice_index (replicate n 0) i ≡ 0
zero_byte zero i = refl
zero_byte (suc n) zero = refl
zero_byte (suc n) (suc i) = zero_byte n i

-- all bits are clear
pub zero_bit : (i : ℕ) → bit_of (zeros_of Block) i ≡ false
unfolding bit_of zeros_of
zero_bit i = rw (zero_byte 4096 (i / 8), bit_at-zero (i % 8)) refl

zero_range : (n i : ℕ) → i + 128 ≤ n → slice_range {X = ℕ} (replicate n 0) i (i + 128) ≡ replicate 128 0
zero_range n i inside =
    let e : i + 128 - i ≡ 128 = omega arith in
    ap (λ m. take {A = ℕ} m (drop i (replicate n 0))) e ∙ ap (take 128) (drop-replicate {X = ℕ} i n 0) ∙ take-replicate {X = ℕ} 128 (n - i) 0 (omega arith)

free_bytes : inode_bytes (Free 0) ≡ replicate 128 0
unfolding bytes_of_fields
free_bytes = refl

-- each 128 bytes are those of a free inode
pub zero_inode : (i : ℕ) → i + 128 ≤ 4096 → slice_range (zeros_of Block) i (i + 128) ≡ inode_bytes (Free 0)
unfolding zeros_of
zero_inode i inside = zero_range 4096 i inside ∙ sym free_bytes

-- a block of zeros that begins with the superblock's front is the superblock
pub zeros-superblock : (version : FormatVersion) (blocks : ℕ) → with_bytes (zeros_of Block) 0 (superblock_head version blocks) ≡ superblock_of version blocks
unfolding with_bytes zeros_of superblock_of superblock_head
zeros-superblock version blocks = ap (λ rest. superblock_head version blocks ++ rest) (drop-replicate {X = ℕ} 24 4096 0)

-- no bit is set from a place on and below it
pub none_between : (place k : ℕ) → (nat_le place k && nat_lt k place) ≡ false
none_between place k = grind (arith, nat_tests)

-- of the inodes of a block that was zeros, one is overwritten, and the others are free
pub other_inode : (old new : Bytes) (i : ℕ) → old ≡ zeros_of Block → i < 32 → i ≢ 1
    → ((j k : ℕ) → k ≤ 128 → slice_range new j k ≡ slice_range old j k)
    → ((j k : ℕ) → 256 ≤ j → slice_range new j k ≡ slice_range old j k)
    → slice_range new (i * 128) (i * 128 + 128) ≡ inode_bytes (Free 0)
other_inode old new i zeros low ne before after =
    by_side (cases_eq i 0) ∙ ap (λ (b : Bytes). slice_range b (i * 128) (i * 128 + 128)) zeros ∙ zero_inode (i * 128) (omega (arith, low))
  where
    by_side : (i ≡ 0) ⊎ (i ≡ 0 → ⊥) → slice_range new (i * 128) (i * 128 + 128) ≡ slice_range old (i * 128) (i * 128 + 128)
    by_side (inl is) = before (i * 128) (i * 128 + 128) (omega (arith, is))
    by_side (inr above) = after (i * 128) (i * 128 + 128) (omega (arith, ne, above))
