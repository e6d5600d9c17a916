-- Three writes over zeros make a disk without files.
use Rattle.std.proofs.Common.{ℕ, ◌≡◌, ◌≢◌, ◌<◌, ◌≤◌, ◌+◌, ◌-◌, ◌*◌, ◌/◌, ◌%◌, ◌⊎◌, inl, inr, sym, ap, subst, ◌∙◌, arith}
use Rattle.std.specs.Prelude.{nat_le, slice_range}
use Rattle.std.proofs.lemmas.Bool.{cases_eq}
use Rattle.journal_world.specs.declared.layout.TheConstants.{SUPERBLOCK, BITMAP, FIRST_INODES, FIRST_DATA, BLOCK_BITS, MIN_BLOCKS}
use Rattle.journal_block.specs.Block.{Bytes, bit_of}
use Rattle.journal_disk.specs.Disks.{Past, IsSettled, LostNone, read_of, past_after, write, barrier}
use Rattle.journal_disk.specs.Laws.{read_written, read_other, settled_after_barrier, lost_none_after}
use Rattle.journal_inode.specs.declared.version.FormatVersion.{FormatVersion}
use Rattle.journal_inode.specs.declared.node.Time.{Time}
use Rattle.journal_inode.specs.declared.node.Node.TheVariants.{Free, Root}
use Rattle.journal_inode.specs.Nodes.{inode_bytes}
use Rattle.journal_inode.specs.Sound.{superblock_of}
use Rattle.journal_inode.specs.Formats.{AreZeros, IsFormatted, inode_in}
use Rattle.journal_inode.proofs.Zeros.{zero_inode}

-- The three blocks that are not all zeros
pub record AreMade (version : FormatVersion) (blocks : ℕ) (made : Time) (superblock bitmap inodes : Bytes) : Type 0 where
  pub superblock_is : superblock ≡ superblock_of version blocks
  pub bits : (k : ℕ) → k < BLOCK_BITS → bit_of bitmap k ≡ nat_le (blocks - FIRST_DATA) k
  pub root : slice_range inodes 128 256 ≡ inode_bytes (Root made)
  pub others : (i : ℕ) → i < 32 → i ≢ 1 → slice_range inodes (i * 128) (i * 128 + 128) ≡ inode_bytes (Free 0)

-- what is read once they are written
reads : (version : FormatVersion) (p : Past) (blocks : ℕ) (made : Time) (sb bm ino : Bytes) → MIN_BLOCKS ≤ blocks → AreZeros blocks (read_of p) → AreMade version blocks made sb bm ino
    → IsFormatted version blocks made (read_of (past_after (write FIRST_INODES ino) (past_after (write BITMAP bm) (past_after (write SUPERBLOCK sb) p))))
reads version p blocks made sb bm ino enough zeros are = record {
  superblock = read_other p2 513 515 ino (omega arith) ∙ read_other p1 513 514 bm (omega arith) ∙ read_written p 513 sb ∙ are.superblock_is;
  bits = λ k low. ap (λ (b : Bytes). bit_of b k) (read_other p2 514 515 ino (omega arith) ∙ read_written p1 514 bm) ∙ are.bits k low;
  root = ap (λ (b : Bytes). slice_range b 128 256) (read_written p2 515 ino) ∙ are.root;
  free = λ i low ne. free_inode i low ne (cases_eq (i / 32) 0);
  log = λ b low. other b (omega (arith, low)) (omega (arith, low)) (omega (arith, low)) ∙ zeros b (omega (arith, low, enough));
  empty = λ b from to. other b (omega (arith, from)) (omega (arith, from)) (omega (arith, from)) ∙ zeros b to;
}
  where
    p1 : Past
    p1 = past_after (write 513 sb) p

    p2 : Past
    p2 = past_after (write 514 bm) p1

    p3 : Past
    p3 = past_after (write 515 ino) p2

    other : (b : ℕ) → b ≢ 513 → b ≢ 514 → b ≢ 515 → read_of p3 b ≡ read_of p b
    other b ne ne_2 ne_3 = read_other p2 b 515 ino ne_3 ∙ read_other p1 b 514 bm ne_2 ∙ read_other p b 513 sb ne

    free_inode : (i : ℕ) → i < 512 → i ≢ 1 → (i / 32 ≡ 0) ⊎ (i / 32 ≡ 0 → ⊥) → inode_in (read_of p3) i ≡ inode_bytes (Free 0)
    free_inode i low ne (inl is) =
        let place : i % 32 ≡ i = omega (arith, is) in
        ap (λ q. slice_range (read_of p3 (515 + q)) (i % 32 * 128) (i % 32 * 128 + 128)) is
        ∙ ap (λ r. slice_range (read_of p3 515) (r * 128) (r * 128 + 128)) place
        ∙ ap (λ (b : Bytes). slice_range b (i * 128) (i * 128 + 128)) (read_written p2 515 ino)
        ∙ are.others i (omega (arith, is)) ne
    free_inode i low ne (inr above) =
        ap (λ (b : Bytes). slice_range b (i % 32 * 128) (i % 32 * 128 + 128))
        (other (515 + i / 32) (omega arith) (omega arith) (omega (arith, above)) ∙ zeros (515 + i / 32) (omega (arith, low, enough)))
        ∙ zero_inode (i % 32 * 128) (omega arith)

-- written one after another, and made stable
pub formatted : (version : FormatVersion) (p0 p1 p2 p3 p4 : Past) (blocks : ℕ) (made : Time) (sb bm ino : Bytes) → MIN_BLOCKS ≤ blocks → AreZeros blocks (read_of p0) → AreMade version blocks made sb bm ino
    → p1 ≡ past_after (write SUPERBLOCK sb) p0 → p2 ≡ past_after (write BITMAP bm) p1 → p3 ≡ past_after (write FIRST_INODES ino) p2 → p4 ≡ past_after barrier p3
    → IsFormatted version blocks made (read_of p4)
formatted version p0 p1 p2 p3 p4 blocks made sb bm ino enough zeros are first second third last =
    subst (λ (p : Past). IsFormatted version blocks made (read_of p)) (sym same) (reads version p0 blocks made sb bm ino enough zeros are)
  where
    same : p4 ≡ past_after barrier (past_after (write FIRST_INODES ino) (past_after (write BITMAP bm) (past_after (write SUPERBLOCK sb) p0)))
    same = last ∙ ap (past_after barrier) (third ∙ ap (past_after (write FIRST_INODES ino)) (second ∙ ap (past_after (write BITMAP bm)) first))

-- and none is lost where none was
pub settled_after : (p0 p1 p2 p3 p4 : Past) (sb bm ino : Bytes) → LostNone p0
    → p1 ≡ past_after (write SUPERBLOCK sb) p0 → p2 ≡ past_after (write BITMAP bm) p1 → p3 ≡ past_after (write FIRST_INODES ino) p2 → p4 ≡ past_after barrier p3
    → IsSettled p4
settled_after p0 p1 p2 p3 p4 sb bm ino lost first second third last =
    subst IsSettled (sym last) (settled_after_barrier p3
    (lost_none_after (write FIRST_INODES ino) p2 p3 (inr third)
    (lost_none_after (write BITMAP bm) p1 p2 (inr second)
    (lost_none_after (write SUPERBLOCK sb) p0 p1 (inr first) lost))))
