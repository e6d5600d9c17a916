-- The values that fit the addresses of files.
use Rattle.std.proofs.Common.{ℕ, ◌≡◌, ◌<◌, ◌≤◌, ◌+◌, ◌*◌, Bool, true, false, cond, ◌==◌, nat_lt, ◌/◌, ◌%◌, get_or, Fits, w8, ◌&&◌, IsTrue, length, Some, None, refl, sym, ap, ◌∙◌, arith}
use Rattle.std.specs.List.{list_all}
use Rattle.std.proofs.lemmas.Bool.{false≢true, and_parts, eqb-true, eq-eqb}
use Rattle.std.proofs.lemmas.Bool.Decides.{nat_tests}
use Rattle.std.proofs.lemmas.List.{length-replicate}
use Rattle.journal_world.specs.declared.address.Addr.{Addr}
use Rattle.journal_world.specs.declared.address.Kind.TheVariants.{Bit, Record, Block}
use Rattle.journal_world.specs.declared.address.RecordSize.TheVariants.{Bytes128}
use Rattle.journal_world.specs.declared.layout.TheConstants.{MIN_BLOCKS, FIRST_DATA}
use Rattle.journal_world.specs.Addresses.{Value, kind_of, is_valid, is_value_of, starts_object, zeros_of, Shape}
use Rattle.journal_world.specs.Files.{files}
use Rattle.journal_world.specs.Maps.{is_object, is_value_at}
use Rattle.journal_world.proofs.Bytes.{is_value_of-bytes}
use Rattle.journal_inode.specs.declared.place.TheConstants.{INODES}
use Rattle.journal_inode.specs.Places.{HasFiles, addr_of}
use Rattle.journal_inode.specs.Places.Object.{bit, inode, block}

inode_of-files : (n i : ℕ) → MIN_BLOCKS ≤ n → i < INODES → kind_of (files n) (515 + i / 32) ≡ Some (Record Bytes128)
inode_of-files n i large low = grind (arith, nat_tests)

block_of-files : (n b : ℕ) → FIRST_DATA ≤ b → kind_of (files n) b ≡ cond (nat_lt b n) (Some Block) None
block_of-files n b from = grind (arith, nat_tests)

bit_of-files : (n : ℕ) → MIN_BLOCKS ≤ n → kind_of (files n) 514 ≡ Some Bit
bit_of-files n large = grind (arith, nat_tests)

kind_of-inode : (layout : Shape) → HasFiles layout → (i : ℕ) → i < INODES → kind_of layout (515 + i / 32) ≡ Some (Record Bytes128)
kind_of-inode layout has i low = ap (λ (s : Shape). kind_of s (515 + i / 32)) has.0 ∙ inode_of-files layout.blocks i has.1 low

kind_of-block : (layout : Shape) → HasFiles layout → (b : ℕ) → FIRST_DATA ≤ b → kind_of layout b ≡ cond (nat_lt b layout.blocks) (Some Block) None
kind_of-block layout has b from = ap (λ (s : Shape). kind_of s b) has.0 ∙ block_of-files layout.blocks b from

kind_of-bit : (layout : Shape) → HasFiles layout → kind_of layout 514 ≡ Some Bit
kind_of-bit layout has = ap (λ (s : Shape). kind_of s 514) has.0 ∙ bit_of-files layout.blocks has.1

-- one value of a bit is of the kind of its address
pub bit_fits : (layout : Shape) → HasFiles layout → (i : ℕ) (a : Addr) (v : Value) → a ≡ addr_of (bit i) → is_value_of Bit v ≡ true → is_value_at (kind_of layout a.block) v ≡ true
bit_fits layout has i a v at is =
    ap (λ (x : Addr). is_value_at (kind_of layout x.block) v) at ∙ ap (λ kind. is_value_at kind v) (kind_of-bit layout has) ∙ is

-- as many bytes as an inode has are of the kind of its address
pub inode_fits : (layout : Shape) → HasFiles layout → (i : ℕ) (a : Addr) (v : Value) → a ≡ addr_of (inode i) → i < INODES → length v ≡ 128 → ((k : ℕ) → Fits w8 (get_or v k 0)) → is_value_at (kind_of layout a.block) v ≡ true
inode_fits layout has i a v at low whole bytes =
    ap (λ (x : Addr). is_value_at (kind_of layout x.block) v) at
    ∙ ap (λ kind. is_value_at kind v) (kind_of-inode layout has i low)
    ∙ is_value_of-bytes (Record Bytes128) v refl bytes
    ∙ eq-eqb (length v) 128 whole

-- and as many bytes as a block has, where there is such a data block
pub block_fits : (layout : Shape) → HasFiles layout → (b : ℕ) (a : Addr) (v : Value) → a ≡ addr_of (block b) → FIRST_DATA ≤ b → length v ≡ 4096 → ((k : ℕ) → Fits w8 (get_or v k 0)) → IsTrue (is_valid layout a) → is_value_at (kind_of layout a.block) v ≡ true
block_fits layout has b a v at from whole bytes valid =
    ap (λ (x : Addr). is_value_at (kind_of layout x.block) v) at
    ∙ ap (λ kind. is_value_at kind v) (kind_of-block layout has b from)
    ∙ there (nat_lt b layout.blocks)
    (sym (ap (λ kind. starts_object kind 0) (kind_of-block layout has b from)) ∙ ap (λ (x : Addr). is_valid layout x) (sym at) ∙ valid)
  where
    there : (t : Bool) → starts_object (cond t (Some Block) None) 0 ≡ true → is_value_at (cond t (Some Block) None) v ≡ true
    there true is = is_value_of-bytes Block v refl bytes ∙ eq-eqb (length v) 4096 whole
    there false is = absurd (false≢true is)

-- what is read of a bit is one value of a bit
pub bit_whole : (layout : Shape) → HasFiles layout → (i : ℕ) (a : Addr) (v : Value) → a ≡ addr_of (bit i) → IsTrue (is_object layout (a, v)) → IsTrue (is_value_of Bit v)
bit_whole layout has i a v at is =
    (and_parts (starts_object (Some Bit) i) (is_value_of Bit v)
    (sym (ap (λ kind. starts_object kind i && is_value_at kind v) (kind_of-bit layout has)) ∙ ap (λ (x : Addr). is_object layout (x, v)) (sym at) ∙ is)).1

-- of an inode, as many bytes as it has
pub inode_whole : (layout : Shape) → HasFiles layout → (i : ℕ) (a : Addr) (v : Value) → a ≡ addr_of (inode i) → i < INODES → IsTrue (is_object layout (a, v)) → length v ≡ 128
inode_whole layout has i a v at low is =
    let value = (and_parts (starts_object (Some (Record Bytes128)) (i % 32 * 1024)) (is_value_of (Record Bytes128) v)
    (sym (ap (λ kind. starts_object kind (i % 32 * 1024) && is_value_at kind v) (kind_of-inode layout has i low)) ∙ ap (λ (x : Addr). is_object layout (x, v)) (sym at) ∙ is)).1 in
    eqb-true (length v) 128 (and_parts (length v == 128) (list_all (λ byte. nat_lt byte 256) v) value).0

-- and of a data block, a whole block
pub block_whole : (layout : Shape) → HasFiles layout → (b : ℕ) (a : Addr) (v : Value) → a ≡ addr_of (block b) → FIRST_DATA ≤ b → IsTrue (is_object layout (a, v)) → length v ≡ 4096
block_whole layout has b a v at from is =
    there (nat_lt b layout.blocks)
    (sym (ap (λ kind. starts_object kind 0 && is_value_at kind v) (kind_of-block layout has b from)) ∙ ap (λ (x : Addr). is_object layout (x, v)) (sym at) ∙ is)
  where
    there : (t : Bool) → (starts_object (cond t (Some Block) None) 0 && is_value_at (cond t (Some Block) None) v) ≡ true → length v ≡ 4096
    there true is = eqb-true (length v) 4096 (and_parts (length v == 4096) (list_all (λ byte. nat_lt byte 256) v) is).0
    there false is = absurd (false≢true is)

pub length-zero_block : length (zeros_of Block) ≡ 4096
unfolding zeros_of
length-zero_block = length-replicate {A = ℕ} 4096 0
