-- A superblock of version 1 with version 2 is one of version 2.
use Rattle.std.proofs.Common.{ℕ, ◌≡◌, ◌≤◌, Bool, true, false, cond, IsTrue, ◌==◌, nat_lt, List, [], ◌∷◌, ◌++◌, take, drop, Some, None, length, refl, sym, ap, subst, ◌∙◌, arith}
use Rattle.std.specs.Prelude.{unwrap_or}
use Rattle.std.specs.List.{list_all}
use Rattle.std.proofs.lemmas.Bool.{false≢true, and_parts, eqb-true}
use Rattle.std.proofs.lemmas.Bool.Decides.{nat_tests}
use Rattle.std.proofs.lemmas.List.{take_all, drop_all, append-nil}
use Rattle.journal_world.specs.declared.address.Kind.TheVariants.{Block}
use Rattle.journal_world.specs.declared.layout.TheConstants.{MIN_BLOCKS}
use Rattle.journal_world.specs.Addresses.{Value, Shape, kind_of, is_valid}
use Rattle.journal_world.specs.Files.{files}
use Rattle.journal_world.specs.Maps.{Map, Pair, SamePairs, Agrees, is_object, is_value_at, overwritten}
use Rattle.journal_object.specs.Objects.{size_at}
use Rattle.journal_inode.specs.declared.version.FormatVersion.TheVariants.{One, Two}
use Rattle.journal_inode.specs.Places.{addr_of, object, HasFiles}
use Rattle.journal_inode.specs.Places.Object.{superblock}
use Rattle.journal_inode.specs.Sound.{superblock_head, superblock_of, HasSoundFiles}
use Rattle.journal_inode.specs.Upgrades.{IsUpgraded}
use Rattle.journal_filestore.proofs.Overwrites.{Overwrites, Overwrites-pairs}
use Rattle.journal_filestore.proofs.Doings.{Gives-Agrees}
use Rattle.journal_migrate.specs.Superblocks.{version_byte, in_version_two}

pub byte-one : (n : ℕ) → version_byte (superblock_of One n) ≡ 1
unfolding superblock_of superblock_head
byte-one n = refl

pub byte-two : (n : ℕ) → version_byte (superblock_of Two n) ≡ 2
unfolding superblock_of superblock_head
byte-two n = refl

pub one-in_version_two : (n : ℕ) → in_version_two (superblock_of One n) ≡ superblock_of Two n
unfolding superblock_of superblock_head
one-in_version_two n = refl

-- a superblock of version 2 has not the byte of version 1
pub not_one : (m : Map) (found : Value) → version_byte found ≡ 1 → object m superblock ≡ found → HasSoundFiles Two m → ⊥
not_one m found is same sound =
    let two : 2 ≡ 1 = sym (byte-two m.layout.blocks) ∙ ap version_byte (sym sound.begins ∙ same) ∙ is in
    omega (arith, two)

-- nor has one that lacks it version 1
pub not_of_one : (m : Map) (found : Value) → (version_byte found ≡ 1 → ⊥) → object m superblock ≡ found → HasSoundFiles One m → ⊥
not_of_one m found lacks same sound = lacks (ap version_byte (sym same ∙ sound.begins) ∙ byte-one m.layout.blocks)

-- what was read of the one address is what the map gives
pub gives_read : (m : Map) (reads : List Pair) (found : Value) → SamePairs reads ((addr_of superblock, found) ∷ []) → Agrees m reads → object m superblock ≡ found
gives_read m reads found same agrees = Gives-Agrees m reads agrees (addr_of superblock) found (same (addr_of superblock))

-- a map of version 1 that is overwritten so is upgraded
pub upgraded-overwritten : (m : Map) (writes : List Pair) (found : Value) → SamePairs writes ((addr_of superblock, in_version_two found) ∷ [])
    → object m superblock ≡ found → HasSoundFiles One m → IsUpgraded m (overwritten m writes)
upgraded-overwritten m writes found same here sound = record {
  layout = refl;
  begins = over.objects superblock tt ∙ ap in_version_two (sym here ∙ sound.begins) ∙ one-in_version_two m.layout.blocks;
  others = λ o on_disk other. over.objects o on_disk ∙ ap (λ b. unwrap_or (cond b (Some (in_version_two found)) None) (object m o)) other;
}
  where
    over : Overwrites m (overwritten m writes) ((superblock, in_version_two found) ∷ [])
    over = Overwrites-pairs m writes ((superblock, in_version_two found) ∷ []) (tt, tt) same

-- what was written over the whole of a buffer is what it holds then
pub written_whole : (n : ℕ) (bytes room : List ℕ) → length bytes ≡ n → length room ≡ n → take n (bytes ++ drop (length bytes) room) ≡ bytes
written_whole n bytes room is was =
    ap (λ l. take n (bytes ++ l)) (drop_all (length bytes) room (omega (arith, is, was))) ∙ ap (take n) (append-nil bytes) ∙ take_all n bytes (omega (arith, is))

-- a value of the superblock has 4096 bytes
pub block_length : (layout : Shape) (v : Value) → HasFiles layout → IsTrue (is_object layout (addr_of superblock, v)) → length v ≡ 4096
block_length layout v has is =
    in_files layout.blocks v (subst (λ (s : Shape). IsTrue (is_object s (addr_of superblock, v))) has.0 is)
  where
    in_files : (n : ℕ) (v : Value) → IsTrue (is_object (files n) (addr_of superblock, v)) → length v ≡ 4096
    in_files n v is = within (nat_lt 513 n) (and_parts (is_valid (files n) (addr_of superblock)) (is_value_at (kind_of (files n) 513) v) is).1
      where
        within : (t : Bool) → IsTrue (is_value_at (cond t (Some Block) None) v) → length v ≡ 4096
        within true is = eqb-true (length v) 4096 (and_parts (length v == 4096) (list_all (λ byte. nat_lt byte 256) v) is).0
        within false is = absurd (false≢true is)

-- as many as are read of it
pub superblock_size : (layout : Shape) → HasFiles layout → size_at layout (addr_of superblock) ≡ 4096
superblock_size layout has = ap (λ (s : Shape). size_at s (addr_of superblock)) has.0 ∙ in_files layout.blocks has.1
  where
    in_files : (n : ℕ) → MIN_BLOCKS ≤ n → size_at (files n) (addr_of superblock) ≡ 4096
    in_files n large = grind (arith, nat_tests)
