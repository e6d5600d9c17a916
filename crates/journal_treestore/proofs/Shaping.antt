-- The kinds of the objects of a disk, by its layout, and where the record of who has a block lies.
use Rattle.std.proofs.Common.{ℕ, ◌≡◌, ◌<◌, ◌≤◌, ◌+◌, ◌-◌, ◌*◌, ◌/◌, ◌%◌, Bool, true, false, cond, nat_lt, IsTrue, Some, refl, ap, ◌∙◌, arith}
use Rattle.std.proofs.lemmas.Bool.{ltb-true, ltb-false, lt-ltb, le-ltb}
use Rattle.std.proofs.lemmas.Bool.Decides.{nat_tests}
use Rattle.journal_world.specs.declared.address.Addr.{Addr}
use Rattle.journal_world.specs.declared.address.Kind.TheVariants.{Record, Block}
use Rattle.journal_world.specs.declared.address.RecordSize.TheVariants.{Bytes8, Bytes512}
use Rattle.journal_world.specs.Addresses.{kind_of, starts_object}
use Rattle.journal_treestore.specs.declared.place.Cut.{Cut}
use Rattle.journal_treestore.specs.declared.place.TheConstants.{MOST_DISK_BLOCKS}
use Rattle.journal_treestore.specs.Places.{first_inodes, first_data, shape_by, shape_of, IsCut, record_in, addr_of}
use Rattle.journal_treestore.specs.Places.Object.{owner_of}

-- The record of a block that was there when the disk was made lies among the first ones, and that
-- of a later one at the end
pub data OwnerPlace (c : Cut) (b : ℕ) : Type 0 where
  front : b < c.base → addr_of c (owner_of b) ≡ record_in 514 b → OwnerPlace c b
  back : c.base ≤ b → addr_of c (owner_of b) ≡ record_in c.blocks (b - c.base) → OwnerPlace c b

pub owner_place : (c : Cut) (b : ℕ) → OwnerPlace c b
owner_place c b = by (nat_lt b c.base) refl
  where
    by : (is_front : Bool) → nat_lt b c.base ≡ is_front → OwnerPlace c b
    by true is = OwnerPlace.front (ltb-true b c.base is) (ap (λ t. cond t (record_in 514 b) (record_in c.blocks (b - c.base))) is)
    by false is = OwnerPlace.back (ltb-false b c.base is) (ap (λ t. cond t (record_in 514 b) (record_in c.blocks (b - c.base))) is)

pub front-owner : (c : Cut) (b : ℕ) → b < c.base → addr_of c (owner_of b) ≡ record_in 514 b
front-owner c b low = ap (λ t. cond t (record_in 514 b) (record_in c.blocks (b - c.base))) (lt-ltb b c.base low)

pub back-owner : (c : Cut) (b : ℕ) → c.base ≤ b → addr_of c (owner_of b) ≡ record_in c.blocks (b - c.base)
back-owner c b from = ap (λ t. cond t (record_in 514 b) (record_in c.blocks (b - c.base))) (le-ltb b c.base from)

-- what the bounds of a cut say of the blocks that have a record
pub has_data : (c : Cut) → IsCut c → first_data c < c.blocks
has_data c cut = omega (arith, cut.some_data, cut.room.later)

pub few_blocks : (c : Cut) → IsCut c → c.blocks ≤ MOST_DISK_BLOCKS
few_blocks c cut = omega (arith, cut.few, cut.room.records)

pub few_base : (c : Cut) → IsCut c → c.base ≤ MOST_DISK_BLOCKS
few_base c cut = omega (arith, cut.few, cut.room.records, cut.room.later)

module _ (c : Cut) (cut : IsCut c) where
  description-by : (grew : Bool) → kind_of (shape_by grew c) 513 ≡ Some Block
  description-by true = grind (arith, nat_tests, cut.some_data, cut.few, cut.room.later, cut.room.records)
  description-by false = grind (arith, nat_tests, cut.some_data, cut.few, cut.room.later, cut.room.records)

  front-by : (grew : Bool) (b : ℕ) → b < c.base → kind_of (shape_by grew c) (514 + b / 512) ≡ Some (Record Bytes8)
  front-by true b low = grind (arith, nat_tests, cut.some_data, cut.few, cut.room.later, cut.room.records)
  front-by false b low = grind (arith, nat_tests, cut.some_data, cut.few, cut.room.later, cut.room.records)

  back-by : (grew : Bool) → nat_lt c.base c.blocks ≡ grew → (b : ℕ) → c.base ≤ b → b < c.blocks → kind_of (shape_by grew c) (c.blocks + (b - c.base) / 512) ≡ Some (Record Bytes8)
  back-by true _ b from low = grind (arith, nat_tests, cut.some_data, cut.few, cut.room.later, cut.room.records)
  back-by false stays b from low = absurd (let past = ltb-false c.base c.blocks stays in omega (arith, past, from, low))

  inode-by : (grew : Bool) (n : ℕ) → n < c.numbers → kind_of (shape_by grew c) (first_inodes c + n / 8) ≡ Some (Record Bytes512)
  inode-by true n low = grind (arith, nat_tests, cut.some_data, cut.few, cut.room.later, cut.room.records)
  inode-by false n low = grind (arith, nat_tests, cut.some_data, cut.few, cut.room.later, cut.room.records)

  data-by : (grew : Bool) (b : ℕ) → first_data c ≤ b → b < c.blocks → kind_of (shape_by grew c) b ≡ Some Block
  data-by true b from low = grind (arith, nat_tests, cut.some_data, cut.few, cut.room.later, cut.room.records)
  data-by false b from low = grind (arith, nat_tests, cut.some_data, cut.few, cut.room.later, cut.room.records)

  pub kind-description : kind_of (shape_of c) 513 ≡ Some Block
  kind-description = description-by (nat_lt c.base c.blocks)

  pub kind-owner : (b : ℕ) → b < c.blocks → kind_of (shape_of c) (addr_of c (owner_of b)).block ≡ Some (Record Bytes8)
  kind-owner b low = by (owner_place c b)
    where
      by : OwnerPlace c b → kind_of (shape_of c) (addr_of c (owner_of b)).block ≡ Some (Record Bytes8)
      by (OwnerPlace.front first is) = ap (λ (a : Addr). kind_of (shape_of c) a.block) is ∙ front-by (nat_lt c.base c.blocks) b first
      by (OwnerPlace.back from is) = ap (λ (a : Addr). kind_of (shape_of c) a.block) is ∙ back-by (nat_lt c.base c.blocks) refl b from low

  pub kind-inode : (n : ℕ) → n < c.numbers → kind_of (shape_of c) (first_inodes c + n / 8) ≡ Some (Record Bytes512)
  kind-inode n low = inode-by (nat_lt c.base c.blocks) n low

  pub kind-data : (b : ℕ) → first_data c ≤ b → b < c.blocks → kind_of (shape_of c) b ≡ Some Block
  kind-data b from low = data-by (nat_lt c.base c.blocks) b from low

-- ── objects begin there ──

pub starts-record : (i : ℕ) → IsTrue (starts_object (Some (Record Bytes8)) (i % 512 * 64))
starts-record i = grind (arith, nat_tests)

pub starts-inode : (n : ℕ) → IsTrue (starts_object (Some (Record Bytes512)) (n % 8 * 4096))
starts-inode n = grind (arith, nat_tests)

pub starts-block : IsTrue (starts_object (Some Block) 0)
starts-block = grind (arith, nat_tests)

-- the record of a block begins at a multiple of 64 bits
pub starts-owner : (c : Cut) (b : ℕ) → IsTrue (starts_object (Some (Record Bytes8)) (addr_of c (owner_of b)).off)
starts-owner c b = by (owner_place c b)
  where
    by : OwnerPlace c b → IsTrue (starts_object (Some (Record Bytes8)) (addr_of c (owner_of b)).off)
    by (OwnerPlace.front _ is) = ap (λ (a : Addr). starts_object (Some (Record Bytes8)) a.off) is ∙ starts-record b
    by (OwnerPlace.back _ is) = ap (λ (a : Addr). starts_object (Some (Record Bytes8)) a.off) is ∙ starts-record (b - c.base)
