-- What holds of the disk of each map whose pairs are objects.
use Rattle.std.proofs.Common.{ℕ, ◌≡◌, ◌<◌, ◌≤◌, ◌+◌, ◌-◌, ◌==◌, cond, nat_lt, nat_le, ◌&&◌, IsTrue, List, [], length, Some, sym, ap, subst, ◌∙◌, arith}
use Rattle.std.specs.Prelude.{Option}
use Rattle.std.specs.List.{list_all}
use Rattle.std.proofs.lemmas.Bool.{le-ltb, lt-ltb, le-leb, eqb-true, and_from, and_parts}
use Rattle.journal_world.specs.declared.address.Addr.{Addr}
use Rattle.journal_world.specs.declared.address.Kind.{Kind}
use Rattle.journal_world.specs.declared.address.Kind.TheVariants.{Record, Block}
use Rattle.journal_world.specs.declared.address.RecordSize.TheVariants.{Bytes8, Bytes512}
use Rattle.journal_world.specs.Addresses.{Shape, Value, kind_of, is_valid, is_value_of, bytes_of, limit_of}
use Rattle.journal_world.specs.Maps.{Map, value_at, is_value_at, is_object, are_objects}
use Rattle.journal_world.proofs.ObjectsOfMaps.{value_at-object}
use Rattle.journal_tree.specs.declared.limits.TheConstants.{ROOT}
use Rattle.journal_treestore.specs.declared.place.TheConstants.{MOST_DISK_BLOCKS, MOST_NUMBERS}
use Rattle.journal_treestore.specs.declared.place.Cut.{Cut}
use Rattle.journal_treestore.specs.declared.owner.Owner.{Owner}
use Rattle.journal_treestore.specs.Owners.{no_owner, owner_from}
use Rattle.journal_treestore.specs.Places.{Object, first_data, shape_of, IsCut, addr_of, IsOnDisk}
use Rattle.journal_treestore.specs.Places.Object.{the_description, owner_of, inode_of, data_block}
use Rattle.journal_treestore.specs.Views.{View}
use Rattle.journal_treestore.specs.Views.Seen.{free}
use Rattle.journal_treestore.proofs.Shaping.{has_data, few_blocks, kind-description, kind-owner, kind-inode, kind-data}
use Rattle.journal_treestore.proofs.Placing.{on_disk-valid}
use Rattle.journal_treecalls.specs.Disks.{inode_seen}
use Rattle.journal_treeobjects.specs.Maps.{object, view_of}

-- A disk has at most so many inodes and blocks, and a root; past the last number nothing is in use;
-- and a block of data has 4096 bytes
pub record IsDisk (V : View) : Type 0 where
  pub numbers : V.numbers ≤ MOST_NUMBERS
  pub rooted : ROOT < V.numbers
  pub blocks : V.first_data + V.data_blocks ≤ MOST_DISK_BLOCKS
  pub first : 1 ≤ V.first_data
  pub beyond : (n : ℕ) → V.numbers ≤ n → V.inode n ≡ free 0
  pub sized : (b : ℕ) → V.first_data ≤ b → b < V.first_data + V.data_blocks → length (V.block b) ≡ 4096

all_blocks : (f b m : ℕ) → f < b → b ≤ m → f + (b - f) ≤ m
all_blocks f b m low few = omega (arith, low, few)

below_all : (f b i : ℕ) → f < b → i < f + (b - f) → i < b
below_all f b i low inside = omega (arith, low, inside)

-- an object is valid by the layout of the map
pub valid-on : (c : Cut) (m : Map) (o : Object) → IsCut c → m.layout ≡ shape_of c → IsOnDisk c o → IsTrue (is_valid m.layout (addr_of c o))
valid-on c m o cut layout here = subst (λ (s : Shape). IsTrue (is_valid s (addr_of c o))) (sym layout) (on_disk-valid c o cut here)

-- a value of an object has as many bytes as its kind
long-of : (layout : Shape) (a : Addr) (v : Value) (kind : Kind) → kind_of layout a.block ≡ Some kind → IsTrue (is_object layout (a, v)) → length v ≡ bytes_of kind
long-of layout a v kind is object =
    let parts : IsTrue (is_valid layout a) × IsTrue (is_value_at (kind_of layout a.block) v) = and_parts (is_valid layout a) (is_value_at (kind_of layout a.block) v) object in
    let value : IsTrue (is_value_of kind v) = subst (λ (k : Option Kind). IsTrue (is_value_at k v)) is parts.1 in
    eqb-true (length v) (bytes_of kind) (and_parts (length v == bytes_of kind) (list_all (λ byte. nat_lt byte (limit_of kind)) v) value).0

-- a value of a block of data, of an inode and of a record has its bytes
pub block-long : (c : Cut) (b : ℕ) (v : Value) → IsCut c → IsOnDisk c (data_block b) → IsTrue (is_object (shape_of c) (addr_of c (data_block b), v)) → length v ≡ 4096
block-long c b v cut here is = long-of (shape_of c) (addr_of c (data_block b)) v Block (kind-data c cut b here.0 here.1) is

pub inode-long : (c : Cut) (n : ℕ) (v : Value) → IsCut c → n < c.numbers → IsTrue (is_object (shape_of c) (addr_of c (inode_of n), v)) → length v ≡ 512
inode-long c n v cut here is = long-of (shape_of c) (addr_of c (inode_of n)) v (Record Bytes512) (kind-inode c cut n here) is

pub owner-long : (c : Cut) (b : ℕ) (v : Value) → IsCut c → b < c.blocks → IsTrue (is_object (shape_of c) (addr_of c (owner_of b), v)) → length v ≡ 8
owner-long c b v cut here is = long-of (shape_of c) (addr_of c (owner_of b)) v (Record Bytes8) (kind-owner c cut b here) is

pub description-long : (c : Cut) (v : Value) → IsCut c → IsTrue (is_object (shape_of c) (addr_of c the_description, v)) → length v ≡ 4096
description-long c v cut is = long-of (shape_of c) (addr_of c the_description) v Block (kind-description c cut) is

module _ (c : Cut) (m : Map) where
  pub block-is : (b : ℕ) → IsOnDisk c (data_block b) → (view_of c m).block b ≡ object c m (data_block b)
  block-is b here = ap (λ t. cond t (object c m (data_block b)) []) (and_from (nat_le (first_data c) b) (nat_lt b c.blocks) (le-leb (first_data c) b here.0) (lt-ltb b c.blocks here.1))

  pub inode-is : (n : ℕ) → n < c.numbers → (view_of c m).inode n ≡ inode_seen (object c m (inode_of n))
  inode-is n low = ap (λ t. cond t (inode_seen (object c m (inode_of n))) (free 0)) (lt-ltb n c.numbers low)

  pub disk-of-map : IsCut c → m.layout ≡ shape_of c → IsTrue (are_objects m.layout m.pairs) → IsDisk (view_of c m)
  disk-of-map cut layout objects = record {
    numbers = cut.few_numbers;
    rooted = cut.rooted;
    blocks = all_blocks (first_data c) c.blocks MOST_DISK_BLOCKS (has_data c cut) (few_blocks c cut);
    first = omega arith;
    beyond = λ n high. ap (λ t. cond t (inode_seen (object c m (inode_of n))) (free 0)) (le-ltb n c.numbers high);
    sized = λ b low high. sized b (low, below_all (first_data c) c.blocks b (has_data c cut) high);
  }
    where
      sized : (b : ℕ) → IsOnDisk c (data_block b) → length ((view_of c m).block b) ≡ 4096
      sized b here =
          ap length (block-is b here)
          ∙ block-long c b (object c m (data_block b)) cut here
          (subst (λ (s : Shape). IsTrue (is_object s (addr_of c (data_block b), object c m (data_block b)))) layout
          (value_at-object m (addr_of c (data_block b)) (valid-on c m (data_block b) cut layout here) objects))

  -- past the last number nothing is in use
  pub inode-beyond : (n : ℕ) → c.numbers ≤ n → (view_of c m).inode n ≡ free 0
  inode-beyond n high = ap (λ t. cond t (inode_seen (object c m (inode_of n))) (free 0)) (le-ltb n c.numbers high)

  owner-is : (b : ℕ) → b < c.blocks → (view_of c m).owner b ≡ owner_from (object c m (owner_of b))
  owner-is b here = ap (λ t. cond t (owner_from (object c m (owner_of b))) no_owner) (lt-ltb b c.blocks here)

  -- ── what a read of an object says ──

  module _ (a : Addr) (v : Value) where
    -- its address is valid
    pub valid-at : (o : Object) → IsCut c → m.layout ≡ shape_of c → IsOnDisk c o → a ≡ addr_of c o → IsTrue (is_valid m.layout a)
    valid-at o cut layout here at = subst (λ b. IsTrue (is_valid m.layout b)) (sym at) (valid-on c m o cut layout here)

    object-at : (o : Object) → m.layout ≡ shape_of c → a ≡ addr_of c o → IsTrue (is_object m.layout (a, v)) → IsTrue (is_object (shape_of c) (addr_of c o, v))
    object-at o layout at is = subst (λ (s : Shape). IsTrue (is_object s (addr_of c o, v))) layout (subst (λ b. IsTrue (is_object m.layout (b, v))) at is)

    -- its value has its bytes
    pub inode-has : (n : ℕ) → IsCut c → m.layout ≡ shape_of c → n < c.numbers → a ≡ addr_of c (inode_of n) → IsTrue (is_object m.layout (a, v)) → length v ≡ 512
    inode-has n cut layout here at is = inode-long c n v cut here (object-at (inode_of n) layout at is)

    pub owner-has : (b : ℕ) → IsCut c → m.layout ≡ shape_of c → b < c.blocks → a ≡ addr_of c (owner_of b) → IsTrue (is_object m.layout (a, v)) → length v ≡ 8
    owner-has b cut layout here at is = owner-long c b v cut here (object-at (owner_of b) layout at is)

    pub block-has : (b : ℕ) → IsCut c → m.layout ≡ shape_of c → IsOnDisk c (data_block b) → a ≡ addr_of c (data_block b) → IsTrue (is_object m.layout (a, v)) → length v ≡ 4096
    block-has b cut layout here at is = block-long c b v cut here (object-at (data_block b) layout at is)

    pub description-has : IsCut c → m.layout ≡ shape_of c → a ≡ addr_of c the_description → IsTrue (is_object m.layout (a, v)) → length v ≡ 4096
    description-has cut layout at is = description-long c v cut (object-at the_description layout at is)

    -- and is what the disk has there
    pub inode-shown : (n : ℕ) → n < c.numbers → a ≡ addr_of c (inode_of n) → v ≡ value_at m a → (view_of c m).inode n ≡ inode_seen v
    inode-shown n here at is = inode-is n here ∙ ap inode_seen (sym (is ∙ ap (value_at m) at))

    pub owner-shown : (b : ℕ) (bytes : List ℕ) (found : Owner) → b < c.blocks → a ≡ addr_of c (owner_of b) → v ≡ value_at m a → bytes ≡ v → found ≡ owner_from bytes → (view_of c m).owner b ≡ found
    owner-shown b bytes found here at is same read = owner-is b here ∙ ap owner_from (sym (same ∙ is ∙ ap (value_at m) at)) ∙ sym read

    pub block-shown : (b : ℕ) → IsOnDisk c (data_block b) → a ≡ addr_of c (data_block b) → v ≡ value_at m a → (view_of c m).block b ≡ v
    block-shown b here at is = block-is b here ∙ sym (is ∙ ap (value_at m) at)
