-- The objects of a map that the blocks of a disk are.
use Rattle.std.proofs.Common.{ℕ, ◌≡◌, ◌<◌, ◌+◌, ◌*◌, ◌/◌, ◌%◌, IsTrue, Some, sym, ap, subst, ◌∙◌, arith}
use Rattle.std.specs.Prelude.{slice_range, Option}
use Rattle.journal_world.specs.declared.address.Addr.{Addr}
use Rattle.journal_world.specs.declared.address.Kind.{Kind}
use Rattle.journal_world.specs.declared.address.Kind.TheVariants.{Record, Block}
use Rattle.journal_world.specs.declared.address.RecordSize.TheVariants.{Bytes8, Bytes512}
use Rattle.journal_world.specs.Addresses.{Shape, kind_of, is_valid}
use Rattle.journal_world.specs.Maps.{Map}
use Rattle.journal_block.specs.Block.{Bytes}
use Rattle.journal_object.specs.Objects.{IsMapOf, object_of as cut_from}
use Rattle.journal_treestore.specs.declared.place.Cut.{Cut}
use Rattle.journal_treestore.specs.Places.{Object, first_inodes, shape_of, IsCut, addr_of, IsOnDisk}
use Rattle.journal_treestore.specs.Places.Object.{the_description, owner_of, inode_of}
use Rattle.journal_treestore.proofs.Shaping.{front-owner, kind-description, kind-owner, kind-inode}
use Rattle.journal_treestore.proofs.Placing.{on_disk-valid}
use Rattle.journal_treeobjects.specs.Maps.{object}

module _ (c : Cut) (cut : IsCut c) where
  module _ (m : Map) (content : ℕ → Bytes) (layout : m.layout ≡ shape_of c) (is : IsMapOf content m) where
    pub read : (o : Object) (kind : Kind) → IsOnDisk c o → kind_of (shape_of c) (addr_of c o).block ≡ Some kind → object c m o ≡ cut_from (Some kind) (content (addr_of c o).block) (addr_of c o).off
    read o kind here known =
        is.values (addr_of c o) (subst (λ (s : Shape). IsTrue (is_valid s (addr_of c o))) (sym layout) (on_disk-valid c o cut here))
        ∙ ap (λ (k : Option Kind). cut_from k (content (addr_of c o).block) (addr_of c o).off) (ap (λ (s : Shape). kind_of s (addr_of c o).block) layout ∙ known)

    pub description-read : object c m the_description ≡ content 513
    unfolding cut_from
    description-read = read the_description Block tt (kind-description c cut)

    -- the record of a block that was there when the disk was made
    pub owner-read : (b : ℕ) → b < c.base → b < c.blocks → object c m (owner_of b) ≡ slice_range (content (514 + b / 512)) (b % 512 * 8) (b % 512 * 8 + 8)
    unfolding cut_from
    owner-read b front low =
        read (owner_of b) (Record Bytes8) low (kind-owner c cut b low)
        ∙ ap (λ (a : Addr). slice_range (content a.block) (a.off / 8) (a.off / 8 + 8)) (front-owner c b front)
        ∙ ap (λ at. slice_range (content (514 + b / 512)) at (at + 8)) (let e : b % 512 * 64 / 8 ≡ b % 512 * 8 = omega arith in e)

    pub inode-read : (n : ℕ) → n < c.numbers → object c m (inode_of n) ≡ slice_range (content (first_inodes c + n / 8)) (n % 8 * 512) (n % 8 * 512 + 512)
    unfolding cut_from
    inode-read n low =
        read (inode_of n) (Record Bytes512) low (kind-inode c cut n low)
        ∙ ap (λ at. slice_range (content (first_inodes c + n / 8)) at (at + 512)) (let e : n % 8 * 4096 / 8 ≡ n % 8 * 512 = omega arith in e)
