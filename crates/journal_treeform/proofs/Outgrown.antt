-- The map that the blocks of a grown disk are has each object of the map before.
use Rattle.std.proofs.Common.{ℕ, ◌≡◌, ◌<◌, ◌≤◌, ◌+◌, ◌-◌, ◌*◌, ◌/◌, ◌%◌, Some, refl, sym, ap, ◌∙◌, arith}
use Rattle.journal_world.specs.declared.address.Addr.{Addr}
use Rattle.journal_world.specs.declared.address.Kind.{Kind}
use Rattle.journal_world.specs.declared.address.Kind.TheVariants.{Record, Block}
use Rattle.journal_world.specs.declared.address.RecordSize.TheVariants.{Bytes8, Bytes512}
use Rattle.journal_world.specs.Addresses.{kind_of}
use Rattle.journal_world.specs.Maps.{Map}
use Rattle.journal_block.specs.Block.{Bytes}
use Rattle.journal_object.specs.Objects.{IsMapOf, object_of as cut_from}
use Rattle.journal_treestore.specs.declared.place.Cut.{Cut}
use Rattle.journal_treestore.specs.Places.{Object, first_inodes, first_data, shape_of, IsCut, addr_of, IsOnDisk}
use Rattle.journal_treestore.specs.Places.Object.{the_description, owner_of, inode_of, data_block}
use Rattle.journal_treestore.specs.Growths.{IsGrowth}
use Rattle.journal_treestore.proofs.Shaping.{OwnerPlace, owner_place, front-owner, back-owner, kind-description, kind-owner, kind-inode, kind-data}
use Rattle.journal_treeobjects.specs.Maps.{object}
use Rattle.journal_treeobjects.proofs.Wider.{grown-maps}
use Rattle.journal_treeform.specs.GrownDisks.{KeepsHomes, HasRecords, GrownDisksKeepTheTree}
use Rattle.journal_treeform.proofs.Reading.{read}

module _ (c d : Cut) (old new : ℕ → Bytes) (m n : Map) (cut : IsCut c) (growth : IsGrowth c d) (homes : KeepsHomes d old new) (records : HasRecords c d old new) (layout_m : m.layout ≡ shape_of c)
    (is_m : IsMapOf old m) (layout_n : n.layout ≡ shape_of d) (is_n : IsMapOf new n) where
  -- what of two blocks with the same bytes is the same
  from-blocks : (o : Object) (kind : Kind) → IsOnDisk c o → IsOnDisk d o → kind_of (shape_of c) (addr_of c o).block ≡ Some kind → kind_of (shape_of d) (addr_of d o).block ≡ Some kind
      → new (addr_of d o).block ≡ old (addr_of c o).block → (addr_of d o).off ≡ (addr_of c o).off → object d n o ≡ object c m o
  from-blocks o kind was here kind_c kind_d bytes off =
      read d growth.wider.cut n new layout_n is_n o kind here kind_d
      ∙ ap (λ v. cut_from (Some kind) v (addr_of d o).off) bytes
      ∙ ap (cut_from (Some kind) (old (addr_of c o).block)) off
      ∙ sym (read c cut m old layout_m is_m o kind was kind_c)

  inside : (b : ℕ) → b < c.blocks → b < d.blocks
  inside b low = omega (arith, low, growth.more)

  same-inodes : first_inodes d ≡ first_inodes c
  same-inodes = λ z. first_inodes (record { size = c.size; blocks = c.blocks; numbers = c.numbers; base = growth.wider.base z })

  same-data : first_data d ≡ first_data c
  same-data = λ z. first_data (record { size = c.size; blocks = c.blocks; numbers = growth.wider.numbers z; base = growth.wider.base z })

  description-same : object d n the_description ≡ object c m the_description
  description-same =
      from-blocks the_description Block tt tt (kind-description c cut) (kind-description d growth.wider.cut)
      (homes 513 (omega arith) (omega (arith, growth.wider.cut.enough, growth.wider.cut.room.later)))
      refl

  inode-same : (i : ℕ) → i < c.numbers → object d n (inode_of i) ≡ object c m (inode_of i)
  inode-same i low =
      from-blocks (inode_of i) (Record Bytes512) low (omega (arith, low, growth.wider.numbers)) (kind-inode c cut i low) (kind-inode d growth.wider.cut i (omega (arith, low, growth.wider.numbers)))
      (ap (λ f. new (f + i / 8)) same-inodes ∙ homes (first_inodes c + i / 8) (omega arith) (omega (arith, low, cut.some_data, cut.room.later, growth.more)))
      refl

  block-same : (b : ℕ) → first_data c ≤ b → b < c.blocks → object d n (data_block b) ≡ object c m (data_block b)
  block-same b from low =
      let there : first_data d ≤ b = let e = same-data in omega (arith, e, from) in
      from-blocks (data_block b) Block (from, low) (there, inside b low) (kind-data c cut b from low) (kind-data d growth.wider.cut b there (inside b low))
      (homes b (omega (arith, from)) (inside b low))
      refl

  owner-same : (b : ℕ) → b < c.blocks → object d n (owner_of b) ≡ object c m (owner_of b)
  owner-same b low =
      from-blocks (owner_of b) (Record Bytes8) low (inside b low) (kind-owner c cut b low) (kind-owner d growth.wider.cut b (inside b low)) (bytes (owner_place c b)) (off (owner_place c b))
    where
      bytes : OwnerPlace c b → new (addr_of d (owner_of b)).block ≡ old (addr_of c (owner_of b)).block
      bytes (OwnerPlace.front first is) =
          ap (λ (a : Addr). new a.block) (front-owner d b (omega (arith, first, growth.wider.base)))
          ∙ homes (514 + b / 512) (omega arith) (omega (arith, first, cut.some_data, cut.room.later, growth.more))
          ∙ sym (ap (λ (a : Addr). old a.block) is)
      bytes (OwnerPlace.back later is) =
          ap (λ (a : Addr). new a.block) (back-owner d b (omega (arith, later, growth.wider.base)))
          ∙ ap (λ s. new (d.blocks + (b - s) / 512)) growth.wider.base
          ∙ records ((b - c.base) / 512) (omega (arith, later, low))
          ∙ sym (ap (λ (a : Addr). old a.block) is)

      off : OwnerPlace c b → (addr_of d (owner_of b)).off ≡ (addr_of c (owner_of b)).off
      off (OwnerPlace.front first is) =
          ap (λ (a : Addr). a.off) (front-owner d b (omega (arith, first, growth.wider.base))) ∙ sym (ap (λ (a : Addr). a.off) is)
      off (OwnerPlace.back later is) =
          ap (λ (a : Addr). a.off) (back-owner d b (omega (arith, later, growth.wider.base)))
          ∙ ap (λ s. (b - s) % 512 * 64) growth.wider.base
          ∙ sym (ap (λ (a : Addr). a.off) is)

  pub objects-same : (o : Object) → IsOnDisk c o → object d n o ≡ object c m o
  objects-same the_description here = description-same
  objects-same (owner_of b) here = owner-same b here
  objects-same (inode_of i) here = inode-same i here
  objects-same (data_block b) here = block-same b here.0 here.1

pub grown-disks : GrownDisksKeepTheTree
grown-disks c d old new m n growth homes records has is_m layout is_n =
    grown-maps c d m n has (record { wider = growth.wider; layout = layout; objects = objects-same c d old new m n has.cut growth homes records has.layout is_m layout is_n })
