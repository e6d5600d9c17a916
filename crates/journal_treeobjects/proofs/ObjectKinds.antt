-- The kinds of the objects of a disk, and their bytes.
use Rattle.std.proofs.Common.{ℕ, ◌≡◌, IsTrue, length, get_or, Fits, w8, refl, sym, ap, subst, ◌∙◌}
use Rattle.std.specs.Prelude.{Option}
use Rattle.std.proofs.lemmas.Bool.{and_from, eq-eqb}
use Rattle.journal_world.specs.declared.address.Addr.{Addr}
use Rattle.journal_world.specs.declared.address.Kind.{Kind}
use Rattle.journal_world.specs.declared.address.Kind.TheVariants.{Record, Block}
use Rattle.journal_world.specs.declared.address.RecordSize.TheVariants.{Bytes8, Bytes512}
use Rattle.journal_world.specs.Addresses.{Value, Shape, kind_of, is_valid}
use Rattle.journal_world.specs.Maps.{is_object, is_value_at}
use Rattle.journal_world.proofs.Bytes.{is_value_of-bytes}
use Rattle.journal_treestore.specs.declared.place.Cut.{Cut}
use Rattle.journal_treestore.specs.Places.{shape_of, IsCut, addr_of, IsOnDisk}
use Rattle.journal_treestore.proofs.Shaping.{kind-owner, kind-inode, kind-data}
use Rattle.journal_treestore.proofs.Placing.{on_disk-valid}
use Rattle.journal_treecalls.specs.Disks.{Write}
use Rattle.journal_treecalls.specs.Disks.Write.{inode_write, owner_write, block_write}
use Rattle.journal_treeobjects.specs.Effects.{object_of, value_of}
use Rattle.journal_treeobjects.specs.States.{IsSized, AreBytesAt}

module _ (c : Cut) (cut : IsCut c) where
  -- what is written is as many bytes as its object has
  written-bytes : (w : Write) → IsOnDisk c (object_of w) → IsSized w → AreBytesAt (shape_of c) (addr_of c (object_of w)) (length (value_of w))
  written-bytes (inode_write n v) here sized = record { kind = Record Bytes512; is = kind-inode c cut n here; valid = on_disk-valid c (object_of (inode_write n v)) cut here; any = refl; whole = sized }
  written-bytes (owner_write b v) here sized = record { kind = Record Bytes8; is = kind-owner c cut b here; valid = on_disk-valid c (object_of (owner_write b v)) cut here; any = refl; whole = sized }
  written-bytes (block_write b v) here sized = record { kind = Block; is = kind-data c cut b here.0 here.1; valid = on_disk-valid c (object_of (block_write b v)) cut here; any = refl; whole = sized }

  pub bytes-at : (layout : Shape) (a : Addr) (w : Write) → layout ≡ shape_of c → a ≡ addr_of c (object_of w) → IsOnDisk c (object_of w) → IsSized w → AreBytesAt layout a (length (value_of w))
  bytes-at layout a w of_cut at here sized =
      subst (λ s. AreBytesAt s a (length (value_of w))) (sym of_cut) (subst (λ b. AreBytesAt (shape_of c) b (length (value_of w))) (sym at) (written-bytes w here sized))

-- they are a value of it
pub bytes-object : (layout : Shape) (a : Addr) (v : Value) → AreBytesAt layout a (length v) → ((k : ℕ) → Fits w8 (get_or v k 0)) → IsTrue (is_object layout (a, v))
bytes-object layout a v at bytes =
    and_from (is_valid layout a) (is_value_at (kind_of layout a.block) v) at.valid
    (ap (λ (kind : Option Kind). is_value_at kind v) at.is ∙ is_value_of-bytes at.kind v at.any bytes ∙ eq-eqb (length v) _ at.whole)
