-- A transaction on a disk with a tree as contracts see it, and the effects of its calls.
use Rattle.std.specs.Prelude.{ℕ, ◌≡◌, IsTrue, IfSome, List, [], ◌∷◌, length, Option, Some}
use Rattle.std.proofs.Common.{subst}
use Rattle.journal_world.specs.declared.address.Addr.{Addr}
use Rattle.journal_world.specs.declared.address.Kind.{Kind}
use Rattle.journal_world.specs.Addresses.{Shape, kind_of, is_valid, bytes_of, limit_of}
use Rattle.journal_world.specs.Maps.{Pair, are_objects}
use Rattle.journal_treestore.specs.declared.place.Cut.{Cut}
use Rattle.journal_treestore.specs.Places.{shape_of, IsCut}
use Rattle.journal_treestore.specs.Views.{View}
use Rattle.journal_treestore.specs.Sound.{IsSoundView}
use Rattle.journal_treecalls.specs.Disks.{Write}
use Rattle.journal_treecalls.specs.Disks.Write.{inode_write, owner_write, block_write}
use Rattle.journal_treeobjects.specs.declared.tree_transaction.KeptWrite.{KeptWrite}
use Rattle.journal_treeobjects.specs.declared.tree_transaction.KeptWrite.TheVariants.{Inode, Owner, Block}
use Rattle.journal_treeobjects.specs.Maps.{IsWhole}
use Rattle.journal_treeobjects.specs.Effects.{AreOnDisk, MayBeRead}
use Rattle.journal_treeobjects.specs.Reads.{IsAmong}

-- How the disk is cut, the objects that were read, and the writes, the last first
pub record TreeState : Type 0 where
  pub cut : Cut
  pub kept : List Pair
  pub writes : List Write

abbrev pub write_of : KeptWrite → Write
write_of (Inode n v) = inode_write n v
write_of (Owner b v) = owner_write b v
write_of (Block b v) = block_write b v

-- writes in their order, before others, as a list with the last first
abbrev pub last_first : List KeptWrite → List Write → List Write
last_first [] before = before
last_first (w ∷ ws) before = last_first ws (write_of w ∷ before)

-- A value of its object's kind is written
abbrev pub IsSized : Write → Type 0
IsSized (inode_write n v) = length v ≡ 512
IsSized (owner_write b v) = length v ≡ 8
IsSized (block_write b v) = length v ≡ 4096

abbrev pub AreSized : List Write → Type 0
AreSized [] = Unit {0}
AreSized (w ∷ ws) = IsSized w × AreSized ws

-- As many bytes are those of an object
pub record AreBytesAt (layout : Shape) (a : Addr) (size : ℕ) : Type 0 where
  pub kind : Kind
  pub is : kind_of layout a.block ≡ Some kind
  pub valid : IsTrue (is_valid layout a)
  pub any : limit_of kind ≡ 256
  pub whole : size ≡ bytes_of kind

-- The invariant: the transaction below is of the disk's layout, has read what is kept, and has
-- overwritten nothing yet. The disk has all objects that are to be written, and a fault that is
-- kept is the transaction's
pub record IsOpen {F : Type 0} (is_fault : F → Type 0) (c : Cut) (layout : Shape) (reads writes kept : List Pair) (waiting : List Write) (fault : Option F) : Type 0 where
  pub cut : IsCut c
  pub whole : IsWhole c
  pub shape : layout ≡ shape_of c
  pub unwritten : writes ≡ []
  pub read : IsAmong kept reads
  pub objects : IsTrue (are_objects (shape_of c) kept)
  pub on_disk : AreOnDisk c waiting
  pub sized : AreSized waiting
  pub told : IfSome fault is_fault

-- the disks that may have been read
abbrev pub may_be : TreeState → View → Type 0
may_be t V = MayBeRead t.cut t.kept V

-- are sound
abbrev pub are_sound : (t : TreeState) (V : View) → may_be t V → IsSoundView V
are_sound t V m = subst IsSoundView m.is m.sound.sound

-- An object is read and kept, with all that were
pub record Keeps (old new : TreeState) : Type 0 where
  pub cut : new.cut ≡ old.cut
  pub writes : new.writes ≡ old.writes
  pub before : IsAmong old.kept new.kept
