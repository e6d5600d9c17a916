-- A map of a disk with a tree that got more blocks.
use Rattle.std.specs.Prelude.{◌≡◌}
use Rattle.journal_world.specs.Maps.{Map}
use Rattle.journal_treestore.specs.declared.place.Cut.{Cut}
use Rattle.journal_treestore.specs.Places.{Object, data_blocks, shape_of, IsOnDisk}
use Rattle.journal_treestore.specs.Growths.{IsWider, with_blocks}
use Rattle.journal_treeobjects.specs.Maps.{object, tree_at, HasSoundTree}

-- The disk has each object that it had, also where the object lies elsewhere now
pub record IsGrownMap (c d : Cut) (m n : Map) : Type 0 where
  pub wider : IsWider c d
  pub layout : n.layout ≡ shape_of d
  pub objects : (o : Object) → IsOnDisk c o → object d n o ≡ object c m o

-- The rule holds of it as it held of the disk before. It has the same nodes, and more blocks for
-- them
pub record KeepsTree (c d : Cut) (m n : Map) : Type 0 where
  pub sound : HasSoundTree d n
  pub tree : tree_at d n ≡ with_blocks (tree_at c m) (data_blocks d)

abbrev pub GrownMapsKeepTheTree : Type 0
GrownMapsKeepTheTree = (c d : Cut) (m n : Map) → HasSoundTree c m → IsGrownMap c d m n → KeepsTree c d m n
