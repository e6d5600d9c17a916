-- A map of version 1 whose superblock says version 2.
use Rattle.std.specs.Prelude.{◌≡◌, false}
use Rattle.journal_world.specs.Maps.{Map}
use Rattle.journal_inode.specs.declared.version.FormatVersion.TheVariants.{Two}
use Rattle.journal_inode.specs.Places.{Object, is_same_object, IsOnDisk, object}
use Rattle.journal_inode.specs.Places.Object.{superblock}
use Rattle.journal_inode.specs.Sound.{superblock_of}

-- The map n is m with the superblock of version 2
pub record IsUpgraded (m n : Map) : Type 0 where
  pub layout : n.layout ≡ m.layout
  pub begins : object n superblock ≡ superblock_of Two m.layout.blocks
  pub others : (o : Object) → IsOnDisk m.layout.blocks o → is_same_object o superblock ≡ false → object n o ≡ object m o
