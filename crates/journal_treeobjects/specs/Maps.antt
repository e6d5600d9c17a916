-- The disk with a tree that a map of objects is, and the rule of maps that are one.
use Rattle.std.specs.Prelude.{ℕ, ◌≡◌, ◌<◌, ◌%◌, ◌^◌, ◌&&◌, nat_lt, nat_le, if◌then◌else◌, List, []}
use Rattle.journal_world.specs.Addresses.{Value}
use Rattle.journal_world.specs.Maps.{Map, SameMap, value_at}
use Rattle.journal_tree.specs.Trees.{Tree}
use Rattle.journal_treestore.specs.declared.owner.Owner.{Owner}
use Rattle.journal_treestore.specs.declared.description.Description.{Description}
use Rattle.journal_treestore.specs.declared.place.TheConstants.{BLOCK_INODES}
use Rattle.journal_treestore.specs.declared.place.Cut.{Cut}
use Rattle.journal_treestore.specs.Owners.{no_owner, owner_from}
use Rattle.journal_treestore.specs.Descriptions.{description_bytes}
use Rattle.journal_treestore.specs.Places.{Object, first_data, data_blocks, shape_of, IsCut, addr_of}
use Rattle.journal_treestore.specs.Places.Object.{the_description, owner_of, inode_of, data_block}
use Rattle.journal_treestore.specs.Views.{Seen, View, tree_of}
use Rattle.journal_treestore.specs.Views.Seen.{free}
use Rattle.journal_treestore.specs.Sound.{IsSoundView}
use Rattle.journal_treecalls.specs.Disks.{inode_seen}

-- the value that a map gives an object of a disk that is cut so
abbrev pub object : Cut → Map → Object → Value
object c m o = value_at m (addr_of c o)

-- what is of a number: an inode, where the disk has one of the number, and else none
abbrev pub inode_at : Cut → Map → ℕ → Seen
inode_at c m n = if nat_lt n c.numbers then inode_seen (object c m (inode_of n)) else free 0

-- the record of who has a block
abbrev pub owner_at : Cut → Map → ℕ → Owner
owner_at c m b = if nat_lt b c.blocks then owner_from (object c m (owner_of b)) else no_owner

-- a block of data
abbrev pub block_at : Cut → Map → ℕ → List ℕ
block_at c m b = if nat_le (first_data c) b && nat_lt b c.blocks then object c m (data_block b) else []

-- the disk with a tree
abbrev pub view_of : Cut → Map → View
view_of c m = record {
  numbers = c.numbers;
  first_data = first_data c;
  data_blocks = data_blocks c;
  inode = inode_at c m;
  owner = owner_at c m;
  block = block_at c m;
}

-- its tree
abbrev pub tree_at : Cut → Map → Tree
tree_at c m = tree_of (view_of c m)

-- the description of a disk that is cut so, with its own 8 bytes
abbrev pub description_of : Cut → ℕ → Description
description_of c disk = record { blocks = c.base; numbers = c.numbers; disk = disk }

-- Inodes fill the last of their blocks too. So the layout of a disk says how it is cut
abbrev pub IsWhole : Cut → Type 0
IsWhole c = c.numbers % BLOCK_INODES ≡ 0

-- A map is a disk with a sound tree, cut so
pub record HasSoundTree (c : Cut) (m : Map) : Type 0 where
  pub cut : IsCut c
  pub whole : IsWhole c
  pub layout : m.layout ≡ shape_of c
  -- its own 8 bytes
  pub disk : ℕ
  pub small : disk < 2 ^ 64
  pub described : object c m the_description ≡ description_bytes (description_of c disk)
  pub sound : IsSoundView (view_of c m)

-- The rule: a map is such a disk, in some way
abbrev pub IsTreeMap : Map → Type 0
IsTreeMap m = (c : Cut) × HasSoundTree c m

-- ── what holds of the rule ──

-- Maps with the same values both meet it, or neither does
abbrev pub IsRuleOfValues : Type 0
IsRuleOfValues = (m n : Map) → SameMap m n → IsTreeMap m → IsTreeMap n

-- and a disk of one layout is cut in one way
abbrev pub IsCutOnce : Type 0
IsCutOnce = (c d : Cut) → IsCut c → IsCut d → IsWhole c → IsWhole d → shape_of c ≡ shape_of d → c ≡ d
