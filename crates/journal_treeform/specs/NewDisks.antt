-- A new disk with a tree: its blocks, and the map that they are.
use Rattle.std.specs.Prelude.{ℕ, ◌≡◌, ◌<◌, ◌^◌, ◌==◌, if◌then◌else◌, [], Some, None}
use Rattle.journal_world.specs.declared.address.Kind.TheVariants.{Block}
use Rattle.journal_world.specs.declared.layout.TheConstants.{SUPERBLOCK}
use Rattle.journal_world.specs.Addresses.{zeros_of}
use Rattle.journal_world.specs.Maps.{Map}
use Rattle.journal_block.specs.Block.{Bytes, with_bytes}
use Rattle.journal_object.specs.Objects.{IsMapOf}
use Rattle.journal_tree.specs.declared.limits.TheConstants.{MODES, ROOT}
use Rattle.journal_tree.specs.declared.reply.Attributes.{Attributes}
use Rattle.journal_tree.specs.declared.reply.Kind.TheVariants.{Directory}
use Rattle.journal_tree.specs.Times.{IsTime}
use Rattle.journal_tree.specs.Trees.{Node, Tree, root_home}
use Rattle.journal_tree.specs.Trees.Body.{directory}
use Rattle.journal_tree.specs.Fit.{IsWord}
use Rattle.journal_treestore.specs.declared.inode.Head.{Head}
use Rattle.journal_treestore.specs.declared.inode.Inode.TheVariants.{Used}
use Rattle.journal_treestore.specs.Descriptions.{description_bytes}
use Rattle.journal_treestore.specs.Inodes.{no_blocks, inode_bytes}
use Rattle.journal_treestore.specs.Places.{first_inodes, data_blocks, shape_of, IsCut}
use Rattle.journal_treestore.specs.Places.Object.{the_description}
use Rattle.journal_treeobjects.specs.Maps.{object, tree_at, description_of, IsWhole, HasSoundTree}
use Rattle.journal_treeform.specs.declared.new_tree.NewTree.{NewTree}

-- ── its blocks ──

abbrev pub root_attributes : NewTree → Attributes
root_attributes t = record { mode = t.mode; owner = t.owner; group = t.group; mtime = t.made; ctime = t.made; verifier = None }

-- the root's inode: a directory without blocks
abbrev pub root_head : NewTree → Head
root_head t = record {
  kind = Directory;
  generation = 1;
  attributes = root_attributes t;
  directory = 0;
  place = 0;
  size = 0;
  blocks = no_blocks;
  index = 0;
}

-- the first block of inodes: the second is the root's, and all others are zeros
unfoldable pub root_block : NewTree → Bytes
root_block t = with_bytes (zeros_of Block) 512 (inode_bytes (Used (root_head t)) [])

-- each block, by its number
abbrev pub new_block : NewTree → ℕ → Bytes
new_block t b =
    if b == SUPERBLOCK then description_bytes (description_of t.cut t.disk)
    else if b == first_inodes t.cut then root_block t
    else zeros_of Block

-- ── its tree ──

-- the root directory, which has no entry
abbrev pub new_root : NewTree → Node
new_root t = record { attributes = root_attributes t; home = root_home; body = directory 0 }

-- is the only node
abbrev pub new_tree : NewTree → Tree
new_tree t = record {
  numbers = t.cut.numbers;
  blocks = data_blocks t.cut;
  at = λ n. if n == ROOT then record { generation = 1; node = Some (new_root t) } else record { generation = 0; node = None };
}

-- A map is the new disk: a disk with a sound tree, with the description that was asked for, and
-- with this tree
pub record IsNewMap (t : NewTree) (m : Map) : Type 0 where
  pub sound : HasSoundTree t.cut m
  pub described : object t.cut m the_description ≡ description_bytes (description_of t.cut t.disk)
  pub tree : tree_at t.cut m ≡ new_tree t

-- ── what holds of it ──

-- A new disk may be made so: the numbers have room in their bytes
pub record IsPossible (t : NewTree) : Type 0 where
  pub cut : IsCut t.cut
  pub whole : IsWhole t.cut
  pub new : t.cut.size ≡ t.cut.base
  pub disk : t.disk < 2 ^ 64
  pub mode : t.mode < MODES
  pub owner : IsWord t.owner
  pub group : IsWord t.group
  pub made : IsTime t.made

-- The map that such blocks are is the new disk
abbrev pub NewDisksAreSound : Type 0
NewDisksAreSound =
    (t : NewTree) (content : ℕ → Bytes) (m : Map) → IsPossible t → ((b : ℕ) → b < t.cut.blocks → content b ≡ new_block t b)
    → m.layout ≡ shape_of t.cut → IsMapOf content m → IsNewMap t m
