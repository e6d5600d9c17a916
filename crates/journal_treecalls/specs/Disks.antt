-- The reads and writes of a call on a disk with a tree, and its effect.
use Rattle.std.specs.Prelude.{ℕ, List, [], ◌∷◌}
use Rattle.journal_tree.specs.declared.time.Time.{Time}
use Rattle.journal_tree.specs.declared.caller.Caller.{Caller}
use Rattle.journal_tree.specs.Op.{Call, Reply, Op}
use Rattle.journal_treestore.specs.Inodes.{inode_from, name_from}
use Rattle.journal_treestore.specs.Owners.{owner_from}
use Rattle.journal_treestore.specs.Views.{Seen, View, seen, with_inode, with_owner, with_block, tree_of}
use Rattle.journal_treestore.specs.Sound.{IsSoundView}

-- the inode of these bytes, with its name
abbrev pub inode_seen : List ℕ → Seen
inode_seen v = seen (inode_from v) (name_from v)

-- An object of a disk, and the bytes that are written over it
pub data Write : Type 0 where
  inode_write : ℕ → List ℕ → Write
  owner_write : ℕ → List ℕ → Write
  block_write : ℕ → List ℕ → Write

abbrev pub with_write : View → Write → View
with_write V (inode_write n v) = with_inode V n (inode_seen v)
with_write V (owner_write b v) = with_owner V b (owner_from v)
with_write V (block_write b v) = with_block V b v

-- the disk after writes, of which the last comes first
abbrev pub written : List Write → View → View
written [] V = V
written (w ∷ ws) V = with_write (written ws V) w

-- The disks that may be there are fewer than before, and of each of them this holds
pub record Learns (old new P : View → Type 0) : Type 0 where
  pub before : (V : View) → new V → old V
  pub now : (V : View) → new V → P V

-- Whichever disk was there: the call leads from its tree to that of the disk after the writes, with
-- the reply, and that disk is sound
pub record Does (may_be : View → Type 0) (writes : List Write) (call : Call) (c : Caller) (now : Time) (reply : Reply) : Type 0 where
  pub op : (V : View) → may_be V → Op call c now (tree_of V) reply (tree_of (written writes V))
  pub sound : (V : View) → may_be V → IsSoundView (written writes V)
