-- A call on a disk with a tree, as an effect on the maps of a journal.
use Rattle.std.specs.Prelude.{◌≡◌, List, [], ◌∷◌, Some}
use Rattle.journal_world.specs.declared.address.Addr.{Addr}
use Rattle.journal_world.specs.Addresses.{Value}
use Rattle.journal_world.specs.Maps.{Map, Pair, SamePairs, value_among, value_at, Agrees, overwritten}
use Rattle.journal_tree.specs.declared.time.Time.{Time}
use Rattle.journal_tree.specs.declared.caller.Caller.{Caller}
use Rattle.journal_tree.specs.Op.{Call, Reply, Op}
use Rattle.journal_treestore.specs.declared.place.Cut.{Cut}
use Rattle.journal_treestore.specs.Places.{Object, IsCut, addr_of, IsOnDisk}
use Rattle.journal_treestore.specs.Places.Object.{the_description, owner_of, inode_of, data_block}
use Rattle.journal_treestore.specs.Views.{View}
use Rattle.journal_treecalls.specs.Disks.{Write, written}
use Rattle.journal_treecalls.specs.Disks.Write.{inode_write, owner_write, block_write}
use Rattle.journal_treeobjects.specs.Maps.{object, view_of, tree_at, HasSoundTree}

-- ── what was read ──

-- the map gives each address that the pairs name the value that they give it
abbrev pub GivesPairs : Map → List Pair → Type 0
GivesPairs m ps = (a : Addr) (v : Value) → value_among ps a ≡ Some v → value_at m a ≡ v

-- A disk that may have been read: that of a map with a sound tree and with the values that were
-- read
pub record MayBeRead (c : Cut) (reads : List Pair) (V : View) : Type 0 where
  pub map : Map
  pub sound : HasSoundTree c map
  pub gives : GivesPairs map reads
  pub is : view_of c map ≡ V

-- ── what was written ──

abbrev pub object_of : Write → Object
object_of (inode_write n v) = inode_of n
object_of (owner_write b v) = owner_of b
object_of (block_write b v) = data_block b

abbrev pub value_of : Write → Value
value_of (inode_write n v) = v
value_of (owner_write b v) = v
value_of (block_write b v) = v

-- the writes by address
abbrev pub pairs_of : Cut → List Write → List Pair
pairs_of c [] = []
pairs_of c (w ∷ ws) = (addr_of c (object_of w), value_of w) ∷ pairs_of c ws

-- the disk has all the objects that are written
abbrev pub AreOnDisk : Cut → List Write → Type 0
AreOnDisk c [] = Unit {0}
AreOnDisk c (w ∷ ws) = IsOnDisk c (object_of w) × AreOnDisk c ws

-- A map that is overwritten by such writes is the disk after them, and has the same description
pub record ShowsWrites (c : Cut) (m : Map) (pairs : List Pair) (ws : List Write) : Type 0 where
  pub disk : view_of c (overwritten m pairs) ≡ written ws (view_of c m)
  pub description : object c (overwritten m pairs) the_description ≡ object c m the_description

abbrev pub WritesShow : Type 0
WritesShow = (c : Cut) (m : Map) (pairs : List Pair) (ws : List Write) → IsCut c → AreOnDisk c ws → SamePairs pairs (pairs_of c ws) → ShowsWrites c m pairs ws

-- ── a call ──

-- A transaction does a call: whichever map with a sound tree it was committed over, the call leads
-- from its tree to that of the map that it leaves, with the reply; and this one has a sound tree
-- too
pub record DoesOnMaps (c : Cut) (reads writes : List Pair) (call : Call) (caller : Caller) (now : Time) (reply : Reply) : Type 0 where
  pub op : (m : Map) → HasSoundTree c m → Agrees m reads → Op call caller now (tree_at c m) reply (tree_at c (overwritten m writes))
  pub sound : (m : Map) → HasSoundTree c m → Agrees m reads → HasSoundTree c (overwritten m writes)
  -- and the same description, with the disk's own 8 bytes
  pub description : (m : Map) → HasSoundTree c m → object c (overwritten m writes) the_description ≡ object c m the_description
