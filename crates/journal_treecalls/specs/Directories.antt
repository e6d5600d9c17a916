-- A directory without entries, which RMDIR takes out.
use Rattle.std.specs.Prelude.{ℕ, ◌≡◌, ◌≢◌, ◌<◌, not, ◌&&◌, if◌then◌else◌, List, Option, Some, None, Result, Ok, Err}
use Rattle.journal_tree.specs.declared.time.Time.{Time}
use Rattle.journal_tree.specs.declared.reply.Changed.{Changed}
use Rattle.journal_tree.specs.declared.caller.Caller.{Caller}
use Rattle.journal_tree.specs.declared.status.Status.{Status}
use Rattle.journal_tree.specs.declared.status.Status.TheVariants.{NoAccess, NoEntry, NotDirectory, NotEmpty}
use Rattle.journal_tree.specs.Times.{IsTime}
use Rattle.journal_tree.specs.Rights.{may_rename, may_take}
use Rattle.journal_treestore.specs.declared.inode.Head.{Head}
use Rattle.journal_treestore.specs.Entries.{entry_from}
use Rattle.journal_treestore.specs.Views.{View}
use Rattle.journal_treecalls.specs.declared.node.Record.{Record}
use Rattle.journal_treecalls.specs.declared.search.Hit.{Hit}
use Rattle.journal_treecalls.specs.declared.seats.BlockNumbers.{BlockNumbers}
use Rattle.journal_treecalls.specs.declared.named.Named.{Named}
use Rattle.journal_treecalls.specs.Disks.{Write, written}
use Rattle.journal_treecalls.specs.Targets.{block_of}
use Rattle.journal_treecalls.specs.Seats.{number_of, block_count}
use Rattle.journal_treecalls.specs.Names.{is_directory_kind, changed_of, without_hit}

-- ── entries ──

-- None of the first places has an entry
abbrev pub HasNoneBelow : List ℕ → ℕ → Type 0
HasNoneBelow v to = (at : ℕ) → at < to → (entry_from v at).number ≡ 0

-- An entry of the block names the number
pub record Names (v : List ℕ) (m : ℕ) : Type 0 where
  pub at : ℕ
  pub low : at < 512
  pub is : (entry_from v at).number ≡ m
  pub some : m ≢ 0

abbrev pub IsEntryIn : List ℕ → Option ℕ → Type 0
IsEntryIn v None = HasNoneBelow v 512
IsEntryIn v (Some m) = Names v m

-- so does one of the block of a number
abbrev pub IsEntryOfBlock : View → ℕ → Option ℕ → Type 0
IsEntryOfBlock V b None = b ≢ 0 → HasNoneBelow (V.block b) 512
IsEntryOfBlock V b (Some m) = (b ≢ 0) × Names (V.block b) m

-- none of the first blocks of these numbers has an entry
abbrev pub HasNoneInBlocks : View → BlockNumbers → ℕ → Type 0
HasNoneInBlocks V b to = (j : ℕ) → j < to → IsEntryOfBlock V (number_of b j) None

-- One of the blocks has one
pub record HasEntryIn (V : View) (b : BlockNumbers) (m : ℕ) : Type 0 where
  pub j : ℕ
  pub is : IsEntryOfBlock V (number_of b j) (Some m)

abbrev pub IsEntryOfBlocks : View → BlockNumbers → ℕ → Option ℕ → Type 0
IsEntryOfBlocks V b to None = HasNoneInBlocks V b to
IsEntryOfBlocks V b to (Some m) = HasEntryIn V b m

-- A directory of these fields has no entry in its blocks, or one
abbrev pub HasNone : View → Head → Type 0
HasNone V h = (j : ℕ) → j < block_count h → IsEntryOfBlock V (block_of V h j).number None

pub record HasEntry (V : View) (h : Head) (m : ℕ) : Type 0 where
  pub j : ℕ
  pub is : IsEntryOfBlock V (block_of V h j).number (Some m)

abbrev pub IsEntryOf : View → Head → Option ℕ → Type 0
IsEntryOf V h None = HasNone V h
IsEntryOf V h (Some m) = HasEntry V h m

-- ── RMDIR ──

-- why a directory is not removed, but that it has entries
abbrev pub rmdir_status : Caller → Head → Head → Option Status
rmdir_status c d n =
    if not (may_rename c d.attributes && may_take c d.attributes n.attributes) then Some NoAccess
    else if is_directory_kind n.kind then None
    else Some NotDirectory

-- A directory that was found is taken out, or it has entries
pub data IsBareRemoval (V W : View) (d : ℕ) (r : Record) (hit : Hit) (now : Time) : Result Changed Status → Type 0 where
  full : (m : ℕ) → HasEntry V hit.head m → W ≡ V → IsBareRemoval V W d r hit now (Err NotEmpty)
  taken : (changed : Changed) → HasNone V hit.head → W ≡ without_hit V d r hit now → changed ≡ changed_of d r.head now → IsBareRemoval V W d r hit now (Ok changed)

pub record RemovesBare (old new : View → Type 0) (ws : List Write) (d : ℕ) (r : Record) (hit : Hit) (now : Time) (reply : Result Changed Status) : Type 0 where
  pub same : (V : View) → new V → old V
  pub is : IsTime r.head.attributes.ctime → (V : View) → new V → IsBareRemoval V (written ws V) d r hit now reply

-- if there is no reason not to
pub data IsDirectoryRemoval (V W : View) (c : Caller) (d : ℕ) (r : Record) (hit : Hit) (now : Time) : Result Changed Status → Type 0 where
  kept : (status : Status) → rmdir_status c r.head hit.head ≡ Some status → W ≡ V → IsDirectoryRemoval V W c d r hit now (Err status)
  tried : (reply : Result Changed Status) → rmdir_status c r.head hit.head ≡ None → IsBareRemoval V W d r hit now reply → IsDirectoryRemoval V W c d r hit now reply

pub record RemovesDirectoryHit (old new : View → Type 0) (ws : List Write) (c : Caller) (d : ℕ) (r : Record) (hit : Hit) (now : Time) (reply : Result Changed Status) : Type 0 where
  pub same : (V : View) → new V → old V
  pub is : IsTime r.head.attributes.ctime → (V : View) → new V → IsDirectoryRemoval V (written ws V) c d r hit now reply

-- and if it is there
pub data IsRmdir (V W : View) (c : Caller) (d : ℕ) (n : Named) (now : Time) : Result Changed Status → Type 0 where
  missed : n.hit ≡ None → W ≡ V → IsRmdir V W c d n now (Err NoEntry)
  found : (hit : Hit) (reply : Result Changed Status) → n.hit ≡ Some hit → IsDirectoryRemoval V W c d n.directory hit now reply → IsRmdir V W c d n now reply

pub record RemovesDirectory (old new : View → Type 0) (ws : List Write) (c : Caller) (d : ℕ) (n : Named) (now : Time) (reply : Result Changed Status) : Type 0 where
  pub same : (V : View) → new V → old V
  pub is : IsTime n.directory.head.attributes.ctime → (V : View) → new V → IsRmdir V (written ws V) c d n now reply
