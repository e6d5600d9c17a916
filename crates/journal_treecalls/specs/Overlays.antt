-- What WRITE writes.
use Rattle.std.specs.Prelude.{ℕ, zero, suc, ◌≡◌, ◌≢◌, ◌<◌, ◌≤◌, ◌+◌, ◌-◌, ◌*◌, ◌/◌, ◌%◌, ◌⊎◌, max, Bool, not, ◌==◌, ◌&&◌, nat_le, nat_lt, bytes_eq, if◌then◌else◌, List, length, get_or, slice_range, Option, Some, None, Result, Ok, Err}
use Rattle.journal_tree.specs.declared.limits.TheConstants.{MOST_BYTES}
use Rattle.journal_tree.specs.declared.time.Time.{Time}
use Rattle.journal_tree.specs.declared.reply.Changed.{Changed}
use Rattle.journal_tree.specs.declared.reply.Kind.{Kind}
use Rattle.journal_tree.specs.declared.reply.Kind.TheVariants.{Directory, File, Link}
use Rattle.journal_tree.specs.declared.caller.Caller.{Caller}
use Rattle.journal_tree.specs.declared.status.Status.{Status}
use Rattle.journal_tree.specs.declared.status.Status.TheVariants.{Invalid, NoAccess, NoSpace, TooBig}
use Rattle.journal_tree.specs.Times.{IsTime}
use Rattle.journal_tree.specs.Rights.{may_store}
use Rattle.journal_tree.specs.Contents.{written_attributes}
use Rattle.journal_treestore.specs.declared.inode.Head.{Head}
use Rattle.journal_treestore.specs.Inodes.{name_from}
use Rattle.journal_treestore.specs.Views.{View, bytes_in, with_inode, with_owner, with_block, held_of}
use Rattle.journal_treestore.specs.Views.Seen.{used}
use Rattle.journal_treecalls.specs.declared.node.Record.{Record}
use Rattle.journal_treecalls.specs.declared.setting.Tail.{Tail}
use Rattle.journal_treecalls.specs.declared.reach.Reach.{Reach}
use Rattle.journal_treecalls.specs.declared.reach.Numbers.{Numbers}
use Rattle.journal_treecalls.specs.declared.reach.Changing.{Changing}
use Rattle.journal_treecalls.specs.Disks.{Write, written}
use Rattle.journal_treecalls.specs.Fetches.{file_blocks}
use Rattle.journal_treecalls.specs.Blocks.{owner_of}
use Rattle.journal_treecalls.specs.Sizes.{cleared, changed_told}
use Rattle.journal_treecalls.specs.Reaches.{reach_count, reach_place, reached_number, leaf_bytes, IsChanging}

-- ── why a node is not written ──

abbrev pub status_of_writing : Bool → ℕ → ℕ → ℕ → Option Status
status_of_writing may offset count long =
    if not (count == long) then Some Invalid
    else if not may then Some NoAccess
    else if count == 0 then None
    else if nat_lt MOST_BYTES (offset + count) then Some TooBig
    else None

abbrev pub writing_by : Kind → Bool → ℕ → ℕ → ℕ → Option Status
writing_by Directory may offset count long = Some Invalid
writing_by File may offset count long = status_of_writing may offset count long
writing_by Link may offset count long = Some Invalid

abbrev pub writing_status : Caller → Head → ℕ → ℕ → ℕ → Option Status
writing_status c h offset count long = writing_by h.kind (may_store c h.attributes) offset count long

-- ── their bytes ──

-- where the block begins in which the byte at an offset lies
abbrev pub begin_of : ℕ → ℕ
begin_of offset = 4096 * (offset / 4096)

-- how many bytes the blocks have in which these bytes lie
abbrev pub image_bytes : ℕ → ℕ → ℕ
image_bytes from to = 4096 * ((to + 4095) / 4096) - begin_of from

-- whether a byte is not one of those from an offset on that are written
abbrev pub IsBeside : ℕ → ℕ → ℕ → Type 0
IsBeside from to i = (i < from) ⊎ (to ≤ i)

-- The bytes of the blocks in which bytes lie that are written: those, and beside them what the file
-- has there. After its end there are zeros
pub record IsImage (V : View) (h : Head) (offset : ℕ) (bs image : List ℕ) : Type 0 where
  pub new : (k : ℕ) → k < length image → offset ≤ begin_of offset + k → begin_of offset + k < offset + length bs → get_or image k 0 ≡ get_or bs (begin_of offset + k - offset) 0
  pub old : (k : ℕ) → k < length image → IsBeside offset (offset + length bs) (begin_of offset + k) → begin_of offset + k < h.size
      → get_or image k 0 ≡ get_or (bytes_in V (file_blocks V h ((begin_of offset + k) / 4096))) ((begin_of offset + k) % 4096) 0
  pub blank : (k : ℕ) → k < length image → IsBeside offset (offset + length bs) (begin_of offset + k) → h.size ≤ begin_of offset + k → get_or image k 0 ≡ 0

-- those of block j
abbrev pub piece_of : List ℕ → ℕ → ℕ → List ℕ
piece_of image from j = slice_range image (4096 * j - begin_of from) (4096 * j - begin_of from + 4096)

-- ── the writes ──

-- A file's fields once a caller wrote it up to an end
pub record IsWrittenHead (c : Caller) (now : Time) (h : Head) (s : Numbers) (end : ℕ) (k : Head) : Type 0 where
  pub kind : k.kind ≡ h.kind
  pub generation : k.generation ≡ h.generation
  pub attributes : IsTime h.attributes.ctime → k.attributes ≡ written_attributes c h.attributes now
  pub directory : k.directory ≡ h.directory
  pub place : k.place ≡ h.place
  pub size : k.size ≡ max h.size end
  pub blocks : k.blocks ≡ s.direct
  pub index : k.index ≡ s.index

-- where a file ends before the blocks that are written, the block in which it ends, and where it
-- ends in it
abbrev pub gap_of : View → Head → ℕ → Option Tail
gap_of V h offset =
    if nat_le (offset / 4096) (h.size / 4096) then None
    else if file_blocks V h (h.size / 4096) == 0 then None
    else Some (record { block = file_blocks V h (h.size / 4096); from = h.size % 4096 })

-- it ends within the block
abbrev pub IsInsideTail : Option Tail → Type 0
IsInsideTail None = Unit {0}
IsInsideTail (Some t) = t.from ≤ 4096

abbrev pub with_gap : View → Option Tail → View
with_gap V None = V
with_gap V (Some t) = with_block V t.block (cleared (V.block t.block) t.from)

pub record ClearsGap (old new : View → Type 0) (ws : List Write) (h : Head) (offset : ℕ) : Type 0 where
  pub same : (V : View) → new V → old V
  pub is : (V : View) → new V → written ws V ≡ with_gap V (gap_of V h offset)

-- A block that is put at a place of an inode, which had another there, or none. Where both are one
-- and it has these bytes, it may stay
pub record Laying : Type 0 where
  pub stays : Bool
  pub was : ℕ
  pub block : ℕ
  pub place : ℕ
  pub bytes : List ℕ

-- the block is written, and its record where the inode did not have it
abbrev pub lay : View → ℕ → ℕ → ℕ → ℕ → List ℕ → View
lay U n was b p v = if was == 0 then with_owner (with_block U b v) b (owner_of n p) else with_block U b v

abbrev pub lay_at : View → ℕ → Laying → View
lay_at U n l = if l.stays then U else lay U n l.was l.block l.place l.bytes

-- and so are the first ones of a row
unfoldable pub laid : View → ℕ → (ℕ → Laying) → ℕ → View
laid U n row zero = U
laid U n row (suc m) = lay_at (laid U n row m) n (row m)

-- the bytes of an index block that is reached, or of the block with the numbers of these
abbrev pub index_bytes : Reach → Numbers → ℕ → List ℕ
index_bytes r s m = if nat_lt m (r.blocks + r.leaves) then leaf_bytes s.leaves.items (m - r.blocks) else s.root.items

-- those of block m of those that are reached
abbrev pub piece_at : Changing → List ℕ → ℕ → List ℕ
piece_at t image m = if nat_lt m t.reach.blocks then slice_range image (4096 * m) (4096 * m + 4096) else index_bytes t.reach t.new m

-- whether it is none in which bytes lie, and stays as it is
abbrev pub is_kept : Changing → ℕ → Bool
is_kept t m =
    (nat_le t.reach.blocks m && (reached_number t.reach t.old m == reached_number t.reach t.new m))
    && bytes_eq (index_bytes t.reach t.old m) (index_bytes t.reach t.new m)

abbrev pub laying_at : Changing → List ℕ → ℕ → Laying
laying_at t image m = record { stays = is_kept t m; was = reached_number t.reach t.old m; block = reached_number t.reach t.new m; place = reach_place t.reach m; bytes = piece_at t image m }

pub record LaysOne (old new : View → Type 0) (before after : List Write) (n was b p : ℕ) (v : List ℕ) : Type 0 where
  pub same : (V : View) → new V → old V
  pub is : (V : View) → written after V ≡ lay (written before V) n was b p v

pub record LaysAt (old new : View → Type 0) (before after : List Write) (n : ℕ) (l : Laying) : Type 0 where
  pub same : (V : View) → new V → old V
  pub is : (V : View) → written after V ≡ lay_at (written before V) n l

pub record LaysBlocks (old new : View → Type 0) (before after : List Write) (n : ℕ) (row : ℕ → Laying) (m : ℕ) : Type 0 where
  pub same : (V : View) → new V → old V
  pub is : (V : View) → written after V ≡ laid (written before V) n row m

-- the disk once a file was written
abbrev pub with_written : View → ℕ → Record → Head → ℕ → Changing → List ℕ → View
with_written V n r k from t image =
    with_inode (laid (with_gap V (gap_of V r.head from)) n (laying_at t image) (reach_count t.reach)) n (used (held_of k (name_from r.bytes)))

-- A file was written, with blocks that it has or that were taken
pub record IsWritten (V W : View) (c : Caller) (offset : ℕ) (bs : List ℕ) (t : Changing) (now : Time) (n : ℕ) (r : Record) (changed : Changed) : Type 0 where
  pub head : Head
  pub image : List ℕ
  pub is_head : IsWrittenHead c now r.head t.new (offset + length bs) head
  pub is_image : IsImage V r.head offset bs image
  pub long : length image ≡ image_bytes offset (offset + length bs)
  pub view : W ≡ with_written V n r head offset t image
  pub told : changed ≡ changed_told n r.head head

pub record WritesFile (old new : View → Type 0) (ws : List Write) (c : Caller) (offset : ℕ) (bs : List ℕ) (t : Changing) (now : Time) (n : ℕ) (r : Record) (changed : Changed) : Type 0 where
  pub same : (V : View) → new V → old V
  pub is : (V : View) → new V → IsWritten V (written ws V) c offset bs t now n r changed

-- or there are too few
pub data IsWritingRoom (V W : View) (c : Caller) (offset : ℕ) (bs : List ℕ) (now : Time) (n : ℕ) (r : Record) : Result Changed Status → Type 0 where
  full : W ≡ V → IsWritingRoom V W c offset bs now n r (Err NoSpace)
  writes : (t : Changing) (changed : Changed) → IsChanging V r.head offset (offset + length bs) t → IsWritten V W c offset bs t now n r changed → IsWritingRoom V W c offset bs now n r (Ok changed)

pub record WritesRoom (old new : View → Type 0) (ws : List Write) (c : Caller) (offset : ℕ) (bs : List ℕ) (now : Time) (n : ℕ) (r : Record) (reply : Result Changed Status) : Type 0 where
  pub same : (V : View) → new V → old V
  pub is : (V : View) → new V → IsWritingRoom V (written ws V) c offset bs now n r reply

-- No bytes change nothing
pub data IsWritingAllowed (V W : View) (c : Caller) (offset : ℕ) (bs : List ℕ) (now : Time) (n : ℕ) (r : Record) : Result Changed Status → Type 0 where
  stays : (changed : Changed) → length bs ≡ 0 → W ≡ V → changed ≡ changed_told n r.head r.head → IsWritingAllowed V W c offset bs now n r (Ok changed)
  tried : (reply : Result Changed Status) → 0 < length bs → offset + length bs ≤ MOST_BYTES → IsWritingRoom V W c offset bs now n r reply → IsWritingAllowed V W c offset bs now n r reply

pub record WritesAllowed (old new : View → Type 0) (ws : List Write) (c : Caller) (offset : ℕ) (bs : List ℕ) (now : Time) (n : ℕ) (r : Record) (reply : Result Changed Status) : Type 0 where
  pub same : (V : View) → new V → old V
  pub is : (V : View) → new V → IsWritingAllowed V (written ws V) c offset bs now n r reply

-- or there is a reason not to write
pub data IsWriting (V W : View) (c : Caller) (offset count : ℕ) (bs : List ℕ) (now : Time) (n : ℕ) (r : Record) : Result Changed Status → Type 0 where
  kept : (status : Status) → writing_status c r.head offset count (length bs) ≡ Some status → W ≡ V → IsWriting V W c offset count bs now n r (Err status)
  allowed : (reply : Result Changed Status) → writing_status c r.head offset count (length bs) ≡ None → IsWritingAllowed V W c offset bs now n r reply → IsWriting V W c offset count bs now n r reply

pub record WritesNode (old new : View → Type 0) (ws : List Write) (c : Caller) (offset count : ℕ) (bs : List ℕ) (now : Time) (n : ℕ) (r : Record) (reply : Result Changed Status) : Type 0 where
  pub same : (V : View) → new V → old V
  pub is : (V : View) → new V → IsWriting V (written ws V) c offset count bs now n r reply
