-- What SETATTR sets, and the blocks of a file of another size.
use Rattle.std.specs.Prelude.{ℕ, ◌≡◌, ◌≤◌, ◌-◌, ◌*◌, ◌/◌, ◌%◌, ◌==◌, not, ◌&&◌, nat_le, nat_lt, if◌then◌else◌, List, ◌++◌, length, take, get_or, replicate, Option, Some, None, is_some, unwrap_or, Result, Ok, Err, true, false}
use Rattle.journal_tree.specs.declared.limits.TheConstants.{MOST_FILE_BLOCKS}
use Rattle.journal_tree.specs.declared.time.Time.{Time}
use Rattle.journal_tree.specs.declared.reply.Changed.{Changed}
use Rattle.journal_tree.specs.declared.settings.Settings.{Settings}
use Rattle.journal_tree.specs.declared.caller.Caller.{Caller}
use Rattle.journal_tree.specs.declared.status.Status.{Status}
use Rattle.journal_tree.specs.declared.status.Status.TheVariants.{Invalid, NoAccess, NotOwner, NotSync, TooBig}
use Rattle.journal_tree.specs.Times.{IsTime}
use Rattle.journal_tree.specs.Attributes.{set_attributes, is_other_time, is_no_time, is_too_big, asks_nothing, may_set, may_set_bytes}
use Rattle.journal_treestore.specs.declared.inode.TheConstants.{DIRECT_BLOCKS}
use Rattle.journal_treestore.specs.declared.inode.Head.{Head}
use Rattle.journal_treestore.specs.Inodes.{name_from}
use Rattle.journal_treestore.specs.Views.{View, with_inode, with_block, held_of}
use Rattle.journal_treestore.specs.Views.Seen.{used}
use Rattle.journal_treecalls.specs.declared.node.Record.{Record}
use Rattle.journal_treecalls.specs.declared.setting.Tail.{Tail}
use Rattle.journal_treecalls.specs.declared.setting.Tails.{Tails}
use Rattle.journal_treecalls.specs.declared.setting.Tails.TheVariants.{NoTail, OneTail, TwoTails}
use Rattle.journal_treecalls.specs.Disks.{Write, written}
use Rattle.journal_treecalls.specs.Targets.{told_of}
use Rattle.journal_treecalls.specs.Names.{is_file_kind}
use Rattle.journal_treecalls.specs.Fetches.{file_blocks, file_index, leaf_begin, last_block, last_leaf}

-- why a node is not set
abbrev pub setting_status : Caller → Settings → Option Time → Head → Option Status
setting_status c s guard h =
    if is_some s.size && not (is_file_kind h.kind) then Some Invalid
    else if is_no_time s.mtime then Some Invalid
    else if not (may_set c s h.attributes) then Some NotOwner
    else if not (may_set_bytes c s h.attributes) then Some NoAccess
    else if is_other_time guard h.attributes.ctime then Some NotSync
    else if is_too_big s.size then Some TooBig
    else None

-- block j of a file of a size, of this block
abbrev pub cut_one : ℕ → ℕ → ℕ → ℕ
cut_one b size j = if nat_le size (4096 * j) then 0 else b

-- A file of this size has those blocks alone that lie before its end
abbrev pub IsCutAt : List ℕ → ℕ → List ℕ → Type 0
IsCutAt bs size kept = (j : ℕ) → get_or kept j 0 ≡ cut_one (get_or bs j 0) size j

-- A node's fields are set
pub record IsSetHead (c : Caller) (s : Settings) (now : Time) (h k : Head) : Type 0 where
  pub kind : k.kind ≡ h.kind
  pub generation : k.generation ≡ h.generation
  pub attributes : IsTime h.attributes.ctime → k.attributes ≡ set_attributes c s h.kind h.attributes now
  pub directory : k.directory ≡ h.directory
  pub place : k.place ≡ h.place
  pub size : k.size ≡ unwrap_or s.size h.size
  pub blocks : IsCutAt h.blocks k.size k.blocks
  pub index : k.index ≡ cut_one h.index k.size DIRECT_BLOCKS

-- ── blocks in which zeros are put before a file has another size ──

abbrev pub if_some : ℕ → ℕ → Tails
if_some b from = if b == 0 then NoTail else OneTail (record { block = b; from = from })

-- where it grows, the block in which it ends, after its end
abbrev pub grown_tails : View → Head → Tails
grown_tails V h = if nat_le MOST_FILE_BLOCKS (h.size / 4096) then NoTail else if_some (file_blocks V h (h.size / 4096)) (h.size % 4096)

abbrev pub with_leaf : Tail → ℕ → ℕ → Tails
with_leaf root b from = if b == 0 then OneTail root else TwoTails root (record { block = b; from = from })

-- how many numbers the last index block has of a file of this size
abbrev pub last_numbers : ℕ → ℕ → ℕ
last_numbers leaves size = last_block size - leaf_begin (leaves - 1)

-- where it keeps index blocks, the block with their numbers, after the last of these; and
-- the last of them, after its last number
abbrev pub kept_tails : View → Head → ℕ → ℕ → Tails
kept_tails V h leaves size = with_leaf (record { block = h.index; from = 4 * leaves }) (file_index V h (leaves - 1)) (4 * last_numbers leaves size)

-- where it gets smaller
abbrev pub cut_tails : View → Head → ℕ → Tails
cut_tails V h size = if h.index == 0 then NoTail else if last_leaf size == 0 then NoTail else kept_tails V h (last_leaf size) size

abbrev pub tails_of : View → Head → ℕ → Tails
tails_of V h size = if nat_lt h.size size then grown_tails V h else if nat_lt size h.size then cut_tails V h size else NoTail

-- zeros begin inside the blocks
abbrev pub AreInside : Tails → Type 0
AreInside NoTail = Unit {0}
AreInside (OneTail t) = t.from ≤ 4096
AreInside (TwoTails t u) = (t.from ≤ 4096) × (u.from ≤ 4096)

-- bytes with zeros from a place on
abbrev pub cleared : List ℕ → ℕ → List ℕ
cleared v from = take from v ++ replicate (length v - from) 0

abbrev pub changed_told : ℕ → Head → Head → Changed
changed_told n before after = record { before = told_of n before; after = told_of n after }

-- The disk once blocks were cleared, as they were read, and an inode was written
abbrev pub with_tail : View → Tail → List ℕ → View
with_tail V t v = with_block V t.block (cleared v t.from)

abbrev pub with_tails : View → Tails → View
with_tails V NoTail = V
with_tails V (OneTail t) = with_tail V t (V.block t.block)
with_tails V (TwoTails t u) = with_tail (with_tail V t (V.block t.block)) u (V.block u.block)

abbrev pub with_set : View → ℕ → Record → Head → Tails → View
with_set V n r k tails = with_inode (with_tails V tails) n (used (held_of k (name_from r.bytes)))

pub record PutsHead (old new : View → Type 0) (ws : List Write) (n : ℕ) (r : Record) (k : Head) (tails : Tails) (changed : Changed) : Type 0 where
  pub same : (V : View) → new V → old V
  pub is : (V : View) → new V → written ws V ≡ with_set V n r k tails
  pub told : changed ≡ changed_told n r.head k

pub record SetsHead (old new : View → Type 0) (ws : List Write) (n : ℕ) (r : Record) (k : Head) (changed : Changed) : Type 0 where
  pub same : (V : View) → new V → old V
  pub is : (V : View) → new V → written ws V ≡ with_set V n r k (tails_of V r.head k.size)
  pub told : changed ≡ changed_told n r.head k

-- A node is set, or nothing is asked for and it stays
pub data IsSet (V W : View) (c : Caller) (s : Settings) (now : Time) (n : ℕ) (r : Record) (changed : Changed) : Type 0 where
  stays : asks_nothing s ≡ true → W ≡ V → changed ≡ changed_told n r.head r.head → IsSet V W c s now n r changed
  sets : (k : Head) → asks_nothing s ≡ false → IsSetHead c s now r.head k → W ≡ with_set V n r k (tails_of V r.head k.size) → changed ≡ changed_told n r.head k → IsSet V W c s now n r changed

pub record SetsAllowed (old new : View → Type 0) (ws : List Write) (c : Caller) (s : Settings) (now : Time) (n : ℕ) (r : Record) (changed : Changed) : Type 0 where
  pub same : (V : View) → new V → old V
  pub is : (V : View) → new V → IsSet V (written ws V) c s now n r changed

-- or there is a reason not to
pub data IsSetting (V W : View) (c : Caller) (s : Settings) (guard : Option Time) (now : Time) (n : ℕ) (r : Record) : Result Changed Status → Type 0 where
  kept : (status : Status) → setting_status c s guard r.head ≡ Some status → W ≡ V → IsSetting V W c s guard now n r (Err status)
  done : (changed : Changed) → setting_status c s guard r.head ≡ None → IsSet V W c s now n r changed → IsSetting V W c s guard now n r (Ok changed)

pub record SetsNode (old new : View → Type 0) (ws : List Write) (c : Caller) (s : Settings) (guard : Option Time) (now : Time) (n : ℕ) (r : Record) (reply : Result Changed Status) : Type 0 where
  pub same : (V : View) → new V → old V
  pub is : (V : View) → new V → IsSetting V (written ws V) c s guard now n r reply
