-- SYMLINK and READLINK.
use Rattle.std.specs.Prelude.{ℕ, ◌≡◌, ◌≢◌, ◌<◌, Bool, true, false, not, ◌||◌, ◌==◌, if◌then◌else◌, List, length, slice_set, nat_lt, Option, Some, None, Result, Ok, Err}
use Rattle.journal_tree.specs.declared.limits.TheConstants.{MOST_LINK, LINK_MODE}
use Rattle.journal_tree.specs.declared.time.Time.{Time}
use Rattle.journal_tree.specs.declared.reply.Attributes.{Attributes}
use Rattle.journal_tree.specs.declared.reply.Kind.TheVariants.{Link}
use Rattle.journal_tree.specs.declared.reply.Made.{Made}
use Rattle.journal_tree.specs.declared.settings.Settings.{Settings}
use Rattle.journal_tree.specs.declared.caller.Caller.{Caller}
use Rattle.journal_tree.specs.declared.status.Status.{Status}
use Rattle.journal_tree.specs.declared.status.Status.TheVariants.{Exists, Invalid, NameTooLong, NoAccess, NoSpace}
use Rattle.journal_tree.specs.Times.{IsTime}
use Rattle.journal_tree.specs.Names.{LinkText, new_attributes}
use Rattle.journal_tree.specs.Rights.{may_rename}
use Rattle.journal_tree.specs.Attributes.{is_no_time}
use Rattle.journal_treestore.specs.declared.inode.Head.{Head}
use Rattle.journal_treestore.specs.Entries.{tag_of}
use Rattle.journal_treestore.specs.Steps.{text_block}
use Rattle.journal_treestore.specs.Views.{View, with_inode, with_owner, with_block, held_of}
use Rattle.journal_treestore.specs.Views.Seen.{used}
use Rattle.journal_treecalls.specs.declared.node.Record.{Record}
use Rattle.journal_treecalls.specs.declared.creation.NewNode.{NewNode}
use Rattle.journal_treecalls.specs.declared.creation.Plan.{Plan}
use Rattle.journal_treecalls.specs.declared.named.Named.{Named}
use Rattle.journal_treecalls.specs.declared.search.Hit.{Hit}
use Rattle.journal_treecalls.specs.declared.growth.Growth.{Growth}
use Rattle.journal_treecalls.specs.declared.room.FreeRoom.{FreeRoom}
use Rattle.journal_treecalls.specs.declared.room.NewPlace.{NewPlace}
use Rattle.journal_treecalls.specs.declared.room.NewPlace.TheVariants.{Here, Further}
use Rattle.journal_treecalls.specs.declared.portion.ReadReply.{ReadReply}
use Rattle.journal_treecalls.specs.declared.symlinks.LinkReply.{LinkReply}
use Rattle.journal_treecalls.specs.Disks.{Write, written}
use Rattle.journal_treecalls.specs.Blocks.{HasFreeBlock, owner_of}
use Rattle.journal_treecalls.specs.Rooms.{HasRoomFor, new_head, place_number, with_placed, made_of}
use Rattle.journal_treecalls.specs.Reaches.{reach_count, reached_number}
use Rattle.journal_treecalls.specs.Portions.{HasPortion}

-- ── why no link is made ──

abbrev pub linking_status : Caller → Settings → List ℕ → Attributes → Option Status
linking_status c s text d =
    if not (may_rename c d) then Some NoAccess
    else if is_no_time s.mtime || length text == 0 then Some Invalid
    else if nat_lt MOST_LINK (length text) then Some NameTooLong
    else None

abbrev pub link_plan : Caller → Settings → List ℕ → Attributes → Time → Plan
link_plan c s text d now = record { refusal = linking_status c s text d; node = record { attributes = new_attributes c s d Link LINK_MODE now; kind = Link; size = length text } }

-- the directory has the name, or there is another reason
abbrev pub refusal_by : Option Hit → Option Status → Option Status
refusal_by (Some hit) other = Some Exists
refusal_by None other = other

abbrev pub link_refusal : Named → Plan → Option Status
link_refusal n plan = refusal_by n.hit plan.refusal

-- ── a block for the text ──

-- None of those that a directory gets or has for a further block is this one
abbrev pub IsUnreached : Growth → ℕ → Type 0
IsUnreached g b = (m : ℕ) → m < reach_count g.change.reach → reached_number g.change.reach g.change.new m ≢ b

abbrev pub IsUnreachedUnless : Growth → ℕ → Bool → Type 0
IsUnreachedUnless g b true = Unit {0}
IsUnreachedUnless g b false = IsUnreached g b

-- The directory gets none that is this one
abbrev pub IsApart : NewPlace → ℕ → Type 0
IsApart (Here p) b = Unit {0}
IsApart (Further g) b = IsUnreached g b

abbrev pub IsApartUnless : NewPlace → ℕ → Bool → Type 0
IsApartUnless p b true = Unit {0}
IsApartUnless p b false = IsApart p b

-- A block that nobody has, and that the directory does not get
pub record IsOtherBlock (V : View) (p : NewPlace) (b : ℕ) : Type 0 where
  pub free : HasFreeBlock V b
  pub apart : IsApart p b

abbrev pub IsOther : View → NewPlace → Option ℕ → Type 0
IsOther V p None = Unit {0}
IsOther V p (Some b) = IsOtherBlock V p b

-- ── the writes ──

-- an inode with this as its first block
abbrev pub with_first : Head → ℕ → Head
with_first h b = record {
  kind = h.kind;
  generation = h.generation;
  attributes = h.attributes;
  directory = h.directory;
  place = h.place;
  size = h.size;
  blocks = slice_set h.blocks 0 b;
  index = h.index;
}

-- the disk once a link got a block with its text
abbrev pub with_text : View → ℕ → Head → List ℕ → ℕ → List ℕ → View
with_text V n link name b text = with_inode (with_owner (with_block V b (text_block text)) b (owner_of n 0)) n (used (held_of (with_first link b) name))

pub record PutsText (old new : View → Type 0) (before after : List Write) (n : ℕ) (link : Head) (name : List ℕ) (b : ℕ) (text : List ℕ) : Type 0 where
  pub same : (V : View) → new V → old V
  pub is : (V : View) → written after V ≡ with_text (written before V) n link name b text

-- and once it was put into its directory before
abbrev pub with_link : View → ℕ → Record → FreeRoom → List ℕ → NewNode → ℕ → List ℕ → Time → View
with_link V d r room name new b text now = with_text (with_placed V d r room.number room.place name new now) room.number.number (new_head d room.number (place_number room.place) new) name b text

pub record PutsLink (old new : View → Type 0) (ws : List Write) (d : ℕ) (r : Record) (name : List ℕ) (node : NewNode) (text : List ℕ) (room : FreeRoom) (b : ℕ) (now : Time) (made : Made) : Type 0 where
  pub same : (V : View) → new V → old V
  pub written_is : IsTime r.head.attributes.ctime → (V : View) → new V → written ws V ≡ with_link V d r room name node b text now
  pub told : IsTime r.head.attributes.ctime → made ≡ made_of d r room.number room.place node now

-- A link was made in a room, and its text is in a block that neither anybody had nor the directory
-- gets
pub record IsLinkedIn (V W : View) (d : ℕ) (r : Record) (name : List ℕ) (new : NewNode) (text : List ℕ) (room : FreeRoom) (now : Time) (made : Made) : Type 0 where
  pub block : ℕ
  pub is_block : IsOtherBlock V room.place block
  pub view : W ≡ with_link V d r room name new block text now
  pub is : made ≡ made_of d r room.number room.place new now

-- or there is no block
pub data IsLinkingWithin (V W : View) (d : ℕ) (r : Record) (name : List ℕ) (node : NewNode) (text : List ℕ) (room : FreeRoom) (now : Time) : Result Made Status → Type 0 where
  full : W ≡ V → IsLinkingWithin V W d r name node text room now (Err NoSpace)
  links : (made : Made) → IsLinkedIn V W d r name node text room now made → IsLinkingWithin V W d r name node text room now (Ok made)

pub record LinksWithin (old new : View → Type 0) (ws : List Write) (d : ℕ) (r : Record) (name : List ℕ) (node : NewNode) (text : List ℕ) (room : FreeRoom) (now : Time) (reply : Result Made Status) : Type 0 where
  pub same : (V : View) → new V → old V
  pub is : IsTime r.head.attributes.ctime → (V : View) → new V → IsLinkingWithin V (written ws V) d r name node text room now reply

-- or no room
pub data IsLinkingNode (V W : View) (d : ℕ) (r : Record) (name : List ℕ) (node : NewNode) (text : List ℕ) (now : Time) : Result Made Status → Type 0 where
  crowded : W ≡ V → IsLinkingNode V W d r name node text now (Err NoSpace)
  within : (room : FreeRoom) (reply : Result Made Status) → HasRoomFor V r.head (tag_of name) room → IsLinkingWithin V W d r name node text room now reply → IsLinkingNode V W d r name node text now reply

pub record LinksNode (old new : View → Type 0) (ws : List Write) (d : ℕ) (r : Record) (name : List ℕ) (node : NewNode) (text : List ℕ) (now : Time) (reply : Result Made Status) : Type 0 where
  pub same : (V : View) → new V → old V
  pub is : IsTime r.head.attributes.ctime → (V : View) → new V → IsLinkingNode V (written ws V) d r name node text now reply

-- or a reason not to
pub data IsLinking (V W : View) (d : ℕ) (n : Named) (name : List ℕ) (plan : Plan) (text : List ℕ) (now : Time) : Result Made Status → Type 0 where
  kept : (status : Status) → link_refusal n plan ≡ Some status → W ≡ V → IsLinking V W d n name plan text now (Err status)
  tried : (reply : Result Made Status) → link_refusal n plan ≡ None → IsLinkingNode V W d n.directory name plan.node text now reply → IsLinking V W d n name plan text now reply

pub record LinksFound (old new : View → Type 0) (ws : List Write) (d : ℕ) (n : Named) (name : List ℕ) (plan : Plan) (text : List ℕ) (now : Time) (reply : Result Made Status) : Type 0 where
  pub same : (V : View) → new V → old V
  pub is : IsTime n.directory.head.attributes.ctime → (V : View) → new V → IsLinking V (written ws V) d n name plan text now reply

-- ── READLINK ──

abbrev pub link_told : Result LinkReply Status → Result LinkText Status
link_told (Ok r) = Ok (record { node = r.node; text = r.text.items })
link_told (Err status) = Err status

-- The text of a link was read, or the node is none
pub data ReadsLink (V : View) (n : ℕ) (r : Record) : Result LinkReply Status → Type 0 where
  no_link : r.head.kind ≢ Link → ReadsLink V n r (Err Invalid)
  reads : (read : ReadReply) → r.head.kind ≡ Link → HasPortion V n r.head 0 MOST_LINK read → ReadsLink V n r (Ok (record { node = read.file; text = read.bytes }))
