-- Room for a new node, and what is there once it is made.
use Rattle.std.specs.Prelude.{ℕ, ◌≡◌, ◌≢◌, ◌<◌, ◌+◌, ◌-◌, ◌*◌, max, not, if◌then◌else◌, List, [], replicate, nat_lt, unwrap_or, Option, Some, None, Result, Ok, Err}
use Rattle.journal_tree.specs.declared.limits.TheConstants.{LAST_GENERATION, MOST_BLOCKS, FIRST_BLOCKS, FILE_MODE, DIRECTORY_MODE}
use Rattle.journal_tree.specs.declared.time.Time.{Time}
use Rattle.journal_tree.specs.declared.reply.Attributes.{Attributes}
use Rattle.journal_tree.specs.declared.reply.Handle.{Handle}
use Rattle.journal_tree.specs.declared.reply.Kind.TheVariants.{Directory, File}
use Rattle.journal_tree.specs.declared.reply.Made.{Made}
use Rattle.journal_tree.specs.declared.settings.CreateMode.TheVariants.{Guarded}
use Rattle.journal_tree.specs.declared.settings.Settings.{Settings}
use Rattle.journal_tree.specs.declared.caller.Caller.{Caller}
use Rattle.journal_tree.specs.declared.status.Status.{Status}
use Rattle.journal_tree.specs.declared.status.Status.TheVariants.{Exists, Invalid, NoAccess, NoSpace, TooBig}
use Rattle.journal_tree.specs.Times.{IsTime}
use Rattle.journal_tree.specs.Names.{new_attributes}
use Rattle.journal_tree.specs.Rights.{may_rename}
use Rattle.journal_tree.specs.Attributes.{is_no_time, is_too_big}
use Rattle.journal_tree.specs.Op.{Call}
use Rattle.journal_tree.specs.Op.Call.{create, mkdir}
use Rattle.journal_treestore.specs.declared.entry.Entry.{Entry}
use Rattle.journal_treestore.specs.declared.inode.Head.{Head}
use Rattle.journal_treestore.specs.declared.level.TheConstants.{LEVELS}
use Rattle.journal_treestore.specs.Entries.{entry_from, with_entry, tag_of}
use Rattle.journal_treestore.specs.Inodes.{name_from}
use Rattle.journal_treestore.specs.Levels.{level_block, IsBlockFor}
use Rattle.journal_treestore.specs.Views.{View, zero_block, with_inode, with_block, held_of, directory_block}
use Rattle.journal_treestore.specs.Views.Seen.{free, used}
use Rattle.journal_treestore.specs.Steps.{with_moment}
use Rattle.journal_treecalls.specs.declared.node.Record.{Record}
use Rattle.journal_treecalls.specs.declared.creation.NewNode.{NewNode}
use Rattle.journal_treecalls.specs.declared.creation.Making.{Making}
use Rattle.journal_treecalls.specs.declared.creation.Making.TheVariants.{Mkdir, Create}
use Rattle.journal_treecalls.specs.declared.creation.Plan.{Plan}
use Rattle.journal_treecalls.specs.declared.named.Named.{Named}
use Rattle.journal_treecalls.specs.declared.search.Hit.{Hit}
use Rattle.journal_treecalls.specs.declared.search.DirectoryBlock.{DirectoryBlock}
use Rattle.journal_treecalls.specs.declared.growth.Growth.{Growth}
use Rattle.journal_treecalls.specs.Disks.{Write, written}
use Rattle.journal_treecalls.specs.declared.room.FreeNumber.{FreeNumber}
use Rattle.journal_treecalls.specs.declared.room.FreePlace.{FreePlace}
use Rattle.journal_treecalls.specs.declared.room.NewPlace.{NewPlace}
use Rattle.journal_treecalls.specs.declared.room.NewPlace.TheVariants.{Here, Further}
use Rattle.journal_treecalls.specs.declared.room.FreeRoom.{FreeRoom}
use Rattle.journal_treecalls.specs.Targets.{held, told_of, direct_block, level_number, block_of}
use Rattle.journal_treecalls.specs.Names.{moved}
use Rattle.journal_treecalls.specs.Fetches.{number_at}
use Rattle.journal_treecalls.specs.Reaches.{reach_for, reach_count, reached_number, IsReach, AreSized, IsChanging}
use Rattle.journal_treecalls.specs.Overlays.{laying_at, laid}

-- The number is free, and may have one more node
pub record HasFreeNumber (V : View) (f : FreeNumber) : Type 0 where
  pub some : f.number ≢ 0
  pub on_disk : f.number < V.numbers
  pub is : V.inode f.number ≡ free f.generation
  pub young : f.generation < LAST_GENERATION

abbrev pub IsFreeNumber : View → Option FreeNumber → Type 0
IsFreeNumber V None = Unit {0}
IsFreeNumber V (Some f) = HasFreeNumber V f

abbrev pub IsEmptyIn : List ℕ → Option ℕ → Type 0
IsEmptyIn v None = Unit {0}
IsEmptyIn v (Some at) = (at < 512) × ((entry_from v at).number ≡ 0)

-- ── a place ──

-- A block of a directory has no entry at the place
pub record HasPlaceIn (V : View) (b : DirectoryBlock) (p : FreePlace) : Type 0 where
  pub which : p.j ≡ b.j
  pub block : p.block ≡ b.number
  pub there : b.number ≢ 0
  pub low : p.at < 512
  pub empty : (entry_from (V.block b.number) p.at).number ≡ 0

abbrev pub IsPlaceIn : View → DirectoryBlock → Option FreePlace → Type 0
IsPlaceIn V b None = Unit {0}
IsPlaceIn V b (Some p) = HasPlaceIn V b p

-- One of these first blocks of a directory has none at the place
pub record HasFirstPlace (V : View) (bs : List ℕ) (p : FreePlace) : Type 0 where
  pub j : ℕ
  pub low : j < FIRST_BLOCKS
  pub is : HasPlaceIn V (direct_block bs j) p

abbrev pub IsFirstPlace : View → List ℕ → Option FreePlace → Type 0
IsFirstPlace V bs None = Unit {0}
IsFirstPlace V bs (Some p) = HasFirstPlace V bs p

-- The block of one of the levels has, where these bytes have the numbers of their blocks
pub record HasLevelPlace (V : View) (v : List ℕ) (tag : ℕ) (p : FreePlace) : Type 0 where
  pub level : ℕ
  pub low : level < LEVELS
  pub is : HasPlaceIn V (level_number v tag level) p

abbrev pub IsLevelPlace : View → List ℕ → ℕ → Option FreePlace → Type 0
IsLevelPlace V v tag None = Unit {0}
IsLevelPlace V v tag (Some p) = HasLevelPlace V v tag p

-- A block of a directory in which a name of this tag may lie has no entry at the place
pub record HasPlaceOf (V : View) (h : Head) (tag : ℕ) (p : FreePlace) : Type 0 where
  pub block_for : IsBlockFor tag p.j
  pub is : HasPlaceIn V (block_of V h p.j) p

abbrev pub IsPlaceOf : View → Head → ℕ → Option FreePlace → Type 0
IsPlaceOf V h tag None = Unit {0}
IsPlaceOf V h tag (Some p) = HasPlaceOf V h tag p

-- It is one of its block, and the block one of the directory's
abbrev pub IsPlaceInside : Option FreePlace → Type 0
IsPlaceInside None = Unit {0}
IsPlaceInside (Some p) = (p.at < 512) × (p.j < MOST_BLOCKS)

-- ── a block that the directory gets ──

-- By these numbers, the directory has not the block that one of its levels has for a tag
pub record IsHole (v : List ℕ) (tag j : ℕ) : Type 0 where
  pub level : ℕ
  pub low : level < LEVELS
  pub is : j ≡ level_block tag level
  pub none : number_at v (j - FIRST_BLOCKS) ≡ 0

abbrev pub IsHoleIn : List ℕ → ℕ → Option ℕ → Type 0
IsHoleIn v tag None = Unit {0}
IsHoleIn v tag (Some j) = IsHole v tag j

-- A name of this tag may lie in block j of the directory, which has it not
pub record IsFurther (V : View) (h : Head) (tag j : ℕ) : Type 0 where
  pub few : j < MOST_BLOCKS
  pub block_for : IsBlockFor tag j
  pub none : directory_block V (held_of h []) j ≡ 0

abbrev pub IsFurtherBlock : View → Head → ℕ → Option ℕ → Type 0
IsFurtherBlock V h tag None = Unit {0}
IsFurtherBlock V h tag (Some j) = IsFurther V h tag j

abbrev pub IsLowBlock : Option ℕ → Type 0
IsLowBlock None = Unit {0}
IsLowBlock (Some j) = j < MOST_BLOCKS

-- The numbers of its blocks before it gets block j, and after
pub record HasGrowthAt (V : View) (h : Head) (j : ℕ) (g : Growth) : Type 0 where
  pub is : g.j ≡ j
  pub change : IsChanging V h (4096 * j) (4096 * (j + 1)) g.change

abbrev pub IsGrowthAt : View → Head → ℕ → Option Growth → Type 0
IsGrowthAt V h j None = Unit {0}
IsGrowthAt V h j (Some g) = HasGrowthAt V h j g

-- It gets a block in which a name of this tag may lie
pub record HasGrowth (V : View) (h : Head) (tag : ℕ) (g : Growth) : Type 0 where
  pub block : IsFurther V h tag g.j
  pub change : IsChanging V h (4096 * g.j) (4096 * (g.j + 1)) g.change

-- There are as many numbers as are needed for it
pub record IsFitGrowth (g : Growth) : Type 0 where
  pub few : g.j < MOST_BLOCKS
  pub reach : g.change.reach ≡ reach_for (4096 * g.j) (4096 * (g.j + 1))
  pub fits : IsReach g.change.reach
  pub old_sized : AreSized g.change.reach g.change.old
  pub new_sized : AreSized g.change.reach g.change.new

abbrev pub IsFitGrowthAt : Option Growth → Type 0
IsFitGrowthAt None = Unit {0}
IsFitGrowthAt (Some g) = IsFitGrowth g

-- ── room for a node ──

-- A name of this tag may lie at the place, where there is no entry
abbrev pub HasPlaceFor : View → Head → ℕ → NewPlace → Type 0
HasPlaceFor V h tag (Here p) = HasPlaceOf V h tag p
HasPlaceFor V h tag (Further g) = HasGrowth V h tag g

abbrev pub IsPlaceFor : View → Head → ℕ → Option NewPlace → Type 0
IsPlaceFor V h tag None = Unit {0}
IsPlaceFor V h tag (Some p) = HasPlaceFor V h tag p

-- the place is one of its block, and the block one of the directory's
abbrev pub IsInsidePlace : NewPlace → Type 0
IsInsidePlace (Here p) = (p.at < 512) × (p.j < MOST_BLOCKS)
IsInsidePlace (Further g) = IsFitGrowth g

abbrev pub IsFitPlace : Option NewPlace → Type 0
IsFitPlace None = Unit {0}
IsFitPlace (Some p) = IsInsidePlace p

-- A directory has room for a new node under a name of this tag: a number, and a place
pub record HasRoomFor (V : View) (h : Head) (tag : ℕ) (room : FreeRoom) : Type 0 where
  pub number : HasFreeNumber V room.number
  pub place : HasPlaceFor V h tag room.place

abbrev pub IsRoomFor : View → Head → ℕ → Option FreeRoom → Type 0
IsRoomFor V h tag None = Unit {0}
IsRoomFor V h tag (Some room) = HasRoomFor V h tag room

abbrev pub IsFitRoom : Option FreeRoom → Type 0
IsFitRoom None = Unit {0}
IsFitRoom (Some room) = (room.number.generation < LAST_GENERATION) × IsInsidePlace room.place

abbrev pub room_of : FreeNumber → Option NewPlace → Option FreeRoom
room_of f None = None
room_of f (Some p) = Some (record { number = f; place = p })

-- ── a node is made ──

-- why none is
abbrev pub making_status : Caller → Settings → Option ℕ → Attributes → Option Status
making_status c s size d =
    if not (may_rename c d) then Some NoAccess
    else if is_no_time s.mtime then Some Invalid
    else if is_too_big size then Some TooBig
    else None

-- MKDIR, and CREATE in the mode GUARDED
abbrev pub making_call : Making → Handle → List ℕ → Settings → Call
making_call Mkdir h name s = mkdir h name s
making_call Create h name s = create h name (Guarded s)

abbrev pub no_blocks : List ℕ
no_blocks = replicate 48 0

-- the inode of a new node
abbrev pub new_head : ℕ → FreeNumber → ℕ → NewNode → Head
new_head d f place new = record {
  kind = new.kind;
  generation = f.generation + 1;
  attributes = new.attributes;
  directory = d;
  place = place;
  size = new.size;
  blocks = no_blocks;
  index = 0;
}

-- a directory with the block that it gets
abbrev pub grown_head : Head → Growth → Head
grown_head h g = record {
  kind = h.kind;
  generation = h.generation;
  attributes = h.attributes;
  directory = h.directory;
  place = h.place;
  size = max h.size (4096 * (g.j + 1));
  blocks = g.change.new.direct;
  index = g.change.new.index;
}

-- the disk with the blocks that the directory gets: its further block, with these bytes, and the
-- index blocks with its number
abbrev pub with_growth : View → ℕ → Growth → List ℕ → View
with_growth V d g bytes = laid V d (laying_at g.change bytes) (reach_count g.change.reach)

-- the number of the further block
abbrev pub further_number : Growth → ℕ
further_number g = reached_number g.change.reach g.change.new 0

-- the number of a new node's place, and its directory with that place
abbrev pub here_number : FreePlace → ℕ
here_number p = 512 * p.j + p.at

abbrev pub place_number : NewPlace → ℕ
place_number (Here p) = here_number p
place_number (Further g) = 512 * g.j

abbrev pub widened_head : Head → NewPlace → Head
widened_head h (Here p) = h
widened_head h (Further g) = grown_head h g

abbrev pub told_made : ℕ → Head → Head → ℕ → Head → Made
told_made d before after n new = record {
  generation = new.generation;
  node = told_of n new;
  directory = record { before = told_of d before; after = told_of d after };
}

abbrev pub made_of : ℕ → Record → FreeNumber → NewPlace → NewNode → Time → Made
made_of d r f p new now = told_made d r.head (moved (widened_head r.head p) now) f.number (new_head d f (place_number p) new)

-- the entry of a new node
abbrev pub new_entry : FreeNumber → List ℕ → Entry
new_entry f name = record { number = f.number; tag = tag_of name }

-- the disk after a node was made at a place that its directory has: its entry, the directory's
-- inode, and its own
abbrev pub with_new : View → ℕ → Record → FreeNumber → FreePlace → List ℕ → NewNode → Time → View
with_new V d r f p name new now =
    with_inode (with_inode (with_block V p.block (with_entry (V.block p.block) p.at (new_entry f name))) d (used (with_moment (held r) now)))
    f.number (used (held_of (new_head d f (here_number p) new) name))

-- and at the first place of a block that the directory gets: the blocks, the directory's inode, and
-- its own
abbrev pub with_new_block : View → ℕ → Record → FreeNumber → Growth → List ℕ → NewNode → Time → View
with_new_block V d r f g name new now =
    with_inode (with_inode (with_growth V d g (with_entry zero_block 0 (new_entry f name))) d (used (held_of (moved (grown_head r.head g) now) (name_from r.bytes))))
    f.number (used (held_of (new_head d f (512 * g.j) new) name))

abbrev pub with_placed : View → ℕ → Record → FreeNumber → NewPlace → List ℕ → NewNode → Time → View
with_placed V d r f (Here p) name new now = with_new V d r f p name new now
with_placed V d r f (Further g) name new now = with_new_block V d r f g name new now

-- It was made where there was room
pub record IsMade (V W : View) (d : ℕ) (r : Record) (name : List ℕ) (new : NewNode) (now : Time) (made : Made) : Type 0 where
  pub number : FreeNumber
  pub place : NewPlace
  pub is_free : HasFreeNumber V number
  pub is_place : HasPlaceFor V r.head (tag_of name) place
  pub view : W ≡ with_placed V d r number place name new now
  pub is : made ≡ made_of d r number place new now

abbrev pub IsYoung : Option FreeNumber → Type 0
IsYoung None = Unit {0}
IsYoung (Some f) = f.generation < LAST_GENERATION

abbrev pub if_young : ℕ → ℕ → Option FreeNumber
if_young number generation = if nat_lt generation LAST_GENERATION then Some (record { number = number; generation = generation }) else None

abbrev pub mkdir_plan : Caller → Settings → Attributes → Time → Plan
mkdir_plan c s d now = record { refusal = making_status c s None d; node = record { attributes = new_attributes c s d Directory DIRECTORY_MODE now; kind = Directory; size = 0 } }

abbrev pub create_plan : Caller → Settings → Attributes → Time → Plan
create_plan c s d now = record { refusal = making_status c s s.size d; node = record { attributes = new_attributes c s d File FILE_MODE now; kind = File; size = unwrap_or s.size 0 } }

abbrev pub plan_for : Making → Caller → Settings → Attributes → Time → Plan
plan_for Mkdir c s d now = mkdir_plan c s d now
plan_for Create c s d now = create_plan c s d now

-- A node is put at its place: its objects are written, and the reply has it
pub record Plants (old new : View → Type 0) (ws : List Write) (d : ℕ) (r : Record) (name : List ℕ) (node : NewNode) (f : FreeNumber) (p : NewPlace) (now : Time) (made : Made) : Type 0 where
  pub same : (V : View) → new V → old V
  pub written_is : IsTime r.head.attributes.ctime → (V : View) → new V → written ws V ≡ with_placed V d r f p name node now
  pub told : IsTime r.head.attributes.ctime → made ≡ made_of d r f p node now

-- It was made where there was room, or there was none and nothing is written
pub data IsMakingNode (V W : View) (d : ℕ) (r : Record) (name : List ℕ) (node : NewNode) (now : Time) : Result Made Status → Type 0 where
  full : W ≡ V → IsMakingNode V W d r name node now (Err NoSpace)
  makes : (made : Made) → IsMade V W d r name node now made → IsMakingNode V W d r name node now (Ok made)

pub record MakesNode (old new : View → Type 0) (ws : List Write) (d : ℕ) (r : Record) (name : List ℕ) (node : NewNode) (now : Time) (reply : Result Made Status) : Type 0 where
  pub same : (V : View) → new V → old V
  pub is : IsTime r.head.attributes.ctime → (V : View) → new V → IsMakingNode V (written ws V) d r name node now reply

-- by a plan
pub data IsMakingPlanned (V W : View) (d : ℕ) (r : Record) (name : List ℕ) (plan : Plan) (now : Time) : Result Made Status → Type 0 where
  kept : (status : Status) → plan.refusal ≡ Some status → W ≡ V → IsMakingPlanned V W d r name plan now (Err status)
  tried : (reply : Result Made Status) → plan.refusal ≡ None → IsMakingNode V W d r name plan.node now reply → IsMakingPlanned V W d r name plan now reply

pub record MakesPlanned (old new : View → Type 0) (ws : List Write) (d : ℕ) (r : Record) (name : List ℕ) (plan : Plan) (now : Time) (reply : Result Made Status) : Type 0 where
  pub same : (V : View) → new V → old V
  pub is : IsTime r.head.attributes.ctime → (V : View) → new V → IsMakingPlanned V (written ws V) d r name plan now reply

-- under a name that was looked for
pub data IsMaking (V W : View) (d : ℕ) (n : Named) (name : List ℕ) (plan : Plan) (now : Time) : Result Made Status → Type 0 where
  there : (hit : Hit) → n.hit ≡ Some hit → W ≡ V → IsMaking V W d n name plan now (Err Exists)
  missing : (reply : Result Made Status) → n.hit ≡ None → IsMakingPlanned V W d n.directory name plan now reply → IsMaking V W d n name plan now reply

pub record Makes (old new : View → Type 0) (ws : List Write) (d : ℕ) (n : Named) (name : List ℕ) (plan : Plan) (now : Time) (reply : Result Made Status) : Type 0 where
  pub same : (V : View) → new V → old V
  pub is : IsTime n.directory.head.attributes.ctime → (V : View) → new V → IsMaking V (written ws V) d n name plan now reply
