-- A name in a directory that a caller may search, and the node that is taken out there.
use Rattle.std.specs.Prelude.{ℕ, ◌≡◌, Bool, true, false, not, ◌&&◌, if◌then◌else◌, List, Option, Some, None, option_map, Result, Ok, Err}
use Rattle.journal_tree.specs.declared.time.Time.{Time}
use Rattle.journal_tree.specs.declared.reply.Handle.{Handle}
use Rattle.journal_tree.specs.declared.reply.Changed.{Changed}
use Rattle.journal_tree.specs.declared.reply.Kind.{Kind}
use Rattle.journal_tree.specs.declared.reply.Kind.TheVariants.{Directory, File, Link}
use Rattle.journal_tree.specs.declared.name.NameKind.{NameKind}
use Rattle.journal_tree.specs.declared.name.NameKind.TheVariants.{Dot, DotDot, NoName, LongName, Name}
use Rattle.journal_tree.specs.declared.caller.Caller.{Caller}
use Rattle.journal_tree.specs.declared.status.Status.{Status}
use Rattle.journal_tree.specs.declared.status.Status.TheVariants.{Invalid, NameTooLong, NoAccess, NoEntry, IsDirectory}
use Rattle.journal_tree.specs.Times.{IsTime, time_of_names}
use Rattle.journal_tree.specs.Rights.{may_rename, may_take}
use Rattle.journal_tree.specs.Calls.{name_kind}
use Rattle.journal_tree.specs.Changes.{with_times}
use Rattle.journal_treestore.specs.declared.inode.Head.{Head}
use Rattle.journal_treestore.specs.Entries.{with_entry, no_entry}
use Rattle.journal_treestore.specs.Positions.{Position, with_put}
use Rattle.journal_treestore.specs.Views.{View, with_inode, with_block}
use Rattle.journal_treestore.specs.Views.Seen.{free, used}
use Rattle.journal_treestore.specs.Steps.{with_moment}
use Rattle.journal_treecalls.specs.Disks.{Write, written}
use Rattle.journal_treecalls.specs.declared.node.Record.{Record}
use Rattle.journal_treecalls.specs.declared.search.Hit.{Hit}
use Rattle.journal_treecalls.specs.declared.seats.EntryPlaces.{EntryPlaces}
use Rattle.journal_treecalls.specs.declared.named.Named.{Named}
use Rattle.journal_treecalls.specs.Targets.{held, told_of, IsSearched, IsUnsearched, IsInside, Hits}
use Rattle.journal_treecalls.specs.Seats.{position_of, home_position, second_position}

-- how a name is answered that is none
abbrev pub name_status : NameKind → Status → Status → Option Status
name_status Dot a b = Some a
name_status DotDot a b = Some b
name_status NoName a b = Some Invalid
name_status LongName a b = Some NameTooLong
name_status Name a b = None

-- The handle names a directory that the caller may search, the name is one, and the search for it
-- is done
pub record IsNamed (V : View) (c : Caller) (h : Handle) (name : List ℕ) (n : Named) : Type 0 where
  pub searched : IsSearched V c h n.directory
  pub named : name_kind name ≡ Name
  pub hits : Hits V n.directory.head name n.hit

-- or why not
pub data IsUnnamed (V : View) (c : Caller) (h : Handle) (name : List ℕ) (a b : Status) (status : Status) : Type 0 where
  unsearched : IsUnsearched V c h status → IsUnnamed V c h name a b status
  no_name : (r : Record) → IsSearched V c h r → name_status (name_kind name) a b ≡ Some status → IsUnnamed V c h name a b status

abbrev pub IsNameFor : View → Caller → Handle → List ℕ → Status → Status → Result Named Status → Type 0
IsNameFor V c h name a b (Ok n) = IsNamed V c h name n
IsNameFor V c h name a b (Err status) = IsUnnamed V c h name a b status

-- The name is one, and was looked for
pub record IsLookedFor (V : View) (r : Record) (name : List ℕ) (refusal : Option Status) (n : Named) : Type 0 where
  pub directory : n.directory ≡ r
  pub unrefused : refusal ≡ None
  pub hits : Hits V r.head name n.hit

abbrev pub IsFoundIn : View → Record → List ℕ → Option Status → Result Named Status → Type 0
IsFoundIn V r name refusal (Ok n) = IsLookedFor V r name refusal n
IsFoundIn V r name refusal (Err status) = refusal ≡ Some status

abbrev pub IsUnrefused : Option Status → Result Named Status → Type 0
IsUnrefused refusal (Ok n) = refusal ≡ None
IsUnrefused refusal (Err status) = Unit {0}

abbrev pub HasKind : List ℕ → Result Named Status → Type 0
HasKind name (Ok n) = name_kind name ≡ Name
HasKind name (Err status) = Unit {0}

-- the place of its entry is one of a block
abbrev pub HasInside : Result Named Status → Type 0
HasInside (Ok n) = IsInside n.hit
HasInside (Err status) = Unit {0}

-- ── a node is taken out ──

abbrev pub is_directory_kind : Kind → Bool
is_directory_kind Directory = true
is_directory_kind File = false
is_directory_kind Link = false

abbrev pub is_file_kind : Kind → Bool
is_file_kind Directory = false
is_file_kind File = true
is_file_kind Link = false

-- why a file is not removed
abbrev pub removal_status : Caller → Head → Head → Option Status
removal_status c d n =
    if not (may_rename c d.attributes && may_take c d.attributes n.attributes) then Some NoAccess
    else if is_directory_kind n.kind then Some IsDirectory
    else None

-- a directory whose names change at a moment
abbrev pub moved : Head → Time → Head
moved head now = record {
  kind = head.kind;
  generation = head.generation;
  attributes = with_times head.attributes (time_of_names head.attributes now);
  directory = head.directory;
  place = head.place;
  size = head.size;
  blocks = head.blocks;
  index = head.index;
}

abbrev pub changed_of : ℕ → Head → Time → Changed
changed_of n head now = record { before = told_of n head; after = told_of n (moved head now) }

-- the disk after an entry goes, and another one, if there is one
abbrev pub without_entries : View → Position → Option Position → View
without_entries V p None = with_put V p.b p.q no_entry
without_entries V p (Some more) = with_block (with_put V p.b p.q no_entry) more.b (with_entry (V.block more.b) more.q no_entry)

-- the disk after a node was taken out: its entries, the directory's inode, and its own
abbrev pub without_hit : View → ℕ → Record → Hit → Time → View
without_hit V d r hit now =
    with_inode (with_inode (without_entries V (home_position V r.head hit) (second_position hit)) d (used (with_moment (held r) now))) hit.number (free hit.head.generation)

-- The entries at these places go
pub record ClearsEntries (old new : View → Type 0) (ws : List Write) (p : EntryPlaces) : Type 0 where
  pub same : (V : View) → new V → old V
  pub is : (V : View) → new V → written ws V ≡ without_entries V (position_of p.home) (option_map position_of p.second)

-- A node that was found is taken out, and the reply has the directory before and after
pub record TakesOut (old new : View → Type 0) (ws : List Write) (d : ℕ) (r : Record) (hit : Hit) (now : Time) (changed : Changed) : Type 0 where
  pub same : (V : View) → new V → old V
  pub written_is : IsTime r.head.attributes.ctime → (V : View) → new V → written ws V ≡ without_hit V d r hit now
  pub told : IsTime r.head.attributes.ctime → changed ≡ changed_of d r.head now

-- A file that was found was removed, or why not
abbrev pub IsHitRemoval : View → View → Caller → ℕ → Record → Hit → Time → Result Changed Status → Type 0
IsHitRemoval V W c d r hit now (Err status) = (removal_status c r.head hit.head ≡ Some status) × (W ≡ V)
IsHitRemoval V W c d r hit now (Ok changed) = (removal_status c r.head hit.head ≡ None) × ((W ≡ without_hit V d r hit now) × (changed ≡ changed_of d r.head now))

pub record RemovesHit (old new : View → Type 0) (ws : List Write) (c : Caller) (d : ℕ) (r : Record) (hit : Hit) (now : Time) (reply : Result Changed Status) : Type 0 where
  pub same : (V : View) → new V → old V
  pub is : IsTime r.head.attributes.ctime → (V : View) → new V → IsHitRemoval V (written ws V) c d r hit now reply

-- A file of a name was removed, or why not
pub data IsRemoval (V W : View) (c : Caller) (d : ℕ) (n : Named) (now : Time) : Result Changed Status → Type 0 where
  missed : n.hit ≡ None → W ≡ V → IsRemoval V W c d n now (Err NoEntry)
  kept : (hit : Hit) (status : Status) → n.hit ≡ Some hit → removal_status c n.directory.head hit.head ≡ Some status → W ≡ V → IsRemoval V W c d n now (Err status)
  taken : (hit : Hit) (changed : Changed) → n.hit ≡ Some hit → removal_status c n.directory.head hit.head ≡ None → W ≡ without_hit V d n.directory hit now
      → changed ≡ changed_of d n.directory.head now → IsRemoval V W c d n now (Ok changed)

pub record Removes (old new : View → Type 0) (ws : List Write) (c : Caller) (d : ℕ) (n : Named) (now : Time) (reply : Result Changed Status) : Type 0 where
  pub same : (V : View) → new V → old V
  pub is : IsTime n.directory.head.attributes.ctime → (V : View) → new V → IsRemoval V (written ws V) c d n now reply
