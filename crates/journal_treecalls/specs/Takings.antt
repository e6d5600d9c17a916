-- CREATE where the name is there.
use Rattle.std.specs.Prelude.{ℕ, ◌≡◌, Bool, not, is_none, if◌then◌else◌, List, Option, Some, None, Result, Ok, Err}
use Rattle.journal_tree.specs.declared.time.Time.{Time}
use Rattle.journal_tree.specs.declared.reply.Kind.{Kind}
use Rattle.journal_tree.specs.declared.reply.Kind.TheVariants.{Directory, File, Link}
use Rattle.journal_tree.specs.declared.reply.Made.{Made}
use Rattle.journal_tree.specs.declared.reply.Told.{Told}
use Rattle.journal_tree.specs.declared.caller.Caller.{Caller}
use Rattle.journal_tree.specs.declared.status.Status.{Status}
use Rattle.journal_tree.specs.declared.status.Status.TheVariants.{Exists, NoAccess, TooBig}
use Rattle.journal_tree.specs.Times.{IsTime}
use Rattle.journal_tree.specs.Rights.{may_store}
use Rattle.journal_tree.specs.Attributes.{is_too_big}
use Rattle.journal_tree.specs.Names.{size_alone}
use Rattle.journal_treestore.specs.declared.inode.Head.{Head}
use Rattle.journal_treestore.specs.Views.{View, held_of}
use Rattle.journal_treestore.specs.Views.Seen.{used}
use Rattle.journal_treecalls.specs.declared.node.Record.{Record}
use Rattle.journal_treecalls.specs.declared.creation.Plan.{Plan}
use Rattle.journal_treecalls.specs.declared.search.Hit.{Hit}
use Rattle.journal_treecalls.specs.declared.named.Named.{Named}
use Rattle.journal_treecalls.specs.Disks.{Write, inode_seen, written}
use Rattle.journal_treecalls.specs.Targets.{told_of}
use Rattle.journal_treecalls.specs.Sizes.{IsSetHead, tails_of, with_set}
use Rattle.journal_treecalls.specs.Rooms.{IsMakingPlanned}

-- why the size of a file is not set, if one is asked for
abbrev pub is_sized : Bool → Option ℕ → Option Status
is_sized may size =
    if is_none size then None
    else if not may then Some NoAccess
    else if is_too_big size then Some TooBig
    else None

-- why a node of the name is not taken
abbrev pub taking_by : Kind → Bool → Option ℕ → Option Status
taking_by Directory may size = Some Exists
taking_by File may size = is_sized may size
taking_by Link may size = Some Exists

abbrev pub taking_status : Caller → Head → Option ℕ → Option Status
taking_status c h size = taking_by h.kind (may_store c h.attributes) size

-- the reply
abbrev pub taken_made : Told → Hit → Head → Made
taken_made directory hit k = record { generation = hit.head.generation; node = told_of hit.number k; directory = record { before = directory; after = directory } }

-- The record shows an inode of these fields and this name
pub record IsRecordOf (h : Head) (name : List ℕ) (r : Record) : Type 0 where
  pub head : r.head ≡ h
  pub bytes : inode_seen r.bytes ≡ used (held_of h name)

-- The size of a file is set, or it stays
pub record IsSized (V W : View) (c : Caller) (hit : Hit) (name : List ℕ) (size : Option ℕ) (now : Time) (k : Head) : Type 0 where
  pub record_is : Record
  pub is : IsRecordOf hit.head name record_is
  pub sets : IsSetHead c (size_alone size) now hit.head k
  pub view : W ≡ with_set V hit.number record_is k (tails_of V hit.head k.size)

pub record Sizes (old new : View → Type 0) (ws : List Write) (c : Caller) (hit : Hit) (name : List ℕ) (size : Option ℕ) (now : Time) (k : Head) : Type 0 where
  pub same : (V : View) → new V → old V
  pub is : (V : View) → new V → IsSized V (written ws V) c hit name size now k

pub data IsSizing (V W : View) (c : Caller) (hit : Hit) (name : List ℕ) (now : Time) (k : Head) : Option ℕ → Type 0 where
  stays : W ≡ V → k ≡ hit.head → IsSizing V W c hit name now k None
  sizes : (size : ℕ) → IsSized V W c hit name (Some size) now k → IsSizing V W c hit name now k (Some size)

pub record SizesAny (old new : View → Type 0) (ws : List Write) (c : Caller) (hit : Hit) (name : List ℕ) (size : Option ℕ) (now : Time) (k : Head) : Type 0 where
  pub same : (V : View) → new V → old V
  pub is : (V : View) → new V → IsSizing V (written ws V) c hit name now k size

-- or there is a reason not to take it
pub data Takes (V W : View) (c : Caller) (directory : Told) (hit : Hit) (name : List ℕ) (size : Option ℕ) (now : Time) : Result Made Status → Type 0 where
  kept : (status : Status) → taking_status c hit.head size ≡ Some status → W ≡ V → Takes V W c directory hit name size now (Err status)
  takes : (k : Head) (made : Made) → taking_status c hit.head size ≡ None → IsSizing V W c hit name now k size → made ≡ taken_made directory hit k → Takes V W c directory hit name size now (Ok made)

pub record TakesOver (old new : View → Type 0) (ws : List Write) (c : Caller) (directory : Told) (hit : Hit) (name : List ℕ) (size : Option ℕ) (now : Time) (reply : Result Made Status) : Type 0 where
  pub same : (V : View) → new V → old V
  pub is : (V : View) → new V → Takes V (written ws V) c directory hit name size now reply

-- A node of the name is taken, or there is none and one is made
pub data IsCreating (V W : View) (c : Caller) (d : ℕ) (n : Named) (name : List ℕ) (plan : Plan) (size : Option ℕ) (now : Time) : Result Made Status → Type 0 where
  there : (hit : Hit) (reply : Result Made Status) → n.hit ≡ Some hit → Takes V W c (told_of d n.directory.head) hit name size now reply → IsCreating V W c d n name plan size now reply
  missing : (reply : Result Made Status) → n.hit ≡ None → IsMakingPlanned V W d n.directory name plan now reply → IsCreating V W c d n name plan size now reply

pub record Creates (old new : View → Type 0) (ws : List Write) (c : Caller) (d : ℕ) (n : Named) (name : List ℕ) (plan : Plan) (size : Option ℕ) (now : Time) (reply : Result Made Status) : Type 0 where
  pub same : (V : View) → new V → old V
  pub is : IsTime n.directory.head.attributes.ctime → (V : View) → new V → IsCreating V (written ws V) c d n name plan size now reply
