-- The calls, and how each leads from a tree to a tree with its answer.
use Rattle.std.specs.Prelude.{ℕ, ◌≡◌, ◌≢◌, ◌<◌, Bool, List, Option, Some, None, Result, Decides, is_err}
use Rattle.journal_tree.specs.declared.limits.TheConstants.{LAST_GENERATION, MOST_PLACES}
use Rattle.journal_tree.specs.declared.time.Time.{Time}
use Rattle.journal_tree.specs.declared.status.Status.{Status}
use Rattle.journal_tree.specs.declared.reply.Handle.{Handle}
use Rattle.journal_tree.specs.declared.reply.Told.{Told}
use Rattle.journal_tree.specs.declared.reply.Changed.{Changed}
use Rattle.journal_tree.specs.declared.reply.Found.{Found}
use Rattle.journal_tree.specs.declared.reply.Made.{Made}
use Rattle.journal_tree.specs.declared.reply.Renamed.{Renamed}
use Rattle.journal_tree.specs.declared.reply.Room.{Room}
use Rattle.journal_tree.specs.declared.reply.Free.{Free}
use Rattle.journal_tree.specs.declared.reply.Space.{Space}
use Rattle.journal_tree.specs.declared.settings.Settings.{Settings}
use Rattle.journal_tree.specs.declared.settings.CreateMode.{CreateMode}
use Rattle.journal_tree.specs.Trees.{Tree, find, find_place}
use Rattle.journal_tree.specs.Rule.{stems, IsBelow}
use Rattle.journal_tree.specs.declared.caller.Caller.{Caller}
use Rattle.journal_tree.specs.Calls.{target}
use Rattle.journal_tree.specs.Attributes.{Access, getattr_case, setattr_case, access_case}
use Rattle.journal_tree.specs.Contents.{Portion, read_case, write_case, commit_case}
use Rattle.journal_tree.specs.Names.{lookup_case, create_case, mkdir_case, remove_case, rmdir_case, symlink_case, LinkText, readlink_case, make_other_case, link_case}
use Rattle.journal_tree.specs.Renames.{rename_case}
use Rattle.journal_tree.specs.Listing.{Listed, ListedPlus, readdir_case, readdirplus_case}
use Rattle.journal_tree.specs.Facts.{IsFree, Facts, NameFacts, fsstat_case, fsinfo_case, pathconf_case}

-- The number has no node and may have one more, and the directory has nothing at the place
pub record IsRoom (T : Tree) (d : ℕ) (room : Room) : Type 0 where
  pub some : room.number ≢ 0
  pub low : room.number < T.numbers
  pub free : (T.at room.number).node ≡ None
  pub young : (T.at room.number).generation < LAST_GENERATION
  pub empty : find_place T d room.place ≡ None
  pub within : room.place < MOST_PLACES

-- What may be handed out for a new node of a directory: room, or nothing
abbrev pub MayTake : Tree → ℕ → Option Room → Type 0
MayTake T d None = Unit {0}
MayTake T d (Some room) = IsRoom T d room

-- and for the entry of a node of directory d that gets a name of directory e: a place, or nothing.
-- Nothing hangs at a place of another directory
abbrev pub MayTakePlace : Tree → ℕ → ℕ → Option ℕ → Type 0
MayTakePlace T d e None = Unit {0}
MayTakePlace T d e (Some place) = (d ≢ e → find_place T e place ≡ None) × (place < MOST_PLACES)

-- It is told whether directory e is the node of that name, or lies below it
abbrev pub TellsBelow : Tree → ℕ → List ℕ → ℕ → Bool → Type 0
TellsBelow T d name e below = (n : ℕ) → find T d name ≡ Some n → Decides below (IsBelow (stems T) n e)

-- A call
pub data Call : Type 0 where
  getattr : Handle → Call
  setattr : Handle → Settings → Option Time → Call
  lookup : Handle → List ℕ → Call
  access : Handle → ℕ → Call
  readlink : Handle → Call
  read : Handle → ℕ → ℕ → Call
  write : Handle → ℕ → ℕ → List ℕ → Call
  create : Handle → List ℕ → CreateMode → Call
  mkdir : Handle → List ℕ → Settings → Call
  symlink : Handle → List ℕ → Settings → List ℕ → Call
  mknod : Handle → List ℕ → Call
  remove : Handle → List ℕ → Call
  rmdir : Handle → List ℕ → Call
  rename : Handle → List ℕ → Handle → List ℕ → Call
  link : Handle → Handle → List ℕ → Call
  readdir : Handle → ℕ → ℕ → Call
  readdirplus : Handle → ℕ → ℕ → ℕ → Call
  fsstat : Handle → Call
  fsinfo : Handle → Call
  pathconf : Handle → Call
  commit : Handle → Call

-- Its reply
pub data Reply : Type 0 where
  got : Result Told Status → Reply
  set : Result Changed Status → Reply
  found : Result Found Status → Reply
  accessed : Result Access Status → Reply
  link_read : Result LinkText Status → Reply
  bytes_read : Result Portion Status → Reply
  wrote : Result Changed Status → Reply
  made : Result Made Status → Reply
  removed : Result Changed Status → Reply
  renamed : Result Renamed Status → Reply
  listed : Result Listed Status → Reply
  listed_plus : Result ListedPlus Status → Reply
  space : Result Space Status → Reply
  facts : Result Facts Status → Reply
  name_facts : Result NameFacts Status → Reply
  committed : Result Changed Status → Reply
  not_done : Result ⊥ Status → Reply

-- The call of a caller, answered at a moment: it leads from this tree to that one with this reply
pub data Op : Call → Caller → Time → Tree → Reply → Tree → Type 0 where
  answers_getattr : (h : Handle) (c : Caller) (now : Time) (T T2 : Tree) (r : Result Told Status) → (r, T2) ≡ getattr_case T (target T h) → Op (getattr h) c now T (got r) T2
  answers_setattr : (h : Handle) (s : Settings) (guard : Option Time) (c : Caller) (now : Time) (T T2 : Tree) (r : Result Changed Status)
      → (r, T2) ≡ setattr_case c s guard now T (target T h) → Op (setattr h s guard) c now T (set r) T2
  answers_lookup : (h : Handle) (name : List ℕ) (c : Caller) (now : Time) (T T2 : Tree) (r : Result Found Status)
      → (r, T2) ≡ lookup_case c name T (target T h) → Op (lookup h name) c now T (found r) T2
  answers_access : (h : Handle) (asked : ℕ) (c : Caller) (now : Time) (T T2 : Tree) (r : Result Access Status)
      → (r, T2) ≡ access_case c asked T (target T h) → Op (access h asked) c now T (accessed r) T2
  answers_readlink : (h : Handle) (c : Caller) (now : Time) (T T2 : Tree) (r : Result LinkText Status) → (r, T2) ≡ readlink_case T (target T h) → Op (readlink h) c now T (link_read r) T2
  answers_read : (h : Handle) (offset count : ℕ) (c : Caller) (now : Time) (T T2 : Tree) (r : Result Portion Status)
      → (r, T2) ≡ read_case c offset count T (target T h) → Op (read h offset count) c now T (bytes_read r) T2
  answers_write : (h : Handle) (offset count : ℕ) (bs : List ℕ) (room : Bool) (c : Caller) (now : Time) (T T2 : Tree) (r : Result Changed Status)
      → (r, T2) ≡ write_case c room offset count bs now T (target T h) → Op (write h offset count bs) c now T (wrote r) T2
  answers_create : (h : Handle) (name : List ℕ) (how : CreateMode) (room : Option Room) (c : Caller) (now : Time) (T T2 : Tree) (r : Result Made Status)
      → MayTake T h.number room → (r, T2) ≡ create_case c name how room now T (target T h) → Op (create h name how) c now T (made r) T2
  answers_mkdir : (h : Handle) (name : List ℕ) (s : Settings) (room : Option Room) (c : Caller) (now : Time) (T T2 : Tree) (r : Result Made Status)
      → MayTake T h.number room → (r, T2) ≡ mkdir_case c name s room now T (target T h) → Op (mkdir h name s) c now T (made r) T2
  answers_symlink : (h : Handle) (name : List ℕ) (s : Settings) (text : List ℕ) (room : Option Room) (c : Caller) (now : Time) (T T2 : Tree) (r : Result Made Status)
      → MayTake T h.number room → (r, T2) ≡ symlink_case c name s text room now T (target T h) → Op (symlink h name s text) c now T (made r) T2
  answers_mknod : (h : Handle) (name : List ℕ) (c : Caller) (now : Time) (T T2 : Tree) (r : Result ⊥ Status)
      → (r, T2) ≡ make_other_case c name T (target T h) → Op (mknod h name) c now T (not_done r) T2
  answers_remove : (h : Handle) (name : List ℕ) (c : Caller) (now : Time) (T T2 : Tree) (r : Result Changed Status)
      → (r, T2) ≡ remove_case c name now T (target T h) → Op (remove h name) c now T (removed r) T2
  answers_rmdir : (h : Handle) (name : List ℕ) (c : Caller) (now : Time) (T T2 : Tree) (r : Result Changed Status)
      → (r, T2) ≡ rmdir_case c name now T (target T h) → Op (rmdir h name) c now T (removed r) T2
  answers_rename : (h : Handle) (name : List ℕ) (k : Handle) (new_name : List ℕ) (below : Bool) (place : Option ℕ) (c : Caller) (now : Time) (T T2 : Tree) (r : Result Renamed Status)
      → MayTakePlace T h.number k.number place → TellsBelow T h.number name k.number below
      → (r, T2) ≡ rename_case c below place name new_name now T (target T h) (target T k) → Op (rename h name k new_name) c now T (renamed r) T2
  answers_link : (h k : Handle) (name : List ℕ) (c : Caller) (now : Time) (T T2 : Tree) (r : Result ⊥ Status)
      → (r, T2) ≡ link_case c name T (target T h) (target T k) → Op (link h k name) c now T (not_done r) T2
  answers_readdir : (h : Handle) (cookie most : ℕ) (c : Caller) (now : Time) (T T2 : Tree) (r : Result Listed Status)
      → (r, T2) ≡ readdir_case c cookie most T (target T h) → Op (readdir h cookie most) c now T (listed r) T2
  answers_readdirplus : (h : Handle) (cookie names most : ℕ) (c : Caller) (now : Time) (T T2 : Tree) (r : Result ListedPlus Status)
      → (r, T2) ≡ readdirplus_case c cookie names most T (target T h) → Op (readdirplus h cookie names most) c now T (listed_plus r) T2
  answers_fsstat : (h : Handle) (free : Free) (c : Caller) (now : Time) (T T2 : Tree) (r : Result Space Status)
      → IsFree T free → (r, T2) ≡ fsstat_case free T (target T h) → Op (fsstat h) c now T (space r) T2
  answers_fsinfo : (h : Handle) (c : Caller) (now : Time) (T T2 : Tree) (r : Result Facts Status) → (r, T2) ≡ fsinfo_case T (target T h) → Op (fsinfo h) c now T (facts r) T2
  answers_pathconf : (h : Handle) (c : Caller) (now : Time) (T T2 : Tree) (r : Result NameFacts Status) → (r, T2) ≡ pathconf_case T (target T h) → Op (pathconf h) c now T (name_facts r) T2
  answers_commit : (h : Handle) (c : Caller) (now : Time) (T T2 : Tree) (r : Result Changed Status) → (r, T2) ≡ commit_case T (target T h) → Op (commit h) c now T (committed r) T2

-- whether a reply is a refusal
abbrev pub is_refusal : Reply → Bool
is_refusal (got r) = is_err r
is_refusal (set r) = is_err r
is_refusal (found r) = is_err r
is_refusal (accessed r) = is_err r
is_refusal (link_read r) = is_err r
is_refusal (bytes_read r) = is_err r
is_refusal (wrote r) = is_err r
is_refusal (made r) = is_err r
is_refusal (removed r) = is_err r
is_refusal (renamed r) = is_err r
is_refusal (listed r) = is_err r
is_refusal (listed_plus r) = is_err r
is_refusal (space r) = is_err r
is_refusal (facts r) = is_err r
is_refusal (name_facts r) = is_err r
is_refusal (committed r) = is_err r
is_refusal (not_done r) = is_err r
