-- What holds of all calls.
use Rattle.std.specs.Prelude.{⊤, Bool, true, false, ◌⊎◌, Option, None, ℕ, ◌≡◌, ◌≢◌, ◌<◌, List, Some, Result, Ok, Err}
use Rattle.journal_tree.specs.declared.limits.TheConstants.{ROOT}
use Rattle.journal_tree.specs.declared.time.Time.{Time}
use Rattle.journal_tree.specs.declared.status.Status.{Status}
use Rattle.journal_tree.specs.declared.status.Status.TheVariants.{NoAccess, Exists, NoSpace}
use Rattle.journal_tree.specs.declared.settings.CreateMode.TheVariants.{Exclusive}
use Rattle.journal_tree.specs.declared.reply.Kind.TheVariants.{File}
use Rattle.journal_tree.specs.declared.reply.Handle.{Handle}
use Rattle.journal_tree.specs.declared.reply.Told.{Told}
use Rattle.journal_tree.specs.declared.reply.Changed.{Changed}
use Rattle.journal_tree.specs.declared.reply.Found.{Found}
use Rattle.journal_tree.specs.declared.reply.Made.{Made}
use Rattle.journal_tree.specs.declared.reply.Renamed.{Renamed}
use Rattle.journal_tree.specs.Trees.{Node, Tree, is_directory, find}
use Rattle.journal_tree.specs.Times.{IsTime, IsBefore, LAST_TIME}
use Rattle.journal_tree.specs.declared.caller.Caller.{Caller}
use Rattle.journal_tree.specs.Callers.{is_root, is_member}
use Rattle.journal_tree.specs.Rights.{is_owner, may_write, may_run, may_store, may_rename, may_take}
use Rattle.journal_tree.specs.Rule.{IsTree, HasTree, first_tree}
use Rattle.journal_tree.specs.Links.{Links, IsLinked}
use Rattle.journal_tree.specs.Fit.{HasFit, IsCaller, IsCallable}
use Rattle.journal_tree.specs.Calls.{target, told}
use Rattle.journal_tree.specs.Contents.{read_case, write_case}
use Rattle.journal_tree.specs.Listing.{IsPage, last_cookie, readdir_case, readdirplus_case, Item, Page, Listed, ListedPlus, Stands, IsIn, Ascends, Step, IsChain, all_told, EachStep, SomeStep}
use Rattle.journal_tree.specs.Renames.{with_ctime, without_verifier, is_large}
use Rattle.journal_tree.specs.Op.Call.{setattr, lookup, write, create, mkdir, symlink, remove, rmdir, rename}
use Rattle.journal_tree.specs.Op.Reply.{set, found, wrote, made, removed, renamed}
use Rattle.journal_tree.specs.Op.{Call, Reply, Op, is_refusal}
use Rattle.journal_tree.specs.Runs.{Run, IsOneNode, HasSameNames}

-- ── the rule ──

-- Each call leaves a tree
abbrev pub KeepsTrees : Type 0
KeepsTrees = (call : Call) (c : Caller) (now : Time) (T T2 : Tree) (reply : Reply) → HasTree T → Op call c now T reply T2 → HasTree T2

-- Each call leaves the nodes of a tree within their bounds
abbrev pub KeepsFit : Type 0
KeepsFit = (call : Call) (c : Caller) (now : Time) (T T2 : Tree) (reply : Reply) → IsCallable call → IsCaller c → IsTime now → HasTree T → HasFit T → Op call c now T reply T2 → HasFit T2

-- What is made first is a tree
abbrev pub BeginsAsTree : Type 0
BeginsAsTree = (numbers blocks : ℕ) (now : Time) → ROOT < numbers → HasTree (first_tree numbers blocks now)

-- and within its bounds
abbrev pub BeginsFit : Type 0
BeginsFit = (numbers blocks : ℕ) (now : Time) → IsTime now → HasFit (first_tree numbers blocks now)

-- Each node but the root is named in one directory, under one name
abbrev pub NamesOnce : Type 0
NamesOnce = (T : Tree) (n : ℕ) (x : Node) → HasTree T → (T.at n).node ≡ Some x → n ≢ ROOT
    → (find T x.home.directory x.home.name ≡ Some n) × ((d : ℕ) (name : List ℕ) → find T d name ≡ Some n → (d ≡ x.home.directory) × (name ≡ x.home.name))

-- Inodes and entries that name each other, of which all are reached from the root, are a tree
abbrev pub LinksAreTrees : Type 0
LinksAreTrees = (L : Links) → IsLinked L → IsTree L.numbers L.stem

-- ── listings ──

-- Of calls chained from the first to the end: what stands throughout is told, no cookie is told
-- twice, and what is told stood in one of the trees
pub record IsWholeListing (d : ℕ) (steps : List Step) : Type 0 where
  pub told : (i : Item) → EachStep (λ T. Stands T d i) steps → IsIn i (all_told steps)
  pub once : Ascends 0 (all_told steps)
  pub stood : (i : Item) → IsIn i (all_told steps) → SomeStep (λ T. Stands T d i) steps

abbrev pub ListsAll : Type 0
ListsAll = (d : ℕ) (steps : List Step) → EachStep HasTree steps → IsChain d 0 steps → IsWholeListing d steps

-- Some line of the cookie stands in the directory
pub record StandsAt (T : Tree) (d cookie : ℕ) : Type 0 where
  pub item : Item
  pub stands : Stands T d item
  pub at : item.cookie ≡ cookie

-- and some line of it is told
pub record IsToldAt (cookie : ℕ) (items : List Item) : Type 0 where
  pub item : Item
  pub told : IsIn item items
  pub at : item.cookie ≡ cookie

-- A place that something has throughout is told, with what it had at one of the calls
abbrev pub ListsPlaces : Type 0
ListsPlaces = (d cookie : ℕ) (steps : List Step) → EachStep HasTree steps → IsChain d 0 steps → EachStep (λ T. StandsAt T d cookie) steps → IsToldAt cookie (all_told steps)

-- A reply that lists is a page of a listing, and the tree stays. Where it is not the end, its last
-- cookie is above the one of the call
pub record IsToldPage (T T2 : Tree) (n cookie : ℕ) (page : Page) : Type 0 where
  pub page_is : IsPage T n cookie page
  pub stays : T2 ≡ T
  pub leads_on : page.is_end ≡ false → cookie < last_cookie cookie page.items

abbrev pub TellsPages : Type 0
TellsPages = (T T2 : Tree) (h : Handle) (c : Caller) (cookie most : ℕ) (r : Listed) → (Ok r, T2) ≡ readdir_case c cookie most T (target T h) → IsToldPage T T2 h.number cookie r.page

abbrev pub TellsPagesPlus : Type 0
TellsPagesPlus = (T T2 : Tree) (h : Handle) (c : Caller) (cookie names most : ℕ) (r : ListedPlus) → (Ok r, T2) ≡ readdirplus_case c cookie names most T (target T h) → IsToldPage T T2 h.number cookie r.page

-- ── RENAME ──

-- A RENAME is whole: the node stands under the new name and not under the old one, and is the same
-- but for its ctime and its verifier; all others hang where they did, and none is lost but what
-- stood under the new name
pub record IsRenamed (T T2 : Tree) (d : ℕ) (name : List ℕ) (e : ℕ) (new_name : List ℕ) (n : ℕ) : Type 0 where
  pub stands : find T2 e new_name ≡ Some n
  pub gone : (find T2 d name ≡ None) ⊎ ((d ≡ e) × (name ≡ new_name))
  pub same : (x y : Node) → IsOneNode T T2 n x y → (y.body ≡ x.body) × (with_ctime x.attributes y.attributes.ctime ≡ without_verifier y.attributes)
  pub others : (i : ℕ) (y : Node) → i ≢ n → (T2.at i).node ≡ Some y → (x : Node) × ((T.at i).node ≡ Some x) × (x.home ≡ y.home)
  pub stay : (i : ℕ) (x : Node) → i ≢ n → (T.at i).node ≡ Some x → (find T e new_name ≡ Some i) ⊎ ((y : Node) × ((T2.at i).node ≡ Some y))

-- One that is answered OK moved the node that had the old name
abbrev pub RenamesWhole : Type 0
RenamesWhole = (h k : Handle) (name new_name : List ℕ) (c : Caller) (now : Time) (T T2 : Tree) (r : Renamed) → HasTree T
    → Op (rename h name k new_name) c now T (renamed (Ok r)) T2 → (n : ℕ) × (find T h.number name ≡ Some n) × IsRenamed T T2 h.number name k.number new_name n

-- One within a directory that is not large, or to a name that is there, is never refused for lack
-- of room
abbrev pub RenamesHaveRoom : Type 0
RenamesHaveRoom = (h k : Handle) (name new_name : List ℕ) (c : Caller) (now : Time) (T T2 : Tree)
    → ((h.number ≡ k.number) × ((x : Node) → (T.at k.number).node ≡ Some x → is_large x.body ≡ false)) ⊎ ((j : ℕ) × (find T k.number new_name ≡ Some j))
    → Op (rename h name k new_name) c now T (renamed (Err NoSpace)) T2 → ⊥

-- ── replies ──

-- A call that is refused leaves the tree as it was
abbrev pub RefusalsChangeNothing : Type 0
RefusalsChangeNothing = (call : Call) (c : Caller) (now : Time) (T T2 : Tree) (reply : Reply) → HasTree T → Op call c now T reply T2 → is_refusal reply ≡ true → T2 ≡ T

-- What is told of a number is so in this tree
pub record IsTrueOf (T : Tree) (n : ℕ) (t : Told) : Type 0 where
  pub node : Node
  pub is : (T.at n).node ≡ Some node
  pub tells : told n node ≡ t

-- What is told before and after a call is so before and after it
pub record IsTrueChange (T T2 : Tree) (n : ℕ) (c : Changed) : Type 0 where
  pub before : IsTrueOf T n c.before
  pub after : IsTrueOf T2 n c.after

-- A node that was found is there, under its generation, and so is its directory
pub record IsTrueFound (T : Tree) (d : ℕ) (f : Found) : Type 0 where
  pub node : IsTrueOf T f.node.number f.node
  pub generation : (T.at f.node.number).generation ≡ f.generation
  pub directory : IsTrueOf T d f.directory

-- A node that was made is there after the call, under its generation, and its directory is told
-- before and after
pub record IsTrueMade (T T2 : Tree) (d : ℕ) (m : Made) : Type 0 where
  pub node : IsTrueOf T2 m.node.number m.node
  pub generation : (T2.at m.node.number).generation ≡ m.generation
  pub directory : IsTrueChange T T2 d m.directory

-- What a reply tells of nodes before and after its call is so in the trees before and after it
abbrev pub TellsTruly : Call → Reply → Tree → Tree → Type 0
TellsTruly (setattr h s guard) (set (Ok r)) T T2 = IsTrueChange T T2 h.number r
TellsTruly (lookup h name) (found (Ok r)) T T2 = IsTrueFound T2 h.number r
TellsTruly (write h offset count bs) (wrote (Ok r)) T T2 = IsTrueChange T T2 h.number r
TellsTruly (create h name how) (made (Ok r)) T T2 = IsTrueMade T T2 h.number r
TellsTruly (mkdir h name s) (made (Ok r)) T T2 = IsTrueMade T T2 h.number r
TellsTruly (symlink h name s text) (made (Ok r)) T T2 = IsTrueMade T T2 h.number r
TellsTruly (remove h name) (removed (Ok r)) T T2 = IsTrueChange T T2 h.number r
TellsTruly (rmdir h name) (removed (Ok r)) T T2 = IsTrueChange T T2 h.number r
TellsTruly (rename h name k new_name) (renamed (Ok r)) T T2 = IsTrueChange T T2 h.number r.source × IsTrueChange T T2 k.number r.goal
TellsTruly _ _ T T2 = ⊤

abbrev pub RepliesAreTrue : Type 0
RepliesAreTrue = (call : Call) (c : Caller) (now : Time) (T T2 : Tree) (reply : Reply) → HasTree T → Op call c now T reply T2 → TellsTruly call reply T T2

-- ── exclusive creation ──

-- An exclusive CREATE that is answered OK has a file of its verifier, which has the name: one that
-- is there already, and nothing changes, or a new one
pub record IsExclusive (T T2 : Tree) (d : ℕ) (name : List ℕ) (verifier : ℕ) (m : Made) : Type 0 where
  pub kind : m.node.kind ≡ File
  pub verifier_is : m.node.attributes.verifier ≡ Some verifier
  pub found : find T2 d name ≡ Some m.node.number
  pub once : (T2 ≡ T) ⊎ (find T d name ≡ None)

abbrev pub ExclusiveMakes : Type 0
ExclusiveMakes = (h : Handle) (name : List ℕ) (verifier : ℕ) (c : Caller) (now : Time) (T T2 : Tree) (m : Made) → HasTree T
    → Op (create h name (Exclusive verifier)) c now T (made (Ok m)) T2 → IsExclusive T T2 h.number name verifier m

-- the answer to the same call that comes once more: the same node, and its directory as it is since
abbrev pub told_again : Made → Made
told_again m = record { generation = m.generation; node = m.node; directory = record { before = m.directory.after; after = m.directory.after } }

-- It gets that answer, and changes nothing
abbrev pub ExclusiveAgain : Type 0
ExclusiveAgain = (h : Handle) (name : List ℕ) (verifier : ℕ) (c : Caller) (now later : Time) (T T2 T3 : Tree) (m : Made) (r : Result Made Status) → HasTree T
    → Op (create h name (Exclusive verifier)) c now T (made (Ok m)) T2 → Op (create h name (Exclusive verifier)) c later T2 (made r) T3 → (r ≡ Ok (told_again m)) × (T3 ≡ T2)

-- One of another verifier is refused, because the name is there
abbrev pub ExclusiveOther : Type 0
ExclusiveOther = (h : Handle) (name : List ℕ) (verifier other : ℕ) (c : Caller) (now later : Time) (T T2 T3 : Tree) (m : Made) (r : Result Made Status) → HasTree T → other ≢ verifier
    → Op (create h name (Exclusive verifier)) c now T (made (Ok m)) T2 → Op (create h name (Exclusive other)) c later T2 (made r) T3 → (r ≡ Err Exists) × (T3 ≡ T2)

-- the verifier that a call gives to what it makes
abbrev pub verifier_of : Call → Option ℕ
verifier_of (create h name (Exclusive verifier)) = Some verifier
verifier_of _ = None

-- A node that a call makes has the verifier of the call, if it is an exclusive CREATE, and else
-- none
abbrev pub CallsGiveVerifiers : Type 0
CallsGiveVerifiers = (call : Call) (c : Caller) (now : Time) (T T2 : Tree) (reply : Reply) (n : ℕ) (y : Node) → HasTree T → Op call c now T reply T2
    → (T.at n).node ≡ None → (T2.at n).node ≡ Some y → y.attributes.verifier ≡ verifier_of call

-- Over any calls: a node is as it was, or it has no verifier
abbrev pub ChangesTakeVerifiers : Type 0
ChangesTakeVerifiers = (T T2 : Tree) (n : ℕ) (x y : Node) → HasTree T → HasFit T → Run T T2 → IsOneNode T T2 n x y → (x ≡ y) ⊎ (y.attributes.verifier ≡ None)

-- ── times ──

-- ctime has grown. At the greatest time, in the year 2106, it stays
abbrev pub CtimeGrows : Node → Node → Type 0
CtimeGrows x y = IsBefore x.attributes.ctime y.attributes.ctime ⊎ ((x.attributes.ctime ≡ LAST_TIME) × (y.attributes.ctime ≡ LAST_TIME))

-- Over any calls, however the clock goes: a node is as it was, or its ctime has grown
abbrev pub ChangesMoveCtime : Type 0
ChangesMoveCtime = (T T2 : Tree) (n : ℕ) (x y : Node) → HasTree T → HasFit T → Run T T2 → IsOneNode T T2 n x y → (x ≡ y) ⊎ CtimeGrows x y

-- and a directory's names are as they were, or its ctime has grown
abbrev pub NamesMoveCtime : Type 0
NamesMoveCtime = (T T2 : Tree) (n : ℕ) (x y : Node) → HasTree T → HasFit T → Run T T2 → IsOneNode T T2 n x y → HasSameNames T T2 n ⊎ CtimeGrows x y

-- mtime is another than it was, but for the greatest time
abbrev pub MtimeMoves : Node → Node → Type 0
MtimeMoves x y = (x.attributes.mtime ≢ y.attributes.mtime) ⊎ (y.attributes.ctime ≡ LAST_TIME)

-- One call that changes a directory's names changes its mtime, whatever a client has set that to
abbrev pub NamesMoveMtime : Type 0
NamesMoveMtime = (call : Call) (c : Caller) (now : Time) (T T2 : Tree) (reply : Reply) (n : ℕ) (x y : Node) → HasTree T → HasFit T → IsTime now
    → Op call c now T reply T2 → IsOneNode T T2 n x y → HasSameNames T T2 n ⊎ MtimeMoves x y

-- ── rights ──

-- What a caller who is not root may do to a node: leave it its owner; give it to another group if
-- he owns it and is in that group; change its bytes if he may write them
pub record IsRightful (c : Caller) (x y : Node) : Type 0 where
  pub owner : y.attributes.owner ≡ x.attributes.owner
  pub group : (y.attributes.group ≡ x.attributes.group) ⊎ ((is_owner c x.attributes ≡ true) × (is_member c y.attributes.group ≡ true))
  pub bytes : (y.body ≡ x.body) ⊎ (may_store c x.attributes ≡ true) ⊎ (may_rename c x.attributes ≡ true)

-- and take a node away if he may change the names of its directory, and where that is sticky if
-- one of the two is his
pub record IsRightfulEnd (c : Caller) (T : Tree) (y : Node) : Type 0 where
  pub directory : Node
  pub is : (T.at y.home.directory).node ≡ Some directory
  pub names : may_rename c directory.attributes ≡ true
  pub sticky : may_take c directory.attributes y.attributes ≡ true

-- and give it another home if he may take it away from where it hangs. A directory that gets
-- another parent he must be allowed to write, because its `..` changes
pub record IsRightfulMove (c : Caller) (T : Tree) (x y : Node) : Type 0 where
  pub taken : IsRightfulEnd c T x
  pub parent : (y.home.directory ≡ x.home.directory) ⊎ (is_directory x.body ≡ false) ⊎ (may_write c x.attributes ≡ true)

-- A call by somebody who is not root does to each node what he may
pub record KeepsRights (c : Caller) (T T2 : Tree) : Type 0 where
  pub changes : (n : ℕ) (x y : Node) → IsOneNode T T2 n x y → IsRightful c x y
  pub moves : (n : ℕ) (x y : Node) → IsOneNode T T2 n x y → (y.home ≡ x.home) ⊎ IsRightfulMove c T x y
  pub ends : (n : ℕ) (x : Node) → (T.at n).node ≡ Some x → (T2.at n).node ≡ None → IsRightfulEnd c T x
  pub names : (n : ℕ) (x y : Node) → IsOneNode T T2 n x y → HasSameNames T T2 n ⊎ (may_rename c x.attributes ≡ true)

abbrev pub CallsKeepRights : Type 0
CallsKeepRights = (call : Call) (c : Caller) (now : Time) (T T2 : Tree) (reply : Reply) → HasTree T → is_root c ≡ false → Op call c now T reply T2 → KeepsRights c T T2

-- READ is never refused for its mode to who owns the file or may run it, nor WRITE to who owns it
abbrev pub OwnersReadAndWrite : Type 0
OwnersReadAndWrite = (c : Caller) (T : Tree) (h : Handle) (x : Node) → (T.at h.number).node ≡ Some x
    → ((offset count : ℕ) → (is_owner c x.attributes ≡ true) ⊎ (may_run c x.attributes ≡ true) → (read_case c offset count T (target T h)).0 ≢ Err NoAccess)
    × ((room : Bool) (offset count : ℕ) (bs : List ℕ) (now : Time) → is_owner c x.attributes ≡ true → (write_case c room offset count bs now T (target T h)).0 ≢ Err NoAccess)
