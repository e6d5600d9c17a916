-- What calls come to, what handles and names are, and the cases with which calls begin.
use Rattle.std.specs.Prelude.{ℕ, ◌*◌, ◌==◌, Bool, ◌&&◌, ◌||◌, nat_lt, if◌then◌else◌, List, [], ◌∷◌, length, Option, Some, None, Result, Err}
use Rattle.std.specs.List.{list_any}
use Rattle.journal_tree.specs.declared.limits.TheConstants.{MOST_NAME, ENTRY_BYTES}
use Rattle.journal_tree.specs.declared.name.NameKind.{NameKind}
use Rattle.journal_tree.specs.declared.name.NameKind.TheVariants.{Dot, DotDot, NoName, LongName, Name}
use Rattle.journal_tree.specs.declared.reply.Handle.{Handle}
use Rattle.journal_tree.specs.declared.reply.Told.{Told}
use Rattle.journal_tree.specs.declared.reply.Kind.{Kind}
use Rattle.journal_tree.specs.declared.reply.Kind.TheVariants.{Directory, File, Link}
use Rattle.journal_tree.specs.declared.status.Status.{Status}
use Rattle.journal_tree.specs.declared.status.Status.TheVariants.{NoAccess, NotDirectory, Invalid, NameTooLong, Stale}
use Rattle.journal_tree.specs.Trees.{Body, Node, Tree, is_directory, find}
use Rattle.journal_tree.specs.Trees.Body.{directory, file, link}
use Rattle.journal_tree.specs.declared.caller.Caller.{Caller}
use Rattle.journal_tree.specs.Rights.{may_search}

-- What a call comes to: its answer, and the tree after it
abbrev pub Outcome : Type 0 → Type 0
Outcome A = Result A Status × Tree

-- a refusal changes nothing
abbrev pub refused : {A : Type 0} → Status → Tree → Outcome A
refused status T = (Err status, T)

-- ── what a reply tells of a node ──

abbrev pub kind_of : Body → Kind
kind_of (directory places) = Directory
kind_of (file bytes) = File
kind_of (link text) = Link

-- the size of a directory is that of its blocks
abbrev pub size_of : Body → ℕ
size_of (directory places) = ENTRY_BYTES * places
size_of (file bytes) = length bytes
size_of (link text) = length text

abbrev pub told : ℕ → Node → Told
told n x = record { number = n; kind = kind_of x.body; size = size_of x.body; attributes = x.attributes }

-- ── handles ──

-- What a handle names: nothing any more, or the node of a number
pub data Target : Type 0 where
  gone : Target
  at : ℕ → Node → Target

abbrev pub node_or_gone : ℕ → Bool → Option Node → Target
node_or_gone n is_current None = gone
node_or_gone n is_current (Some x) = if is_current then at n x else gone

-- the handle of an older generation names nothing
abbrev pub target : Tree → Handle → Target
target T h = node_or_gone h.number ((T.at h.number).generation == h.generation) (T.at h.number).node

-- ── names ──

abbrev pub DOT : ℕ
DOT = 46

abbrev pub SLASH : ℕ
SLASH = 47

abbrev pub has_zero_or_slash : List ℕ → Bool
has_zero_or_slash name = list_any (λ b. b == 0) name || list_any (λ b. b == SLASH) name

abbrev pub other_name : List ℕ → NameKind
other_name name =
    if has_zero_or_slash name then NoName
    else if nat_lt MOST_NAME (length name) then LongName
    else Name

unfoldable pub name_kind : List ℕ → NameKind
name_kind [] = NoName
name_kind (a ∷ []) = if a == DOT then Dot else other_name (a ∷ [])
name_kind (a ∷ b ∷ []) = if a == DOT && b == DOT then DotDot else other_name (a ∷ b ∷ [])
name_kind name = other_name name

-- ── the cases with which calls begin: the first that holds is answered ──

-- the handle names a node
abbrev pub on_node : {A : Type 0} → Tree → Target → (ℕ → Node → Outcome A) → Outcome A
on_node T gone outcome = refused Stale T
on_node T (at n x) outcome = outcome n x

-- which is a directory
abbrev pub in_directory : {A : Type 0} → Tree → Target → (ℕ → Node → Outcome A) → Outcome A
in_directory T t outcome = on_node T t (λ d x. if is_directory x.body then outcome d x else refused NotDirectory T)

-- the caller may do it
abbrev pub allowed : {A : Type 0} → Tree → Bool → Outcome A → Outcome A
allowed T may outcome = if may then outcome else refused NoAccess T

-- a directory that the caller may search
abbrev pub in_searched : {A : Type 0} → Caller → Tree → Target → (ℕ → Node → Outcome A) → Outcome A
in_searched c T t outcome = in_directory T t (λ d x. allowed T (may_search c x.attributes) (outcome d x))

-- the name is one. What is answered for `.` and `..` the call says
abbrev pub with_name : {A : Type 0} → Tree → NameKind → Status → Status → Outcome A → Outcome A
with_name T Dot at_dot at_dot_dot outcome = refused at_dot T
with_name T DotDot at_dot at_dot_dot outcome = refused at_dot_dot T
with_name T NoName at_dot at_dot_dot outcome = refused Invalid T
with_name T LongName at_dot at_dot_dot outcome = refused NameTooLong T
with_name T Name at_dot at_dot_dot outcome = outcome

abbrev pub some_node : {A : Type 0} → Option Node → Outcome A → (Node → Outcome A) → Outcome A
some_node None none some = none
some_node (Some x) none some = some x

-- whether the directory has a node under the name
abbrev pub on_found : {A : Type 0} → Tree → Option ℕ → Outcome A → (ℕ → Node → Outcome A) → Outcome A
on_found T None none some = none
on_found T (Some n) none some = some_node (T.at n).node none (some n)

-- a name of a directory that the caller may search: what is answered where it is not there, and
-- where it is
abbrev pub named : {A : Type 0} → Caller → List ℕ → Status → Status → Tree → Target → (ℕ → Node → Outcome A) → (ℕ → Node → ℕ → Node → Outcome A) → Outcome A
named c name at_dot at_dot_dot T t none some =
    in_searched c T t (λ d x. with_name T (name_kind name) at_dot at_dot_dot (on_found T (find T d name) (none d x) (some d x)))
