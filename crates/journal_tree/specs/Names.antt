-- LOOKUP, CREATE, MKDIR, SYMLINK, READLINK, REMOVE and RMDIR, and MKNOD and LINK, which this tree
-- does not have: of each the cases in their order, the first that holds is answered.
use Rattle.std.specs.Prelude.{ℕ, ◌+◌, ◌%◌, Bool, false, not, ◌&&◌, ◌||◌, ◌==◌, if◌then◌else◌, List, [], length, nat_lt, Option, Some, None, is_some, is_none, unwrap_or, Ok}
use Rattle.journal_tree.specs.declared.limits.TheConstants.{ROOT, MODES, FILE_MODE, DIRECTORY_MODE, LINK_MODE, MOST_LINK}
use Rattle.journal_tree.specs.declared.time.Time.{Time}
use Rattle.journal_tree.specs.declared.reply.Attributes.{Attributes}
use Rattle.journal_tree.specs.declared.reply.Kind.{Kind}
use Rattle.journal_tree.specs.declared.reply.Kind.TheVariants.{Directory, File, Link}
use Rattle.journal_tree.specs.declared.reply.Changed.{Changed}
use Rattle.journal_tree.specs.declared.reply.Found.{Found}
use Rattle.journal_tree.specs.declared.reply.Made.{Made}
use Rattle.journal_tree.specs.declared.reply.Told.{Told}
use Rattle.journal_tree.specs.declared.reply.Room.{Room}
use Rattle.journal_tree.specs.declared.settings.NewTime.TheVariants.{Leave}
use Rattle.journal_tree.specs.declared.settings.Settings.{Settings}
use Rattle.journal_tree.specs.declared.settings.CreateMode.{CreateMode}
use Rattle.journal_tree.specs.declared.settings.CreateMode.TheVariants.{Unchecked, Guarded, Exclusive}
use Rattle.journal_tree.specs.declared.status.Status.TheVariants.{NoEntry, Exists, NotDirectory, IsDirectory, Invalid, TooBig, NoSpace, NameTooLong, NotEmpty, NotSupported}
use Rattle.journal_tree.specs.Trees.{Body, Node, Tree, is_directory, is_file, with_node, find, find_any}
use Rattle.journal_tree.specs.Trees.Body.{directory, file, link}
use Rattle.journal_tree.specs.declared.caller.Caller.{Caller}
use Rattle.journal_tree.specs.Callers.{is_root}
use Rattle.journal_tree.specs.Rights.{SET_GROUP_BIT, has_bit, with_bit, may_store, may_rename, may_take}
use Rattle.journal_tree.specs.declared.name.NameKind.{NameKind}
use Rattle.journal_tree.specs.Calls.{Outcome, refused, Target, told, name_kind, on_node, allowed, in_searched, on_found, named}
use Rattle.journal_tree.specs.declared.name.NameKind.TheVariants.{Dot, DotDot, NoName, LongName, Name}
use Rattle.journal_tree.specs.Changes.{touched, opened, touch_place, planted, cut}
use Rattle.journal_tree.specs.Attributes.{resized, new_mtime, group_mode, with_settings, is_no_time, is_too_big}

-- ── LOOKUP ──

-- the directory above. The root's is the root
abbrev pub parent_of : ℕ → Node → ℕ
parent_of n x = if n == ROOT then ROOT else x.home.directory

abbrev pub found : Tree → ℕ → Node → ℕ → Node → Outcome Found
found T d x n y = (Ok (record { generation = (T.at n).generation; node = told n y; directory = told d x }), T)

abbrev pub lookup_name : Tree → ℕ → Node → NameKind → List ℕ → Outcome Found
lookup_name T d x Dot name = found T d x d x
lookup_name T d x DotDot name = on_found T (Some (parent_of d x)) (refused NoEntry T) (found T d x)
lookup_name T d x NoName name = refused Invalid T
lookup_name T d x LongName name = refused NameTooLong T
lookup_name T d x Name name = on_found T (find T d name) (refused NoEntry T) (found T d x)

abbrev pub lookup_case : Caller → List ℕ → Tree → Target → Outcome Found
lookup_case c name T t = in_searched c T t (λ d x. lookup_name T d x (name_kind name) name)

-- ── CREATE and MKDIR ──

-- whose a new node of a directory is. Root alone says otherwise, and of others it is not looked at
abbrev pub new_owner : Caller → Settings → ℕ
new_owner c s = if is_root c then unwrap_or s.owner c.user else c.user

-- its group is the directory's where that has the set-group-ID bit
abbrev pub group_within : Caller → Attributes → ℕ
group_within c d = if has_bit d.mode SET_GROUP_BIT then d.group else c.group

abbrev pub new_group : Caller → Settings → Attributes → ℕ
new_group c s d = if is_root c then unwrap_or s.group (group_within c d) else group_within c d

-- and a new directory has the bit too
abbrev pub mode_within : Attributes → Kind → ℕ → ℕ
mode_within d Directory mode = if has_bit d.mode SET_GROUP_BIT then with_bit mode SET_GROUP_BIT else mode
mode_within d File mode = mode
mode_within d Link mode = mode

abbrev pub new_mode : Caller → Settings → Attributes → Kind → ℕ → ℕ
new_mode c s d kind mode = mode_within d kind (group_mode c (new_group c s d) (unwrap_or s.mode mode % MODES))

abbrev pub new_attributes : Caller → Settings → Attributes → Kind → ℕ → Time → Attributes
new_attributes c s d kind mode now = record {
  mode = new_mode c s d kind mode;
  owner = new_owner c s;
  group = new_group c s d;
  mtime = new_mtime false s.mtime now now;
  ctime = now;
  verifier = None;
}

-- a file that an exclusive CREATE makes has no rights yet, and the verifier of the call
abbrev pub exclusive_attributes : Caller → ℕ → Attributes → Time → Attributes
exclusive_attributes c verifier d now = record { mode = 0; owner = c.user; group = group_within c d; mtime = now; ctime = now; verifier = Some verifier }

abbrev pub new_node : ℕ → Room → List ℕ → Attributes → Body → Node
new_node d room name a body = record { attributes = a; home = record { directory = d; place = room.place; name = name }; body = body }

-- a new node of a directory has the number and the place that were handed out, if any were
abbrev pub born : Tree → ℕ → Node → List ℕ → Option Room → Attributes → Body → Time → Outcome Made
born T d x name None a body now = refused NoSpace T
born T d x name (Some room) a body now = (
  Ok (record {
    generation = (T.at room.number).generation + 1;
    node = told room.number (new_node d room name a body);
    directory = record { before = told d x; after = told d (opened room.place now x) };
  }),
  planted (touch_place T d room.place now) room.number (new_node d room name a body),
)

-- a file that is there already: its directory stays as it is
abbrev pub made_before : Tree → ℕ → Node → ℕ → Node → Outcome Made
made_before T d x n y = (Ok (record { generation = (T.at n).generation; node = told n y; directory = record { before = told d x; after = told d x } }), T)

-- a size, and nothing else
abbrev pub size_alone : Option ℕ → Settings
size_alone size = record { mode = None; owner = None; group = None; size = size; mtime = Leave }

-- the name is there already: of a file the size is set, if one is asked for
abbrev pub create_over : Caller → Settings → Time → Tree → ℕ → Node → ℕ → Node → Outcome Made
create_over c s now T d x n y =
    if not (is_file y.body) then refused Exists T
    else if is_none s.size then made_before T d x n y
    else allowed T (may_store c y.attributes) (
    if is_too_big s.size then refused TooBig T
    else made_before (with_node T n (Some (with_settings c (size_alone s.size) y now))) d x n (with_settings c (size_alone s.size) y now))

abbrev pub create_new : Caller → List ℕ → Settings → Option Room → Time → Tree → ℕ → Node → Outcome Made
create_new c name s room now T d x =
    allowed T (may_rename c x.attributes) (
    if is_no_time s.mtime then refused Invalid T
    else if is_too_big s.size then refused TooBig T
    else born T d x name room (new_attributes c s x.attributes File FILE_MODE now) (file (resized [] s.size)) now)

-- by an exclusive CREATE: an empty file, of which SETATTR sets what is asked for
abbrev pub create_exclusive : Caller → List ℕ → ℕ → Option Room → Time → Tree → ℕ → Node → Outcome Made
create_exclusive c name verifier room now T d x =
    allowed T (may_rename c x.attributes) (born T d x name room (exclusive_attributes c verifier x.attributes now) (file []) now)

-- whether it is a file that an exclusive CREATE of this verifier made, and is as it was made
abbrev pub is_verifier : Option ℕ → ℕ → Bool
is_verifier None verifier = false
is_verifier (Some v) verifier = v == verifier

abbrev pub is_made_by : ℕ → Node → Bool
is_made_by verifier y = is_file y.body && is_verifier y.attributes.verifier verifier

-- the name is there already: the answer has the file that the same call has made
abbrev pub create_again : ℕ → Tree → ℕ → Node → ℕ → Node → Outcome Made
create_again verifier T d x n y = if is_made_by verifier y then made_before T d x n y else refused Exists T

abbrev pub create_case : Caller → List ℕ → CreateMode → Option Room → Time → Tree → Target → Outcome Made
create_case c name (Unchecked s) room now T t = named c name Exists Exists T t (create_new c name s room now T) (create_over c s now T)
create_case c name (Guarded s) room now T t = named c name Exists Exists T t (create_new c name s room now T) (λ d x n y. refused Exists T)
create_case c name (Exclusive verifier) room now T t = named c name Exists Exists T t (create_exclusive c name verifier room now T) (create_again verifier T)

abbrev pub mkdir_new : Caller → List ℕ → Settings → Option Room → Time → Tree → ℕ → Node → Outcome Made
mkdir_new c name s room now T d x =
    allowed T (may_rename c x.attributes) (
    if is_no_time s.mtime then refused Invalid T
    else born T d x name room (new_attributes c s x.attributes Directory DIRECTORY_MODE now) (directory 0) now)

abbrev pub mkdir_case : Caller → List ℕ → Settings → Option Room → Time → Tree → Target → Outcome Made
mkdir_case c name s room now T t = named c name Exists Exists T t (mkdir_new c name s room now T) (λ d x n y. refused Exists T)

-- ── REMOVE and RMDIR ──

abbrev pub removed : Tree → ℕ → Node → ℕ → Time → Outcome Changed
removed T d x n now = (Ok (record { before = told d x; after = told d (touched now x) }), cut T d n now)

-- whether the caller may take this node out of the directory
abbrev pub may_remove : Caller → Node → Node → Bool
may_remove c x y = may_rename c x.attributes && may_take c x.attributes y.attributes

abbrev pub remove_case : Caller → List ℕ → Time → Tree → Target → Outcome Changed
remove_case c name now T t = named c name IsDirectory IsDirectory T t (λ d x. refused NoEntry T) (λ d x n y.
    allowed T (may_remove c x y) (
    if is_directory y.body then refused IsDirectory T
    else removed T d x n now))

abbrev pub rmdir_case : Caller → List ℕ → Time → Tree → Target → Outcome Changed
rmdir_case c name now T t = named c name Invalid Exists T t (λ d x. refused NoEntry T) (λ d x n y.
    allowed T (may_remove c x y) (
    if not (is_directory y.body) then refused NotDirectory T
    else if is_some (find_any T n) then refused NotEmpty T
    else removed T d x n now))

-- ── SYMLINK and READLINK: a link has a text of at least one byte, of any bytes ──

abbrev pub symlink_new : Caller → List ℕ → Settings → List ℕ → Option Room → Time → Tree → ℕ → Node → Outcome Made
symlink_new c name s text room now T d x =
    allowed T (may_rename c x.attributes) (
    if is_no_time s.mtime || length text == 0 then refused Invalid T
    else if nat_lt MOST_LINK (length text) then refused NameTooLong T
    else born T d x name room (new_attributes c s x.attributes Link LINK_MODE now) (link text) now)

abbrev pub symlink_case : Caller → List ℕ → Settings → List ℕ → Option Room → Time → Tree → Target → Outcome Made
symlink_case c name s text room now T t = named c name Exists Exists T t (symlink_new c name s text room now T) (λ d x n y. refused Exists T)

-- The reply of READLINK: the link, and its text
pub record LinkText : Type 0 where
  pub node : Told
  pub text : List ℕ

abbrev pub text_of : Tree → ℕ → Node → Body → Outcome LinkText
text_of T n x (directory places) = refused Invalid T
text_of T n x (file bytes) = refused Invalid T
text_of T n x (link text) = (Ok (record { node = told n x; text = text }), T)

-- it asks for no right
abbrev pub readlink_case : Tree → Target → Outcome LinkText
readlink_case T t = on_node T t (λ n x. text_of T n x x.body)

-- ── calls that the tree does not have: their checks, and then NOTSUPP. They are never answered OK
-- ──

-- MKNOD
abbrev pub make_other_case : Caller → List ℕ → Tree → Target → Outcome ⊥
make_other_case c name T t =
    named c name Exists Exists T t (λ d x. allowed T (may_rename c x.attributes) (refused NotSupported T)) (λ d x n y. refused Exists T)

-- LINK of a node to a name
abbrev pub link_case : Caller → List ℕ → Tree → Target → Target → Outcome ⊥
link_case c name T t u = on_node T t (λ n x. make_other_case c name T u)
