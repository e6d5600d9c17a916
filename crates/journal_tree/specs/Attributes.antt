-- GETATTR, SETATTR and ACCESS: of each the cases in their order, the first that holds is answered.
use Rattle.std.specs.Prelude.{ℕ, ◌+◌, ◌%◌, Bool, true, false, not, ◌&&◌, ◌||◌, ◌==◌, nat_le, nat_lt, if◌then◌else◌, List, ◌++◌, take, replicate, bit_and, Option, Some, None, is_some, is_none, unwrap_or, Ok}
use Rattle.journal_tree.specs.declared.limits.TheConstants.{MOST_BYTES, MODES}
use Rattle.journal_tree.specs.declared.time.TheConstants.{NANOS}
use Rattle.journal_tree.specs.declared.time.Time.{Time}
use Rattle.journal_tree.specs.declared.reply.Attributes.{Attributes}
use Rattle.journal_tree.specs.declared.reply.Kind.{Kind}
use Rattle.journal_tree.specs.declared.reply.Kind.TheVariants.{Directory, File, Link}
use Rattle.journal_tree.specs.declared.reply.Told.{Told}
use Rattle.journal_tree.specs.declared.reply.Changed.{Changed}
use Rattle.journal_tree.specs.declared.settings.NewTime.{NewTime}
use Rattle.journal_tree.specs.declared.settings.NewTime.TheVariants.{Leave, Server, Client}
use Rattle.journal_tree.specs.declared.settings.Settings.{Settings}
use Rattle.journal_tree.specs.declared.status.Status.TheVariants.{NotOwner, Invalid, TooBig, NotSync}
use Rattle.journal_tree.specs.Trees.{Body, Node, Tree, is_file, with_node}
use Rattle.journal_tree.specs.Trees.Body.{directory, file, link}
use Rattle.journal_tree.specs.Times.{is_same_time, time_of_change}
use Rattle.journal_tree.specs.declared.caller.Caller.{Caller}
use Rattle.journal_tree.specs.Callers.{is_root, is_member}
use Rattle.journal_tree.specs.Rights.{GROUP_EXECUTE_BIT, SET_GROUP_BIT, SET_USER_BIT, has_bit, without_bit, is_owner, may_read, may_write, may_search, may_run, may_store}
use Rattle.journal_tree.specs.Calls.{Outcome, refused, Target, kind_of, told, on_node, allowed}

-- ── GETATTR: it asks for no right ──

abbrev pub getattr_case : Tree → Target → Outcome Told
getattr_case T t = on_node T t (λ n x. (Ok (told n x), T))

-- ── SETATTR ──

-- the bytes of another size: what is past it goes, and zeros come
abbrev pub resized : List ℕ → Option ℕ → List ℕ
resized bytes None = bytes
resized bytes (Some size) = take size (bytes ++ replicate size 0)

abbrev pub resized_body : Body → Option ℕ → Body
resized_body (directory places) size = directory places
resized_body (file bytes) size = file (resized bytes size)
resized_body (link text) size = link text

-- mtime, where a change has this time. A new size changes the bytes
abbrev pub new_mtime : Bool → NewTime → Time → Time → Time
new_mtime sized (Client t) time old = t
new_mtime sized Server time old = time
new_mtime sized Leave time old = if sized then time else old

-- a mode by which nobody runs the file as another: a group that may not run it keeps the bit, which
-- then means something else
abbrev pub plain_mode : ℕ → ℕ
plain_mode mode =
    let m = without_bit mode SET_USER_BIT in
    if has_bit m GROUP_EXECUTE_BIT then without_bit m SET_GROUP_BIT else m

-- who is neither root nor in the group sets no set-group-ID bit
abbrev pub group_mode : Caller → ℕ → ℕ → ℕ
group_mode c group mode = if is_root c || is_member c group then mode else without_bit mode SET_GROUP_BIT

-- the mode that is asked for, or the old one
abbrev pub asked_mode : Caller → Option ℕ → ℕ → ℕ → ℕ
asked_mode c None group old = old
asked_mode c (Some mode) group old = group_mode c group (mode % MODES)

-- a file is no longer run as another where it gets another owner or group, or other bytes by
-- somebody who is not root
abbrev pub becomes_plain : Caller → Settings → Kind → Bool
becomes_plain c s Directory = false
becomes_plain c s Link = false
becomes_plain c s File = is_some s.owner || is_some s.group || is_some s.size && not (is_root c)

abbrev pub set_mode : Caller → Settings → Kind → Attributes → ℕ
set_mode c s kind a =
    let mode = asked_mode c s.mode (unwrap_or s.group a.group) a.mode in
    if becomes_plain c s kind then plain_mode mode else mode

abbrev pub set_attributes : Caller → Settings → Kind → Attributes → Time → Attributes
set_attributes c s kind a now = record {
  mode = set_mode c s kind a;
  owner = unwrap_or s.owner a.owner;
  group = unwrap_or s.group a.group;
  mtime = new_mtime (is_some s.size) s.mtime (time_of_change a.ctime now) a.mtime;
  ctime = time_of_change a.ctime now;
  verifier = None;
}

abbrev pub with_settings : Caller → Settings → Node → Time → Node
with_settings c s x now = record { attributes = set_attributes c s (kind_of x.body) x.attributes now; home = x.home; body = resized_body x.body s.size }

abbrev pub is_other_time : Option Time → Time → Bool
is_other_time None t = false
is_other_time (Some g) t = not (is_same_time g t)

-- a time that no clock shows
abbrev pub is_no_time : NewTime → Bool
is_no_time (Client t) = nat_le NANOS t.nanos
is_no_time Server = false
is_no_time Leave = false

abbrev pub is_too_big : Option ℕ → Bool
is_too_big None = false
is_too_big (Some size) = nat_lt MOST_BYTES size

abbrev pub is_client_time : NewTime → Bool
is_client_time (Client t) = true
is_client_time Server = false
is_client_time Leave = false

abbrev pub is_server_time : NewTime → Bool
is_server_time (Client t) = false
is_server_time Server = true
is_server_time Leave = false

abbrev pub asks_nothing : Settings → Bool
asks_nothing s = is_none s.mode && is_none s.owner && is_none s.group && is_none s.size && not (is_client_time s.mtime || is_server_time s.mtime)

-- what the node's owner alone may set
abbrev pub asks_as_owner : Settings → Bool
asks_as_owner s = is_some s.mode || is_some s.owner || is_some s.group || is_client_time s.mtime

-- an owner may leave the node his own, and no more
abbrev pub keeps_owner : Option ℕ → Attributes → Bool
keeps_owner None a = true
keeps_owner (Some owner) a = owner == a.owner

-- and give it to a group that he is in
abbrev pub may_give : Caller → Option ℕ → Attributes → Bool
may_give c None a = true
may_give c (Some group) a = group == a.group || is_member c group

-- whether the caller is one who may ask this: root, or the owner
abbrev pub may_set : Caller → Settings → Attributes → Bool
may_set c s a = is_root c || not (asks_as_owner s) || is_owner c a && keeps_owner s.owner a && may_give c s.group a

-- a size, and the moment as mtime, set all who may write
abbrev pub may_set_bytes : Caller → Settings → Attributes → Bool
may_set_bytes c s a = is_none s.size && not (is_server_time s.mtime) || may_store c a

abbrev pub changed : Tree → ℕ → Node → Node → Outcome Changed
changed T n x y = (Ok (record { before = told n x; after = told n y }), with_node T n (Some y))

abbrev pub unchanged : Tree → ℕ → Node → Outcome Changed
unchanged T n x = (Ok (record { before = told n x; after = told n x }), T)

abbrev pub setattr_case : Caller → Settings → Option Time → Time → Tree → Target → Outcome Changed
setattr_case c s guard now T t = on_node T t (λ n x.
    if is_some s.size && not (is_file x.body) then refused Invalid T
    else if is_no_time s.mtime then refused Invalid T
    else if not (may_set c s x.attributes) then refused NotOwner T
    else allowed T (may_set_bytes c s x.attributes) (
    if is_other_time guard x.attributes.ctime then refused NotSync T
    else if is_too_big s.size then refused TooBig T
    else if asks_nothing s then unchanged T n x
    else changed T n x (with_settings c s x now)))

-- ── ACCESS: what the mode says, and not what READ and WRITE let an owner do beside it ──

abbrev pub ACCESS_READ : ℕ
ACCESS_READ = 1

abbrev pub ACCESS_LOOKUP : ℕ
ACCESS_LOOKUP = 2

-- MODIFY and EXTEND
abbrev pub ACCESS_WRITE : ℕ
ACCESS_WRITE = 12

abbrev pub ACCESS_DELETE : ℕ
ACCESS_DELETE = 16

abbrev pub ACCESS_EXECUTE : ℕ
ACCESS_EXECUTE = 32

abbrev pub where_true : Bool → ℕ → ℕ
where_true may bits = if may then bits else 0

-- names of a directory are changed by those alone who may search it too
abbrev pub granted : Caller → Attributes → Body → ℕ
granted c a (directory places) =
    where_true (may_read c a) ACCESS_READ + where_true (may_search c a) ACCESS_LOOKUP
    + where_true (may_write c a && may_search c a) (ACCESS_WRITE + ACCESS_DELETE)
granted c a (file bytes) =
    where_true (may_read c a) ACCESS_READ + where_true (may_write c a) ACCESS_WRITE + where_true (may_run c a) ACCESS_EXECUTE
granted c a (link text) = where_true (may_read c a) ACCESS_READ

-- What ACCESS tells: the node, and which of the rights that were asked for the caller has
pub record Access : Type 0 where
  pub node : Told
  pub rights : ℕ

abbrev pub access_case : Caller → ℕ → Tree → Target → Outcome Access
access_case c asked T t = on_node T t (λ n x. (Ok (record { node = told n x; rights = bit_and asked (granted c x.attributes x.body) }), T))
