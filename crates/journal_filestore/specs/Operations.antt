-- The eight operations on files: of each, the cases in their order, the first that holds is
-- answered.
use Rattle.std.specs.Prelude.{ℕ, ◌≡◌, ◌+◌, ◌-◌, ◌*◌, max, Bool, true, false, not, ◌&&◌, ◌||◌, ◌==◌, nat_le, nat_lt, min, if◌then◌else◌, List, [], ◌∷◌, ◌++◌, length, take, drop, replicate, slice_range, Option, Some, None, is_some, unwrap_or, Result, Ok, Err}
use Rattle.journal_world.specs.declared.moment.TheConstants.{MAX_NANOS}
use Rattle.journal_inode.specs.declared.version.FormatVersion.{FormatVersion}
use Rattle.journal_inode.specs.declared.version.FormatVersion.TheVariants.{One, Two}
use Rattle.journal_inode.specs.declared.node.Time.{Time}
use Rattle.journal_inode.specs.declared.node.FileNode.{FileNode}
use Rattle.journal_inode.specs.Versions.{most_bytes, extra_count}
use Rattle.journal_file_types.specs.declared.portion.TheConstants.{READ_BYTES}
use Rattle.journal_file_types.specs.declared.status.Status.{Status}
use Rattle.journal_file_types.specs.declared.status.Status.TheVariants.{NoEntry, Exists, NotDirectory, Invalid, TooBig, NoSpace, Stale, NotSync, NotSupported}
use Rattle.journal_file_types.specs.declared.reply.Attributes.{Attributes}
use Rattle.journal_file_types.specs.declared.reply.Changed.{Changed}
use Rattle.journal_file_types.specs.declared.reply.Found.{Found}
use Rattle.journal_file_types.specs.declared.settings.NewTime.{NewTime}
use Rattle.journal_file_types.specs.declared.settings.NewTime.TheVariants.{Leave, Server, Client}
use Rattle.journal_file_types.specs.declared.settings.Settings.{Settings}
use Rattle.journal_file_types.specs.declared.settings.CreateMode.{CreateMode}
use Rattle.journal_file_types.specs.declared.settings.CreateMode.TheVariants.{Unchecked, Guarded, Exclusive}
use Rattle.journal_file_types.specs.declared.settings.Stability.{Stability}
use Rattle.journal_file_types.specs.declared.settings.Stability.TheVariants.{Unstable, Stable}
use Rattle.journal_file_types.specs.Portions.{PortionState}
use Rattle.journal_filestore.specs.Files.{FileData, FileEntry, Files, is_file_number, with_entry}

-- The result of an operation: its answer, and the files after it
abbrev pub Outcome : Type 0 → Type 0
Outcome A = Result A Status × Files

-- a refusal changes nothing
abbrev pub refused : {A : Type 0} → Status → Files → Outcome A
refused status F = (Err status, F)

-- The target of a handle: nothing any more, the root, or the file of a number
pub data FileTarget : Type 0 where
  gone : FileTarget
  root : FileTarget
  file : ℕ → FileData → FileTarget

abbrev pub file_or_gone : ℕ → Bool → Option FileData → FileTarget
file_or_gone i is_current None = gone
file_or_gone i is_current (Some d) = if is_current then file i d else gone

abbrev pub of_generation : ℕ → ℕ → FileEntry → FileTarget
of_generation i generation e = file_or_gone i (e.generation == generation) e.file

abbrev pub file_target : Files → ℕ → ℕ → FileTarget
file_target F number generation =
    if number == 1 then (if generation == 1 then root else gone) else of_generation number generation (F.at number)

-- the attributes of a root of this time
abbrev pub of_root : Time → Attributes
of_root mtime = record { number = 1; size = 0; mtime = mtime }

abbrev pub root_attributes : Files → Attributes
root_attributes F = of_root F.root

abbrev pub attributes : ℕ → FileData → Attributes
attributes i d = record { number = i; size = length d.bytes; mtime = d.mtime }

-- the attributes of a file, from its inode
abbrev pub attributes_of_node : ℕ → FileNode → Attributes
attributes_of_node i f = record { number = i; size = f.size; mtime = f.mtime }

-- the files with the file of a number changed
abbrev pub with_file : Files → ℕ → FileData → Files
with_file F i d = with_entry F i (record { generation = (F.at i).generation; file = Some d })

-- the answer to a change of a file, and the files after it
abbrev pub changed : Files → ℕ → FileData → FileData → Outcome Changed
changed F i old new = (Ok (record { before = attributes i old; after = attributes i new }), with_file F i new)

-- the cases of GETATTR: the first that holds is answered
abbrev pub getattr_case : Files → FileTarget → Outcome Attributes
getattr_case F gone = refused Stale F
getattr_case F root = (Ok (root_attributes F), F)
getattr_case F (file i d) = (Ok (attributes i d), F)

-- SETATTR: the bytes and the time that are asked for
abbrev pub resized : List ℕ → Option ℕ → List ℕ
resized bytes None = bytes
resized bytes (Some size) = take size (bytes ++ replicate size 0)

abbrev pub time_after : Option ℕ → NewTime → Time → Time → Time
time_after size (Client t) now old = t
time_after size Server now old = now
time_after (Some size) Leave now old = now
time_after None Leave now old = old

abbrev pub with_settings : FileData → Settings → Time → FileData
with_settings d s now = record { bytes = resized d.bytes s.size; mtime = time_after s.size s.mtime now d.mtime }

abbrev pub is_other_time : Option Time → Time → Bool
is_other_time None t = false
is_other_time (Some g) t = not (g.secs == t.secs && g.nanos == t.nanos)

abbrev pub is_no_time : NewTime → Bool
is_no_time (Client t) = nat_lt MAX_NANOS t.nanos
is_no_time _ = false

abbrev pub is_too_big : FormatVersion → Option ℕ → Bool
is_too_big version None = false
is_too_big version (Some size) = nat_lt (most_bytes version) size

-- the blocks that a file of the new size has beside those of the old one are not handed out. In
-- version 1 there are none
abbrev pub lacks_blocks : FormatVersion → Bool → ℕ → ℕ → Bool
lacks_blocks version room old new = nat_lt (extra_count version old) (extra_count version new) && not room

-- on the root, which never changes
abbrev pub root_set : Settings → Option Time → Time → Result Changed Status
root_set s guard mtime =
    if is_some s.size then Err Invalid
    else if is_other_time guard mtime then Err NotSync
    else if is_no_time s.mtime then Err Invalid
    else Ok (record { before = of_root mtime; after = of_root mtime })

-- blocks may be handed out, or none
abbrev pub setattr_case : FormatVersion → Bool → Settings → Option Time → Time → Files → FileTarget → Outcome Changed
setattr_case version room s guard now F gone = refused Stale F
setattr_case version room s guard now F root = (root_set s guard F.root, F)
setattr_case version room s guard now F (file i d) =
    if is_other_time guard d.mtime then refused NotSync F
    else if is_no_time s.mtime then refused Invalid F
    else if is_too_big version s.size then refused TooBig F
    else if lacks_blocks version room (length d.bytes) (unwrap_or s.size (length d.bytes)) then refused NoSpace F
    else changed F i d (with_settings d s now)

-- the number of a name: f and three decimal digits, f002 to f511
abbrev pub number_of_name : List ℕ → Option ℕ
number_of_name (f ∷ a ∷ b ∷ c ∷ []) =
    let i = (a - 48) * 100 + (b - 48) * 10 + (c - 48) in
    if f == 102 && is_digit a && is_digit b && is_digit c && is_file_number i then Some i else None
  where
    is_digit : ℕ → Bool
    is_digit c = nat_le 48 c && nat_le c 57
number_of_name _ = None

-- a directory is asked for
abbrev pub in_root : {A : Type 0} → Files → FileTarget → Outcome A → Outcome A
in_root F gone outcome = refused Stale F
in_root F root outcome = outcome
in_root F (file i d) outcome = refused NotDirectory F

-- LOOKUP
abbrev pub lookup_file : Files → ℕ → ℕ → Option FileData → Outcome Found
lookup_file F i generation None = refused NoEntry F
lookup_file F i generation (Some d) = (Ok (record { generation = generation; file = attributes i d; root = root_attributes F }), F)

abbrev pub lookup_entry : Files → ℕ → FileEntry → Outcome Found
lookup_entry F i e = lookup_file F i e.generation e.file

abbrev pub lookup_number : Files → Option ℕ → Outcome Found
lookup_number F None = refused NoEntry F
lookup_number F (Some i) = lookup_entry F i (F.at i)

abbrev pub lookup_case : List ℕ → Files → FileTarget → Outcome Found
lookup_case name F dir = in_root F dir (lookup_number F (number_of_name name))

-- READ: the bytes from an offset on, as far as the file has them
abbrev pub portion : ℕ → ℕ → ℕ → FileData → PortionState
portion offset n i d = record {
  file = attributes i d;
  bytes = slice_range d.bytes offset (offset + n);
  is_end = nat_le (length d.bytes) (offset + n);
}

-- how many bytes are read of those that lie after the offset. In version 1 there are no more than
-- one call reads
abbrev pub portion_length : FormatVersion → ℕ → ℕ → ℕ
portion_length One count left = min count left
portion_length Two count left = min (min count READ_BYTES) left

abbrev pub read_case : FormatVersion → ℕ → ℕ → Files → FileTarget → Outcome PortionState
read_case version offset count F gone = refused Stale F
read_case version offset count F root = refused Invalid F
read_case version offset count F (file i d) = (Ok (portion offset (portion_length version count (length d.bytes - offset)) i d), F)

-- the blocks after data was placed in them
abbrev pub with_data : List ℕ → ℕ → List ℕ → List ℕ
with_data block offset bs = take offset block ++ bs ++ drop (offset + length bs) block

-- WRITE: the bytes with the data placed over them, zeros between where there was a gap
abbrev pub placed : List ℕ → ℕ → List ℕ → List ℕ
placed bytes offset bs = take offset (bytes ++ replicate offset 0) ++ bs ++ drop (offset + length bs) bytes

-- it waits until it is stable
abbrev pub is_waiting : Stability → Bool
is_waiting Unstable = false
is_waiting Stable = true

-- blocks may be handed out, or none
abbrev pub write_case : FormatVersion → Bool → ℕ → ℕ → List ℕ → Time → Files → FileTarget → Outcome Changed
write_case version room offset count bs now F gone = refused Stale F
write_case version room offset count bs now F root = refused Invalid F
write_case version room offset count bs now F (file i d) =
    if not (count == length bs) then refused Invalid F
    else if count == 0 then (Ok (record { before = attributes i d; after = attributes i d }), F)
    else if nat_lt (most_bytes version) (offset + count) then refused TooBig F
    else if lacks_blocks version room (length d.bytes) (max (length d.bytes) (offset + count)) then refused NoSpace F
    else changed F i d (record { bytes = placed d.bytes offset bs; mtime = now })

-- CREATE. Blocks may be handed out, or none
abbrev pub new_file : Settings → Time → FileData
new_file s now = record { bytes = replicate (unwrap_or s.size 0) 0; mtime = time_after (Some 0) s.mtime now now }

abbrev pub created : Files → ℕ → ℕ → FileData → Outcome Found
created F i generation d = (
  Ok (record { generation = generation; file = attributes i d; root = root_attributes F }),
  with_entry F i (record { generation = generation; file = Some d }),
)

abbrev pub create_new : FormatVersion → Bool → Settings → Time → Files → ℕ → Outcome Found
create_new version room s now F i =
    if is_too_big version s.size then refused TooBig F
    else if not room || (F.at i).generation == 4294967295 then refused NoSpace F
    else created F i ((F.at i).generation + 1) (new_file s now)

-- an existing file is set as by SETATTR
abbrev pub create_over : FormatVersion → Bool → Settings → Time → Files → ℕ → FileData → Outcome Found
create_over version room s now F i d =
    if is_too_big version s.size then refused TooBig F
    else if lacks_blocks version room (length d.bytes) (unwrap_or s.size (length d.bytes)) then refused NoSpace F
    else created F i (F.at i).generation (with_settings d s now)

abbrev pub create_file : FormatVersion → Bool → Bool → Settings → Time → Files → ℕ → Option FileData → Outcome Found
create_file version room guarded s now F i (Some d) = if guarded then refused Exists F else create_over version room s now F i d
create_file version room guarded s now F i None = create_new version room s now F i

abbrev pub create_number : FormatVersion → Bool → Bool → Settings → Time → Files → Option ℕ → Outcome Found
create_number version room guarded s now F None = refused Invalid F
create_number version room guarded s now F (Some i) =
    if is_no_time s.mtime then refused Invalid F else create_file version room guarded s now F i (F.at i).file

abbrev pub create_how : FormatVersion → Bool → List ℕ → CreateMode → Time → Files → Outcome Found
create_how version room name Exclusive now F = refused NotSupported F
create_how version room name (Guarded s) now F = create_number version room true s now F (number_of_name name)
create_how version room name (Unchecked s) now F = create_number version room false s now F (number_of_name name)

abbrev pub create_case : FormatVersion → Bool → List ℕ → CreateMode → Time → Files → FileTarget → Outcome Found
create_case version room name how now F dir = in_root F dir (create_how version room name how now F)

-- REMOVE: the root's attributes, which stay; the generation is kept
abbrev pub remove_file : Files → ℕ → ℕ → Option FileData → Outcome Attributes
remove_file F i generation None = refused NoEntry F
remove_file F i generation (Some d) = (Ok (root_attributes F), with_entry F i (record { generation = generation; file = None }))

abbrev pub remove_entry : Files → ℕ → FileEntry → Outcome Attributes
remove_entry F i e = remove_file F i e.generation e.file

abbrev pub remove_number : Files → Option ℕ → Outcome Attributes
remove_number F None = refused NoEntry F
remove_number F (Some i) = remove_entry F i (F.at i)

abbrev pub remove_case : List ℕ → Files → FileTarget → Outcome Attributes
remove_case name F dir = in_root F dir (remove_number F (number_of_name name))

-- the cases of COMMIT: the first that holds is answered
abbrev pub commit_case : Files → FileTarget → Outcome Attributes
commit_case F gone = refused Stale F
commit_case F root = refused Invalid F
commit_case F (file i d) = (Ok (attributes i d), F)

-- A call, its handle's number and generation first
pub data Call : Type 0 where
  getattr : ℕ → ℕ → Call
  setattr : ℕ → ℕ → Settings → Option Time → Call
  lookup : ℕ → ℕ → List ℕ → Call
  read : ℕ → ℕ → ℕ → ℕ → Call
  write : ℕ → ℕ → ℕ → ℕ → List ℕ → Call
  create : ℕ → ℕ → List ℕ → CreateMode → Call
  remove : ℕ → ℕ → List ℕ → Call
  commit : ℕ → ℕ → Call

pub data Reply : Type 0 where
  got : Result Attributes Status → Reply
  set : Result Changed Status → Reply
  found : Result Found Status → Reply
  bytes_read : Result PortionState Status → Reply
  wrote : Result Changed Status → Reply
  made : Result Found Status → Reply
  removed : Result Attributes Status → Reply
  committed : Result Attributes Status → Reply

-- The call, answered at a moment: it leads from these files to those with this reply
pub data Op (version : FormatVersion) : Call → Time → Files → Reply → Files → Type 0 where
  answers_getattr : (i g : ℕ) (now : Time) (F F2 : Files) (r : Result Attributes Status)
      → (r, F2) ≡ getattr_case F (file_target F i g) → Op version (getattr i g) now F (got r) F2
  answers_setattr : (i g : ℕ) (s : Settings) (guard : Option Time) (room : Bool) (now : Time) (F F2 : Files) (r : Result Changed Status)
      → (r, F2) ≡ setattr_case version room s guard now F (file_target F i g) → Op version (setattr i g s guard) now F (set r) F2
  answers_lookup : (i g : ℕ) (name : List ℕ) (now : Time) (F F2 : Files) (r : Result Found Status)
      → (r, F2) ≡ lookup_case name F (file_target F i g) → Op version (lookup i g name) now F (found r) F2
  answers_read : (i g offset count : ℕ) (now : Time) (F F2 : Files) (r : Result PortionState Status)
      → (r, F2) ≡ read_case version offset count F (file_target F i g) → Op version (read i g offset count) now F (bytes_read r) F2
  answers_write : (i g offset count : ℕ) (bs : List ℕ) (room : Bool) (now : Time) (F F2 : Files) (r : Result Changed Status)
      → (r, F2) ≡ write_case version room offset count bs now F (file_target F i g) → Op version (write i g offset count bs) now F (wrote r) F2
  answers_create : (i g : ℕ) (name : List ℕ) (how : CreateMode) (room : Bool) (now : Time) (F F2 : Files) (r : Result Found Status)
      → (r, F2) ≡ create_case version room name how now F (file_target F i g) → Op version (create i g name how) now F (made r) F2
  answers_remove : (i g : ℕ) (name : List ℕ) (now : Time) (F F2 : Files) (r : Result Attributes Status)
      → (r, F2) ≡ remove_case name F (file_target F i g) → Op version (remove i g name) now F (removed r) F2
  answers_commit : (i g : ℕ) (now : Time) (F F2 : Files) (r : Result Attributes Status)
      → (r, F2) ≡ commit_case F (file_target F i g) → Op version (commit i g) now F (committed r) F2
