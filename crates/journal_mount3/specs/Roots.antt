-- The root's times. In each reply they are the moment of the call.
use Rattle.std.specs.Prelude.{◌≡◌, ◌==◌, Bool, false, if◌then◌else◌, Option, Some, None, Result, Ok, Err}
use Rattle.journal_inode.specs.declared.node.Time.{Time}
use Rattle.journal_file_types.specs.declared.reply.Attributes.{Attributes}
use Rattle.journal_file_types.specs.declared.reply.Changed.{Changed}
use Rattle.journal_file_types.specs.declared.reply.Found.{Found}
use Rattle.journal_nfs3_wire.specs.Results.{Fattr, Before, Change, Results, Null, GetAttributes, SetAttributes, Lookup, Read, Write, Create, Remove, Commit}

-- ---- attributes as the file store gives them

abbrev pub attributes_at : Time → Attributes → Attributes
attributes_at now a = if a.number == 1 then record { number = a.number; size = a.size; mtime = now } else a

abbrev pub changed_at : Time → Changed → Changed
changed_at now c =
    if c.after.number == 1
    then record {
      before = record { number = c.before.number; size = c.before.size; mtime = now };
      after = record { number = c.after.number; size = c.after.size; mtime = now };
    }
    else c

abbrev pub found_at : Time → Found → Found
found_at now f = record { root = attributes_at now f.root; file = f.file; generation = f.generation }

-- ---- attributes as they are told

-- the root is the only directory
abbrev pub is_root : Fattr → Bool
is_root f = f.kind == 2

abbrev pub with_times : Time → Fattr → Fattr
with_times now f = record f { atime = now; mtime = now; ctime = now }

abbrev pub fattr_at : Time → Fattr → Fattr
fattr_at now f = if is_root f then with_times now f else f

abbrev pub before_at : Time → Before → Before
before_at now b = record b { mtime = now; ctime = now }

abbrev pub told_root : Option Fattr → Bool
told_root None = false
told_root (Some f) = is_root f

abbrev pub if_some : {A : Type 0} → (A → A) → Option A → Option A
if_some f None = None
if_some f (Some x) = Some (f x)

abbrev pub change_at : Time → Change → Change
change_at now c =
    if told_root c.after then record { before = if_some (before_at now) c.before; after = if_some (with_times now) c.after } else c

abbrev pub accepted_at : {A B : Type 0} → (A → A) → Result A B → Result A B
accepted_at f (Ok x) = Ok (f x)
accepted_at f (Err why) = Err why

-- The results of one of the nine procedures, with this time as the root's wherever they tell of it.
-- READ, WRITE and COMMIT tell of files alone
abbrev pub results_at : Time → Results → Results
results_at now Null = Null
results_at now (GetAttributes r) = GetAttributes (accepted_at (fattr_at now) r)
results_at now (SetAttributes r) = SetAttributes (accepted_at (change_at now) r)
results_at now (Lookup r) = Lookup (accepted_at (λ found. record found { directory = if_some (fattr_at now) found.directory }) r)
results_at now (Read r) = Read r
results_at now (Write r) = Write r
results_at now (Create r) = Create (accepted_at (λ made. record made { directory = change_at now made.directory }) r)
results_at now (Remove r) = Remove (accepted_at (change_at now) r)
results_at now (Commit r) = Commit r

-- results that tell nothing of the root
abbrev pub IfAccepted : {A B : Type 0} → (A → Type 0) → Result A B → Type 0
IfAccepted so (Ok x) = so x
IfAccepted so (Err why) = Unit {0}

abbrev pub TellsNoRoot : Results → Type 0
TellsNoRoot (GetAttributes r) = IfAccepted (λ f. is_root f ≡ false) r
TellsNoRoot (SetAttributes r) = IfAccepted (λ c. told_root c.after ≡ false) r
TellsNoRoot (Lookup r) = IfAccepted (λ found. ⊥) r
TellsNoRoot (Create r) = IfAccepted (λ made. ⊥) r
TellsNoRoot (Remove r) = IfAccepted (λ removed. ⊥) r
TellsNoRoot other = Unit {0}
