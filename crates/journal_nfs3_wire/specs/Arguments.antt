-- The arguments of the procedures, as items (RFC 1813, sections 2.4, 2.5 and 3.3).
use Rattle.std.specs.Prelude.{◌≡◌, refl, ℕ, zero, suc, List, [], ◌∷◌, Option, Some, None}
use Rattle.journal_xdr.specs.Items.{Item, pair, mapped_item, tagged, only, never, variant}
use Rattle.journal_xdr.specs.Basic.{word, hyper, fixed, opaque, string, optional, enumeration, listed}
use Rattle.journal_xdr.specs.BasicLaws.{listed_back}
use Rattle.journal_inode.specs.declared.node.Time.{Time}
use Rattle.journal_file_types.specs.declared.settings.NewTime.{NewTime}
use Rattle.journal_file_types.specs.declared.settings.NewTime.TheVariants.{Leave, Server, Client}
use Rattle.journal_nfs3_wire.specs.declared.arguments.NewAttributes.{NewAttributes}
use Rattle.journal_nfs3_wire.specs.declared.arguments.DirectoryEntry as code_entry
use Rattle.journal_nfs3_wire.specs.declared.arguments.StableHow.{StableHow}
use Rattle.journal_nfs3_wire.specs.declared.arguments.StableHow.TheVariants.{Unstable, DataSync, FileSync}
use Rattle.journal_nfs3_wire.specs.declared.arguments.CreateHow as code_how
use Rattle.journal_nfs3_wire.specs.declared.arguments.CreateHow.TheVariants as code_ways
use Rattle.journal_nfs3_wire.specs.declared.arguments.Operation as code_operation
use Rattle.journal_nfs3_wire.specs.declared.arguments.Operation.TheVariants as code_operations
use Rattle.journal_nfs3_wire.specs.declared.procedure.Procedure.{Procedure}
use Rattle.journal_nfs3_wire.specs.declared.procedure.Procedure.TheVariants as procedure

-- nfs_fh3: at most 64 bytes
abbrev pub handle : Item (List ℕ)
handle = opaque 64

-- filename3: a string of any length
abbrev pub name : Item (List ℕ)
name = string 4294967295

-- data that is written: of any length
abbrev pub any_bytes : Item (List ℕ)
any_bytes = opaque 4294967295

-- nfstime3
unfoldable pub time : Item Time
time = mapped_item (pair word word) (λ p. record { secs = p.0; nanos = p.1 }) (λ t. (t.secs, t.nanos))

-- set_atime and set_mtime: 0 leaves the time, 1 sets the server's, 2 the one that the client gives
abbrev pub time_how : NewTime → ℕ
time_how Leave = 0
time_how Server = 1
time_how (Client t) = 2

abbrev pub client_time : NewTime → Option Time
client_time (Client t) = Some t
client_time _ = None

abbrev pub new_time_arm : ℕ → Item NewTime
new_time_arm zero = only Leave
new_time_arm (suc zero) = only Server
new_time_arm (suc (suc zero)) = variant time (λ t. Client t) client_time
new_time_arm (suc (suc (suc n))) = never

unfoldable pub new_time : Item NewTime
new_time = tagged word new_time_arm time_how

-- sattr3
unfoldable pub new_attributes : Item NewAttributes
new_attributes = mapped_item (pair (optional word) (pair (optional word) (pair (optional word) (pair (optional hyper) (pair new_time new_time)))))
    (λ p. record { mode = p.0; uid = p.1.0; gid = p.1.1.0; size = p.1.1.1.0; atime = p.1.1.1.1.0; mtime = p.1.1.1.1.1 })
    (λ a. (a.mode, (a.uid, (a.gid, (a.size, (a.atime, a.mtime))))))

-- diropargs3: a directory's handle, and a name in it
pub record DirectoryEntry : Type 0 where
  pub directory : List ℕ
  pub called : List ℕ

unfoldable pub entry : Item DirectoryEntry
entry = mapped_item (pair handle name) (λ p. record { directory = p.0; called = p.1 }) (λ e. (e.directory, e.called))

-- stable_how
abbrev pub stable_hows : List (ℕ × StableHow)
stable_hows = (0, Unstable) ∷ (1, DataSync) ∷ (2, FileSync) ∷ []

abbrev pub stable_how_of : ℕ → Option StableHow
stable_how_of n = listed stable_hows n

abbrev pub stable_how_number : StableHow → ℕ
stable_how_number Unstable = 0
stable_how_number DataSync = 1
stable_how_number FileSync = 2

pub stable_how_is : (s : StableHow) → stable_how_of (stable_how_number s) ≡ Some s
stable_how_is Unstable = refl
stable_how_is DataSync = refl
stable_how_is FileSync = refl

pub stable_how_back : (n : ℕ) (s : StableHow) → stable_how_of n ≡ Some s → stable_how_number s ≡ n
stable_how_back = listed_back stable_how_number stable_hows (refl, (refl, (refl, tt)))

abbrev pub stable_how : Item StableHow
stable_how = enumeration stable_how_of stable_how_number

-- createhow3: 0 is unchecked and 1 guarded, each with attributes, 2 is exclusive, with 8 bytes
pub data How : Type 0 where
  Unchecked : NewAttributes → How
  Guarded : NewAttributes → How
  Exclusive : List ℕ → How

abbrev pub how_number : How → ℕ
how_number (Unchecked a) = 0
how_number (Guarded a) = 1
how_number (Exclusive v) = 2

abbrev pub unchecked_part : How → Option NewAttributes
unchecked_part (Unchecked a) = Some a
unchecked_part _ = None

abbrev pub guarded_part : How → Option NewAttributes
guarded_part (Guarded a) = Some a
guarded_part _ = None

abbrev pub exclusive_part : How → Option (List ℕ)
exclusive_part (Exclusive v) = Some v
exclusive_part _ = None

abbrev pub how_arm : ℕ → Item How
how_arm zero = variant new_attributes (λ a. Unchecked a) unchecked_part
how_arm (suc zero) = variant new_attributes (λ a. Guarded a) guarded_part
how_arm (suc (suc zero)) = variant (fixed 8) (λ v. Exclusive v) exclusive_part
how_arm (suc (suc (suc n))) = never

unfoldable pub how : Item How
how = tagged word how_arm how_number

-- ---- each procedure with its arguments (3.3)

-- The operation of a call, with its arguments
pub data Operation : Type 0 where
  Null : Operation
  GetAttributes : List ℕ → Operation
  SetAttributes : List ℕ → NewAttributes → Option Time → Operation
  Lookup : DirectoryEntry → Operation
  Read : List ℕ → (offset count : ℕ) → Operation
  Write : List ℕ → (offset count : ℕ) → StableHow → List ℕ → Operation
  Create : DirectoryEntry → How → Operation
  Remove : DirectoryEntry → Operation
  Commit : List ℕ → (offset count : ℕ) → Operation

abbrev pub get_attributes_part : Operation → Option (List ℕ)
get_attributes_part (GetAttributes h) = Some h
get_attributes_part _ = None

abbrev pub set_attributes_part : Operation → Option (List ℕ × (NewAttributes × Option Time))
set_attributes_part (SetAttributes h a g) = Some (h, (a, g))
set_attributes_part _ = None

abbrev pub lookup_part : Operation → Option DirectoryEntry
lookup_part (Lookup e) = Some e
lookup_part _ = None

abbrev pub read_part : Operation → Option (List ℕ × (ℕ × ℕ))
read_part (Read h o c) = Some (h, (o, c))
read_part _ = None

abbrev pub write_part : Operation → Option (List ℕ × (ℕ × (ℕ × (StableHow × List ℕ))))
write_part (Write h o c s b) = Some (h, (o, (c, (s, b))))
write_part _ = None

abbrev pub create_part : Operation → Option (DirectoryEntry × How)
create_part (Create e h) = Some (e, h)
create_part _ = None

abbrev pub remove_part : Operation → Option DirectoryEntry
remove_part (Remove e) = Some e
remove_part _ = None

abbrev pub commit_part : Operation → Option (List ℕ × (ℕ × ℕ))
commit_part (Commit h o c) = Some (h, (o, c))
commit_part _ = None

abbrev pub arguments_of : Procedure → Item Operation
arguments_of procedure.Null = only Null
arguments_of procedure.GetAttributes = variant handle (λ h. GetAttributes h) get_attributes_part
arguments_of procedure.SetAttributes = variant (pair handle (pair new_attributes (optional time))) (λ p. SetAttributes p.0 p.1.0 p.1.1) set_attributes_part
arguments_of procedure.Lookup = variant entry (λ e. Lookup e) lookup_part
arguments_of procedure.Read = variant (pair handle (pair hyper word)) (λ p. Read p.0 p.1.0 p.1.1) read_part
arguments_of procedure.Write = variant (pair handle (pair hyper (pair word (pair stable_how any_bytes)))) (λ p. Write p.0 p.1.0 p.1.1.0 p.1.1.1.0 p.1.1.1.1) write_part
arguments_of procedure.Create = variant (pair entry how) (λ p. Create p.0 p.1) create_part
arguments_of procedure.Remove = variant entry (λ e. Remove e) remove_part
arguments_of procedure.Commit = variant (pair handle (pair hyper word)) (λ p. Commit p.0 p.1.0 p.1.1) commit_part

-- the arguments of a procedure
unfoldable pub arguments : Procedure → Item Operation
arguments p = arguments_of p

-- ---- what the code's values stand for, whatever memory they are lent

abbrev pub directory_entry_of : code_entry.DirectoryEntry → DirectoryEntry
directory_entry_of e = record { directory = e.directory.now; called = e.name.now }

abbrev pub how_of : code_how.CreateHow → How
how_of (code_ways.Unchecked a) = Unchecked a
how_of (code_ways.Guarded a) = Guarded a
how_of (code_ways.Exclusive v) = Exclusive v.now

abbrev pub operation_of : code_operation.Operation → Operation
operation_of code_operations.Null = Null
operation_of (code_operations.GetAttributes h) = GetAttributes h.now
operation_of (code_operations.SetAttributes a) = SetAttributes a.handle.now a.attributes a.guard
operation_of (code_operations.Lookup e) = Lookup (directory_entry_of e)
operation_of (code_operations.Read r) = Read r.handle.now r.offset r.count
operation_of (code_operations.Write a) = Write a.handle.now a.offset a.count a.how a.bytes.now
operation_of (code_operations.Create a) = Create (directory_entry_of a.entry) (how_of a.how)
operation_of (code_operations.Remove e) = Remove (directory_entry_of e)
operation_of (code_operations.Commit r) = Commit r.handle.now r.offset r.count
