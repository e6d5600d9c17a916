-- The results of the procedures, as items (RFC 1813, sections 2.5, 2.6 and 3.3).
use Rattle.std.specs.Prelude.{ℕ, ◌<◌, ◌^◌, Bool, List, [], ◌∷◌, length, Option, Some, None, Result, Ok, Err}
use Rattle.journal_xdr.specs.Items.{Item, pair, mapped_item, coded, tagged, only, variant}
use Rattle.journal_xdr.specs.Basic.{word, hyper, boolean, fixed, opaque, optional, enumeration, listed}
use Rattle.journal_inode.specs.declared.node.Time.{Time}
use Rattle.journal_nfs3_wire.specs.declared.arguments.StableHow.{StableHow}
use Rattle.journal_nfs3_wire.specs.declared.procedure.Procedure.{Procedure}
use Rattle.journal_nfs3_wire.specs.declared.procedure.Procedure.TheVariants as procedure
use Rattle.journal_nfs3_wire.specs.declared.results.NfsError.{NfsError}
use Rattle.journal_nfs3_wire.specs.declared.results.NfsError.TheVariants.{NotOwner, NoEntry, Io, NoAccess, Exists, NotDirectory, IsDirectory, Invalid, TooBig, NoSpace, ReadOnly, NameTooLong, NotEmpty, Stale, BadHandle, NotSync, NotSupported, TooSmall, ServerFault, Jukebox}
use Rattle.journal_nfs3_wire.specs.Arguments.{time, stable_how}
use Rattle.journal_nfs3_wire.specs.Whole.{whole}
use Rattle.journal_nfs3_wire.specs.Handles.{FileHandle, file_handle}

-- ---- statuses (2.6)

-- nfsstat3, as far as it is used: 0 is OK, and each other number is why a procedure is refused
abbrev pub statuses : List (ℕ × Option NfsError)
statuses =
    (0, None) ∷ (1, Some NotOwner) ∷ (2, Some NoEntry) ∷ (5, Some Io) ∷ (13, Some NoAccess) ∷ (17, Some Exists) ∷ (20, Some NotDirectory) ∷ (21, Some IsDirectory) ∷ (22, Some Invalid)
    ∷ (27, Some TooBig) ∷ (28, Some NoSpace) ∷ (30, Some ReadOnly) ∷ (63, Some NameTooLong) ∷ (66, Some NotEmpty) ∷ (70, Some Stale)
    ∷ (10001, Some BadHandle) ∷ (10002, Some NotSync) ∷ (10004, Some NotSupported) ∷ (10005, Some TooSmall) ∷ (10006, Some ServerFault) ∷ (10008, Some Jukebox) ∷ []

abbrev pub error_number : NfsError → ℕ
error_number NotOwner = 1
error_number NoEntry = 2
error_number Io = 5
error_number NoAccess = 13
error_number Exists = 17
error_number NotDirectory = 20
error_number IsDirectory = 21
error_number Invalid = 22
error_number TooBig = 27
error_number NoSpace = 28
error_number ReadOnly = 30
error_number NameTooLong = 63
error_number NotEmpty = 66
error_number Stale = 70
error_number BadHandle = 10001
error_number NotSync = 10002
error_number NotSupported = 10004
error_number TooSmall = 10005
error_number ServerFault = 10006
error_number Jukebox = 10008

abbrev pub status_number : Option NfsError → ℕ
status_number None = 0
status_number (Some why) = error_number why

abbrev pub nfs_status : ℕ → Option (Option NfsError)
nfs_status n = listed statuses n

abbrev pub status : Item (Option NfsError)
status = enumeration nfs_status status_number

-- Results of one kind if the status is OK, and others after a status that refuses
abbrev pub accepted_part : {A B : Type 0} → Result A (NfsError × B) → Option A
accepted_part (Ok v) = Some v
accepted_part (Err why) = None

abbrev pub refused_part : {A B : Type 0} → Result A (NfsError × B) → Option (NfsError × B)
refused_part (Ok v) = None
refused_part (Err why) = Some why

abbrev pub outcome_arm : {A B : Type 0} → Item A → Item B → Option NfsError → Item (Result A (NfsError × B))
outcome_arm ok refused None = variant ok (λ v. Ok v) accepted_part
outcome_arm ok refused (Some why) = variant (pair (only why) refused) (λ p. Err p) refused_part

abbrev pub outcome_status : {A B : Type 0} → Result A (NfsError × B) → Option NfsError
outcome_status (Ok v) = None
outcome_status (Err why) = Some why.0

abbrev pub outcome : {A B : Type 0} → Item A → Item B → Item (Result A (NfsError × B))
outcome ok refused = tagged status (outcome_arm ok refused) outcome_status

-- ---- types (2.5)

-- nfs_fh3, of a handle's 12 bytes
unfoldable pub given_handle : Item FileHandle
given_handle = coded (opaque 64) (whole file_handle) file_handle.spelling

-- fattr3
pub record Fattr : Type 0 where
  pub kind : ℕ
  pub mode : ℕ
  pub links : ℕ
  pub uid : ℕ
  pub gid : ℕ
  pub size : ℕ
  pub used : ℕ
  pub device : ℕ × ℕ
  pub fsid : ℕ
  pub fileid : ℕ
  pub atime : Time
  pub mtime : Time
  pub ctime : Time

unfoldable pub fattr : Item Fattr
fattr = mapped_item (pair word (pair word (pair word (pair word (pair word (pair hyper (pair hyper (pair (pair word word) (pair hyper (pair hyper (pair time (pair time time))))))))))))
    (λ p. record { kind = p.0; mode = p.1.0; links = p.1.1.0; uid = p.1.1.1.0; gid = p.1.1.1.1.0; size = p.1.1.1.1.1.0; used = p.1.1.1.1.1.1.0; device = p.1.1.1.1.1.1.1.0; fsid = p.1.1.1.1.1.1.1.1.0; fileid = p.1.1.1.1.1.1.1.1.1.0; atime = p.1.1.1.1.1.1.1.1.1.1.0; mtime = p.1.1.1.1.1.1.1.1.1.1.1.0; ctime = p.1.1.1.1.1.1.1.1.1.1.1.1 })
    (λ f. (f.kind, (f.mode, (f.links, (f.uid, (f.gid, (f.size, (f.used, (f.device, (f.fsid, (f.fileid, (f.atime, (f.mtime, f.ctime)))))))))))))

-- post_op_attr
abbrev pub post_op_attributes : Item (Option Fattr)
post_op_attributes = optional fattr

-- wcc_attr
pub record Before : Type 0 where
  pub size : ℕ
  pub mtime : Time
  pub ctime : Time

unfoldable pub before : Item Before
before = mapped_item (pair hyper (pair time time)) (λ p. record { size = p.0; mtime = p.1.0; ctime = p.1.1 }) (λ b. (b.size, (b.mtime, b.ctime)))

-- wcc_data
pub record Change : Type 0 where
  pub before : Option Before
  pub after : Option Fattr

unfoldable pub change : Item Change
change = mapped_item (pair (optional before) post_op_attributes) (λ p. record { before = p.0; after = p.1 }) (λ c. (c.before, c.after))

-- ---- the results of each procedure (3.3)

pub record LookupResults : Type 0 where
  pub object : FileHandle
  pub attributes : Option Fattr
  pub directory : Option Fattr

unfoldable pub lookup_results : Item LookupResults
lookup_results = mapped_item (pair given_handle (pair post_op_attributes post_op_attributes)) (λ p. record { object = p.0; attributes = p.1.0; directory = p.1.1 }) (λ r. (r.object, (r.attributes, r.directory)))

pub record ReadResults : Type 0 where
  pub attributes : Option Fattr
  pub count : ℕ
  pub is_end : Bool
  pub bytes : List ℕ

unfoldable pub read_results : Item ReadResults
read_results = mapped_item (pair post_op_attributes (pair word (pair boolean (opaque 4294967295)))) (λ p. record { attributes = p.0; count = p.1.0; is_end = p.1.1.0; bytes = p.1.1.1 }) (λ r. (r.attributes, (r.count, (r.is_end, r.bytes))))

pub record WriteResults : Type 0 where
  pub change : Change
  pub count : ℕ
  pub committed : StableHow
  pub verifier : List ℕ

unfoldable pub write_results : Item WriteResults
write_results = mapped_item (pair change (pair word (pair stable_how (fixed 8)))) (λ p. record { change = p.0; count = p.1.0; committed = p.1.1.0; verifier = p.1.1.1 }) (λ r. (r.change, (r.count, (r.committed, r.verifier))))

pub record CreateResults : Type 0 where
  pub object : Option FileHandle
  pub attributes : Option Fattr
  pub directory : Change

unfoldable pub create_results : Item CreateResults
create_results = mapped_item (pair (optional given_handle) (pair post_op_attributes change)) (λ p. record { object = p.0; attributes = p.1.0; directory = p.1.1 }) (λ r. (r.object, (r.attributes, r.directory)))

pub record CommitResults : Type 0 where
  pub change : Change
  pub verifier : List ℕ

unfoldable pub commit_results : Item CommitResults
commit_results = mapped_item (pair change (fixed 8)) (λ p. record { change = p.0; verifier = p.1 }) (λ r. (r.change, r.verifier))

-- no results
abbrev pub nothing : Item (Unit {0})
nothing = only tt

-- The results of a procedure
pub data Results : Type 0 where
  Null : Results
  GetAttributes : Result Fattr (NfsError × Unit {0}) → Results
  SetAttributes : Result Change (NfsError × Change) → Results
  Lookup : Result LookupResults (NfsError × Option Fattr) → Results
  Read : Result ReadResults (NfsError × Option Fattr) → Results
  Write : Result WriteResults (NfsError × Change) → Results
  Create : Result CreateResults (NfsError × Change) → Results
  Remove : Result Change (NfsError × Change) → Results
  Commit : Result CommitResults (NfsError × Change) → Results

abbrev pub get_attributes_results_part : Results → Option (Result Fattr (NfsError × Unit {0}))
get_attributes_results_part (GetAttributes r) = Some r
get_attributes_results_part _ = None

abbrev pub set_attributes_results_part : Results → Option (Result Change (NfsError × Change))
set_attributes_results_part (SetAttributes r) = Some r
set_attributes_results_part _ = None

abbrev pub lookup_results_part : Results → Option (Result LookupResults (NfsError × Option Fattr))
lookup_results_part (Lookup r) = Some r
lookup_results_part _ = None

abbrev pub read_results_part : Results → Option (Result ReadResults (NfsError × Option Fattr))
read_results_part (Read r) = Some r
read_results_part _ = None

abbrev pub write_results_part : Results → Option (Result WriteResults (NfsError × Change))
write_results_part (Write r) = Some r
write_results_part _ = None

abbrev pub create_results_part : Results → Option (Result CreateResults (NfsError × Change))
create_results_part (Create r) = Some r
create_results_part _ = None

abbrev pub remove_results_part : Results → Option (Result Change (NfsError × Change))
remove_results_part (Remove r) = Some r
remove_results_part _ = None

abbrev pub commit_results_part : Results → Option (Result CommitResults (NfsError × Change))
commit_results_part (Commit r) = Some r
commit_results_part _ = None

-- The results of a procedure
unfoldable pub results : Procedure → Item Results
results procedure.Null = only Null
results procedure.GetAttributes = variant (outcome fattr nothing) (λ r. GetAttributes r) get_attributes_results_part
results procedure.SetAttributes = variant (outcome change change) (λ r. SetAttributes r) set_attributes_results_part
results procedure.Lookup = variant (outcome lookup_results post_op_attributes) (λ r. Lookup r) lookup_results_part
results procedure.Read = variant (outcome read_results post_op_attributes) (λ r. Read r) read_results_part
results procedure.Write = variant (outcome write_results change) (λ r. Write r) write_results_part
results procedure.Create = variant (outcome create_results change) (λ r. Create r) create_results_part
results procedure.Remove = variant (outcome change change) (λ r. Remove r) remove_results_part
results procedure.Commit = variant (outcome commit_results change) (λ r. Commit r) commit_results_part

abbrev pub procedure_of_results : Results → Procedure
procedure_of_results Null = procedure.Null
procedure_of_results (GetAttributes r) = procedure.GetAttributes
procedure_of_results (SetAttributes r) = procedure.SetAttributes
procedure_of_results (Lookup r) = procedure.Lookup
procedure_of_results (Read r) = procedure.Read
procedure_of_results (Write r) = procedure.Write
procedure_of_results (Create r) = procedure.Create
procedure_of_results (Remove r) = procedure.Remove
procedure_of_results (Commit r) = procedure.Commit

-- how results are spelled
abbrev pub results_text : Results → List ℕ
results_text r = (results (procedure_of_results r)).spelling r

-- The results are in the grammar of their procedure's, and a reply with them is no longer than a
-- fragment may be
pub record IsResult (r : Results) : Type 0 where
  pub has : (results (procedure_of_results r)).Has r
  pub short : length (results_text r) < 2 ^ 30
