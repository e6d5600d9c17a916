-- The values of the wire in a tree.
use Rattle.std.specs.Prelude.{ℕ, List, [], ◌∷◌, get_or}
use Rattle.std.specs.Int.{w64, from_le_bytes}
use Rattle.journal_inode.specs.declared.node.Time.{Time as WireTime}
use Rattle.journal_file_types.specs.declared.settings.NewTime.{NewTime as WireNewTime}
use Rattle.journal_file_types.specs.declared.settings.NewTime.TheVariants as wire
use Rattle.journal_nfs3_wire.specs.declared.arguments.NewAttributes.{NewAttributes}
use Rattle.journal_nfs3_wire.specs.Arguments.{How, Unchecked, Guarded, Exclusive}
use Rattle.journal_nfs3_wire.specs.declared.results.NfsError.{NfsError}
use Rattle.journal_nfs3_wire.specs.declared.results.NfsError.TheVariants as error
use Rattle.journal_tree.specs.declared.time.Time.{Time}
use Rattle.journal_tree.specs.declared.settings.NewTime.{NewTime}
use Rattle.journal_tree.specs.declared.settings.NewTime.TheVariants.{Leave, Server, Client}
use Rattle.journal_tree.specs.declared.settings.Settings.{Settings}
use Rattle.journal_tree.specs.declared.settings.CreateMode.{CreateMode}
use Rattle.journal_tree.specs.declared.settings.CreateMode.TheVariants as modes
use Rattle.journal_tree.specs.declared.status.Status.{Status}
use Rattle.journal_tree.specs.declared.status.Status.TheVariants as status

-- ---- times

abbrev pub time_in : WireTime → Time
time_in t = record { secs = t.secs; nanos = t.nanos }

abbrev pub time_out : Time → WireTime
time_out t = record { secs = t.secs; nanos = t.nanos }

-- ---- settings

abbrev pub new_time_in : WireNewTime → NewTime
new_time_in wire.Leave = Leave
new_time_in wire.Server = Server
new_time_in (wire.Client t) = Client (time_in t)

-- sattr3: a tree has no time of the last access, so that what is asked of it has no effect
abbrev pub settings_in : NewAttributes → Settings
settings_in a = record { mode = a.mode; owner = a.uid; group = a.gid; size = a.size; mtime = new_time_in a.mtime }

-- createverf3: the number that its 8 bytes are, the lowest first
unfoldable pub verifier_in : List ℕ → ℕ
verifier_in v = from_le_bytes w64 (
    get_or v 0 0 ∷ get_or v 1 0 ∷ get_or v 2 0 ∷ get_or v 3 0 ∷ get_or v 4 0 ∷ get_or v 5 0 ∷ get_or v 6 0 ∷ get_or v 7 0 ∷ [])

-- createhow3
abbrev pub create_mode_in : How → CreateMode
create_mode_in (Unchecked a) = modes.Unchecked (settings_in a)
create_mode_in (Guarded a) = modes.Guarded (settings_in a)
create_mode_in (Exclusive v) = modes.Exclusive (verifier_in v)

-- ---- statuses (RFC 1813, section 2.6)

abbrev pub error_of : Status → NfsError
error_of status.NotOwner = error.NotOwner
error_of status.NoEntry = error.NoEntry
error_of status.NoAccess = error.NoAccess
error_of status.Exists = error.Exists
error_of status.NotDirectory = error.NotDirectory
error_of status.IsDirectory = error.IsDirectory
error_of status.Invalid = error.Invalid
error_of status.TooBig = error.TooBig
error_of status.NoSpace = error.NoSpace
error_of status.NameTooLong = error.NameTooLong
error_of status.NotEmpty = error.NotEmpty
error_of status.Stale = error.Stale
error_of status.NotSync = error.NotSync
error_of status.NotSupported = error.NotSupported
error_of status.TooSmall = error.TooSmall
