-- The request of a call to the two programs, and its caller (RFC 5531, sections 8.2 and 9; RFC
-- 1813, section 3.3 and appendix I).
use Rattle.std.specs.Prelude.{ℕ, Bool, List, Option, Some, None, Result, Ok, Err}
use Rattle.journal_rpc.specs.declared.replies.CallRefused.{CallRefused}
use Rattle.journal_rpc.specs.declared.replies.CallRefused.TheVariants.{ProgramUnavailable}
use Rattle.journal_rpc.specs.Calls.{Message, Asked}
use Rattle.journal_rpc.specs.CallViews.{routed}
use Rattle.journal_tree.specs.declared.caller.Caller.{Caller}
use Rattle.journal_tree.specs.Callers.{Credential, caller_of}
use Rattle.journal_mount_wire.specs.Arguments.{MountCall}
use Rattle.journal_mount_wire.specs.Requests.{mount_requested}
use Rattle.journal_treewire.specs.Credentials.{credential_in}
use Rattle.journal_treewire.specs.Requests.{Requested, requested}

-- A call asks a caller's request of NFS, or one of MOUNT, which nobody's rights decide; or it does
-- not reach a procedure: its credential cannot be read, or it is refused as RFC 5531 has it
pub data Wanted : Type 0 where
  files : Caller → Requested → Wanted
  mount : MountCall → Wanted
  denied : Wanted
  refused : CallRefused → Wanted

abbrev pub as_files : Caller → Result Requested CallRefused → Wanted
as_files c (Ok r) = files c r
as_files c (Err why) = refused why

abbrev pub to_files : Caller → Result (ℕ × List ℕ) CallRefused → Wanted
to_files c (Ok target) = as_files c (requested target.0 target.1)
to_files c (Err why) = refused why

abbrev pub asks_files : Bool → Option Credential → Asked → Wanted
asks_files squash None asked = denied
asks_files squash (Some credential) asked = to_files (caller_of squash credential) (routed 100003 3 asked)

abbrev pub as_mount : Result MountCall CallRefused → Wanted
as_mount (Ok m) = mount m
as_mount (Err why) = refused why

-- the request of a call: one of MOUNT, or else this one
abbrev pub or_files : Wanted → Result (ℕ × List ℕ) CallRefused → Wanted
or_files other (Ok target) = as_mount (mount_requested target.0 target.1)
or_files other (Err ProgramUnavailable) = other
or_files other (Err why) = refused why

-- The first case that holds: another version of RPC; a call of MOUNT; a credential that cannot be
-- read; another program, or another version of it; no such procedure; arguments that cannot be read
abbrev pub asks : Bool → Message → Wanted
asks squash call = or_files (asks_files squash (credential_in call.credential.flavor call.credential.body) call.asked) (routed 100005 3 call.asked)
