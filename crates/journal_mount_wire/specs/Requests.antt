-- The call of a request to MOUNT, or why it is refused (RFC 5531, section 9; RFC 1813, appendix I).
use Rattle.std.specs.Prelude.{ℕ, List, Option, Some, None, Result, Ok, Err}
use Rattle.journal_rpc.specs.declared.replies.CallRefused.{CallRefused}
use Rattle.journal_rpc.specs.declared.replies.CallRefused.TheVariants.{ProcedureUnavailable, GarbageArguments}
use Rattle.journal_nfs3_wire.specs.Whole.{whole}
use Rattle.journal_mount_wire.specs.declared.arguments.MountCall as code_mount
use Rattle.journal_mount_wire.specs.declared.procedure.MountProcedure.{MountProcedure}
use Rattle.journal_mount_wire.specs.Procedures.{mount_procedure_of}
use Rattle.journal_mount_wire.specs.Arguments.{MountCall, mount_call_of, mount_arguments}

abbrev pub unless_garbage : Option MountCall → Result MountCall CallRefused
unless_garbage None = Err GarbageArguments
unless_garbage (Some call) = Ok call

-- the call of a procedure whose arguments the bytes are
abbrev pub mount_called : Option MountProcedure → List ℕ → Result MountCall CallRefused
mount_called None arguments = Err ProcedureUnavailable
mount_called (Some procedure) arguments = unless_garbage (whole (mount_arguments procedure) arguments)

-- the call of a procedure's number and its arguments
abbrev pub mount_requested : ℕ → List ℕ → Result MountCall CallRefused
mount_requested number arguments = mount_called (mount_procedure_of number) arguments

-- ---- what the code's answers stand for

abbrev pub decided : Result code_mount.MountCall CallRefused → Result MountCall CallRefused
decided (Ok call) = Ok (mount_call_of call)
decided (Err why) = Err why

abbrev pub found : Option code_mount.MountCall → Option MountCall
found None = None
found (Some call) = Some (mount_call_of call)
