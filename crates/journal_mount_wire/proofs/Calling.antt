-- Which arguments are those of a call.
use Rattle.std.proofs.Common.{◌≡◌, ℕ, List, Option, Some, None, Ok, Err, refl, ap}
use Rattle.journal_rpc.specs.declared.replies.CallRefused.TheVariants.{GarbageArguments}
use Rattle.journal_nfs3_wire.specs.Whole.{whole, IsSpelling}
use Rattle.journal_nfs3_wire.proofs.WholeLaws.{whole_is, is_whole, none_is, is_none}
use Rattle.journal_mount_wire.specs.declared.procedure.MountProcedure.{MountProcedure}
use Rattle.journal_mount_wire.specs.Arguments.{MountCall, mount_arguments}
use Rattle.journal_mount_wire.specs.Requests.{unless_garbage, mount_called}
use Rattle.journal_mount_wire.proofs.ArgumentLaws.{arguments_laws}

called_some : (o : Option MountCall) (call : MountCall) → unless_garbage o ≡ Ok call → o ≡ Some call
called_some None call e = absurd cc
called_some (Some read) call e = cc

garbage_none : (o : Option MountCall) → unless_garbage o ≡ Err GarbageArguments → o ≡ None
garbage_none None e = refl
garbage_none (Some read) e = absurd cc

pub called_spelled : (p : MountProcedure) (bytes : List ℕ) (call : MountCall) → mount_called (Some p) bytes ≡ Ok call → IsSpelling (mount_arguments p) bytes call
called_spelled p bytes call e = whole_is (mount_arguments p) (arguments_laws p) bytes call (called_some (whole (mount_arguments p) bytes) call e)

pub spelled_called : (p : MountProcedure) (bytes : List ℕ) (call : MountCall) → IsSpelling (mount_arguments p) bytes call → mount_called (Some p) bytes ≡ Ok call
spelled_called p bytes call s = ap unless_garbage (is_whole (mount_arguments p) (arguments_laws p) bytes call s)

pub garbage_unspelled : (p : MountProcedure) (bytes : List ℕ) → mount_called (Some p) bytes ≡ Err GarbageArguments → (call : MountCall) → IsSpelling (mount_arguments p) bytes call → ⊥
garbage_unspelled p bytes e = none_is (mount_arguments p) (arguments_laws p) bytes (garbage_none (whole (mount_arguments p) bytes) e)

pub unspelled_garbage : (p : MountProcedure) (bytes : List ℕ) → ((call : MountCall) → IsSpelling (mount_arguments p) bytes call → ⊥) → mount_called (Some p) bytes ≡ Err GarbageArguments
unspelled_garbage p bytes h = ap unless_garbage (is_none (mount_arguments p) (arguments_laws p) bytes h)
