-- The arguments of the procedures of MOUNT, as items (RFC 1813, appendix I).
use Rattle.std.specs.Prelude.{ℕ, List, Option, Some, None}
use Rattle.journal_xdr.specs.Items.{Item, only, variant}
use Rattle.journal_xdr.specs.Basic.{string}
use Rattle.journal_mount_wire.specs.declared.arguments.MountCall as code_mount
use Rattle.journal_mount_wire.specs.declared.arguments.MountCall.TheVariants as code_mounts
use Rattle.journal_mount_wire.specs.declared.procedure.MountProcedure.{MountProcedure}
use Rattle.journal_mount_wire.specs.declared.procedure.MountProcedure.TheVariants as mount_procedure

-- dirpath: at most 1024 bytes
abbrev pub path : Item (List ℕ)
path = string 1024

-- A call of MOUNT
pub data MountCall : Type 0 where
  Null : MountCall
  Mount : List ℕ → MountCall
  Dump : MountCall
  Unmount : List ℕ → MountCall
  UnmountAll : MountCall
  Export : MountCall

abbrev pub mount_part : MountCall → Option (List ℕ)
mount_part (Mount p) = Some p
mount_part _ = None

abbrev pub unmount_part : MountCall → Option (List ℕ)
unmount_part (Unmount p) = Some p
unmount_part _ = None

unfoldable pub mount_arguments : MountProcedure → Item MountCall
mount_arguments mount_procedure.Null = only Null
mount_arguments mount_procedure.Mount = variant path (λ p. Mount p) mount_part
mount_arguments mount_procedure.Dump = only Dump
mount_arguments mount_procedure.Unmount = variant path (λ p. Unmount p) unmount_part
mount_arguments mount_procedure.UnmountAll = only UnmountAll
mount_arguments mount_procedure.Export = only Export

-- ---- what the code's values stand for, whatever memory they are lent

abbrev pub mount_call_of : code_mount.MountCall → MountCall
mount_call_of code_mounts.Null = Null
mount_call_of (code_mounts.Mount p) = Mount p.now
mount_call_of code_mounts.Dump = Dump
mount_call_of (code_mounts.Unmount p) = Unmount p.now
mount_call_of code_mounts.UnmountAll = UnmountAll
mount_call_of code_mounts.Export = Export
