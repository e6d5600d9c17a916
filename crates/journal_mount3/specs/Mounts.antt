-- The answers of MOUNT, where the root has the handle of a disk of files.
use Rattle.std.specs.Prelude.{ℕ, List}
use Rattle.journal_nfs3_wire.specs.Handles.{FileHandle, file_handle}
use Rattle.journal_mount_wire.specs.Arguments.{MountCall}
use Rattle.journal_mount_wire.specs.Mounts as wire

-- the root's handle
abbrev pub root_handle : FileHandle
root_handle = record { number = 1; generation = 1 }

-- the answer to a call
abbrev pub mount_text : MountCall → List ℕ
mount_text call = wire.mount_text (file_handle.spelling root_handle) call
