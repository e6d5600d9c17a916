-- Handles.
use Rattle.std.specs.Prelude.{ℕ, ◌==◌, if◌then◌else◌, List, Option, Some, None, Result, Ok, Err}
use Rattle.journal_xdr.specs.Items.{Item, pair, mapped_item}
use Rattle.journal_xdr.specs.Basic.{word, hyper}
use Rattle.journal_tree.specs.declared.reply.Handle.{Handle}
use Rattle.journal_nfs3_wire.specs.declared.results.NfsError.{NfsError}
use Rattle.journal_nfs3_wire.specs.declared.results.NfsError.TheVariants.{BadHandle, Stale}
use Rattle.journal_nfs3_wire.specs.Whole.{whole}
use Rattle.journal_treewire.specs.declared.handle.DiskHandle as code_handle

-- A handle of the tree of a disk
pub record DiskHandle : Type 0 where
  pub disk : ℕ
  pub handle : Handle

-- A handle's 16 bytes: 8 of the disk's own, the number of a node, and a generation
unfoldable pub disk_handle : Item DiskHandle
disk_handle = mapped_item (pair hyper (pair word word)) (λ p. record { disk = p.0; handle = record { number = p.1.0; generation = p.1.1 } }) (λ h. (h.disk, (h.handle.number, h.handle.generation)))

-- a handle of this disk is a name of its tree. Other bytes are none, and a handle of another disk
-- names nothing here
abbrev pub named_on : ℕ → Option DiskHandle → Result Handle NfsError
named_on disk None = Err BadHandle
named_on disk (Some h) = if h.disk == disk then Ok h.handle else Err Stale

-- the handle that bytes are on a disk
abbrev pub handle_in : ℕ → List ℕ → Result Handle NfsError
handle_in disk bytes = named_on disk (whole disk_handle bytes)

-- the meaning of the code's handle
abbrev pub disk_handle_of : code_handle.DiskHandle → DiskHandle
disk_handle_of h = record { disk = h.disk; handle = h.handle }

abbrev pub found_handle : Option code_handle.DiskHandle → Option DiskHandle
found_handle None = None
found_handle (Some h) = Some (disk_handle_of h)
