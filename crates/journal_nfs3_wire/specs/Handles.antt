-- Handles.
use Rattle.std.specs.Prelude.{ℕ, Bool, ◌&&◌, nat_le, nat_lt, List, Option, Some, None}
use Rattle.journal_xdr.specs.Items.{Item, pair, mapped_item, such_that}
use Rattle.journal_xdr.specs.Basic.{word, constant}
use Rattle.journal_inode.specs.declared.place.TheConstants.{INODES}
use Rattle.journal_file_types.specs.declared.handle.Handle as code_handle
use Rattle.journal_nfs3_wire.specs.Whole.{whole}

-- The target of a handle: an inode, and the generation of the file that it held
pub record FileHandle : Type 0 where
  pub number : ℕ
  pub generation : ℕ

-- A handle's 12 bytes: those of JNL1, the number of an inode, and a generation
unfoldable pub file_handle : Item FileHandle
file_handle = mapped_item (pair (constant 1246645297) (pair word word)) (λ p. record { number = p.1.0; generation = p.1.1 }) (λ h. (tt, (h.number, h.generation)))

-- inode 0 is never used
abbrev pub is_in_use : ℕ → Bool
is_in_use number = nat_le 1 number && nat_lt number INODES

abbrev pub used_handle : Item FileHandle
used_handle = such_that (λ h. is_in_use h.number) file_handle

-- the handle that bytes are, if they are one
abbrev pub handle_in : List ℕ → Option FileHandle
handle_in bytes = whole used_handle bytes

-- the meaning of the code's handle
abbrev pub handle_of : code_handle.Handle → FileHandle
handle_of h = record { number = h.number; generation = h.generation }

abbrev pub named : Option code_handle.Handle → Option FileHandle
named None = None
named (Some h) = Some (handle_of h)
