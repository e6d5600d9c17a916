-- A disk in a file: the state that contracts see of it, and of its file.
use Rattle.std.specs.Prelude.{ℕ, ◌≡◌, ◌+◌, ◌-◌, ◌^◌, ◌/◌, min, Bool, false, List, [], length, Option, IfSome, IsTrue}
use Rattle.std.proofs.lemmas.Bool.{false≢true}
use Rattle.journal_world.specs.declared.layout.TheConstants.{BLOCK_BYTES}
use Rattle.journal_block.specs.Block.{Bytes}
use Rattle.journal_disk.specs.Disks.{Past, DiskState, past_from}
use Rattle.journal_disk.specs.Images.{IsImage}

-- The state of a file. If it keeps what is written to it, its past is the calls for its blocks.
-- Else its past says nothing
pub record Told : Type 0 where
  pub past : Past
  pub keeps : Bool

-- The facts that each call of a file keeps, whether it succeeds or not: its number of blocks, and
-- whether it keeps what is written to it
pub record KeepsTold (old new : Told) : Type 0 where
  pub size : new.past.size ≡ old.past.size
  pub keeps : new.keeps ≡ old.keeps

-- the state of a file of the system: nothing is known
abbrev pub untold : Told
untold = record { past = past_from 0 []; keeps = false }

-- The state of its file, its number of blocks, and how many of its calls failed
pub record FileState : Type 0 where
  pub told : Told
  pub size : ℕ
  pub failures : ℕ

-- Its state as any disk's: it is honest if its file keeps what is written to it
abbrev pub file_state : FileState → DiskState
file_state f = record { past = record f.told.past { size = f.size }; honest = f.told.keeps; failures = f.failures }

-- the state once its file has this one
abbrev pub with_told : FileState → Told → FileState
with_told f told = record f { told = told }

-- once a call failed
abbrev pub with_failure : FileState → FileState
with_failure f = record f { failures = min (f.failures + 1) (2 ^ 64 - 1) }

-- as many blocks as there are whole ones in the file, if its bytes are known
abbrev pub HasWholeBlocks : Option (List ℕ) → ℕ → Type 0
HasWholeBlocks file blocks = IfSome file (λ bytes. blocks ≡ length bytes / BLOCK_BYTES)

-- A file of which nothing is known owes nothing of a crash
pub untold_keeps_nothing : (image : List Bytes) → IsTrue untold.keeps → Unit {0} → IsImage untold.past image
untold_keeps_nothing image keeps left = absurd (false≢true keeps)
