-- A disk that is made one with a tree.
use Rattle.std.specs.Prelude.{ℕ, ◌≡◌, ◌<◌}
use Rattle.journal_world.specs.declared.address.Kind.TheVariants.{Block}
use Rattle.journal_world.specs.declared.refusal.Refusal.{Refusal}
use Rattle.journal_world.specs.declared.refusal.Refusal.TheVariants.{NoMemory, DeviceFailed}
use Rattle.journal_world.specs.Addresses.{zeros_of}
use Rattle.journal_disk.specs.Disks.{Past, DiskState, HasFailed, read_of}
use Rattle.journal_treeform.specs.declared.new_tree.NewTree.{NewTree}
use Rattle.journal_treeform.specs.NewDisks.{new_block}

-- each block reads as zeros
abbrev pub AreZeros : Past → Type 0
AreZeros p = (b : ℕ) → b < p.size → read_of p b ≡ zeros_of Block

-- each block reads as that of the new disk
abbrev pub HasBlocksOf : NewTree → Past → Type 0
HasBlocksOf t p = (b : ℕ) → b < t.cut.blocks → read_of p b ≡ new_block t b

-- Why what writes is refused: for want of memory, or by the device, which failed meanwhile
abbrev pub IsWritingRefusal : {C : Type 0} → DiskState → DiskState → Refusal C → Type 0
IsWritingRefusal old new NoMemory = Unit {0}
IsWritingRefusal old new (DeviceFailed cause) = HasFailed old new
IsWritingRefusal old new other = ⊥
