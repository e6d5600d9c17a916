-- The form of a log, and what a change of it leaves.
use Rattle.std.specs.Prelude.{◌≡◌, Bool, if◌then◌else◌}
use Rattle.journal_block.specs.Block.{Bytes}
use Rattle.journal_block.specs.Updates.{Content}
use Rattle.journal_disk.specs.Disks.{Past, IsSettled, read_of}
use Rattle.journal_disk.specs.Images.{EveryImage}
use Rattle.journal_disk.specs.Moments.{LeavesOnly}
use Rattle.journal_circ.specs.Log.{is_sealed, label_of, HasLabel}
use Rattle.journal_circ.specs.StandsFor.{StandsFor}
use Rattle.journal_form.specs.declared.form.LogForm.{LogForm}
use Rattle.journal_form.specs.declared.form.LogForm.TheVariants.{Plain, Sealed}

-- the form of a log that is sealed, or not
abbrev pub form_by : Bool → LogForm
form_by sealed = if sealed then Sealed else Plain

-- the form of block 0
abbrev pub form_of : Bytes → LogForm
form_of header = form_by (is_sealed header)

-- Each image of each moment stands for the blocks that each image stood for: whatever a crash
-- leaves meanwhile opens with the same blocks
abbrev pub HoldsThroughout : Past → Past → Type 0
HoldsThroughout old new = (blocks : Content) → EveryImage old (StandsFor old.size blocks) → LeavesOnly old new (StandsFor old.size blocks)

-- Each image of each moment has the label that block 1 read
abbrev pub HoldsLabelThroughout : Past → Past → Type 0
HoldsLabelThroughout old new = LeavesOnly old new (HasLabel (label_of (read_of old 1)))

-- Nothing is pending, and the log has the form
abbrev pub IsChanged : LogForm → Past → Type 0
IsChanged form p = IsSettled p × (form_of (read_of p 0) ≡ form)
