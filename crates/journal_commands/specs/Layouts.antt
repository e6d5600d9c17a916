-- The layout that the words of a command line name.
use Rattle.std.specs.Prelude.{ℕ, ◌≡◌, List, Option, Some, None, codes}
use Rattle.journal_world.specs.declared.address.Kind.{Kind}
use Rattle.journal_world.specs.declared.address.Kind.TheVariants.{Bit, Record, Block}
use Rattle.journal_world.specs.declared.address.RecordSize.{RecordSize}
use Rattle.journal_world.specs.declared.address.RecordSize.TheVariants.{Bytes8, Bytes16, Bytes32, Bytes64, Bytes128, Bytes256, Bytes512, Bytes1024, Bytes2048}
use Rattle.journal_world.specs.declared.layout.Region.{Region}
use Rattle.journal_world.specs.declared.layout.TheConstants.{MAX_BLOCKS, MAX_LAYOUT_BLOCKS}
use Rattle.journal_world.specs.Addresses.{Shape}
use Rattle.journal_world.specs.Files.{files}
use Rattle.journal_program.specs.declared.label.Label.{Label}
use Rattle.journal_program.specs.Labels.{regions_told}

-- how many blocks a disk has at most, by regions that were given, or by those of files
abbrev pub most_blocks : Option (List Region) → ℕ
most_blocks (Some regions) = MAX_LAYOUT_BLOCKS
most_blocks None = MAX_BLOCKS

-- the layout of a disk of so many blocks, by regions that were given, or by those of files
abbrev pub asked_shape : Option (List Region) → ℕ → ℕ → Shape
asked_shape (Some regions) slots blocks = record { blocks = blocks; regions = regions; slots = slots }
asked_shape None slots blocks = record (files blocks) { slots = slots }

-- the regions that a label tells, or where it tells none those that were named
abbrev pub told_or : Option (List Region) → Option (List Region) → Option (List Region)
told_or (Some told) asked = Some told
told_or None asked = asked

-- the regions that the label of a disk tells, where it has one that tells any
abbrev pub told_of : Option Label → Option (List Region)
told_of (Some label) = regions_told label
told_of None = None

-- what a label tells and what was named do not differ
abbrev pub AreSame : Option (List Region) → Option (List Region) → Type 0
AreSame (Some told) (Some asked) = told ≡ asked
AreSame told asked = Unit {0}

abbrev pub record_name : RecordSize → List ℕ
record_name Bytes8 = codes "record8"
record_name Bytes16 = codes "record16"
record_name Bytes32 = codes "record32"
record_name Bytes64 = codes "record64"
record_name Bytes128 = codes "record128"
record_name Bytes256 = codes "record256"
record_name Bytes512 = codes "record512"
record_name Bytes1024 = codes "record1024"
record_name Bytes2048 = codes "record2048"

-- the name of a kind, as the words of a region have it
abbrev pub kind_name : Kind → List ℕ
kind_name Bit = codes "bit"
kind_name (Record size) = record_name size
kind_name Block = codes "block"
