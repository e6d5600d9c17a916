-- The files that a disk holds, whatever a crash leaves of it.
use Rattle.std.specs.Prelude.{ℕ, ◌≡◌, ◌⊎◌, ◌≤◌, List}
use Rattle.journal_world.specs.Maps.{Map}
use Rattle.journal_world.specs.Histories.{Entry, count, floor, at}
use Rattle.journal_block.specs.Block.{Bytes}
use Rattle.journal_disk.specs.Disks.{DiskState}
use Rattle.journal_disk.specs.Images.{EveryImage}
use Rattle.journal_objlog.specs.Maps.{OpensAs}
use Rattle.journal_inode.specs.declared.version.FormatVersion.{FormatVersion}
use Rattle.journal_inode.specs.declared.version.FormatVersion.TheVariants.{One, Two}
use Rattle.journal_inode.specs.Sound.{HasSoundFiles}
use Rattle.journal_filestore.specs.Files.{Files, files_of}

-- A map of sound files of this version, and these are the files
pub record HasFiles (version : FormatVersion) (files : Files) (m : Map) : Type 0 where
  pub sound : HasSoundFiles version m
  pub same : files_of version m ≡ files

-- of version 1 or of version 2
abbrev pub HasFilesOfEither : Files → Map → Type 0
HasFilesOfEither files m = HasFiles One files m ⊎ HasFiles Two files m

-- The image opens as a map that P holds of
pub record OpensWith (P : Map → Type 0) (image : List Bytes) : Type 0 where
  pub map : Map
  pub opens : OpensAs map image
  pub holds : P map

-- each image that a crash may leave of the disk opens as a map of sound files of this version,
-- which are these
abbrev pub HoldsFilesOf : FormatVersion → Files → DiskState → Type 0
HoldsFilesOf version files disk = EveryImage disk.past (OpensWith (HasFiles version files))

-- of version 1 or of version 2
abbrev pub HoldsFiles : Files → DiskState → Type 0
HoldsFiles files disk = EveryImage disk.past (OpensWith (HasFilesOfEither files))

-- P holds of each map that a crash may leave by the history: that after n commits, where n is no
-- fewer than the greatest mark
abbrev pub LeavesMaps : (Map → Type 0) → List Entry → Type 0
LeavesMaps P history = (n : ℕ) → floor history ≤ n → n ≤ count history → P (at history n)
