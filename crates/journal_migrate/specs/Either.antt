-- The rule of a migration.
use Rattle.std.proofs.Common.{◌⊎◌, inl, inr}
use Rattle.journal_world.specs.Maps.{Map, SameMap}
use Rattle.journal_inode.specs.declared.version.FormatVersion.TheVariants.{One, Two}
use Rattle.journal_inode.specs.Sound.{HasSoundFiles}
use Rattle.journal_inode.specs.SameFiles.{Sound-same}

-- a map of sound files of version 1 or of version 2
abbrev pub HasEitherFiles : Map → Type 0
HasEitherFiles m = HasSoundFiles One m ⊎ HasSoundFiles Two m

-- a map that gives the same values is one too
pub Either-same : (m n : Map) → SameMap m n → HasEitherFiles m → HasEitherFiles n
Either-same m n same (inl sound) = inl (Sound-same One m n same sound)
Either-same m n same (inr sound) = inr (Sound-same Two m n same sound)
