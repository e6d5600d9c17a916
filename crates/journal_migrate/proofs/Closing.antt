-- What a disk holds that is given up, by what the core that lay on it did.
use Rattle.std.proofs.Common.{ℕ, ◌≡◌, inl, inr, IsTrue, length, sym, ap, subst, ◌∙◌, arith}
use Rattle.journal_world.specs.declared.refusal.Refusal.{Refusal}
use Rattle.journal_world.specs.declared.refusal.Refusal.TheVariants.{NoMemory, BadAddress, BadSize, TooLarge, Busy, DeviceFailed, BadLog, BadSuper, Stale, Stranger, Worn, Full, Closed, Fenced}
use Rattle.journal_world.specs.Addresses.{Shape}
use Rattle.journal_world.specs.Files.{files}
use Rattle.journal_world.specs.Histories.{opened, is_trusted}
use Rattle.journal_disk.specs.Disks.{DiskState, Keeps, HasFailed}
use Rattle.journal_disk.specs.Images.{EveryImage}
use Rattle.journal_inode.specs.declared.version.FormatVersion.TheVariants.{Two}
use Rattle.journal_inode.specs.Sound.{HasSoundFiles}
use Rattle.journal_memory.specs.Causes.{CauseState}
use Rattle.journal_parts.specs.Cores.{Leaves}
use Rattle.journal_parts.specs.CoreStates.{CoreState, disk_of, next_of}
use Rattle.journal_parts.specs.Openings.{IsInRange}
use Rattle.journal_parts.specs.Beginnings.{Begins, HasBoundsOf}
use Rattle.journal_filestore.specs.Files.{Files}
use Rattle.journal_migrate.specs.Either.{HasEitherFiles}
use Rattle.journal_migrate.specs.Holding.{HasFiles, HasFilesOfEither, HoldsFilesOf, HoldsFiles, LeavesMaps}
use Rattle.journal_migrate.specs.Migrations.{IsMigrated, KeepsFiles, KeepsVersionTwo, IsUpgradeRefusal, IsMigrateRefusal}
use Rattle.journal_migrate.proofs.FilesOfMaps.{HasFiles-same, Either-files-same}
use Rattle.journal_migrate.proofs.Leaving.{images_open}
use Rattle.journal_migrate.proofs.Disks.{map_has, holds_some, either_cut}

-- a layout that is that of files
pub laid_files : (layout : Shape) (n : ℕ) → layout ≡ files n → layout ≡ files layout.blocks
laid_files layout n is = is ∙ ap files (sym (ap (λ (s : Shape). s.blocks) is))

module _ (layout : Shape) (disk : DiskState) (first after : CoreState) (last : DiskState) (laid : layout ≡ files layout.blocks) (begins : Begins HasEitherFiles layout disk first) (keeps : Keeps (disk_of first) (disk_of after))
    (given : last ≡ disk_of after) where
  module _ (honest : IsTrue disk.honest) where
    trusted : IsTrue (is_trusted first.history)
    trusted = subst IsTrue (sym (ap is_trusted begins.history)) honest

    still : IsTrue last.honest
    still = subst IsTrue (sym (ap (λ (d : DiskState). d.honest) given ∙ keeps.honest ∙ begins.keeps.honest)) honest

    map_cut : begins.map.layout ≡ files begins.map.layout.blocks
    map_cut = subst (λ (s : Shape). s ≡ files s.blocks) (sym begins.on_disk) laid

    has_either : (fs : Files) → HoldsFiles fs disk → HasFilesOfEither fs (opened first.history)
    has_either fs held = subst (HasFilesOfEither fs) (sym (ap opened begins.history))
        (map_has (HasFilesOfEither fs) disk begins.map (Either-files-same fs) (either_cut fs) map_cut (begins.holds honest) held)

    has_two : (fs : Files) → HoldsFilesOf Two fs disk → HasSoundFiles Two (opened first.history)
    has_two fs held = subst (HasSoundFiles Two) (sym (ap opened begins.history))
        (map_has (HasFiles Two fs) disk begins.map (HasFiles-same Two fs) (λ k has. has.sound.cut.0) map_cut (begins.holds honest) held).sound

    module _ (images : IsTrue last.honest → EveryImage last.past (Leaves after.history)) where
      pub migrated : (IsTrue (is_trusted first.history) → (fs : Files) → HasFilesOfEither fs (opened first.history) → LeavesMaps (HasFiles Two fs) after.history)
          → IsMigrated disk last
      migrated upgraded = record {
        sound = holds_some disk begins.map (begins.holds honest) (begins.ruled honest);
        same = λ fs held. images_open (HasFiles Two fs) after.history last.past (HasFiles-same Two fs) (upgraded trusted fs (has_either fs held)) (images still);
      }

      pub keeps_files : (IsTrue (is_trusted first.history) → (fs : Files) → HasFilesOfEither fs (opened first.history) → LeavesMaps (HasFilesOfEither fs) after.history)
          → KeepsFiles disk last
      keeps_files left fs held =
          images_open (HasFilesOfEither fs) after.history last.past (Either-files-same fs) (left trusted fs (has_either fs held)) (images still)

    pub keeps_two : (IsTrue (is_trusted first.history) → HasSoundFiles Two (opened first.history) → (disk_of after).past ≡ (disk_of first).past) → KeepsVersionTwo disk last
    keeps_two unchanged fs held = ap (λ (d : DiskState). d.past) given ∙ unchanged trusted (has_two fs held) ∙ begins.past honest

  since : HasFailed (disk_of first) (disk_of after) → HasFailed disk last
  since (inl more) = inl (omega (arith, more, begins.keeps.failures, ap (λ (d : DiskState). d.failures) given))
  since (inr most) = inr (ap (λ (d : DiskState). d.failures) given ∙ most)

  refused : (end : ℕ) (why : Refusal CauseState) → IsUpgradeRefusal end (disk_of first) (disk_of after) why → IsUpgradeRefusal end disk last why
  refused end NoMemory is = tt
  refused end BadAddress is = is
  refused end BadSize is = is
  refused end TooLarge is = is
  refused end Busy is = is
  refused end (DeviceFailed cause) is = (since is.0, is.1)
  refused end BadLog is = is
  refused end BadSuper is = is
  refused end (Stale cause) is = is
  refused end (Stranger cause) is = is
  refused end (Worn cause) is = is
  refused end (Full cause) is = is
  refused end (Closed cause) is = is
  refused end Fenced is = is

  -- it was opened, and then refused
  pub migrate_refused : (why : Refusal CauseState) → IsInRange disk → (IsTrue disk.honest → HasBoundsOf disk first) → IsUpgradeRefusal (next_of first.objects) (disk_of first) (disk_of after) why
      → IsMigrateRefusal disk last why
  migrate_refused why range bounds is = inr (
    next_of first.objects,
    record {
      range = range;
      sound = λ honest. holds_some disk begins.map (begins.holds honest) (begins.ruled honest);
      ends = λ honest. omega (arith, begins.rest.next, begins.rest.cut, (bounds honest).end, ap length begins.tail);
    },
    refused (next_of first.objects) why is,
  )
