-- The files of a disk are those of the map that it is opened with.
use Rattle.std.proofs.Common.{◌≡◌, inl, inr, ◌<◌, List, refl, sym, ap, subst, ◌∙◌}
use Rattle.journal_world.specs.Addresses.{Shape}
use Rattle.journal_world.specs.Files.{files}
use Rattle.journal_world.specs.Maps.{Map, SameMap}
use Rattle.journal_block.specs.Block.{Bytes}
use Rattle.journal_disk.specs.Disks.{DiskState, Past}
use Rattle.journal_disk.specs.Images.{EveryImage, reading}
use Rattle.journal_disk.specs.Laws.{reading_is_image}
use Rattle.journal_objlog.specs.Maps.{OpensAs}
use Rattle.journal_tail.proofs.MapsOfBlocks.{same_objects}
use Rattle.journal_parts.specs.Openings.{HoldsMap}
use Rattle.journal_inode.specs.declared.version.FormatVersion.TheVariants.{One, Two}
use Rattle.journal_filestore.specs.Files.{Files, files_of}
use Rattle.journal_migrate.specs.Either.{HasEitherFiles}
use Rattle.journal_migrate.specs.Holding.{HasFilesOfEither, OpensWith, HoldsFiles}
use Rattle.journal_migrate.specs.Migrations.{KeepsFiles}

-- an image opens as one map
opens_same : (m k : Map) (image : List Bytes) → m.layout ≡ k.layout → OpensAs m image → OpensAs k image → SameMap m k
opens_same m k image layout first second =
    same_objects first.content second.content m k first.objects second.objects layout
    (λ b above below. sym (first.stands.each b above below) ∙ second.stands.each b above (subst (λ (s : Shape). b < s.blocks) layout below))

-- what holds of the maps that the images open as holds of the map that the disk is opened with
pub map_has : (P : Map → Type 0) (disk : DiskState) (m : Map) → ((k n : Map) → SameMap k n → P k → P n) → ((k : Map) → P k → k.layout ≡ files k.layout.blocks) → m.layout ≡ files m.layout.blocks → HoldsMap disk m
    → EveryImage disk.past (OpensWith P) → P m
map_has P disk m respects cut here holds opens =
    let image = reading_is_image disk.past in
    let found = opens (reading disk.past) image in
    let held = holds (reading disk.past) image in
    let blocks : found.map.layout.blocks ≡ m.layout.blocks = sym found.opens.stands.size ∙ held.stands.size in
    respects found.map m
    (opens_same found.map m (reading disk.past) (cut found.map found.holds ∙ ap files blocks ∙ sym here) found.opens held) found.holds

-- sound files lie on a disk that is cut as one with files
pub either_cut : (fs : Files) (k : Map) → HasFilesOfEither fs k → k.layout ≡ files k.layout.blocks
either_cut fs k (inl has) = has.sound.cut.0
either_cut fs k (inr has) = has.sound.cut.0

-- a disk that is opened with a map of sound files holds these
pub holds_some : (disk : DiskState) (m : Map) → HoldsMap disk m → HasEitherFiles m → (fs : Files) × HoldsFiles fs disk
holds_some disk m holds (inl sound) =
    (files_of One m, λ image one. record { map = m; opens = holds image one; holds = inl (record { sound = sound; same = refl }) })
holds_some disk m holds (inr sound) =
    (files_of Two m, λ image one. record { map = m; opens = holds image one; holds = inr (record { sound = sound; same = refl }) })

-- a disk that was only read holds what it held
pub read_keeps : (old new : DiskState) → new.past ≡ old.past → KeepsFiles old new
read_keeps old new same files held = subst (λ (p : Past). EveryImage p (OpensWith (HasFilesOfEither files))) (sym same) held
