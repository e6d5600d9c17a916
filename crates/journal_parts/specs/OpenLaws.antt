-- Why a disk is not opened by the layout that is made for it.
use Rattle.std.proofs.Common.{⊎_elim, inr, refl}
use Rattle.journal_world.specs.declared.refusal.Refusal.{Refusal}
use Rattle.journal_world.specs.declared.refusal.Refusal.TheVariants.{NoMemory, BadAddress, BadSize, TooLarge, Busy, DeviceFailed, BadLog, BadSuper, Stale, Stranger, Worn, Full, Closed, Fenced}
use Rattle.journal_world.specs.Files.{files}
use Rattle.journal_world.specs.Maps.{Map}
use Rattle.journal_disk.specs.Disks.{DiskState}
use Rattle.journal_memory.specs.Causes.{CauseState}
use Rattle.journal_parts.specs.Openings.{IsInRange, IsOpenRefusal, IsLayoutRefusal}

-- a disk has as many blocks as the layout of files that is made for it
pub refuses_files : (rule : Map → Type 0) (old new : DiskState) (why : Refusal CauseState) → IsInRange old → IsLayoutRefusal rule (files old.past.size) old new why
    → IsOpenRefusal rule old new why
refuses_files rule old new BadSuper range it = ⊎_elim (λ other. absurd (other refl)) (λ ruled. inr (range, ruled.1)) it
refuses_files rule old new BadLog range it = (range, it.1)
refuses_files rule old new (Stale cause) range it = (range, it.1, it.2)
refuses_files rule old new NoMemory range it = range
refuses_files rule old new (DeviceFailed cause) range it = (range, it.1, it.2)
refuses_files rule old new BadAddress range it = absurd it
refuses_files rule old new BadSize range it = absurd it
refuses_files rule old new TooLarge range it = absurd it
refuses_files rule old new Busy range it = absurd it
refuses_files rule old new (Stranger cause) range it = absurd it
refuses_files rule old new (Worn cause) range it = absurd it
refuses_files rule old new (Full cause) range it = absurd it
refuses_files rule old new (Closed cause) range it = absurd it
refuses_files rule old new Fenced range it = absurd it
