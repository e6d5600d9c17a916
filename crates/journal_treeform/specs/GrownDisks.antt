-- The blocks of a disk with a tree that gets more of them.
use Rattle.std.specs.Prelude.{ℕ, ◌≡◌, ◌<◌, ◌≤◌, ◌+◌, List, [], ◌∷◌, ◌++◌}
use Rattle.journal_world.specs.declared.layout.TheConstants.{FIRST_HOME}
use Rattle.journal_world.specs.Maps.{Map}
use Rattle.journal_block.specs.Block.{Bytes}
use Rattle.journal_object.specs.Objects.{IsMapOf}
use Rattle.journal_disk.specs.Disks.{DiskEvent, write, barrier, Past, block_at, read_of}
use Rattle.journal_disk.specs.Moments.{LeavesOnly}
use Rattle.journal_treestore.specs.declared.place.Cut.{Cut}
use Rattle.journal_treestore.specs.Places.{later_owners, shape_of}
use Rattle.journal_treestore.specs.Growths.{IsGrowth}
use Rattle.journal_treeobjects.specs.Maps.{HasSoundTree}
use Rattle.journal_treeobjects.specs.GrownMaps.{KeepsTree}

-- the blocks after the log are as they were, up to the new place of the records of later blocks
abbrev pub KeepsHomes : Cut → (ℕ → Bytes) → (ℕ → Bytes) → Type 0
KeepsHomes d old new = (b : ℕ) → FIRST_HOME ≤ b → b < d.blocks → new b ≡ old b

-- where these records lie as they lay before
abbrev pub HasRecords : Cut → Cut → (ℕ → Bytes) → (ℕ → Bytes) → Type 0
HasRecords c d old new = (k : ℕ) → k < later_owners c → new (d.blocks + k) ≡ old (c.blocks + k)

-- The map that such blocks are keeps the tree
abbrev pub GrownDisksKeepTheTree : Type 0
GrownDisksKeepTheTree =
    (c d : Cut) (old new : ℕ → Bytes) (m n : Map) → IsGrowth c d → KeepsHomes d old new → HasRecords c d old new → HasSoundTree c m → IsMapOf old m → n.layout ≡ shape_of d
    → IsMapOf new n → KeepsTree c d m n

-- ── the disk while they are written ──

-- Each of the events is a barrier, or a write at the end of the first blocks or after it
abbrev pub AreAfter : ℕ → List DiskEvent → Type 0
AreAfter end [] = Unit {0}
AreAfter end (write c bytes ∷ older) = (end ≤ c) × AreAfter end older
AreAfter end (barrier ∷ older) = AreAfter end older

-- Nothing else has happened
pub record WritesAfter (end : ℕ) (old new : Past) : Type 0 where
  pub since : List DiskEvent
  pub is : new ≡ record old { events = since ++ old.events }
  pub after : AreAfter end since

-- the first blocks read as before
abbrev pub ReadsFirst : ℕ → Past → Past → Type 0
ReadsFirst end old new = (b : ℕ) → b < end → read_of new b ≡ read_of old b

-- a crash at any moment leaves the first blocks as they read before
abbrev pub LeavesFirst : ℕ → Past → Past → Type 0
LeavesFirst end old new = LeavesOnly old new (λ (image : List Bytes). (b : ℕ) → b < end → block_at image b ≡ read_of old b)
