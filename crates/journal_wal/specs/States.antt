-- The invariant of every write-ahead log: of its numbers, of its two cycles, and of each image of
-- an honest disk.
use Rattle.std.specs.Prelude.{ℕ, ◌≡◌, ◌⊎◌, ◌<◌, ◌≤◌, ◌+◌, ◌-◌, ◌^◌, false, IsTrue, List, take, Some, None}
use Rattle.journal_block.specs.declared.update.Update.{Update}
use Rattle.journal_block.specs.Updates.{with_updates}
use Rattle.journal_disk.specs.Images.{EveryImage}
use Rattle.journal_circ.specs.Log.{HasLabel}
use Rattle.journal_circ.specs.Ring.{Ring, log_of, home_of}
use Rattle.journal_memlog.specs.Logs.{LogState, next_position}
use Rattle.journal_wal.specs.declared.disk_log.Logger.{Logger}
use Rattle.journal_wal.specs.declared.disk_log.Logger.TheVariants.{Blocks, Synced, EndPut, Spent as LoggerSpent}
use Rattle.journal_wal.specs.declared.disk_log.Installer.{Installer}
use Rattle.journal_wal.specs.declared.disk_log.Installer.TheVariants.{Resting, Homes, Synced as HomesSynced, StartPut, Spent as InstallerSpent}
use Rattle.journal_tail.specs.Homes.{AreHomes}
use Rattle.journal_wal.specs.Wal.{planned, IsLast, Logging, log_blocks, log_end, log_sync, log_spent, Installing, install_none, install_homes, install_start, install_sync, install_spent, WalState, MayStandFor}
use Rattle.journal_world.specs.declared.layout.TheConstants.{FIRST_HOME, LOG_POSITIONS}
use Rattle.journal_tail.specs.declared.limits.TheConstants.{MAX_TAIL}

-- the meaning of the logger's state, and of the installer's
abbrev pub logging_of : Logger → Logging
logging_of (Blocks state) = log_blocks
logging_of (Synced state) = log_end
logging_of (EndPut state) = log_sync
logging_of LoggerSpent = log_spent

abbrev pub installing_of : Installer → Installing
installing_of (Resting state) = install_none
installing_of (Homes state plan) = install_homes plan.upto plan.homes.entries
installing_of (HomesSynced state upto) = install_start upto
installing_of (StartPut state upto) = install_sync upto
installing_of InstallerSpent = install_spent

-- the updates that are installed, those before a position
abbrev pub updates_to : LogState → ℕ → List Update
updates_to log to = take (to - log.start) log.updates

-- The position is one that the disk's log has
pub record IsInLog (log : LogState) (upto : ℕ) : Type 0 where
  pub above : log.start ≤ upto
  pub below : upto ≤ log.logged

-- every block of the disk is at home as the updates before the position have it
abbrev pub IsHomeOf : Ring → LogState → ℕ → ℕ → Type 0
IsHomeOf ring log upto b = with_updates (home_of ring) (updates_to log upto) b ≡ home_of ring b

-- The invariant while home blocks are put: those that are not left are at home
pub record PutsHomes (ring : Ring) (log : LogState) (upto : ℕ) (plan : List (ℕ × ℕ)) : Type 0 where
  pub idle : ring.extent.freed ≡ ring.extent.start
  pub position : IsInLog log upto
  pub last : (b q : ℕ) → planned plan b ≡ Some q → IsLast (updates_to log upto) log.start b q
  pub done : IsTrue ring.disk.honest → (b : ℕ) → FIRST_HOME ≤ b → b < ring.disk.past.size → planned plan b ≡ None → IsHomeOf ring log upto b

-- The invariant once all are at home, where block 1 has this start or may have it
pub record HasHomes (ring : Ring) (log : LogState) (upto freed : ℕ) : Type 0 where
  pub idle : ring.extent.freed ≡ freed
  pub position : IsInLog log upto
  pub done : IsTrue ring.disk.honest → (b : ℕ) → FIRST_HOME ≤ b → b < ring.disk.past.size → IsHomeOf ring log upto b

-- The invariant of the installer's cycle
abbrev pub IsInstalling : Ring → LogState → Installing → Type 0
IsInstalling ring log install_none = ring.extent.freed ≡ ring.extent.start
IsInstalling ring log (install_homes upto plan) = PutsHomes ring log upto plan
IsInstalling ring log (install_start upto) = HasHomes ring log upto ring.extent.start × IsTrue ring.extent.homes
IsInstalling ring log (install_sync upto) = HasHomes ring log upto upto
IsInstalling ring log install_spent = IsTrue ring.faulted

-- The invariant of the logger's cycle
abbrev pub IsLogging : Ring → LogState → Logging → Type 0
IsLogging ring log log_blocks = ring.extent.coming ≡ ring.extent.end
IsLogging ring log log_end = (ring.extent.coming ≡ ring.extent.end) × (ring.extent.stable ≡ ring.next) × (ring.next ≡ log.cut) × (log.logged < log.cut) × (ring.sealed ≡ false)
IsLogging ring log log_sync = (ring.extent.coming ≡ log.cut) × (ring.next ≡ log.cut) × (log.logged < log.cut)
IsLogging ring log log_spent = IsTrue ring.faulted

-- The numbers of the log on the disk and of the log in memory go together
pub record AreTied (ring : Ring) (log : LogState) : Type 0 where
  pub size : ring.disk.past.size ≡ log.blocks
  pub start : ring.extent.start ≡ log.start
  pub end : ring.extent.end ≡ log.logged
  pub start_to_end : log.start ≤ log.logged
  pub end_to_next : log.logged ≤ ring.next
  pub next_to_cut : ring.next ≤ log.cut
  -- each update is in a group
  pub no_tail : next_position log ≡ log.cut
  pub fits : log.cut ≤ log.start + LOG_POSITIONS
  -- a group has at most 255 blocks
  pub group : log.cut ≤ log.logged + MAX_TAIL
  pub small : next_position log < 2 ^ 62
  pub blocks : AreHomes log.blocks log.updates
  -- block 0 has the last end or that of the last cut, the latter only once the whole group was put
  pub coming : (ring.extent.coming ≡ log.logged) ⊎ ((ring.extent.coming ≡ log.cut) × (ring.next ≡ log.cut))

-- The invariant of the type: the two logs go together, the cycles are where their states say, and
-- each image is possible, with the label
pub record IsWal (w : WalState) : Type 0 where
  pub tied : AreTied w.ring w.log
  -- the updates that were put are those in memory
  pub log : IsTrue w.ring.disk.honest → log_of w.ring ≡ take (w.ring.next - w.log.start) w.log.updates
  pub images : IsTrue w.ring.disk.honest → EveryImage w.ring.disk.past (MayStandFor w)
  pub label : IsTrue w.ring.disk.honest → EveryImage w.ring.disk.past (HasLabel w.ring.label)
  pub logging : IsLogging w.ring w.log w.logging
  pub installing : IsInstalling w.ring w.log w.installing
