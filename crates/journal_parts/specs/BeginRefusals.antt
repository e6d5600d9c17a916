-- Why the history of a mount is not begun.
use Rattle.std.specs.Prelude.{◌≡◌, ◌≢◌, IsTrue, List, [], Bool, Result, Ok, Err}
use Rattle.journal_world.specs.declared.refusal.Refusal.{Refusal}
use Rattle.journal_world.specs.declared.refusal.Refusal.TheVariants.{BadSuper, Stale}
use Rattle.journal_world.specs.Addresses.{Shape}
use Rattle.journal_world.specs.Maps.{Map}
use Rattle.journal_world.specs.Histories.{Entry}
use Rattle.journal_wal.specs.Wal.{WalState}
use Rattle.journal_objlog.specs.ObjectLogs.{map_now, disk_of as log_disk}
use Rattle.journal_memory.specs.declared.refusal_number.RefusalNumber.TheVariants.{J9}
use Rattle.journal_memory.specs.Causes.{CauseState, IsExplained, raised_of}

-- the rule was not asked to its end, it does not hold, or it does and there is a history
abbrev pub IsBeginRefusal : (Map → Type 0) → Shape → WalState → Result Bool (Refusal Unit) → Refusal CauseState → Type 0
IsBeginRefusal rule layout objects (Err refusal) why = why ≡ raised_of refusal
IsBeginRefusal rule layout objects (Ok admitted) BadSuper = IsTrue (log_disk objects).honest → rule (map_now layout objects) → ⊥
IsBeginRefusal rule layout objects (Ok admitted) (Stale cause) =
    (IsTrue (log_disk objects).honest → rule (map_now layout objects))
    × ((front : List Entry) × IsExplained J9 front cause × (front ≢ []))
IsBeginRefusal rule layout objects (Ok admitted) other = ⊥
