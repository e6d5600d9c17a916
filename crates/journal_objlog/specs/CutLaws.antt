-- Laws for the case that nothing awaits logging, or no group is in flight.
use Rattle.std.proofs.Common.{◌≡◌, ◌-◌, List, take, length-drop, ap, arith}
use Rattle.std.proofs.lemmas.List.{take_all}
use Rattle.journal_world.specs.Addresses.{Shape}
use Rattle.journal_block.specs.declared.update.Update.{Update}
use Rattle.journal_block.specs.Updates.{updated}
use Rattle.journal_circ.specs.Ring.{home_of}
use Rattle.journal_wal.specs.Wal.{WalState, tail_length}
use Rattle.journal_tail.specs.Maps.{map_of}
use Rattle.journal_objlog.specs.ObjectLogs.{map_now, map_cut, map_logged, IsCutLogged}

-- where the tail is empty, the map at the last cut is the map now
pub cut_is_now : (layout : Shape) (w : WalState) → tail_length w ≡ 0 → map_cut layout w ≡ map_now layout w
cut_is_now layout w empty = ap (λ (us : List Update). map_of layout (λ b. updated us b (home_of w.ring b))) whole
  where
    whole : take (w.log.cut - w.log.start) w.log.updates ≡ w.log.updates
    whole = take_all (w.log.cut - w.log.start) w.log.updates (omega (arith, empty, length-drop (w.log.cut - w.log.start) w.log.updates))

-- where all that was cut is logged, the two maps that a crash may leave are one
pub logged_is_cut : (layout : Shape) (w : WalState) → IsCutLogged w → map_logged layout w ≡ map_cut layout w
logged_is_cut layout w none = λ i. map_of layout (λ b. updated (take (none i - w.log.start) w.log.updates) b (home_of w.ring b))
