use Rattle.std.proofs.Common.{sym, subst}
use Rattle.journal_memlog.specs.Logs.{LogState}
use Rattle.journal_wal.specs.Wal.{WalState, Crashes}
use Rattle.journal_wal.specs.States.{logging_of, installing_of, IsWal}
use Rattle.journal_wal.proofs.Phases.{of_parts}
use Rattle.journal_wal.proofs.Logger.{unchanged}
use Rattle.journal_wal.proofs.Grouping.{room_made, crashes_room}
use Rattle.journal_wal.proofs.wal.Wal.reserve_group.Goals as goal

pub invariant_of-self : goal.invariant_of-self
invariant_of-self g c =
    subst (λ (l : LogState). IsWal (of_parts c.self.inside.on_disk.circ l (logging_of c.self.inside.on_disk.logger) (installing_of c.self.inside.on_disk.installer))) (sym c.reserve.ensures.same)
    (room_made (of_parts c.self.inside.on_disk.circ c.self.inside.memory (logging_of c.self.inside.on_disk.logger) (installing_of c.self.inside.on_disk.installer)) c.reserve.new.self.room c.self.invariant)

pub returns-then-is_faulted-clause-crash : goal.returns-then-is_faulted-clause-crash
returns-then-is_faulted-clause-crash g c = subst (λ (w : WalState). Crashes w w) c.self.view_is (unchanged (of_parts c.self.inside.on_disk.circ c.self.inside.memory (logging_of c.self.inside.on_disk.logger) (installing_of c.self.inside.on_disk.installer)) c.self.invariant)

pub returns-then-not-fits_group-clause-crash : goal.returns-then-not-fits_group-clause-crash
returns-then-not-fits_group-clause-crash g c = subst (λ (w : WalState). Crashes w w) c.self.view_is (unchanged (of_parts c.self.inside.on_disk.circ c.self.inside.memory (logging_of c.self.inside.on_disk.logger) (installing_of c.self.inside.on_disk.installer)) c.self.invariant)

pub returns-then-bounds-blocks-ge-MAX_POSITION-clause-crash : goal.returns-then-bounds-blocks-ge-MAX_POSITION-clause-crash
returns-then-bounds-blocks-ge-MAX_POSITION-clause-crash g c = subst (λ (w : WalState). Crashes w w) c.self.view_is (unchanged (of_parts c.self.inside.on_disk.circ c.self.inside.memory (logging_of c.self.inside.on_disk.logger) (installing_of c.self.inside.on_disk.installer)) c.self.invariant)

pub returns-in_err-reserve-clause-crash : goal.returns-in_err-reserve-clause-crash
returns-in_err-reserve-clause-crash g c =
    subst (λ (w : WalState). Crashes w (of_parts c.self.inside.on_disk.circ c.reserve.new.self (logging_of c.self.inside.on_disk.logger) (installing_of c.self.inside.on_disk.installer))) c.self.view_is
    (subst (λ (l : LogState). Crashes (of_parts c.self.inside.on_disk.circ c.self.inside.memory (logging_of c.self.inside.on_disk.logger) (installing_of c.self.inside.on_disk.installer)) (of_parts c.self.inside.on_disk.circ l (logging_of c.self.inside.on_disk.logger) (installing_of c.self.inside.on_disk.installer))) (sym c.reserve.ensures.same)
    (crashes_room (of_parts c.self.inside.on_disk.circ c.self.inside.memory (logging_of c.self.inside.on_disk.logger) (installing_of c.self.inside.on_disk.installer)) c.reserve.new.self.room c.self.invariant))

pub returns-clause-crash : goal.returns-clause-crash
returns-clause-crash g c =
    subst (λ (w : WalState). Crashes w (of_parts c.self.inside.on_disk.circ c.reserve.new.self (logging_of c.self.inside.on_disk.logger) (installing_of c.self.inside.on_disk.installer))) c.self.view_is
    (subst (λ (l : LogState). Crashes (of_parts c.self.inside.on_disk.circ c.self.inside.memory (logging_of c.self.inside.on_disk.logger) (installing_of c.self.inside.on_disk.installer)) (of_parts c.self.inside.on_disk.circ l (logging_of c.self.inside.on_disk.logger) (installing_of c.self.inside.on_disk.installer))) (sym c.reserve.ensures.same)
    (crashes_room (of_parts c.self.inside.on_disk.circ c.self.inside.memory (logging_of c.self.inside.on_disk.logger) (installing_of c.self.inside.on_disk.installer)) c.reserve.new.self.room c.self.invariant))
