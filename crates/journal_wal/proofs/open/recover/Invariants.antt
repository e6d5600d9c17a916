use Rattle.std.proofs.Common.{◌≡◌, false}
use Rattle.journal_wal.specs.Recovery.{OnlyReadsRing, IsRecovered}
use Rattle.journal_wal.proofs.open.recover.Given as goal

abbrev pub invariant-loop-position : goal.invariant-loop-position
invariant-loop-position g l = OnlyReadsRing l.fn.circ l.circ × (l.circ.faulted ≡ false) × IsRecovered l.fn.circ l.position l.memory
