use Rattle.journal_circ.proofs.Mended.{HasHomes}
use Rattle.journal_circ.proofs.circ.mending.rewrite_homes.Given as goal

abbrev pub invariant-loop-position : goal.invariant-loop-position
invariant-loop-position g l = HasHomes (g.D.BlockDisk.state l.fn.disk) (g.D.BlockDisk.state l.disk) l.fn.header l.fn.start l.position
