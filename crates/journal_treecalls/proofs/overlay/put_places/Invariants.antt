use Rattle.std.proofs.Common.{◌≤◌, ◌+◌, ◌*◌, length}
use Rattle.journal_treecalls.specs.Overlays.{laying_at, LaysBlocks}
use Rattle.journal_treecalls.proofs.overlay.put_places.Given as goal

-- the blocks before this one are written
abbrev pub invariant-loop-m : goal.invariant-loop-m
invariant-loop-m g l =
    LaysBlocks (g.T.TreeDisk.may_be l.fn.disk) (g.T.TreeDisk.may_be l.disk) (g.T.TreeDisk.writes l.fn.disk) (g.T.TreeDisk.writes l.disk) l.number (laying_at l.change l.image) l.m
    × (length (g.T.TreeDisk.writes l.disk) ≤ length (g.T.TreeDisk.writes l.fn.disk) + 2 * l.m)
