use Rattle.std.proofs.Common.{◌≡◌, []}
use Rattle.journal_treecalls.specs.Disks.{Learns}
use Rattle.journal_treecalls.proofs.Upward.{Follows}
use Rattle.journal_treecalls.proofs.ancestry.is_above.Given as goal

-- the way from the directory leads to this number
abbrev pub invariant-loop-step : goal.invariant-loop-step
invariant-loop-step g l = record {
  first : g.T.TreeDisk.writes l.disk ≡ [];
  learns : Learns (g.T.TreeDisk.may_be l.fn.disk) (g.T.TreeDisk.may_be l.disk) (λ V. Follows V l.node l.directory l.numbers l._step l.at);
}
