use Rattle.std.proofs.Common.{◌≡◌, []}
use Rattle.journal_treecalls.specs.Disks.{Learns}
use Rattle.journal_treecalls.specs.Walks.{ShowsBytes}
use Rattle.journal_treecalls.proofs.walk.show_bytes.Given as goal

-- the entries of the places before this one are on the page
abbrev pub invariant-loop-at : goal.invariant-loop-at
invariant-loop-at g l = record {
  first : g.T.TreeDisk.writes l.disk ≡ [];
  learns : Learns (g.T.TreeDisk.may_be l.fn.disk) (g.T.TreeDisk.may_be l.disk) (λ V. ShowsBytes V l.begin l.block l.j l.at l.fn.page l.page);
}
