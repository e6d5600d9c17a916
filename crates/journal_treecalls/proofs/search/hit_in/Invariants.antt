use Rattle.std.proofs.Common.{◌≡◌, []}
use Rattle.journal_treecalls.specs.Disks.{Learns}
use Rattle.journal_treecalls.specs.Targets.{HasNoHit}
use Rattle.journal_treecalls.proofs.search.hit_in.Given as goal

-- none before this one has an entry for the name
abbrev pub invariant-loop-at : goal.invariant-loop-at
invariant-loop-at g l = record {
  first : g.T.TreeDisk.writes l.disk ≡ [];
  learns : Learns (g.T.TreeDisk.may_be l.fn.disk) (g.T.TreeDisk.may_be l.disk) (λ V. HasNoHit V l.which l.block l.tag l.name l.at);
}
