use Rattle.std.proofs.Common.{◌≡◌, []}
use Rattle.journal_treecalls.specs.Disks.{Learns}
use Rattle.journal_treecalls.specs.Targets.{HasNoHitBelow}
use Rattle.journal_treecalls.proofs.search.find_in_levels.Given as goal

-- no level before this one has an entry for the name
abbrev pub invariant-loop-level : goal.invariant-loop-level
invariant-loop-level g l = record {
  first : g.T.TreeDisk.writes l.disk ≡ [];
  learns : Learns (g.T.TreeDisk.may_be l.fn.disk) (g.T.TreeDisk.may_be l.disk) (λ V. HasNoHitBelow V l.numbers l.tag l.name l.level);
}
