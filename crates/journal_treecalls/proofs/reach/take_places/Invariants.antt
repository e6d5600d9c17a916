use Rattle.std.proofs.Common.{◌≡◌, ◌≤◌, [], length}
use Rattle.journal_treecalls.specs.Disks.{Learns}
use Rattle.journal_treecalls.specs.Reaches.{AreSized, TakesPlaces}
use Rattle.journal_treecalls.proofs.reach.take_places.Given as goal

-- the places before this one have their blocks
abbrev pub invariant-loop-m : goal.invariant-loop-m
invariant-loop-m g l = record {
  first : g.T.TreeDisk.writes l.disk ≡ [];
  sized : AreSized l.reach l.new;
  within : l.at ≤ length l.spare;
  learns : Learns (g.T.TreeDisk.may_be l.fn.disk) (g.T.TreeDisk.may_be l.disk) (λ V. TakesPlaces V l.reach l.old l.new l.spare l.m l.at);
}
