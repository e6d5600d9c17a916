use Rattle.std.proofs.Common.{◌≡◌, ◌&&◌}
use Rattle.journal_world.specs.Files.{shape}
use Rattle.journal_world.specs.Maps.{are_objects}
use Rattle.journal_tail.specs.Writes.{are_valid}
use Rattle.journal_tail.proofs.writes.check_writes.Given as goal

-- all are valid where those that are left are, and all are objects where those are and those before
-- were
abbrev pub invariant-loop-addr : goal.invariant-loop-addr
invariant-loop-addr l =
    (are_valid (shape l.layout) l.writes ≡ are_valid (shape l.layout) l.addr-iterator)
    × (are_objects (shape l.layout) l.writes ≡ (l.objects && are_objects (shape l.layout) l.addr-iterator))
