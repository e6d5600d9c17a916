use Rattle.std.proofs.Common.{◌<◌}
use Rattle.std.specs.Prelude.{◌≢◌}
use Rattle.std.proofs.Common.{ℕ}
use Rattle.journal_treecalls.specs.Reaches.{reached_number}
use Rattle.journal_treecalls.proofs.growth.is_reached.Given as goal

-- none before this one is the block
abbrev pub invariant-loop-m : goal.invariant-loop-m
invariant-loop-m l = (m : ℕ) → m < l.m → reached_number l.growth.change.reach l.growth.change.new m ≢ l.block
