use Rattle.std.proofs.Common.{◌≡◌}
use Rattle.journal_form.specs.Emptying.{BringsHome}
use Rattle.journal_form.proofs.emptying.install_all.Given as goal

abbrev pub invariant-loop-position : goal.invariant-loop-position
invariant-loop-position g l = record {
  brought : BringsHome l.fn.circ l.position l.circ;
  idle : l.circ.extent.freed ≡ l.circ.extent.start;
}
