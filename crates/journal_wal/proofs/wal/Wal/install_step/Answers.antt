use Rattle.std.proofs.Common.{sym, subst}
use Rattle.journal_wal.specs.Wal.{WalState, Crashes}
use Rattle.journal_wal.specs.States.{logging_of, installing_of}
use Rattle.journal_wal.proofs.Phases.{of_parts}
use Rattle.journal_wal.proofs.Logger.{unchanged}
use Rattle.journal_wal.proofs.Planned.{crashes_planned, answers_planned}
use Rattle.journal_wal.proofs.wal.Wal.install_step.Goals as goal

pub returns-then-is_faulted-clause-crash : goal.returns-then-is_faulted-clause-crash
returns-then-is_faulted-clause-crash g c = subst (λ (w : WalState). Crashes w w) c.self.view_is (unchanged (of_parts c.self.inside.on_disk.circ c.self.inside.memory (logging_of c.self.inside.on_disk.logger) (installing_of c.self.inside.on_disk.installer)) c.self.invariant)

pub returns-then-is_install_idle-clause-crash : goal.returns-then-is_install_idle-clause-crash
returns-then-is_install_idle-clause-crash g c = subst (λ (w : WalState). Crashes w w) c.self.view_is (unchanged (of_parts c.self.inside.on_disk.circ c.self.inside.memory (logging_of c.self.inside.on_disk.logger) (installing_of c.self.inside.on_disk.installer)) c.self.invariant)

pub returns-in_err-plan-clause-crash : goal.returns-in_err-plan-clause-crash
returns-in_err-plan-clause-crash g c = subst (Crashes c.args.self.now) (sym c.in_err-plan.ensures.err.2)
    (subst (λ (w : WalState). Crashes w w) c.self.view_is (unchanged (of_parts c.self.inside.on_disk.circ c.self.inside.memory (logging_of c.self.inside.on_disk.logger) (installing_of c.self.inside.on_disk.installer)) c.self.invariant))

pub returns-clause-crash : goal.returns-clause-crash
returns-clause-crash g c = crashes_planned c.args.self.now c.plan.new.self c.install_on.new.self c.in_ok-plan.ensures.ok.same c.install_on.ensures.crash

pub returns-clause-ok : goal.returns-clause-ok
returns-clause-ok g c = answers_planned c.args.self.now c.plan.new.self c.install_on.new.self c.in_ok-plan.ensures.ok c.install_on.result c.install_on.ensures.ok
