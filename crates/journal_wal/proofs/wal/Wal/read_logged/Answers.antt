use Rattle.std.proofs.Common.{◌≡◌, IsTrue, OnOk, sym, subst}
use Rattle.journal_wal.specs.Wal.{WalState, Crashes, blocks_logged}
use Rattle.journal_wal.specs.States.{logging_of, installing_of}
use Rattle.journal_wal.proofs.Phases.{of_parts}
use Rattle.journal_wal.proofs.Reading.{read_home_at, read_crashes, label_read}
use Rattle.journal_wal.proofs.Logger.{unchanged}
use Rattle.journal_wal.proofs.wal.Wal.read_logged.Goals as goal

pub returns-clause-value : goal.returns-clause-value
returns-clause-value g c =
    subst (λ (w : WalState). IsTrue w.ring.disk.honest → OnOk c.read.result (c.read.new.into ≡ blocks_logged w c.args.block)) c.self.view_is
    (λ honest. read_home_at (of_parts c.self.inside.on_disk.circ c.self.inside.memory (logging_of c.self.inside.on_disk.logger) (installing_of c.self.inside.on_disk.installer))
    c.self.inside.memory.logged c.args.block c.read.new.into c.read.result (sym c.in_default.ensures.found) (c.read.ensures.value honest))

pub returns-then-is_faulted-clause-crash : goal.returns-then-is_faulted-clause-crash
returns-then-is_faulted-clause-crash g c = subst (λ (w : WalState). Crashes w w) c.self.view_is (unchanged (of_parts c.self.inside.on_disk.circ c.self.inside.memory (logging_of c.self.inside.on_disk.logger) (installing_of c.self.inside.on_disk.installer)) c.self.invariant)

pub returns-in-Some-clause-crash : goal.returns-in-Some-clause-crash
returns-in-Some-clause-crash g c = subst (λ (w : WalState). Crashes w w) c.self.view_is (unchanged (of_parts c.self.inside.on_disk.circ c.self.inside.memory (logging_of c.self.inside.on_disk.logger) (installing_of c.self.inside.on_disk.installer)) c.self.invariant)

pub returns-clause-crash : goal.returns-clause-crash
returns-clause-crash g c = subst (λ (w : WalState). Crashes w (of_parts c.read.new.self c.self.inside.memory (logging_of c.self.inside.on_disk.logger) (installing_of c.self.inside.on_disk.installer))) c.self.view_is
    (read_crashes (of_parts c.self.inside.on_disk.circ c.self.inside.memory (logging_of c.self.inside.on_disk.logger) (installing_of c.self.inside.on_disk.installer)) c.read.new.self c.self.invariant c.read.ensures.keeps c.read.ensures.same
    (label_read c.self.inside.on_disk.circ c.read.new.self c.read.result c.read.ensures.ok c.read.ensures.err))
