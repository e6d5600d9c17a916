use Rattle.std.proofs.Common.{length, sym, ap, subst, ◌∙◌}
use Rattle.journal_memlog.specs.Logs.{LogState, next_position}
use Rattle.journal_tail.specs.Homes.{AreHomes}
use Rattle.journal_wal.specs.Wal.{WalState, Crashes, size_of}
use Rattle.journal_wal.specs.Groups.{HasGroupRoom, TakesGroup}
use Rattle.journal_wal.specs.States.{logging_of, installing_of}
use Rattle.journal_wal.proofs.Phases.{of_parts}
use Rattle.journal_wal.proofs.Logger.{Leaves}
use Rattle.journal_wal.proofs.Grouping.{can_take, group_taken}
use Rattle.journal_wal.proofs.wal.Wal.take_reserved.Given.{Over}
use Rattle.journal_wal.proofs.wal.Wal.take_reserved.Goals.{After-cut}
use Rattle.journal_wal.proofs.wal.Wal.take_reserved.Goals as goal

pub returns-clause-takes : goal.returns-clause-takes
returns-clause-takes g c =
    subst (λ (w : WalState). TakesGroup w c.args.updates.items (record (of_parts c.self.inside.on_disk.circ c.self.inside.memory (logging_of c.self.inside.on_disk.logger) (installing_of c.self.inside.on_disk.installer)) { log = c.cut.new.self })) c.self.view_is
    (group_taken (of_parts c.self.inside.on_disk.circ c.self.inside.memory (logging_of c.self.inside.on_disk.logger) (installing_of c.self.inside.on_disk.installer)) c.args.updates.items c.self.invariant
    (subst (λ (w : WalState). HasGroupRoom w (length c.args.updates.items)) (sym c.self.view_is) c.requires.room)
    (subst (λ (w : WalState). AreHomes (size_of w) c.args.updates.items) (sym c.self.view_is) c.requires.homes)
    c.requires.distinct c.cut.new.self
    (c.cut.ensures.log ∙ ap (λ (l : LogState). record l { cut = next_position l }) c.append.ensures.log)).1

taken : (g : Over) (c : After-cut g) → let w = of_parts c.self.inside.on_disk.circ c.self.inside.memory (logging_of c.self.inside.on_disk.logger) (installing_of c.self.inside.on_disk.installer) in
    Leaves w (record w { log = c.cut.new.self }) × TakesGroup w c.args.updates.items (record w { log = c.cut.new.self })
taken g c =
    group_taken (of_parts c.self.inside.on_disk.circ c.self.inside.memory (logging_of c.self.inside.on_disk.logger) (installing_of c.self.inside.on_disk.installer)) c.args.updates.items c.self.invariant
    (subst (λ (w : WalState). HasGroupRoom w (length c.args.updates.items)) (sym c.self.view_is) c.requires.room)
    (subst (λ (w : WalState). AreHomes (size_of w) c.args.updates.items) (sym c.self.view_is) c.requires.homes)
    c.requires.distinct c.cut.new.self
    (c.cut.ensures.log ∙ ap (λ (l : LogState). record l { cut = next_position l }) c.append.ensures.log)

pub append-requires : goal.append-requires
append-requires g c =
    can_take (of_parts c.self.inside.on_disk.circ c.self.inside.memory (logging_of c.self.inside.on_disk.logger) (installing_of c.self.inside.on_disk.installer)) c.args.updates.items c.self.invariant
    (subst (λ (w : WalState). HasGroupRoom w (length c.args.updates.items)) (sym c.self.view_is) c.requires.room)
    (subst (λ (w : WalState). AreHomes (size_of w) c.args.updates.items) (sym c.self.view_is) c.requires.homes)
    c.requires.distinct

pub invariant_of-self : goal.invariant_of-self
invariant_of-self g c = (taken g (goal.at.invariant_of-self g c).After-cut).0.sound

pub returns-clause-crash : goal.returns-clause-crash
returns-clause-crash g c =
    subst (λ (w : WalState). Crashes w (record (of_parts c.self.inside.on_disk.circ c.self.inside.memory (logging_of c.self.inside.on_disk.logger) (installing_of c.self.inside.on_disk.installer)) { log = c.cut.new.self })) c.self.view_is
    (taken g (goal.at.returns-clause-crash g c).After-cut).0.crash
