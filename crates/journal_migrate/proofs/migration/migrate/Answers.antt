use Rattle.std.proofs.Common.{inl, sym, subst, rules, IsTrue}
use Rattle.journal_world.specs.Addresses.{Shape}
use Rattle.journal_circ.specs.Mending.{IsMendable}
use Rattle.journal_circ.specs.MendingLaws.{settled_mendable}
use Rattle.journal_tail.proofs.Exits.{if_err}
use Rattle.journal_parts.specs.Openings.{IsInRange, IsLayoutRefusal, OnlyReadsDisk}
use Rattle.journal_parts.specs.OpenLaws.{refuses_files}
use Rattle.journal_migrate.specs.Either.{HasEitherFiles}
use Rattle.journal_migrate.specs.Migrations.{IsMigrateRefusal}
use Rattle.journal_migrate.proofs.Closing.{laid_files, migrated, keeps_files, keeps_two, migrate_refused}
use Rattle.journal_migrate.proofs.migration.migrate.Goals as goal

pub returns-in-Ok-answer-clause-migrated : goal.returns-in-Ok-answer-clause-migrated
returns-in-Ok-answer-clause-migrated g c honest =
    migrated g.J.Naming.layout (g.D.BlockDisk.state c.args.disk) c.in_ok-core.core c.upgrade-answer.new.core (g.D.BlockDisk.state c.into_disk.result) (laid_files g.J.Naming.layout (g.D.BlockDisk.state c.args.disk).past.size c.requires.layout) c.in_ok-core.ensures.begun c.upgrade-answer.ensures.keeps
    c.into_disk.ensures.disk honest c.into_disk.ensures.images c.in-Ok-answer.ensures.upgraded

pub returns-in-Ok-answer-clause-unchanged : goal.returns-in-Ok-answer-clause-unchanged
returns-in-Ok-answer-clause-unchanged g c honest =
    keeps_two g.J.Naming.layout (g.D.BlockDisk.state c.args.disk) c.in_ok-core.core c.upgrade-answer.new.core (g.D.BlockDisk.state c.into_disk.result) (laid_files g.J.Naming.layout (g.D.BlockDisk.state c.args.disk).past.size c.requires.layout) c.in_ok-core.ensures.begun c.upgrade-answer.ensures.keeps
    c.into_disk.ensures.disk honest c.upgrade-answer.ensures.unchanged

pub returns-in_err-core-clause-refusal : goal.returns-in_err-core-clause-refusal
returns-in_err-core-clause-refusal g c =
    let old = g.D.BlockDisk.state c.args.disk in
    let range : IsInRange old = search rules in
    if_err c.from_residual.result _ (λ refused. IsMigrateRefusal old (g.D.BlockDisk.state refused.disk) refused.refusal) c.from_residual.ensures.1
    (λ e is.
    let told = subst (λ refused. IsLayoutRefusal HasEitherFiles g.J.Naming.layout old (g.D.BlockDisk.state refused.disk) refused.refusal) (sym is) c.in_err-core.ensures.refusal in
    let left = subst (λ refused. OnlyReadsDisk old (g.D.BlockDisk.state refused.disk)) (sym is) c.in_err-core.ensures.left in
    inl (
      refuses_files HasEitherFiles old (g.D.BlockDisk.state e.disk) e.refusal range
          (subst (λ (s : Shape). IsLayoutRefusal HasEitherFiles s old (g.D.BlockDisk.state e.disk) e.refusal) c.requires.layout told),
      left,
    ))

pub returns-clause-refusal : goal.returns-clause-refusal
returns-clause-refusal g c =
    let range : IsInRange (g.D.BlockDisk.state c.args.disk) = search rules in
    migrate_refused g.J.Naming.layout (g.D.BlockDisk.state c.args.disk) c.in_ok-core.core c.upgrade-answer.new.core (g.D.BlockDisk.state c.into_disk-in-Err.result) (laid_files g.J.Naming.layout (g.D.BlockDisk.state c.args.disk).past.size c.requires.layout) c.in_ok-core.ensures.begun c.upgrade-answer.ensures.keeps
    c.into_disk-in-Err.ensures.disk c.in-Err.refusal range c.in_ok-core.ensures.bounds c.in-Err.ensures.refusal

pub returns-clause-left : goal.returns-clause-left
returns-clause-left g c honest =
    keeps_files g.J.Naming.layout (g.D.BlockDisk.state c.args.disk) c.in_ok-core.core c.upgrade-answer.new.core (g.D.BlockDisk.state c.into_disk-in-Err.result) (laid_files g.J.Naming.layout (g.D.BlockDisk.state c.args.disk).past.size c.requires.layout) c.in_ok-core.ensures.begun c.upgrade-answer.ensures.keeps
    c.into_disk-in-Err.ensures.disk honest c.into_disk-in-Err.ensures.images c.in-Err.ensures.left

pub returns-clause-left_unchanged : goal.returns-clause-left_unchanged
returns-clause-left_unchanged g c honest =
    keeps_two g.J.Naming.layout (g.D.BlockDisk.state c.args.disk) c.in_ok-core.core c.upgrade-answer.new.core (g.D.BlockDisk.state c.into_disk-in-Err.result) (laid_files g.J.Naming.layout (g.D.BlockDisk.state c.args.disk).past.size c.requires.layout) c.in_ok-core.ensures.begun c.upgrade-answer.ensures.keeps
    c.into_disk-in-Err.ensures.disk honest c.upgrade-answer.ensures.unchanged

pub returns-in_err-core-clause-left_mendable : goal.returns-in_err-core-clause-left_mendable
returns-in_err-core-clause-left_mendable g c =
    let old = g.D.BlockDisk.state c.args.disk in
    if_err c.from_residual.result _ (λ refused. IsTrue (g.D.BlockDisk.state refused.disk).honest → IsMendable (g.D.BlockDisk.state refused.disk).past) c.from_residual.ensures.1
    (λ e is honest.
    let left = subst (λ refused. OnlyReadsDisk old (g.D.BlockDisk.state refused.disk)) (sym is) c.in_err-core.ensures.left in
    let was = subst IsTrue left.keeps.honest honest in
    subst IsMendable (sym (left.past was)) (settled_mendable old.past (c.requires.settled was)))
