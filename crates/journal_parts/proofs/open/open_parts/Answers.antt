use Rattle.std.proofs.Common.{true, rules, ap, sym, subst, ◌∙◌}
use Rattle.journal_world.specs.declared.refusal.Refusal.{Refusal}
use Rattle.journal_disk.specs.Disks.{DiskState}
use Rattle.journal_memory.specs.Causes.{CauseState}
use Rattle.journal_parts.specs.Openings.{HasSize, IsLayoutRefusal}
use Rattle.journal_parts.specs.Beginnings.{Begins}
use Rattle.journal_parts.specs.CoreStates.{CoreState}
use Rattle.journal_memory.specs.Ledgers.{LedgerState}
use Rattle.journal_parts.proofs.Between.{between_pair}
use Rattle.journal_parts.proofs.Opening.{begins, images_now, refuses_log, refuses_begin, on_ok}
use Rattle.journal_parts.proofs.open.open_parts.Goals as goal

pub begun-requires-clause-images : goal.begun-requires-clause-images
begun-requires-clause-images g c =
    let layout = g.J.Naming.layout in
    images_now layout (g.D.BlockDisk.state c.args.disk) c.in-Ok.objects.log c.admitted_by-objects.result.0.log c.in-Ok.ensures.keeps c.in-Ok.ensures.same c.in-Ok.ensures.opened
    (λ honest. c.in-Ok.ensures.images honest layout (search rules)) c.admitted_by-objects.ensures.reads

pub returns-in-Ok-begin-clause-begun : goal.returns-in-Ok-begin-clause-begun
returns-in-Ok-begin-clause-begun g c =
    let layout = g.J.Naming.layout in
    let fine = on_ok c.admitted_by-objects.result.1 true c.in-Ok-begin.ensures.admitted c.admitted_by-objects.ensures.fine in
    let size : HasSize layout (g.D.BlockDisk.state c.args.disk) = search rules in
    subst (λ (x : CoreState). Begins g.R.MapRule.statement layout (g.D.BlockDisk.state c.args.disk) x) (sym c.begun.ensures.core)
    (begins layout (g.D.BlockDisk.state c.args.disk) c.in-Ok.objects.log c.admitted_by-objects.result.0.log c.in-Ok.ensures.keeps c.in-Ok.ensures.same c.in-Ok.ensures.opened
    (λ honest. c.in-Ok.ensures.images honest layout (search rules))
    c.admitted_by-objects.ensures.reads g.R.MapRule.statement fine.1 size
    c.new-ledger.result.history (ap (λ (m : LedgerState). m.history) c.new-ledger.ensures ∙ c.in-Ok-begin.ensures.begun) c.in-Ok-begin.ensures.ruled)

pub returns-clause-refusal : goal.returns-clause-refusal
returns-clause-refusal g c =
    let layout = g.J.Naming.layout in
    let disk = g.D.BlockDisk.state c.args.disk in
    let size : HasSize layout disk = search rules in
    subst (λ (new : DiskState). IsLayoutRefusal g.R.MapRule.statement layout disk new c.in-Err-begin.refusal) (sym c.into_disk-in-Err-begin.ensures.disk)
    (refuses_begin layout disk c.in-Ok.objects.log c.admitted_by-objects.result.0.log c.in-Ok.ensures.keeps c.in-Ok.ensures.same c.in-Ok.ensures.opened
    (λ honest. c.in-Ok.ensures.images honest layout (search rules))
    c.admitted_by-objects.ensures.reads g.R.MapRule.statement size c.admitted_by-objects.result.1 c.in-Err-begin.refusal c.admitted_by-objects.ensures.refusal
    c.in-Err-begin.ensures.refusal)

pub returns-in-Err-clause-refusal : goal.returns-in-Err-clause-refusal
returns-in-Err-clause-refusal g c =
    let layout = g.J.Naming.layout in
    let old = g.D.BlockDisk.state c.args.disk in
    let new = g.D.BlockDisk.state c.in-Err.field-0.disk in
    let size : HasSize layout old = search rules in
    subst (λ (why : Refusal CauseState). IsLayoutRefusal g.R.MapRule.statement layout old new why) (sym c.raised.ensures)
    (refuses_log g.R.MapRule.statement layout old new c.in-Err.field-0.refusal size c.in-Err.ensures.refusal)

pub returns-in-Ok-begin-clause-between : goal.returns-in-Ok-begin-clause-between
returns-in-Ok-begin-clause-between g c = between_pair g.J.Naming.layout c.begun.result.1 c.begun.result.0 c.begun.ensures.pair
