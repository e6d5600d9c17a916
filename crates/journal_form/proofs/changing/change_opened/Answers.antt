use Rattle.std.proofs.Common.{◌∙◌, sym, ap, subst}
use Rattle.journal_disk.specs.Disks.{DiskState}
use Rattle.journal_circ.specs.Mending.{IsMendable}
use Rattle.journal_form.proofs.Steps.{stays_at_rest, formed}
use Rattle.journal_form.proofs.changing.change_opened.Goals as goal

pub returns-then-eq-clause-crash : goal.returns-then-eq-clause-crash
returns-then-eq-clause-crash g c honest =
    stays_at_rest c.args.opened.circ (g.D.BlockDisk.state c.into_disk.result).past c.requires.rests honest (ap (λ (d : DiskState). d.past) c.into_disk.ensures.disk)

pub returns-in-Ok-clause-crash : goal.returns-in-Ok-clause-crash
returns-in-Ok-clause-crash g c honest =
    formed c.args.opened.circ c.empty.new.circ (g.D.BlockDisk.state c.in-Ok.disk).past c.empty.ensures.keeps (c.empty.ensures.crash honest)
    c.in_default.ensures.emptied honest (c.in-Ok.ensures.crash (c.empty.ensures.keeps.honest ∙ honest))

pub returns-in-Err-put_form-clause-crash : goal.returns-in-Err-put_form-clause-crash
returns-in-Err-put_form-clause-crash g c honest =
    formed c.args.opened.circ c.empty.new.circ (g.D.BlockDisk.state c.in-Err-put_form.refused.disk).past c.empty.ensures.keeps (c.empty.ensures.crash honest)
    c.in_default.ensures.emptied honest (c.in-Err-put_form.ensures.crash (c.empty.ensures.keeps.honest ∙ honest))

pub returns-in-Err-clause-mendable : goal.returns-in-Err-clause-mendable
returns-in-Err-clause-mendable g c honest =
    subst (λ (d : DiskState). IsMendable d.past) (sym c.into_disk-in-Err.ensures.disk) (c.into_disk-in-Err.ensures.mendable (c.empty.ensures.keeps.honest ∙ honest))

pub returns-in-Err-put_form-clause-mendable : goal.returns-in-Err-put_form-clause-mendable
returns-in-Err-put_form-clause-mendable g c honest = c.in-Err-put_form.ensures.mendable (c.empty.ensures.keeps.honest ∙ honest)
