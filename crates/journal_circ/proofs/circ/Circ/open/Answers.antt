use Rattle.std.proofs.Common.{◌∙◌, sym, ap, subst, IsTrue}
use Rattle.journal_circ.specs.Log.{label_of}
use Rattle.journal_circ.specs.declared.extent.Extent.{Extent}
use Rattle.journal_circ.proofs.Opening.{opened, stand_at_rest, well_formed_by}
use Rattle.journal_circ.proofs.Steps.{ring}
use Rattle.journal_circ.proofs.circ.Circ.open.Goals as goal

pub invariant_of-result : goal.invariant_of-result
invariant_of-result g c =
    opened (g.D.BlockDisk.state c.args.disk) (g.D.BlockDisk.state c.read_headers.new.device.disk) c.in-Ok.field-0.header c.in-Ok.field-0.tags c.in-Ok.field-0.start c.in-Ok.field-0.end c.read_headers.new.device.faulted
    c.requires.in_range c.requires.settled c.read_headers.ensures.keeps c.read_headers.ensures.same c.in-Ok.ensures.header c.in-Ok.ensures.start c.in-Ok.ensures.end c.in-Ok.ensures.log (label_of c.in-Ok.field-0.start_block) c.in-Ok.ensures.label c.in-Ok.ensures.size c.in-Ok.ensures.tags
    c.is_sealed-sealed.result c.is_sealed-sealed.ensures
    c.at_rest-extent.result c.at_rest-extent.ensures

pub returns-in-Ok-clause-labels : goal.returns-in-Ok-clause-labels
returns-in-Ok-clause-labels g c = λ honest. (invariant_of-result g c).label (subst IsTrue (sym c.read_headers.ensures.keeps.honest) honest)

pub returns-in-Ok-clause-images : goal.returns-in-Ok-clause-images
returns-in-Ok-clause-images g c = λ honest.
    stand_at_rest (ring (g.D.BlockDisk.state c.read_headers.new.device.disk) c.in-Ok.field-0.header c.in-Ok.field-0.tags (label_of c.in-Ok.field-0.start_block) c.is_sealed-sealed.result c.at_rest-extent.result c.at_rest-extent.result.end c.read_headers.new.device.faulted)
    (invariant_of-result g c) (subst IsTrue (sym c.read_headers.ensures.keeps.honest) honest)
    (ap (λ (m : Extent). m.coming) c.at_rest-extent.ensures ∙ sym (ap (λ (m : Extent). m.end) c.at_rest-extent.ensures))

pub returns-in-Ok-clause-well_formed : goal.returns-in-Ok-clause-well_formed
returns-in-Ok-clause-well_formed g c = λ honest.
    well_formed_by (g.D.BlockDisk.state c.args.disk).past c.requires.in_range c.in-Ok.field-0.header c.in-Ok.field-0.start c.in-Ok.field-0.end
    (c.in-Ok.ensures.header honest) (c.in-Ok.ensures.start honest) (c.in-Ok.ensures.end honest) c.in-Ok.ensures.log
