use Rattle.std.proofs.Common.{IsTrue, sym, ap, subst, ◌∙◌}
use Rattle.journal_circ.specs.Log.{is_sealed}
use Rattle.journal_circ.specs.Ring.{Ring}
use Rattle.journal_wal.proofs.Opening.{opened_sound, stands_now}
use Rattle.journal_wal.proofs.wal.Wal.open.Goals as goal

pub invariant_of-result : goal.invariant_of-result
invariant_of-result g c = (opened_sound c.in_ok-circ.field-0.circ c.recover.new.circ c.in-Ok.memory c.in_ok-circ.ensures.ok c.recover.ensures.disk
    c.in-Ok.ensures.memory c.in-Ok.ensures.fine c.recover.ensures.ordered c.recover.ensures.fits c.recover.ensures.small
    (λ honest. c.in_ok-circ.ensures.labels (subst IsTrue c.in_ok-circ.ensures.keeps.honest honest))
    (λ honest. c.in_ok-circ.ensures.images (subst IsTrue c.in_ok-circ.ensures.keeps.honest honest))).0

pub returns-in-Ok-clause-opened : goal.returns-in-Ok-clause-opened
returns-in-Ok-clause-opened g c = (opened_sound c.in_ok-circ.field-0.circ c.recover.new.circ c.in-Ok.memory c.in_ok-circ.ensures.ok c.recover.ensures.disk
    c.in-Ok.ensures.memory c.in-Ok.ensures.fine c.recover.ensures.ordered c.recover.ensures.fits c.recover.ensures.small
    (λ honest. c.in_ok-circ.ensures.labels (subst IsTrue c.in_ok-circ.ensures.keeps.honest honest))
    (λ honest. c.in_ok-circ.ensures.images (subst IsTrue c.in_ok-circ.ensures.keeps.honest honest))).1

pub returns-in-Ok-clause-images : goal.returns-in-Ok-clause-images
returns-in-Ok-clause-images g c = λ honest. stands_now c.in_ok-circ.field-0.circ c.recover.new.circ c.in-Ok.memory c.in_ok-circ.ensures.ok c.recover.ensures.disk
    c.in-Ok.ensures.memory c.in-Ok.ensures.fine c.recover.ensures.ordered c.recover.ensures.fits c.recover.ensures.small
    (λ honest. c.in_ok-circ.ensures.labels (subst IsTrue c.in_ok-circ.ensures.keeps.honest honest))
    (λ honest. c.in_ok-circ.ensures.images (subst IsTrue c.in_ok-circ.ensures.keeps.honest honest))
    (subst IsTrue (sym (c.recover.ensures.disk.keeps.honest ∙ c.in_ok-circ.ensures.keeps.honest)) honest)

pub returns-in-Ok-clause-form : goal.returns-in-Ok-clause-form
returns-in-Ok-clause-form g c = λ honest. ap (λ (r : Ring). r.sealed) c.recover.ensures.disk.same ∙ ap (λ (r : Ring). r.sealed) c.in_ok-circ.ensures.ok
    ∙ ap is_sealed (c.in_ok-circ.ensures.header honest)

pub returns-in-Ok-clause-label : goal.returns-in-Ok-clause-label
returns-in-Ok-clause-label g c = λ honest. ap (λ (r : Ring). r.label) c.recover.ensures.disk.same ∙ c.in_ok-circ.ensures.label honest

pub returns-in-Ok-clause-labels : goal.returns-in-Ok-clause-labels
returns-in-Ok-clause-labels g c = λ honest.
    (invariant_of-result g c).label (subst IsTrue (sym (c.recover.ensures.disk.keeps.honest ∙ c.in_ok-circ.ensures.keeps.honest)) honest)
