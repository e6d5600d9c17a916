use Rattle.std.proofs.Common.{◌<◌, ◌∙◌, refl, sym, subst, arith, Result, Ok, Err}
use Rattle.std.specs.Prelude.{MatchResult}
use Rattle.journal_disk.specs.Disks.{Past}
use Rattle.journal_disk.specs.Laws.{leaves_none}
use Rattle.journal_circ.specs.StandsFor.{StandsFor}
use Rattle.journal_circ.specs.Mending.{IsMendable}
use Rattle.journal_circ.specs.MendingLaws.{settled_mendable}
use Rattle.journal_form.specs.Forms.{HoldsThroughout, HoldsLabelThroughout}
use Rattle.journal_form.specs.Emptying.{StaysThroughout}
use Rattle.journal_form.proofs.Steps.{holds_by, keeps_by, keeps_settled}
use Rattle.journal_form.proofs.changing.change_form.Goals as goal

pub returns-in_default-clause-crash : goal.returns-in_default-clause-crash
returns-in_default-clause-crash g c honest blocks all =
    let p = (g.D.BlockDisk.state c.args.disk).past in leaves_none p p (StandsFor p.size blocks) refl all

pub returns-clause-crash : goal.returns-clause-crash
returns-clause-crash g c honest blocks all =
    let p = (g.D.BlockDisk.state c.args.disk).past in
    leaves_none p (g.D.BlockDisk.state c.in-Err.refused.disk).past (StandsFor p.size blocks) (c.in-Err.ensures.same honest) all

match_more : {A E : Type 0} (result : Result A E) (P P2 : A → Type 0) (Q Q2 : E → Type 0) → ((a : A) → P a → P2 a) → ((e : E) → Q e → Q2 e)
    → MatchResult result P Q → MatchResult result P2 Q2
match_more (Ok a) P P2 Q Q2 ok err it = ok a it
match_more (Err e) P P2 Q Q2 ok err it = err e it

pub returns-in-Ok-open-clause-crash : goal.returns-in-Ok-open-clause-crash
returns-in-Ok-open-clause-crash g c honest =
    let p = (g.D.BlockDisk.state c.args.disk).past in
    let circ = c.in-Ok-open.opened.circ in
    let holds : (new : Past) → StaysThroughout circ new → HoldsThroughout p new = λ new stays.
    subst (λ (q : Past). HoldsThroughout q new) (c.in-Ok-open.ensures.same honest)
    (holds_by circ (c.in-Ok-open.ensures.images honest) new stays) in
    match_more c.change_opened.result _ _ _ _
    (λ changed. holds (g.D.BlockDisk.state changed.disk).past)
    (λ refused. holds (g.D.BlockDisk.state refused.disk).past)
    (c.change_opened.ensures.crash (c.in-Ok-open.ensures.keeps.honest ∙ honest))

pub returns-in_default-clause-label : goal.returns-in_default-clause-label
returns-in_default-clause-label g c honest =
    let p = (g.D.BlockDisk.state c.args.disk).past in
    keeps_settled p p (c.requires.settled honest) (omega (arith, c.requires.in_range)) refl

pub returns-clause-label : goal.returns-clause-label
returns-clause-label g c honest =
    let p = (g.D.BlockDisk.state c.args.disk).past in
    keeps_settled p (g.D.BlockDisk.state c.in-Err.refused.disk).past (c.requires.settled honest) (omega (arith, c.requires.in_range)) (c.in-Err.ensures.same honest)

pub returns-in-Ok-open-clause-label : goal.returns-in-Ok-open-clause-label
returns-in-Ok-open-clause-label g c honest =
    let p = (g.D.BlockDisk.state c.args.disk).past in
    let circ = c.in-Ok-open.opened.circ in
    let keeps : (new : Past) → StaysThroughout circ new → HoldsLabelThroughout p new = λ new.
    keeps_by p new circ (c.in-Ok-open.ensures.same honest) (c.in-Ok-open.ensures.label honest) in
    match_more c.change_opened.result _ _ _ _
    (λ changed. keeps (g.D.BlockDisk.state changed.disk).past)
    (λ refused. keeps (g.D.BlockDisk.state refused.disk).past)
    (c.change_opened.ensures.crash (c.in-Ok-open.ensures.keeps.honest ∙ honest))

pub returns-in_default-clause-mendable : goal.returns-in_default-clause-mendable
returns-in_default-clause-mendable g c honest = settled_mendable (g.D.BlockDisk.state c.args.disk).past (c.requires.settled honest)

pub returns-clause-mendable : goal.returns-clause-mendable
returns-clause-mendable g c honest =
    subst IsMendable (sym (c.in-Err.ensures.same honest)) (settled_mendable (g.D.BlockDisk.state c.args.disk).past (c.requires.settled honest))

pub returns-in-Ok-open-clause-mendable : goal.returns-in-Ok-open-clause-mendable
returns-in-Ok-open-clause-mendable g c honest = c.change_opened.ensures.mendable (c.in-Ok-open.ensures.keeps.honest ∙ honest)
