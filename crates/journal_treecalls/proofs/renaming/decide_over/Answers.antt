use Rattle.std.proofs.Common.{Ok, refl, sym, subst, ◌∙◌}
use Rattle.journal_treecalls.specs.declared.renaming.Decision.TheVariants.{Goes}
use Rattle.journal_treecalls.specs.Renamings.{is_within, NeedsSecond, DecidesOver}
use Rattle.journal_treecalls.proofs.Learning.{learns-as, learns-then}
use Rattle.journal_treecalls.proofs.Deciding.{over-stays, over-invalid, over-refused, over-exists, over-goes}
use Rattle.journal_treecalls.proofs.renaming.decide_over.Goals as goal

pub returns-then-over-hit-clause-learns : goal.returns-then-over-hit-clause-learns
returns-then-over-hit-clause-learns g c = record { before = λ V m. m; now = λ V m. over-stays V c.args.way.now c.args.hit.now c.args.caller.now c.args.new_name.now c.args.over.now (g.T.TreeDisk.are_sound c.args.disk.now V m) c.if-over-hit.true }

pub returns-then-branch-clause-learns : goal.returns-then-branch-clause-learns
returns-then-branch-clause-learns g c = learns-as _ _ _ _ c.in_ok-is_below.ensures.learns (λ V m t. over-invalid V c.args.way.now c.args.hit.now c.args.caller.now c.args.new_name.now c.args.over.now c.if-over-hit.false _ t c.if-branch.true)

pub returns-then-not-may_take-clause-learns : goal.returns-then-not-may_take-clause-learns
returns-then-not-may_take-clause-learns g c = learns-as _ _ _ _ c.in_ok-is_below.ensures.learns (λ V m t. over-refused V c.args.way.now c.args.hit.now c.args.caller.now c.args.new_name.now c.args.over.now c.if-over-hit.false _ t c.if-branch.false (sym c.may_take.ensures ∙ c.if-not-may_take.true))

pub returns-then-not-branch-clause-learns : goal.returns-then-not-branch-clause-learns
returns-then-not-branch-clause-learns g c = learns-then _ _ _ _ _ c.in_ok-is_below.ensures.learns c.in_ok-may_replace.ensures.learns _ (λ V m t r. over-exists V c.args.way.now c.args.hit.now c.args.caller.now c.args.new_name.now c.args.over.now c.if-over-hit.false _ t c.if-branch.false (sym c.may_take.ensures ∙ c.if-not-may_take.false) (g.T.TreeDisk.are_sound c.may_replace.new.disk V m) _ r c.if-not-branch.true)

pub returns-clause-learns : goal.returns-clause-learns
returns-clause-learns g c = learns-then _ _ _ _ _ c.in_ok-is_below.ensures.learns c.in_ok-may_replace.ensures.learns _ (λ V m t r. subst (λ d. DecidesOver V c.args.caller.now c.args.way.now c.args.hit.now c.args.new_name.now c.args.over.now (Ok (Goes c.args.hit.now d))) (sym c.onto.ensures)
    (over-goes V c.args.way.now c.args.hit.now c.args.caller.now c.args.new_name.now c.args.over.now c.if-over-hit.false _ t c.if-branch.false (sym c.may_take.ensures ∙ c.if-not-may_take.false) (g.T.TreeDisk.are_sound c.may_replace.new.disk V m) _ r c.if-not-branch.false c.needs_second-needs.result (subst (λ t. NeedsSecond t c.args.hit.now c.needs_second-needs.result) c.tag_of.ensures c.needs_second-needs.ensures) (is_within c.args.way.now) refl))
