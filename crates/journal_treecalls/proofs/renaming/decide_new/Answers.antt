use Rattle.std.proofs.Common.{sym, subst, ◌∙◌}
use Rattle.journal_treecalls.specs.Rooms.{HasPlaceFor, IsPlaceFor}
use Rattle.journal_treecalls.proofs.Learning.{learns-as, learns-then}
use Rattle.journal_treecalls.proofs.Learned.{IfOk-like}
use Rattle.journal_treecalls.proofs.Deciding.{new-invalid, new-own, new-full, new-into}
use Rattle.journal_treecalls.proofs.renaming.decide_new.Goals as goal

pub returns-then-branch-clause-learns : goal.returns-then-branch-clause-learns
returns-then-branch-clause-learns g c = learns-as _ _ _ _ c.in_ok-is_below.ensures.learns (λ V m t. new-invalid V c.args.way.now c.args.hit.now c.args.new_name.now _ t c.if-branch.true)

pub returns-then-is_within-clause-learns : goal.returns-then-is_within-clause-learns
returns-then-is_within-clause-learns g c = IfOk-like c.decide_own.result _ _ (λ d k. learns-then _ _ _ _ _ c.in_ok-is_below.ensures.learns k _ (λ V m t own.
    new-own V c.args.way.now c.args.hit.now c.args.new_name.now _ t c.if-branch.false d (own c.args.new_name.now (sym c.tag_of-tag.ensures)))) c.decide_own.ensures.learns

pub returns-in-None-clause-learns : goal.returns-in-None-clause-learns
returns-in-None-clause-learns g c = learns-then _ _ _ _ _ c.in_ok-is_below.ensures.learns c.in_ok-find_place.ensures.learns _ (λ V m t p. new-full V c.args.way.now c.args.hit.now c.args.new_name.now _ t c.if-branch.false (sym c.is_within.ensures ∙ c.if-is_within.false))

pub returns-in-Some-clause-learns : goal.returns-in-Some-clause-learns
returns-in-Some-clause-learns g c = learns-then _ _ _ _ _ c.in_ok-is_below.ensures.learns c.in_ok-find_place.ensures.learns _ (λ V m t p. new-into V c.args.way.now c.args.hit.now c.args.new_name.now _ t c.if-branch.false (sym c.is_within.ensures ∙ c.if-is_within.false) c.in-Some.place
    (subst (λ t. HasPlaceFor V c.args.way.now.goal.inode.head t c.in-Some.place) c.tag_of-tag.ensures (subst (IsPlaceFor V c.args.way.now.goal.inode.head c.tag_of-tag.result) c.in-Some.is p)))
