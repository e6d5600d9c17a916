use Rattle.std.proofs.Common.{sym, subst, ◌∙◌}
use Rattle.journal_treecalls.specs.Targets.{Hits}
use Rattle.journal_treecalls.proofs.Learning.{learns-then}
use Rattle.journal_treecalls.proofs.Learned.{IfOk-like}
use Rattle.journal_treecalls.proofs.Deciding.{hit-refused, hit-new, hit-over}
use Rattle.journal_treecalls.proofs.renaming.decide_hit.Goals as goal

pub returns-then-not-may_go-clause-learns : goal.returns-then-not-may_go-clause-learns
returns-then-not-may_go-clause-learns g c = record { before = λ V m. m; now = λ V m. hit-refused V c.args.way.now c.args.hit.now c.args.caller.now c.args.new_name.now (g.T.TreeDisk.are_sound c.args.disk.now V m) (sym c.may_go.ensures ∙ c.if-not-may_go.true) }

pub returns-in-None-clause-learns : goal.returns-in-None-clause-learns
returns-in-None-clause-learns g c = IfOk-like c.decide_new.result _ _ (λ d k. learns-then _ _ _ _ _ c.in_ok-find.ensures.learns k _ (λ V m hits new. hit-new V c.args.way.now c.args.hit.now c.args.caller.now c.args.new_name.now (g.T.TreeDisk.are_sound c.decide_new.new.disk V m) (sym c.may_go.ensures ∙ c.if-not-may_go.false) d
    (subst (Hits V c.args.way.now.goal.inode.head c.args.new_name.now) c.in-None.is hits) new)) c.decide_new.ensures.learns

pub returns-in-Some-clause-learns : goal.returns-in-Some-clause-learns
returns-in-Some-clause-learns g c = IfOk-like c.decide_over.result _ _ (λ d k. learns-then _ _ _ _ _ c.in_ok-find.ensures.learns k _ (λ V m hits over. hit-over V c.args.way.now c.args.hit.now c.args.caller.now c.args.new_name.now (g.T.TreeDisk.are_sound c.decide_over.new.disk V m) (sym c.may_go.ensures ∙ c.if-not-may_go.false) d c.in-Some.over
    (subst (Hits V c.args.way.now.goal.inode.head c.args.new_name.now) c.in-Some.is hits) over)) c.decide_over.ensures.learns
