use Rattle.std.proofs.Common.{subst}
use Rattle.journal_treecalls.specs.Targets.{Hits}
use Rattle.journal_treecalls.proofs.Learning.{learns-as, learns-then}
use Rattle.journal_treecalls.proofs.Learned.{IfOk-like}
use Rattle.journal_treecalls.proofs.Deciding.{name-missed, name-found}
use Rattle.journal_treecalls.proofs.renaming.decide.Goals as goal

pub returns-in-None-clause-learns : goal.returns-in-None-clause-learns
returns-in-None-clause-learns g c = learns-as _ _ _ _ c.in_ok-find.ensures.learns (λ V m hits. name-missed V c.args.caller.now c.args.way.now c.args.name.now c.args.new_name.now (g.T.TreeDisk.are_sound c.find.new.disk V m) (subst (Hits V c.args.way.now.source.inode.head c.args.name.now) c.in-None.is hits))

pub returns-in-Some-clause-learns : goal.returns-in-Some-clause-learns
returns-in-Some-clause-learns g c = IfOk-like c.decide_hit.result _ _ (λ d k. learns-then _ _ _ _ _ c.in_ok-find.ensures.learns k _ (λ V m hits decides. name-found V c.args.caller.now c.args.way.now c.args.name.now c.args.new_name.now (g.T.TreeDisk.are_sound c.decide_hit.new.disk V m) c.in-Some.hit d
    (subst (Hits V c.args.way.now.source.inode.head c.args.name.now) c.in-Some.is hits) decides)) c.decide_hit.ensures.learns
