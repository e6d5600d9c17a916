use Rattle.std.proofs.Common.{sym, ◌∙◌}
use Rattle.journal_treecalls.proofs.Learning.{learns-as}
use Rattle.journal_treecalls.proofs.Learned.{IfOk-like}
use Rattle.journal_treecalls.proofs.Deciding.{nothing-below, looked-below}
use Rattle.journal_treecalls.proofs.renaming.is_below.Goals as goal

pub returns-then-keeps_parent-clause-learns : goal.returns-then-keeps_parent-clause-learns
returns-then-keeps_parent-clause-learns g c = record { before = λ V m. m; now = λ V m. nothing-below V c.args.way.now c.args.hit.now (g.T.TreeDisk.are_sound c.args.disk.now V m) (sym c.keeps_parent.ensures ∙ c.if-keeps_parent.true) }

pub returns-clause-learns : goal.returns-clause-learns
returns-clause-learns g c = IfOk-like c.is_above.result _ _ (λ b k. learns-as _ _ _ _ k (λ V m t. looked-below V c.args.way.now c.args.hit.now b t)) c.is_above.ensures.learns
