use Rattle.std.proofs.Common.{OnOk, [], sym, subst}
use Rattle.std.proofs.lemmas.Result.{on_ok_weaker}
use Rattle.journal_world.specs.Maps.{SamePairs}
use Rattle.journal_tree.specs.declared.time.Time.{Time}
use Rattle.journal_tree.specs.declared.caller.Caller.{Caller}
use Rattle.journal_tree.specs.Op.{Call, Reply}
use Rattle.journal_treecalls.specs.Disks.{Does}
use Rattle.journal_treeobjects.specs.Effects.{pairs_of, DoesOnMaps}
use Rattle.journal_treeobjects.specs.States.{TreeState, last_first, may_be}
use Rattle.journal_treeobjects.specs.Reads.{IsAmong}
use Rattle.journal_treeobjects.proofs.Carrying.{call-carried}
use Rattle.journal_treeobjects.proofs.tree_transaction.TreeTransaction.finish.Goals as goal

pub returns-clause-calls : goal.returns-clause-calls
returns-clause-calls g c =
    subst (λ (s : TreeState). (call : Call) (caller : Caller) (now : Time) (reply : Reply) → Does (may_be s) s.writes call caller now reply
    → OnOk c.overwrite_all-outcome.result (DoesOnMaps s.cut (g.T.ObjectTransaction.reads c.overwrite_all-outcome.new.transaction) (g.T.ObjectTransaction.writes c.overwrite_all-outcome.new.transaction) call caller now reply)) c.self.view_is
    (λ call caller now reply does. on_ok_weaker c.overwrite_all-outcome.result
    (λ same. call-carried (record { cut = c.self.inside.cut; kept = c.self.inside.kept; writes = last_first c.self.inside.waiting.items [] }) _ _
    (subst (IsAmong c.self.inside.kept) (sym c.overwrite_all-outcome.ensures.same_reads) c.self.invariant.read) c.self.invariant.cut c.self.invariant.on_disk
    (subst (λ ws. SamePairs (g.T.ObjectTransaction.writes c.overwrite_all-outcome.new.transaction) (pairs_of c.self.inside.cut (last_first ws []))) c.deref.ensures.value same)
    call caller now reply does)
    c.overwrite_all-outcome.ensures.writes)

pub returns-clause-writes : goal.returns-clause-writes
returns-clause-writes g c =
    subst (λ (s : TreeState). OnOk c.overwrite_all-outcome.result (SamePairs (g.T.ObjectTransaction.writes c.overwrite_all-outcome.new.transaction) (pairs_of s.cut s.writes))) c.self.view_is
    (on_ok_weaker c.overwrite_all-outcome.result
    (subst (λ ws. SamePairs (g.T.ObjectTransaction.writes c.overwrite_all-outcome.new.transaction) (pairs_of c.self.inside.cut (last_first ws []))) c.deref.ensures.value)
    c.overwrite_all-outcome.ensures.writes)
