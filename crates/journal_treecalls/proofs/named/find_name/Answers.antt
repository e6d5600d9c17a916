use Rattle.journal_treecalls.proofs.Learned.{IfOk-like}
use Rattle.journal_treecalls.proofs.Removed.{name-err, name-ok, kind-ok}
use Rattle.journal_treecalls.proofs.named.find_name.Goals as goal

pub returns-in-Ok-clause-learns : goal.returns-in-Ok-clause-learns
returns-in-Ok-clause-learns g c = IfOk-like c.find_in.result _ _ (λ result k. name-ok _ _ c.args.caller.now c.args.handle c.args.name.now c.args.at_dot c.args.at_dot_dot _ c.in_ok-directory.ensures.learns _ c.in-Ok.directory c.name_kind.result c.name_status-refusal.result result c.in-Ok.is c.name_kind.ensures c.name_status-refusal.ensures k) c.find_in.ensures.learns

pub returns-in-Ok-clause-named : goal.returns-in-Ok-clause-named
returns-in-Ok-clause-named g c = IfOk-like c.find_in.result _ _ (λ result k. kind-ok c.args.name.now c.name_kind.result c.args.at_dot c.args.at_dot_dot c.name_status-refusal.result c.name_kind.ensures c.name_status-refusal.ensures result k) c.find_in.ensures.named

pub returns-in-Err-clause-learns : goal.returns-in-Err-clause-learns
returns-in-Err-clause-learns g c = name-err _ _ c.args.caller.now c.args.handle c.args.name.now c.args.at_dot c.args.at_dot_dot _ c.in_ok-directory.ensures.learns c.in-Err.status c.in-Err.is
