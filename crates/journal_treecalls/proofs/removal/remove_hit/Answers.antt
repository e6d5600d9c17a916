use Rattle.journal_treecalls.proofs.Learning.{none-few}
use Rattle.journal_treecalls.proofs.Removed.{hit-kept, hit-taken}
use Rattle.journal_treecalls.proofs.removal.remove_hit.Goals as goal

pub returns-in-Some-clause-removes : goal.returns-in-Some-clause-removes
returns-in-Some-clause-removes g c = hit-kept _ _ c.args.caller.now c.args.number c.args.directory.now c.args.hit.now c.args.now c.removal_status.result c.in-Some.status c.requires.first c.removal_status.ensures c.in-Some.is

pub returns-in_ok-changed-in-None-clause-removes : goal.returns-in_ok-changed-in-None-clause-removes
returns-in_ok-changed-in-None-clause-removes g c = hit-taken _ _ _ c.args.caller.now c.args.number c.args.directory.now c.args.hit.now c.args.now c.removal_status.result _ c.removal_status.ensures c.in-None.is c.in_ok-changed-in-None.ensures.takes

pub returns-in-Some-clause-few : goal.returns-in-Some-clause-few
returns-in-Some-clause-few g c = none-few _ 4 c.requires.first
