use Rattle.std.proofs.Common.{subst}
use Rattle.journal_treecalls.specs.Names.{HasKind}
use Rattle.journal_treecalls.proofs.Naming.{name-short}
use Rattle.journal_treecalls.proofs.Learned.{IfOk-like}
use Rattle.journal_treecalls.proofs.Retelling.{exclusive-err, exclusive-ok}
use Rattle.journal_treecalls.proofs.Learning.{none-few}
use Rattle.journal_treecalls.proofs.exclusive.create_exclusive.Goals as goal

pub create_once-requires-clause-named : goal.create_once-requires-clause-named
create_once-requires-clause-named g c = name-short c.args.name.now (subst (HasKind c.args.name.now) c.in-Ok.is c.in_ok-found.ensures.named)

pub returns-in-Ok-clause-does : goal.returns-in-Ok-clause-does
returns-in-Ok-clause-does g c = IfOk-like c.create_once.result _ _ (λ reply k. exclusive-ok _ _ _ (g.T.TreeDisk.are_sound c.create_once.new.disk) _ c.args.directory c.args.name.now c.args.caller.now c.args.verifier c.args.now _ c.in_ok-found.ensures.learns c.in-Ok.found c.in-Ok.is c.is_long.ensures c.are_words.ensures c.requires.time c.exclusive_plan-plan.result c.exclusive_plan-plan.ensures reply k) c.create_once.ensures.creates

pub returns-in-Err-clause-does : goal.returns-in-Err-clause-does
returns-in-Err-clause-does g c = exclusive-err _ _ _ (g.T.TreeDisk.are_sound c.find_name.new.disk) _ c.args.directory c.args.name.now c.args.caller.now c.args.verifier c.args.now _ c.in_ok-found.ensures.learns c.in-Err.status c.in_ok-found.ensures.first c.in-Err.is (λ V m. m)

pub returns-in-Err-clause-few : goal.returns-in-Err-clause-few
returns-in-Err-clause-few g c = none-few _ 8 c.in_ok-found.ensures.first
