use Rattle.std.proofs.Common.{subst}
use Rattle.journal_treecalls.specs.Names.{HasKind}
use Rattle.journal_treecalls.proofs.Naming.{name-short}
use Rattle.journal_treecalls.proofs.Learned.{IfOk-like}
use Rattle.journal_treecalls.proofs.Made.{make-err, make-ok}
use Rattle.journal_treecalls.proofs.Learning.{none-few}
use Rattle.journal_treecalls.proofs.creation.make.Goals as goal

pub returns-in-Ok-clause-does : goal.returns-in-Ok-clause-does
returns-in-Ok-clause-does g c = IfOk-like c.make_found.result _ _ (λ reply k. make-ok _ _ _ (g.T.TreeDisk.are_sound c.make_found.new.disk) _ c.args.directory c.args.name.now c.args.caller.now c.args.wanted.settings c.args.now _ c.in_ok-found.ensures.learns c.args.wanted.by c.in-Ok.found c.in-Ok.is c.are_asked.ensures c.are_words.ensures c.requires.time c.plan_for-plan.result reply k c.plan_for-plan.ensures) c.make_found.ensures.makes

pub returns-in-Err-clause-does : goal.returns-in-Err-clause-does
returns-in-Err-clause-does g c = make-err _ _ _ (g.T.TreeDisk.are_sound c.find_name.new.disk) _ c.args.directory c.args.name.now c.args.caller.now c.args.wanted.settings c.args.now _ c.in_ok-found.ensures.learns c.args.wanted.by c.in-Err.status c.in_ok-found.ensures.first c.in-Err.is (λ V m. m)

pub make_found-requires-clause-named : goal.make_found-requires-clause-named
make_found-requires-clause-named g c = name-short c.args.name.now (subst (HasKind c.args.name.now) c.in-Ok.is c.in_ok-found.ensures.named)

pub returns-in-Err-clause-few : goal.returns-in-Err-clause-few
returns-in-Err-clause-few g c = none-few _ 8 c.in_ok-found.ensures.first
