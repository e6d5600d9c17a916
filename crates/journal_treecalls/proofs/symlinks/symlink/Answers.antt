use Rattle.std.proofs.Common.{subst}
use Rattle.journal_treecalls.specs.Names.{HasKind}
use Rattle.journal_treecalls.proofs.Naming.{name-short}
use Rattle.journal_treecalls.proofs.Learned.{IfOk-like}
use Rattle.journal_treecalls.proofs.Linked.{few-text, symlink-err, symlink-ok}
use Rattle.journal_treecalls.proofs.Learning.{none-few}
use Rattle.journal_treecalls.proofs.symlinks.symlink.Goals as goal

pub returns-in-Ok-clause-does : goal.returns-in-Ok-clause-does
returns-in-Ok-clause-does g c = IfOk-like c.link_found.result _ _ (λ reply k. symlink-ok _ _ _ (g.T.TreeDisk.are_sound c.link_found.new.disk) _ c.args.directory c.args.name.now c.args.caller.now c.args.link.now.settings c.args.link.now.text.now c.args.now _ c.in_ok-found.ensures.learns c.in-Ok.found c.in-Ok.is c.are_asked.ensures c.are_words.ensures c.requires.time c.link_plan-plan.result reply k c.link_plan-plan.ensures) c.link_found.ensures.links

pub returns-in-Err-clause-does : goal.returns-in-Err-clause-does
returns-in-Err-clause-does g c = symlink-err _ _ _ (g.T.TreeDisk.are_sound c.find_name.new.disk) _ c.args.directory c.args.name.now c.args.caller.now c.args.link.now.settings c.args.link.now.text.now c.args.now _ c.in_ok-found.ensures.learns c.in-Err.status c.in_ok-found.ensures.first c.in-Err.is (λ V m. m)

pub link_found-requires-clause-named : goal.link_found-requires-clause-named
link_found-requires-clause-named g c = name-short c.args.name.now (subst (HasKind c.args.name.now) c.in-Ok.is c.in_ok-found.ensures.named)

pub link_found-requires-clause-few : goal.link_found-requires-clause-few
link_found-requires-clause-few g c = few-text c.args.caller.now c.args.link.now.settings c.args.link.now.text.now c.in-Ok.found.directory.head.attributes c.args.now c.in-Ok.found c.link_plan-plan.result c.link_plan-plan.ensures

pub returns-in-Err-clause-few : goal.returns-in-Err-clause-few
returns-in-Err-clause-few g c = none-few _ 11 c.in_ok-found.ensures.first
