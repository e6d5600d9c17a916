use Rattle.journal_treecalls.proofs.Linked.{within-none, within-some}
use Rattle.journal_treecalls.proofs.Learning.{none-few}
use Rattle.journal_treecalls.proofs.symlinks.link_within.Goals as goal

pub returns-in-None-clause-links : goal.returns-in-None-clause-links
returns-in-None-clause-links g c = within-none _ _ _ c.args.number c.args.directory.now c.args.name.now c.args.wanted.now.plan.node c.args.wanted.now.text.now _ c.args.now c.in_ok-other_of.ensures.learns.before c.in_ok-other_of.ensures.first

pub returns-in_ok-made-in-Some-clause-links : goal.returns-in_ok-made-in-Some-clause-links
returns-in_ok-made-in-Some-clause-links g c = within-some _ _ _ _ c.args.number c.args.directory.now c.args.name.now c.args.wanted.now.plan.node c.args.wanted.now.text.now _ c.in-Some.block c.args.now _ _ c.in_ok-other_of.ensures.learns c.in-Some.is c.in_ok-made-in-Some.ensures.puts

pub returns-in-None-clause-few : goal.returns-in-None-clause-few
returns-in-None-clause-few g c = none-few _ 11 c.in_ok-other_of.ensures.first
