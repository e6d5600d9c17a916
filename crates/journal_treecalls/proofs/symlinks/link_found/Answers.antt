use Rattle.std.proofs.Common.{sym, ◌∙◌}
use Rattle.journal_treecalls.proofs.Learned.{IfOk-like}
use Rattle.journal_treecalls.proofs.Linked.{link-kept, link-tried}
use Rattle.journal_treecalls.proofs.Learning.{none-few}
use Rattle.journal_treecalls.proofs.symlinks.link_found.Goals as goal

pub returns-in-Some-clause-links : goal.returns-in-Some-clause-links
returns-in-Some-clause-links g c = link-kept _ _ c.args.number c.args.found.now c.args.name.now c.args.wanted.now.plan c.args.wanted.now.text.now c.args.now c.link_refusal.result c.in-Some.status c.requires.first c.link_refusal.ensures c.in-Some.is

pub returns-in-None-clause-links : goal.returns-in-None-clause-links
returns-in-None-clause-links g c = IfOk-like c.link_node.result _ _ (λ reply k. link-tried _ _ _ c.args.number c.args.found.now c.args.name.now c.args.wanted.now.plan c.args.wanted.now.text.now c.args.now c.link_refusal.result reply c.link_refusal.ensures c.in-None.is k) c.link_node.ensures.links

pub link_node-requires-clause-few : goal.link_node-requires-clause-few
link_node-requires-clause-few g c = c.requires.few (sym c.link_refusal.ensures ∙ c.in-None.is)

pub returns-in-Some-clause-few : goal.returns-in-Some-clause-few
returns-in-Some-clause-few g c = none-few _ 11 c.requires.first
