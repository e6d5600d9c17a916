use Rattle.journal_treecalls.proofs.Learned.{IfOk-like}
use Rattle.journal_treecalls.proofs.Lining.{node-kept, node-listed}
use Rattle.journal_treecalls.proofs.listing.list_node.Goals as goal

pub returns-in-Some-clause-learns : goal.returns-in-Some-clause-learns
returns-in-Some-clause-learns g c = node-kept _ c.args.caller.now c.args.number c.args.target.now c.args.cookie c.args.room c.listing_status.result c.in-Some.status c.listing_status.ensures c.in-Some.is

pub returns-in-None-clause-learns : goal.returns-in-None-clause-learns
returns-in-None-clause-learns g c = IfOk-like c.list_directory.result _ _ (λ reply k. node-listed _ _ c.args.caller.now c.args.number c.args.target.now c.args.cookie c.args.room c.listing_status.result reply c.listing_status.ensures c.in-None.is k) c.list_directory.ensures.learns
