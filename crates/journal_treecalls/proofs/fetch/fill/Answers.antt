use Rattle.journal_treecalls.proofs.Fetching.{fills-put}
use Rattle.journal_treecalls.proofs.fetch.fill.Goals as goal

pub returns : goal.returns
returns c = fills-put c.args.block.now c.args.bytes.now _ c.args.j c.args.offset c.max-from.result c.min-to.result c.requires.whole c.requires.before c.requires.after c.max-from.ensures c.min-to.ensures c.put.ensures
