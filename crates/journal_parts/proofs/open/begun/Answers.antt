use Rattle.std.proofs.Common.{rules}
use Rattle.journal_parts.proofs.Opening.{pair_begun}
use Rattle.journal_parts.proofs.open.begun.Goals as goal

pub returns-clause-pair : goal.returns-clause-pair
returns-clause-pair g c =
    pair_begun g.J.Naming.layout c.args.objects.log c.front.result c.args.ledger c.args.tail _ _ c.args.tail.log.room c.requires.rest c.front.ensures.history c.requires.begun c.requires.tail
    c.new-volatile.result c.new-durable.result (search rules) (search rules) c.new-volatile.ensures c.new-durable.ensures
