use Rattle.journal_twophase.proofs.Looking.{own_object}
use Rattle.journal_twophase.proofs.txn.Txn.own.Goals as goal

pub returns-clause-object : goal.returns-clause-object
returns-clause-object g c =
    own_object g.J.Naming.layout c.self.inside.transaction.writes c.args.addr _ c.own.ensures c.front-front.ensures.writes
