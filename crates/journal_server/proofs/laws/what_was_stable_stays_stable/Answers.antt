use Rattle.journal_rpc.specs.Calls.{message}
use Rattle.journal_server.specs.Output.{IsReply}
use Rattle.journal_server.proofs.Telling.{all_are_replies}
use Rattle.journal_server.proofs.Staying.{replies_grow, stays_stable, stays_later}
use Rattle.journal_server.proofs.laws.what_was_stable_stays_stable.Goals as goal

pub returns-clause-grows : goal.returns-clause-grows
returns-clause-grows g c = λ version. replies_grow version (g.C.Clock.tells c.args.clock.now)

pub returns-clause-stable : goal.returns-clause-stable
returns-clause-stable g c = λ version. stays_stable version (g.C.Clock.tells c.args.clock.now)

pub returns-clause-later : goal.returns-clause-later
returns-clause-later g c = stays_later

pub returns-clause-front : goal.returns-clause-front
returns-clause-front g c = λ version verifier history. all_are_replies message (IsReply version (g.C.Clock.tells c.args.clock.now) verifier history)
