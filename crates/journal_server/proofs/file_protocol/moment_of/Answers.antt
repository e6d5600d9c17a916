use Rattle.journal_protocol.specs.Moments.{time_of}
use Rattle.journal_server.proofs.file_protocol.moment_of.Goals as goal

pub returns-then-uses_moment : goal.returns-then-uses_moment
returns-then-uses_moment g c = record { moment = (time_of c.now.result, c.now.ensures, λ standing old new text told. told) }

pub returns : goal.returns
returns g c =
    let some = g.met.C.Clock.some_moment c.args.clock.now in
    record { moment = (some.0, some.1, c.uses_moment.ensures.timeless c.if-uses_moment.false _ some.0) }
