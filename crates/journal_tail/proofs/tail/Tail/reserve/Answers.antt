use Rattle.std.proofs.Common.{◌<◌, ◌≤◌, ◌+◌, ◌^◌, length, sym, subst}
use Rattle.journal_memlog.specs.Logs.{next_position, tail_of}
use Rattle.journal_tail.specs.Tails.{TailState}
use Rattle.journal_tail.proofs.Tailing.{takes_fresh}
use Rattle.journal_tail.proofs.tail.Tail.reserve.Goals as goal

pub returns-clause-room : goal.returns-clause-room
returns-clause-room c =
    takes_fresh c.self.inside.memory c.reserve.new.self c.args.fresh c.reserve.ensures.same
    (subst (λ (t : TailState). next_position t.log + c.args.fresh < 2 ^ 62) (sym c.self.view_is) c.requires.small)
    (subst (λ (t : TailState). length (tail_of t.log) + c.args.fresh ≤ 255) (sym c.self.view_is) c.requires.tail)
    c.reserve.result c.reserve.ensures.room
