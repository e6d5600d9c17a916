use Rattle.std.proofs.Common.{◌≡◌, ◌≤◌, ◌∙◌, ap}
use Rattle.journal_world.specs.Histories.{floor}
use Rattle.journal_world.specs.Histories.Entry.{stable}
use Rattle.journal_history.proofs.Exchanges.{tell_moves}
use Rattle.journal_history.proofs.front.Front.exchange_floor.Goals as goal

pub compare_exchange-found-requires : goal.compare_exchange-found-requires
compare_exchange-found-requires g c =
    let word = c.book.invariant.floor_is in
    let offer = c.plain-offer.ensures in
    let pen = c.no_pen-pen.ensures in
    let again = c.again-seen.ensures in
    let same : c.again-seen.result.book ≡ c.book.inside.floor.book = cc (word, c.book.view_is, c.self.invariant.token_is, c.self.invariant.book_is, again) in
    let covered : c.args.new ≤ floor c.again-seen.result.log = rw (ap (λ s. s.log) again, c.self.view_is) c.requires in (
      ap (λ w. w.tracked) word,
      same,
      pen.0 ∙ same,
      offer.0,
      rw (ap (λ w. w.key) word, pen.1, offer.3) (tell_moves g.R.MapRule.statement c.again-seen.result.log (stable 0) c.args.old c.args.new covered),
    )
