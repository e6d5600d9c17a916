use Rattle.std.proofs.Common.{◌≡◌, List, sym, ◌∙◌, ap, subst}
use mathlib.Core.List.{IsPrefix}
use Rattle.journal_world.specs.Histories.{Entry}
use Rattle.journal_history.specs.Soundness.{MayAdd}
use Rattle.journal_history.proofs.Exchanges.{add_moves}
use Rattle.journal_history.proofs.front.Front.add_after.Goals as goal

pub compare_exchange-found-requires : goal.compare_exchange-found-requires
compare_exchange-found-requires g c =
    let head = c.book.invariant.head_is in
    let offer = c.plain-offer.ensures in
    let pen = c.no_pen-pen.ensures in
    let both = c.learn.new.self.log in
    let mine = c.self.inside.seen.log in
    let same : c.learn.new.self.book ≡ c.book.inside.head.book = cc (head, c.book.view_is, c.self.invariant.token_is, c.self.invariant.book_is, c.learn.ensures.0, c.again-both.ensures) in
    let begins : IsPrefix mine both = subst (λ (h : List Entry). IsPrefix h both) (ap (λ s. s.log) c.again-both.ensures) c.learn.ensures.2 in
    let may : MayAdd g.R.MapRule.statement mine (g.M.Plain.ask c.args.about.now) = rw c.self.view_is c.requires.may in (
      ap (λ w. w.tracked) head,
      same,
      pen.0 ∙ same,
      offer.0,
      rw (ap (λ w. w.key) head, pen.1, offer.1, offer.3, c.requires.asks)
          (add_moves g.R.MapRule.statement both mine (g.M.Plain.ask c.args.about.now) c.self.inside.len (sym c.self.invariant.counted) may begins),
    )
