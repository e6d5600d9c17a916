use Rattle.std.proofs.Common.{ℕ, ◌≡◌, ◌≤◌, ◌∷◌, ◌++◌, List, sym, ap, subst, ◌∙◌}
use Rattle.std.specs.Option.{option_to_list}
use Rattle.journal_block.specs.declared.update.Update.{Update}
use Rattle.journal_memlog.specs.Logs.{LogState}
use Rattle.journal_tail.specs.Tails.{TailState, MakesNoOther, known_blocks}
use Rattle.journal_tail.proofs.Tailing.{rises_first}
use Rattle.journal_tail.proofs.tail.Tail.drop_first_cut.Goals as goal

pub logged-requires-clause-to_cut : goal.logged-requires-clause-to_cut
logged-requires-clause-to_cut c =
    let first : c.self.inside.cuts.items ≡ c.unwrap-cut.result ∷ c.pop_front.new.self.items =
    c.pop_front.ensures.items ∙ ap (λ o. option_to_list o ++ c.pop_front.new.self.items) c.unwrap-cut.ensures in
    subst (λ (n : ℕ). n ≤ c.self.inside.memory.cut) (sym c.get.ensures)
    (rises_first c.self.inside.memory.start c.self.inside.memory.cut c.self.inside.cuts.items c.unwrap-cut.result c.pop_front.new.self.items first c.self.invariant.cuts).1

pub returns-clause-known : goal.returns-clause-known
returns-clause-known c =
    subst (λ (t : TailState). MakesNoOther (known_blocks t) (c.move_to_cache.new.cache ++ c.move_to_cache.new.memory.updates)) c.self.view_is
    (subst (λ (us : List Update). MakesNoOther (c.self.inside.cache ++ us) (c.move_to_cache.new.cache ++ c.move_to_cache.new.memory.updates))
    (ap (λ (l : LogState). l.updates) c.logged.ensures.log) c.move_to_cache.ensures.known)
