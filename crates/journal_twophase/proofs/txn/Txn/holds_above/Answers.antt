use Rattle.std.proofs.Common.{nat_lt, sym, ap, ◌∙◌, List, rules, tests}
use Rattle.std.specs.List.{list_any}
use Rattle.std.proofs.lemmas.Iterator.{YieldsList-from_slice}
use Rattle.std.proofs.lemmas.Iterator.Search.{any_from_yields_List}
use Rattle.journal_lockmap.specs.Numbers.{HeldState}
use Rattle.journal_twophase.proofs.Holding.{holds_above-slots}
use Rattle.journal_twophase.proofs.txn.Txn.holds_above.Goals as goal

pub returns : goal.returns
returns g c =
    rw (← c.self.view_is)
    (any_from_yields_List (λ (h : HeldState). nat_lt c.args.slot h.slot) _ _ c.any.result c.any.ensures.ran (YieldsList-from_slice _ c.iter.ensures.rest) (λ x b q k. search (rules, tests))
    ∙ ap (λ (hs : List HeldState). list_any (λ (h : HeldState). nat_lt c.args.slot h.slot) hs) c.deref.ensures.value
    ∙ sym (holds_above-slots c.self.inside.held.items c.args.slot))
