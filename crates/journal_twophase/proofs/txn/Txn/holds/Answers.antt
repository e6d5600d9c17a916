use Rattle.std.proofs.Common.{◌==◌, sym, ap, ◌∙◌, List, rules, tests}
use Rattle.std.proofs.lemmas.Iterator.{YieldsList-from_slice}
use Rattle.std.proofs.lemmas.Iterator.Search.{any_from_yields_List}
use Rattle.journal_lockmap.specs.Numbers.{HeldState, is_held}
use Rattle.journal_twophase.proofs.Holding.{holds-slots}
use Rattle.journal_twophase.proofs.txn.Txn.holds.Goals as goal

pub returns : goal.returns
returns g c =
    rw (← c.self.view_is)
    (any_from_yields_List (λ (h : HeldState). h.slot == c.args.slot) _ _ c.any.result c.any.ensures.ran (YieldsList-from_slice _ c.iter.ensures.rest) (λ x b q k. search (rules, tests))
    ∙ ap (λ (hs : List HeldState). is_held hs c.args.slot) c.deref.ensures.value
    ∙ sym (holds-slots c.self.inside.held.items c.args.slot))
