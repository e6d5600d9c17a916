use Rattle.std.specs.List.{list_any}
use Rattle.std.proofs.Common.{rules, tests, ap, ◌∙◌, List}
use Rattle.std.proofs.lemmas.Iterator.{YieldsList-from_slice}
use Rattle.std.proofs.lemmas.Iterator.Search.{any_from_yields_List}
use Rattle.journal_connections.specs.Ranges.{has}
use Rattle.journal_connections.specs.declared.range.AddressRange.{AddressRange}
use Rattle.journal_connections.proofs.allowed.AllowedAddresses.allows.Goals as goal

pub returns-in-Of : goal.returns-in-Of
returns-in-Of c = record {
  ranges = rw (c.in-Of.is)
      (any_from_yields_List (λ (range : AddressRange). has range c.args.address) _ _ c.any.result c.any.ensures.ran (YieldsList-from_slice _ c.iter.ensures.rest) (λ x b q k. search (rules, tests))
      ∙ ap (λ (ranges : List AddressRange). list_any (λ range. has range c.args.address) ranges) c.deref.ensures.value);
}
