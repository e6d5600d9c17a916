use Rattle.std.proofs.Common.{rules}
use Rattle.std.proofs.lemmas.List.Sorted.{IsNonDecreasingBy-from_sort_by_key}
use Rattle.journal_port.specs.Answers.{name_of}
use Rattle.journal_port.proofs.counting.sorted.Goals as goal

pub returns : goal.returns
returns g c = (
  c.in_ok-counters.counters.items,
  c.in_ok-counters.ensures,
  c.in_ok-sort_by_key.ensures.permutation,
  IsNonDecreasingBy-from_sort_by_key name_of _ c.in_ok-sort_by_key.ensures.sorted (λ a r q k. search rules),
)
