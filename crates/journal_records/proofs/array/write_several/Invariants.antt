use Rattle.std.proofs.Common.{◌≡◌, ◌++◌, take}
use Rattle.std.specs.List.{flat_map, AllByRecursion}
use Rattle.journal_records.proofs.array.write_several.Given as goal

abbrev pub invariant-loop-value : goal.invariant-loop-value
invariant-loop-value g l = (l.writer ≡ l.fn.writer ++ flat_map g.T.Element.item.spelling (take l.value-index l.values)) × AllByRecursion g.T.Element.item.Has (take l.value-index l.values)
