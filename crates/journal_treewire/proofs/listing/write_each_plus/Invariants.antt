use Rattle.std.proofs.Common.{◌≡◌, ◌++◌, take}
use Rattle.std.specs.Prelude.{flat_map}
use Rattle.journal_treewire.specs.CodeViews.{line_plus_text}
use Rattle.journal_treewire.proofs.listing.write_each_plus.Given as goal

abbrev pub invariant-loop-line : goal.invariant-loop-line
invariant-loop-line l = l.writer ≡ l.fn.writer ++ flat_map (line_plus_text l.disk) (take l.line-index l.lines)
