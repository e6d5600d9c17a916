use Rattle.std.proofs.Common.{take}
use Rattle.std.specs.List.{All}
use Rattle.journal_treewire.specs.CodeViews.{line_plus_seen}
use Rattle.journal_treewire.specs.Results.{entry_plus}
use Rattle.journal_treewire.proofs.grammar.prove_entries_plus.Given as goal

abbrev pub invariant-loop-line : goal.invariant-loop-line
invariant-loop-line l = All (λ x. entry_plus.Has (line_plus_seen l.disk x)) (take l.line-index l.lines)
