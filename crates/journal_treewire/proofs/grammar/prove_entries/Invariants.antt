use Rattle.std.proofs.Common.{take}
use Rattle.std.specs.List.{All}
use Rattle.journal_nfs3_wire.specs.QueryResults.{entry}
use Rattle.journal_treewire.specs.CodeViews.{line_seen}
use Rattle.journal_treewire.proofs.grammar.prove_entries.Given as goal

abbrev pub invariant-loop-line : goal.invariant-loop-line
invariant-loop-line l = All (λ x. entry.Has (line_seen x)) (take l.line-index l.lines)
