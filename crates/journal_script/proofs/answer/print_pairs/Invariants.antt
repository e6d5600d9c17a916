use Rattle.std.proofs.Common.{take}
use Rattle.std.specs.List.{flat_map}
use Rattle.std.specs.Io.KnownBytes.{Appends}
use Rattle.journal_script.specs.Answers.{pair_text}
use Rattle.journal_script.proofs.answer.print_pairs.Given as goal

-- the pairs so far are printed
abbrev pub invariant-loop-block : goal.invariant-loop-block
invariant-loop-block g l = Appends (g.O.Write.contents l.fn.output) (g.O.Write.contents l.output) (flat_map pair_text (take l.block-index l.pairs))
