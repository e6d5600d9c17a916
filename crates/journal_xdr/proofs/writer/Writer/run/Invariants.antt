use Rattle.std.proofs.Common.{◌≡◌, ◌++◌, take}
use Rattle.journal_xdr.specs.Lists.{run_text}
use Rattle.journal_xdr.proofs.writer.Writer.run.Given as goal

abbrev pub invariant-loop-value : goal.invariant-loop-value
invariant-loop-value g l = l.self ≡ l.fn.self ++ run_text g.E.Element.spelling (take l.value-index l.values)
