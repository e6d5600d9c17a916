use Rattle.std.proofs.Common.{length, rules, arith, ap, ◌∙◌, sym}
use Rattle.std.proofs.lemmas.List.FromFn.{fill_by_all}
use Rattle.journal_disk.specs.Disks.{Past, read_of}
use Rattle.journal_disk.proofs.Fillings.{fills_none, fills_more}
use Rattle.journal_disk.proofs.mem_disk.put_reading.Goals as goal

pub loop-block-init : goal.loop-block-init
loop-block-init c = fills_none _ _

pub returns-clause-reads : goal.returns-clause-reads
returns-clause-reads c = fill_by_all _ _ _ _ c.loop-block.invariant.size (λ k lt. c.loop-block.invariant.put k (search rules))
