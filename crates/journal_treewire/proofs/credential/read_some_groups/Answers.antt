use Rattle.journal_treewire.proofs.Grouping.{goes_on}
use Rattle.journal_treewire.proofs.credential.read_some_groups.Goals as goal

pub loop-at-preserved : goal.loop-at-preserved
loop-at-preserved c = goes_on c.args.own c.args.count c.loop-at.at c.args.reader.now c.loop-at.reader c.loop-at.groups c.requires c.loop-at-test.true c.loop-at.invariant c.in-Some.group c.word.new.self c.in-Some.ensures.reading
