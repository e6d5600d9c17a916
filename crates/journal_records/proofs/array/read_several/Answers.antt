use Rattle.std.proofs.Common.{◌≡◌, ◌+◌, ◌-◌, Vec, Global, Err, sym, subst, rules}
use Rattle.journal_records.specs.Arrays.{read_several, several}
use Rattle.journal_records.proofs.Lists.{joined, next_read, next_fault, all_read, several_none, several_some}
use Rattle.journal_records.proofs.Faults.{reads_fault}
use Rattle.journal_records.proofs.array.read_several.Goals as goal

pub returns-in_err-read : goal.returns-in_err-read
returns-in_err-read g c =
    let is : c.from_residual.result ≡ Err c.in_err-read.field-0.0 = search rules in
    rw is (reads_fault {Y = Vec g.row.T.Denot Global} g.T.Element.item (several c.args.count g.T.Element.item) (λ value. value) (λ values. values.items) c.loop.reader c.read.new.reader c.args.reader.now c.read.new.reader c.in_err-read.field-0.0 c.in_err-read.ensures
    (λ none. several_none c.args.count g.T.Element.item c.args.reader.now
    (next_fault c.loop.values.items c.args.count c.loop.counter g.T.Element.item c.args.reader.now c.loop.reader c.loop-test.true c.loop.invariant none)))

pub loop-preserved : goal.loop-preserved
loop-preserved g c =
    subst (λ xs. read_several c.args.count g.T.Element.item c.args.reader.now ≡ joined xs (read_several (c.args.count - (c.loop.counter + 1)) g.T.Element.item c.read.new.reader)) (sym c.in_ok-push.ensures.items)
    (next_read c.loop.values.items c.args.count c.loop.counter g.T.Element.item c.args.reader.now c.loop.reader c.read.new.reader c.in_ok-read.field-0 c.loop-test.true c.loop.invariant c.in_ok-read.ensures)

pub returns : goal.returns
returns g c =
    several_some c.args.count g.T.Element.item c.args.reader.now c.loop.values.items c.loop.reader
    (all_read c.loop.values.items c.args.count c.loop.counter g.T.Element.item c.args.reader.now c.loop.reader (search rules) c.loop.invariant)
