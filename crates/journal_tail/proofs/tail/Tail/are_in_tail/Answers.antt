use Rattle.std.proofs.Common.{◌≡◌, true, ◌∙◌}
use Rattle.journal_world.specs.Files.{shape}
use Rattle.journal_world.specs.Maps.{Pair}
use Rattle.journal_memlog.specs.Logs.{tail_of}
use Rattle.journal_tail.proofs.Passing.{passing_begins, passing_more, passing_ends}
use Rattle.journal_tail.proofs.tail.Tail.are_in_tail.Goals as goal

pub loop-addr-init : goal.loop-addr-init
loop-addr-init c =
    passing_begins (shape c.args.layout.now) (tail_of c.args.self.now.log) c.args.writes.now c.into_iter-addr-iterator.result
    (c.into_iter-addr-iterator.ensures.into_iter_gives ∙ c.iter-addr-items.ensures.pairs)

pub loop-addr-preserved : goal.loop-addr-preserved
loop-addr-preserved c =
    let p : Pair = (c.in-Some.addr.now, c.in-Some.value.now) in
    let is : c.is_object_in_tail.result ≡ true = c.if-not-is_object_in_tail.false in
    passing_more (shape c.args.layout.now) (tail_of c.args.self.now.log) c.args.writes.now c.loop-addr.addr-iterator c.next.new.self p c.loop-addr.passed
    c.in-Some.ensures.steps c.loop-addr.invariant c.if-passed-eq-MAX_UPDATES.false (c.is_object_in_tail.ensures.object is)
    (c.is_object_in_tail.ensures.stands is, c.is_object_in_tail.ensures.value is)

pub returns-clause-sure : goal.returns-clause-sure
returns-clause-sure c = λ _.
    passing_ends (shape c.args.layout.now) (tail_of c.args.self.now.log) c.args.writes.now c.loop-addr.addr-iterator c.loop-addr.passed
    c.in-None.ensures.steps.0 c.loop-addr.invariant
