use Rattle.std.proofs.Common.{ap, ◌∙◌, rules, arith}
use Rattle.journal_disk.specs.Records.{Recorded}
use Rattle.journal_disk.proofs.Links.{walk_start, walk_found, walk_more, earlier_falls, is_write_at, read_at}
use Rattle.journal_disk.proofs.events.Record.chosen.Goals as goal

pub loop-place-init : goal.loop-place-init
loop-place-init c =
    walk_start c.args.block c.args.number c.self.invariant (ap (λ (r : Recorded). r.events) c.self.view_is) (search rules) c.index-place.ensures

pub write_at-write-requires : goal.write_at-write-requires
write_at-write-requires c = rw c.deref.ensures.value (is_write_at c.loop-place.invariant.of (omega arith))

pub returns-then-write-number : goal.returns-then-write-number
returns-then-write-number c =
    walk_found c.self.invariant c.loop-place.invariant c.loop-place-test.true (rw c.deref.ensures.value at c.write_at-write.ensures) c.if-write-number.true

pub loop-place-smaller : goal.loop-place-smaller
loop-place-smaller c =
    earlier_falls c.self.invariant c.loop-place.invariant c.loop-place-test.true (rw c.deref.ensures.value at c.write_at-write.ensures)

pub loop-place-preserved : goal.loop-place-preserved
loop-place-preserved c =
    walk_more c.self.invariant c.loop-place.invariant c.loop-place-test.true (rw c.deref.ensures.value at c.write_at-write.ensures) c.if-write-number.false

pub bytes_at-requires : goal.bytes_at-requires
bytes_at-requires c = λ lt. rw c.deref-2.ensures.value (is_write_at c.loop-place.invariant.of lt)

pub returns : goal.returns
returns c = λ first. c.loop-place.invariant.stable c.loop-place-test.false first
    ∙ read_at _ c.loop-place.invariant.of c.bytes_at.ensures.none (rw c.deref-2.ensures.value at c.bytes_at.ensures.some) first
