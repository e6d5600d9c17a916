use Rattle.std.proofs.Common.{◌≡◌, ◌<◌, ◌≤◌, ℕ, ap, length, arith, sym, subst, ◌∙◌}
use Rattle.journal_world.specs.Addresses.{Shape}
use Rattle.journal_lockmap.specs.Numbers.{MarksWrites, is_written}
use Rattle.journal_lockmap.proofs.Counting.{counted_none, counted_touched, counted_checked, counted_all, left_all, left_next, left_none, told_next}
use Rattle.journal_lockmap.proofs.counts.count_marked.Goals.{then-unmark, else-unmark}
use Rattle.journal_lockmap.proofs.counts.count_marked.Goals as goal

pub mark_writes-requires : goal.mark_writes-requires
mark_writes-requires g c = record {
  none = c.requires.none;
  room = c.requires.room ∙ sym (ap (λ (s : Shape). s.slots) c.requires.layout);
}

pub loop-i-init : goal.loop-i-init
loop-i-init g c = (
  counted_none g.J.Naming.layout c.args.writes.now c.args.held.now c.args.keeper.now,
  left_all g.J.Naming.layout c.args.writes.now c.args.held.now c.mark_writes.new.flags (c.mark_writes.ensures.room ∙ c.requires.room)
      (subst (λ (s : Shape). MarksWrites s c.mark_writes.new.flags c.args.writes.now) c.requires.layout c.mark_writes.ensures.marks),
)

pub unmark-requires : goal.unmark-requires
unmark-requires g c = record { in_range = subst (λ (n : ℕ). c.slot.result < n) (sym c.loop-i.invariant.1.room) c.slot.ensures.in_range }

pub loop-i-preserved : goal.loop-i-preserved
loop-i-preserved g c =
    let layout = g.J.Naming.layout in
    let slot = c.slot.result in
    let was = c.loop-i.invariant.0 in
    let below : c.loop-i.i < length c.loop-i.held = omega arith in
    let marked : c.unmark.result ≡ is_written layout c.args.writes.now slot =
    c.unmark.ensures.was
    ∙ told_next layout c.args.writes.now c.args.held.now c.loop-i.held c.args.keeper.now c.loop-i.keeper c.loop-i.i slot
    c.index-held-i.result c.loop-i.flags below c.requires.apart was c.slot.ensures.slot c.slot.ensures.in_range c.loop-i.invariant.1 in (
      elim c.if-unmark.branch [
        | then-unmark w ↦ counted_touched layout c.args.writes.now c.args.held.now c.loop-i.held c.if-unmark.held c.args.keeper.now c.loop-i.keeper c.if-unmark.keeper c.loop-i.i slot
            c.index-held-i.result w.index-held-i-then-unmark.result w.touch.new.held below c.requires.apart was
            c.slot.ensures.slot c.slot.ensures.in_range (sym marked ∙ w.if-unmark.true)
            w.touch.ensures.slots w.held-is w.touch.ensures.held (w.keeper-is ∙ w.touch.ensures.count)
        | else-unmark w ↦ counted_checked layout c.args.writes.now c.args.held.now c.loop-i.held c.if-unmark.held c.args.keeper.now c.loop-i.keeper c.if-unmark.keeper c.loop-i.i slot
            c.index-held-i.result w.index-held-i-else-unmark.result w.verify_token.new.held below c.requires.apart was
            c.slot.ensures.slot c.slot.ensures.in_range (sym marked ∙ w.if-unmark.false)
            w.held-is w.verify_token.ensures.held (w.keeper-is ∙ w.verify_token.ensures.same) w.verify_token.ensures.agrees
      ],
      left_next layout c.args.writes.now c.args.held.now c.loop-i.held c.args.keeper.now c.loop-i.keeper c.loop-i.i slot
          c.index-held-i.result c.loop-i.flags c.unmark.new.flags below c.requires.apart was c.slot.ensures.slot c.slot.ensures.in_range
          c.unmark.ensures.room c.unmark.ensures.only c.loop-i.invariant.1,
    )

pub returns-clause-counts : goal.returns-clause-counts
returns-clause-counts g c =
    counted_all g.J.Naming.layout c.args.writes.now c.loop-i.i c.args.held.now c.loop-i.held c.args.keeper.now c.loop-i.keeper (omega (arith, c.loop-i-test.false)) c.requires.covered
    c.loop-i.invariant.0

pub returns-clause-none : goal.returns-clause-none
returns-clause-none g c =
    let through : length c.args.held.now ≤ c.loop-i.i = omega (arith, c.loop-i-test.false) in
    left_none g.J.Naming.layout c.args.writes.now c.loop-i.i c.args.held.now c.loop-i.flags through c.requires.covered c.loop-i.invariant.1

pub returns-clause-room : goal.returns-clause-room
returns-clause-room g c = c.loop-i.invariant.1.room ∙ sym c.requires.room
