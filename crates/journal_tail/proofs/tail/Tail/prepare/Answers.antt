use Rattle.std.proofs.Common.{inr, ◌∙◌}
use Rattle.journal_world.specs.Files.{shape}
use Rattle.journal_world.specs.declared.refusal.Refusal.{Refusal}
use Rattle.journal_tail.specs.ObjectTails.{tail_base, IsTailWriteRefusal}
use Rattle.journal_tail.proofs.Exits.{if_err}
use Rattle.journal_tail.proofs.TailStaging.{tail_ready, tail_overwrites, tail_prepared, stand_places, stand_can, stand_staged, stand_present}
use Rattle.journal_tail.proofs.tail.Tail.prepare.Goals as goal

pub returns-in_err-reserve-clause-refusal : goal.returns-in_err-reserve-clause-refusal
returns-in_err-reserve-clause-refusal c =
    let layout = shape c.args.layout.now in
    let stand = c.are_in_tail.ensures.sure c.if-not-are_in_tail.false in
    let can = stand_can layout c.args.self.now c.args.fetched.now c.args.writes.now stand c.are_in_tail.ensures.sound c.are_in_tail.ensures.few in
    if_err c.from_residual.result _ (IsTailWriteRefusal (tail_base layout c.args.fetched.now c.args.self.now) c.args.writes.now) c.from_residual.ensures.1
    (λ (e : Refusal Unit) is. inr (can, is ∙ c.in_err-reserve.ensures.refusal))

pub returns-clause-ready : goal.returns-clause-ready
returns-clause-ready c =
    let layout = shape c.args.layout.now in
    let stand = c.are_in_tail.ensures.sure c.if-not-are_in_tail.false in
    tail_ready layout c.args.self.now c.reserve.new.self c.args.fetched.now c.args.writes.now c.new.result.items c.requires
    (stand_staged layout c.args.self.now c.args.fetched.now c.args.writes.now stand c.new.result.items c.new.ensures.items) stand.whole
    stand.objects c.in_ok-reserve.ensures.same
    0 (stand_places layout c.args.self.now c.args.fetched.now c.args.writes.now stand) c.in_ok-reserve.ensures.room

pub returns-clause-prepared : goal.returns-clause-prepared
returns-clause-prepared c =
    let layout = shape c.args.layout.now in
    let stand = c.are_in_tail.ensures.sure c.if-not-are_in_tail.false in
    tail_prepared layout c.args.self.now c.reserve.new.self c.args.fetched.now c.args.writes.now c.new.result.items c.requires
    (stand_staged layout c.args.self.now c.args.fetched.now c.args.writes.now stand c.new.result.items c.new.ensures.items) stand.whole
    stand.objects c.in_ok-reserve.ensures.same

pub returns-clause-overwrites : goal.returns-clause-overwrites
returns-clause-overwrites c =
    let layout = shape c.args.layout.now in
    let stand = c.are_in_tail.ensures.sure c.if-not-are_in_tail.false in
    tail_overwrites layout c.args.self.now c.reserve.new.self c.args.fetched.now c.args.writes.now c.new.result.items c.requires
    (stand_staged layout c.args.self.now c.args.fetched.now c.args.writes.now stand c.new.result.items c.new.ensures.items) stand.whole
    stand.objects c.in_ok-reserve.ensures.same
    (stand_present layout c.args.self.now c.args.fetched.now c.args.writes.now stand)

pub returns-clause-ok : goal.returns-clause-ok
returns-clause-ok c =
    let stand = c.are_in_tail.ensures.sure c.if-not-are_in_tail.false in
    stand_can (shape c.args.layout.now) c.args.self.now c.args.fetched.now c.args.writes.now stand c.are_in_tail.ensures.sound c.are_in_tail.ensures.few
