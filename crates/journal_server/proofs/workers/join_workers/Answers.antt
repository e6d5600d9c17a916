use Rattle.std.proofs.Common.{ap, ◌∙◌, length, arith}
use Rattle.std.specs.Vec.Iter.{into_iter_items}
use Rattle.crossbeam_channel.specs.Claims.{view, IsSeatAt}
use Rattle.crossbeam_channel.specs.Ends.{sends_on, receives_on}
use Rattle.journal_server.proofs.Steps.{settled, each_below, at_some, next_promised, moved_work}
use Rattle.journal_server.proofs.workers.join_workers.Goals as goal

pub take_in-requires : goal.take_in-requires
take_in-requires g c =
    let all = c.loop-worker.invariant in
    let worker = c.in-Some-worker.worker in
    let promised = next_promised worker (into_iter_items c.loop-worker.worker-iterator) (into_iter_items c.next.new.self) (λ w. w.promise.0.now) c.args.queue.now c.in-Some-worker.ensures.steps.0 all.promised in
    (all.seat, all.some, moved_work (receives_on worker.promise.0.now) (sends_on c.args.sender.now) (λ end pass. IsSeatAt end pass) c.join.result (ap receives_on promised.0 ∙ c.requires.same) c.join.ensures)

pub loop-worker-preserved : goal.loop-worker-preserved
loop-worker-preserved g c =
    let all = c.loop-worker.invariant in
    let worker = c.in-Some-worker.worker in
    let steps = c.in-Some-worker.ensures.steps.0 in
    let part = c.in_ok-take_in.ensures.part in
    record {
      seat = c.in_ok-take_in.ensures.seat;
      parts = omega (arith, ap length steps, all.parts, part.0);
      some = omega (arith, part.0);
      put = part.1 ∙ all.put;
      taken = c.in_ok-take_in.ensures.taken all.taken;
      promised = (next_promised worker (into_iter_items c.loop-worker.worker-iterator) (into_iter_items c.next.new.self) (λ w. w.promise.0.now) c.args.queue.now steps all.promised).1;
    }

pub returns : goal.returns
returns g c =
    let all = c.loop-worker.invariant in
    (c.in-Some._count, c.in-Some.is, each_below _ (view c.args.pass).put _ (settled _ _ _ _ all.put all.taken (c.is_drained.ensures c.if-not-is_drained.false)) (at_some _ _ _ c.in-Some.is c.requires.put))
