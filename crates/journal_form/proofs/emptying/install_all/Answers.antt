use Rattle.std.proofs.Common.{◌<◌, ◌≤◌, ◌∙◌, ℕ, sym, ap, subst, arith, IsTrue}
use Rattle.journal_disk.specs.Images.{EveryImage}
use Rattle.journal_circ.specs.Ring.{Ring}
use Rattle.journal_form.specs.Emptying.{BringsHome, IsLogAndLabel}
use Rattle.journal_form.proofs.Steps.{none_home, one_home, same_blocks, stands_now, stays_on}
use Rattle.journal_form.proofs.emptying.install_all.Goals as goal

pub loop-position-init : goal.loop-position-init
loop-position-init g c = record {
  brought = subst (λ (q : ℕ). BringsHome c.args.circ.now q c.args.circ.now) (sym c.start-position.ensures.start) (none_home c.args.circ.now c.requires.rests);
  idle = c.requires.rests.freed;
}

pub install_update-requires-clause-from_start : goal.install_update-requires-clause-from_start
install_update-requires-clause-from_start g c =
    omega (arith, c.loop-position.auto.position, c.start-position.ensures.start, c.loop-position.invariant.brought.start)

pub install_update-requires-clause-before_end : goal.install_update-requires-clause-before_end
install_update-requires-clause-before_end g c =
    omega (arith, c.loop-position-test.true, c.end-position-end.ensures.end, c.loop-position.invariant.brought.end)

pub install_update-requires-clause-rests : goal.install_update-requires-clause-rests
install_update-requires-clause-rests g c =
    let old = c.args.circ.now in
    let r = c.loop-position.circ in
    let q = c.loop-position.position in
    let brought = c.loop-position.invariant.brought in
    let rests = c.requires.rests in
    let ge : old.extent.start ≤ q = omega (arith, c.loop-position.auto.position, c.start-position.ensures.start) in
    let le : q ≤ old.extent.end = omega (arith, c.loop-position-test.true, c.end-position-end.ensures.end) in
    let now : IsTrue r.disk.honest → EveryImage r.disk.past (IsLogAndLabel r) = λ honest.
    let was : IsTrue old.disk.honest = sym brought.keeps.honest ∙ honest in
    stands_now old r (same_blocks old r q brought ge le was) (brought.crash was) in
    record {
      freed = c.loop-position.invariant.idle;
      coming = brought.coming ∙ rests.coming ∙ sym brought.end;
      next = brought.next ∙ rests.next ∙ sym brought.end;
      fine = brought.fine;
      stands = λ honest image is. (now honest image is).0;
      labels = λ honest image is. (now honest image is).1;
    }

pub returns-in_err-state-clause-crash : goal.returns-in_err-state-clause-crash
returns-in_err-state-clause-crash g c honest =
    let old = c.args.circ.now in
    let r = c.loop-position.circ in
    let q = c.loop-position.position in
    let brought = c.loop-position.invariant.brought in
    let ge : old.extent.start ≤ q = omega (arith, c.loop-position.auto.position, c.start-position.ensures.start) in
    let le : q ≤ old.extent.end = omega (arith, c.loop-position-test.true, c.end-position-end.ensures.end) in
    stays_on old r (same_blocks old r q brought ge le honest) c.install_update.new.circ.disk.past (brought.crash honest)
    (c.in_err-state.ensures.crash (brought.keeps.honest ∙ honest))

pub loop-position-preserved : goal.loop-position-preserved
loop-position-preserved g c =
    let old = c.args.circ.now in
    let q = c.loop-position.position in
    let ge : old.extent.start ≤ q = omega (arith, c.loop-position.auto.position, c.start-position.ensures.start) in
    let lt : q < old.extent.end = omega (arith, c.loop-position-test.true, c.end-position-end.ensures.end) in
    let update = c.in_ok-state.ensures.update in record {
      brought = one_home old c.loop-position.circ c.install_update.new.circ q c.loop-position.invariant.brought ge lt
          c.in_ok-state.ensures.keeps c.in_ok-state.ensures.crash update;
      idle = ap (λ (r : Ring). r.extent.freed) update.same ∙ c.loop-position.invariant.idle ∙ sym (ap (λ (r : Ring). r.extent.start) update.same);
    }
