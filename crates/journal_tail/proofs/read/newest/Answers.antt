use Rattle.std.proofs.Common.{[], ◌∷◌, refl, sym, ap, ◌∙◌}
use Rattle.std.specs.Slice.Iter.{iter_rest}
use Rattle.std.specs.Iterator.Adapters.{rev_source}
use Rattle.std.proofs.lemmas.List.{append-nil}
use Rattle.journal_tail.proofs.Fetched.{last_named, last_bytes, passed, none_named}
use Rattle.journal_tail.proofs.read.newest.Goals as goal

pub loop-update-init : goal.loop-update-init
loop-update-init c = (
  [],
  (
    sym (ap (λ s. iter_rest (rev_source s)) c.into_iter-update-iterator.ensures.into_iter_gives ∙ ap iter_rest c.rev-update-items.ensures.source ∙ c.iter.ensures.rest)
        ∙ sym (append-nil (iter_rest (rev_source c.into_iter-update-iterator.result))),
    refl,
  ),
)

pub returns-then-update-block-clause-found : goal.returns-then-update-block-clause-found
returns-then-update-block-clause-found c = sym (last_named c.args.updates.now (iter_rest (rev_source c.loop-update.update-iterator)) c.loop-update.invariant.0 c.args.block
    c.loop-update.invariant.1.0 c.loop-update.invariant.1.1 (iter_rest (rev_source c.next.new.self)) c.in-Some.update.now c.in-Some.ensures.steps c.if-update-block.true)

pub returns-then-update-block-clause-content : goal.returns-then-update-block-clause-content
returns-then-update-block-clause-content c = last_bytes c.args.updates.now (iter_rest (rev_source c.loop-update.update-iterator)) c.loop-update.invariant.0 c.args.block
    c.loop-update.invariant.1.0 c.loop-update.invariant.1.1 (iter_rest (rev_source c.next.new.self)) c.in-Some.update.now c.in-Some.ensures.steps c.if-update-block.true

pub loop-update-preserved : goal.loop-update-preserved
loop-update-preserved c = (
  c.in-Some.update.now ∷ c.loop-update.invariant.0,
  passed c.args.updates.now (iter_rest (rev_source c.loop-update.update-iterator)) c.loop-update.invariant.0 c.args.block
      c.loop-update.invariant.1.0 c.loop-update.invariant.1.1 (iter_rest (rev_source c.next.new.self)) c.in-Some.update.now c.in-Some.ensures.steps c.if-update-block.false,
)

pub returns-clause-found : goal.returns-clause-found
returns-clause-found c = sym (none_named c.args.updates.now (iter_rest (rev_source c.loop-update.update-iterator)) c.loop-update.invariant.0 c.args.block
    c.loop-update.invariant.1.0 c.loop-update.invariant.1.1 c.in-None.ensures.steps.0)
