use Rattle.std.proofs.Common.{Global, ◌≡◌, List, sym, ap, ◌∙◌, subst, arith}
use Rattle.std.proofs.lemmas.List.{nil_from_length}
use Rattle.std.specs.Vec.Iter.{into_iter_items, into_iter_len}
use Rattle.std.specs.declared.vec.IntoIter.{IntoIter}
use Rattle.journal_block.specs.declared.update.Update.{Update}
use Rattle.journal_block.specs.Updates.{updated}
use Rattle.journal_memlog.specs.Logs.{LogState, next_position, CanTake, appended}
use Rattle.journal_memlog.specs.Laws.{updated-appended, next_of-taken_le}
use Rattle.journal_memlog.proofs.Absorbing.{can_take_one, can_take_rest, appended_more, appended_none}
use Rattle.journal_memlog.proofs.mem_log.MemLog.append.Goals as goal

pub absorb-requires : goal.absorb-requires
absorb-requires c =
    let able = subst (CanTake c.loop-update.self) c.in-Some.ensures.steps.0 c.loop-update.invariant.1 in
    can_take_one c.loop-update.self c.in-Some.update _ c.loop-update.invariant.0 able

pub loop-update-preserved : goal.loop-update-preserved
loop-update-preserved c =
    let log = c.loop-update.self in
    let u = c.in-Some.update in
    let left = into_iter_items c.next-in-loop-update.new.self in
    let sound = c.loop-update.invariant.0 in
    let able = subst (CanTake log) c.in-Some.ensures.steps.0 c.loop-update.invariant.1 in (
      c.absorb.ensures.sound,
      subst (λ (l : LogState). CanTake l left) (sym c.absorb.ensures.log) (can_take_rest log u left sound able),
      ap (λ (l : LogState). appended l left) c.absorb.ensures.log
          ∙ appended_more log u left sound able
          ∙ ap (appended log) (sym c.in-Some.ensures.steps.0)
          ∙ c.loop-update.invariant.2,
    )

-- all updates are in the log once none is left
whole : (log old : LogState) (left : IntoIter Update Global) (all : List Update) → into_iter_len left ≡ 0
    → appended log (into_iter_items left) ≡ appended old all → log ≡ appended old all
whole log old left all none same = sym (appended_none log)
    ∙ ap (appended log) (sym (nil_from_length (into_iter_items left) (omega (arith, none, left.rest.ok.0))))
    ∙ same

pub returns-clause-content : goal.returns-clause-content
returns-clause-content c = λ b before.
    ap (λ (l : LogState). updated l.updates b before)
    (whole c.loop-update.self c.args.self.now c.loop-update.update-iterator c.args.updates.items c.in-None.ensures.steps.0 c.loop-update.invariant.2)
    ∙ updated-appended c.args.self.now c.args.updates.items b before

pub returns-clause-room : goal.returns-clause-room
returns-clause-room c =
    omega (
      arith,
      next_of-taken_le c.args.self.now c.args.updates.items c.requires,
      ap next_position
          (whole c.loop-update.self c.args.self.now c.loop-update.update-iterator c.args.updates.items c.in-None.ensures.steps.0 c.loop-update.invariant.2),
    )
