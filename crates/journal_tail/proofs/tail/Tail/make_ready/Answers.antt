use Rattle.std.proofs.Common.{rules, ◌≡◌, inl, inr, length, sym, ap, subst, ◌∙◌, arith}
use Rattle.journal_world.specs.Files.{shape}
use Rattle.journal_world.specs.declared.refusal.Refusal.{Refusal}
use Rattle.journal_tail.specs.declared.writes.Places.{Places}
use Rattle.journal_tail.specs.ObjectTails.{known_updates, tail_base, IsTailWriteRefusal}
use Rattle.journal_tail.proofs.Fetched.{none_of}
use Rattle.journal_tail.proofs.Missing.{none_missing}
use Rattle.journal_tail.proofs.Exits.{if_err}
use Rattle.journal_tail.proofs.TailStaging.{tail_ready, tail_overwrites, tail_prepared}
use Rattle.journal_tail.proofs.tail.Tail.make_ready.Goals as goal

pub returns-in_err-places-clause-refusal : goal.returns-in_err-places-clause-refusal
returns-in_err-places-clause-refusal c =
    if_err c.from_residual.result _ (IsTailWriteRefusal (tail_base (shape c.args.layout.now) c.args.fetched.now c.args.self.now) c.args.writes.now) c.from_residual.ensures.1
    (λ (e : Refusal Unit) is. subst (λ (r : Refusal Unit). IsTailWriteRefusal (tail_base (shape c.args.layout.now) c.args.fetched.now c.args.self.now) c.args.writes.now r) (sym is)
    (inl (c.in_err-places.ensures.refusal c.args.fetched.now)))

pub returns-in_err-missing-clause-refusal : goal.returns-in_err-missing-clause-refusal
returns-in_err-missing-clause-refusal c =
    if_err c.from_residual-in_err-missing.result _ (IsTailWriteRefusal (tail_base (shape c.args.layout.now) c.args.fetched.now c.args.self.now) c.args.writes.now) c.from_residual-in_err-missing.ensures.1
    (λ (e : Refusal Unit) is. inr (c.in_ok-places.ensures.ok c.args.fetched.now, is ∙ c.in_err-missing.ensures.refusal))

pub returns-then-not-is_empty-clause-ok : goal.returns-then-not-is_empty-clause-ok
returns-then-not-is_empty-clause-ok c = c.in_ok-places.ensures.ok c.args.fetched.now

pub stage-requires-clause-objects : goal.stage-requires-clause-objects
stage-requires-clause-objects c = (c.in_ok-places.ensures.ok c.args.fetched.now).objects

pub stage-requires-clause-present : goal.stage-requires-clause-present
stage-requires-clause-present c =
    let none : length c.in_ok-missing.missing.items ≡ 0 = search rules in
    none_missing (shape c.args.layout.now) (known_updates c.args.fetched.now c.args.self.now) c.args.writes.now
    (sym c.in_ok-missing.ensures.blocks ∙ none_of c.in_ok-missing.missing.items none)

pub returns-in_err-updates-clause-refusal : goal.returns-in_err-updates-clause-refusal
returns-in_err-updates-clause-refusal c =
    if_err c.from_residual-in_err-updates.result _ (IsTailWriteRefusal (tail_base (shape c.args.layout.now) c.args.fetched.now c.args.self.now) c.args.writes.now) c.from_residual-in_err-updates.ensures.1
    (λ (e : Refusal Unit) is. inr (c.in_ok-places.ensures.ok c.args.fetched.now, is ∙ c.in_err-updates.ensures.refusal))

pub reserve-requires-clause-small : goal.reserve-requires-clause-small
reserve-requires-clause-small c =
    omega (arith, (c.in_ok-places.ensures.ok c.args.fetched.now).small, ap (λ (p : Places). p.fresh) (c.in_ok-places.ensures.places c.args.fetched.now))

pub reserve-requires-clause-tail : goal.reserve-requires-clause-tail
reserve-requires-clause-tail c =
    omega (arith, (c.in_ok-places.ensures.ok c.args.fetched.now).tail, ap (λ (p : Places). p.fresh) (c.in_ok-places.ensures.places c.args.fetched.now))

pub returns-in_err-reserve-clause-refusal : goal.returns-in_err-reserve-clause-refusal
returns-in_err-reserve-clause-refusal c =
    if_err c.from_residual-in_err-reserve.result _ (IsTailWriteRefusal (tail_base (shape c.args.layout.now) c.args.fetched.now c.args.self.now) c.args.writes.now) c.from_residual-in_err-reserve.ensures.1
    (λ (e : Refusal Unit) is. inr (c.in_ok-places.ensures.ok c.args.fetched.now, is ∙ c.in_err-reserve.ensures.refusal))

pub returns-clause-ready : goal.returns-clause-ready
returns-clause-ready c =
    tail_ready (shape c.args.layout.now) c.args.self.now c.reserve.new.self c.args.fetched.now c.args.writes.now c.in_ok-updates.updates.items
    c.requires c.in_ok-updates.ensures.staged c.in_ok-updates.ensures.standing
    (c.in_ok-places.ensures.ok c.args.fetched.now).objects c.in_ok-reserve.ensures.same
    c.in_ok-places.places.fresh (ap (λ (p : Places). p.fresh) (c.in_ok-places.ensures.places c.args.fetched.now)) c.in_ok-reserve.ensures.room

pub returns-clause-overwrites : goal.returns-clause-overwrites
returns-clause-overwrites c =
    let none : length c.in_ok-missing.missing.items ≡ 0 = search rules in
    let present = none_missing (shape c.args.layout.now) (known_updates c.args.fetched.now c.args.self.now) c.args.writes.now
    (sym c.in_ok-missing.ensures.blocks ∙ none_of c.in_ok-missing.missing.items none) in
    tail_overwrites (shape c.args.layout.now) c.args.self.now c.reserve.new.self c.args.fetched.now c.args.writes.now c.in_ok-updates.updates.items
    c.requires c.in_ok-updates.ensures.staged c.in_ok-updates.ensures.standing
    (c.in_ok-places.ensures.ok c.args.fetched.now).objects c.in_ok-reserve.ensures.same
    present

pub returns-clause-prepared : goal.returns-clause-prepared
returns-clause-prepared c =
    tail_prepared (shape c.args.layout.now) c.args.self.now c.reserve.new.self c.args.fetched.now c.args.writes.now c.in_ok-updates.updates.items
    c.requires c.in_ok-updates.ensures.staged c.in_ok-updates.ensures.standing
    (c.in_ok-places.ensures.ok c.args.fetched.now).objects c.in_ok-reserve.ensures.same

pub returns-clause-ok : goal.returns-clause-ok
returns-clause-ok c = c.in_ok-places.ensures.ok c.args.fetched.now
