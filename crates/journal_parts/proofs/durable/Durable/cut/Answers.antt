use Rattle.std.proofs.Common.{rules, List, IsTrue, ◌≡◌, ◌<◌, ◌≤◌, ◌∙◌, ℕ, length, inl, inr, refl, ap, sym, subst, arith}
use Rattle.std.proofs.lemmas.Bool.{false≢true}
use mathlib.Core.List.{IsPrefix}
use Rattle.journal_world.specs.declared.refusal.Refusal.{Refusal}
use Rattle.journal_world.specs.Histories.{Entry, is_trusted, count, floor}
use Rattle.journal_memlog.specs.Logs.{tail_of}
use Rattle.journal_wal.specs.Groups.{FitsGroup, HasGroupRoom}
use Rattle.journal_objlog.proofs.Openings.{OnlyReads-refl}
use Rattle.journal_tail.proofs.Exits.{if_err}
use Rattle.journal_memory.specs.Causes.{CauseState}
use Rattle.journal_memory.specs.Updates.{HaveAllSince}
use Rattle.journal_parts.specs.Durables.{DurableState, IsRoomRefusal}
use Rattle.journal_memory.specs.Volatiles.{VolatileState, IsFrontRefusal}
use Rattle.journal_parts.specs.Pairs.{Tied, IsCutDue, IsCutRefusal}
use Rattle.journal_tail.proofs.Comparing.{below, not_below}
use Rattle.journal_parts.proofs.Enduring.{crashes_reads}
use Rattle.journal_memory.proofs.Committing.{OnErr-any}
use Rattle.journal_memory.proofs.Latest.{since_later}
use Rattle.journal_parts.proofs.Pairing.{tied_roomed, crashes_roomed, cuts_both, tied_cut}
use Rattle.journal_parts.proofs.durable.Durable.cut.Goals as goal

pub returns-in_err-front-clause-refusal : goal.returns-in_err-front-clause-refusal
returns-in_err-front-clause-refusal g c =
    if_err c.from_residual.result _ (IsCutRefusal c.args.volatile.now c.args.self.now) c.from_residual.ensures.1
    (λ (e : Refusal CauseState) is. subst (λ (r : Refusal CauseState). IsCutRefusal c.args.volatile.now c.args.self.now r) (sym is)
    (inl (inl (subst (λ (d : DurableState). IsFrontRefusal c.args.volatile.now.ledger.history d.front c.in_err-front.field-0.0) c.self.view_is c.in_err-front.ensures.refusal))))

pub returns-in_err-front-clause-crash : goal.returns-in_err-front-clause-crash
returns-in_err-front-clause-crash g c =
    crashes_reads g.J.Naming.layout _ c.args.self.now c.args.self.now c.self.invariant c.self.view_is (OnlyReads-refl c.args.self.now.objects) refl

pub returns-then-lt-clause-refusal : goal.returns-then-lt-clause-refusal
returns-then-lt-clause-refusal g c =
    let marked : c.self.inside.marked ≡ c.args.self.now.marked = ap (λ (d : DurableState). d.marked) c.self.view_is in
    let lower : c.args.self.now.marked < floor c.args.volatile.now.ledger.history =
    omega (arith, below c.self.inside.marked c.floor-floor.result c.if-lt.ensures, c.floor-floor.ensures, marked) in
    search rules

pub returns-then-lt-2-clause-only : goal.returns-then-lt-2-clause-only
returns-then-lt-2-clause-only g c = λ no due.
    let logged : c.self.inside.logged ≡ c.args.self.now.logged = ap (λ (d : DurableState). d.logged) c.self.view_is in
    omega (arith, below c.self.inside.logged c.last_cut.result c.if-lt-2.ensures, c.last_cut.ensures, logged, due.logged)

pub returns-then-lt-clause-crash : goal.returns-then-lt-clause-crash
returns-then-lt-clause-crash g c =
    crashes_reads g.J.Naming.layout _ c.args.self.now c.args.self.now c.self.invariant c.self.view_is (OnlyReads-refl c.args.self.now.objects) refl

pub returns-then-lt-2-clause-crash : goal.returns-then-lt-2-clause-crash
returns-then-lt-2-clause-crash g c =
    crashes_reads g.J.Naming.layout _ c.args.self.now c.args.self.now c.self.invariant c.self.view_is (OnlyReads-refl c.args.self.now.objects) refl

pub returns-in_err-reserve-clause-refusal : goal.returns-in_err-reserve-clause-refusal
returns-in_err-reserve-clause-refusal g c =
    if_err c.from_residual-in_err-reserve.result _ (IsCutRefusal c.args.volatile.now c.args.self.now) c.from_residual-in_err-reserve.ensures.1
    (λ (e : Refusal CauseState) is. subst (λ (r : Refusal CauseState). IsCutRefusal c.args.volatile.now c.args.self.now r) (sym is)
    (inr (inl (subst (λ (n : ℕ). IsRoomRefusal c.args.self.now n c.in_err-reserve.field-0.0)
    c.tail_len-blocks.ensures c.in_err-reserve.ensures.refusal))))

pub returns-then-not-branch-clause-only : goal.returns-then-not-branch-clause-only
returns-then-not-branch-clause-only g c = λ no due.
    let blocks : c.tail_len-blocks.result ≡ length (tail_of c.args.volatile.now.tail.log) = c.tail_len-blocks.ensures in
    false≢true (sym c.if-not-branch.true ∙ c.in_ok-reserve.ensures.fits.1 (subst (FitsGroup c.args.self.now.objects) (sym blocks) due.fits))

pub returns-in_err-group-clause-refusal : goal.returns-in_err-group-clause-refusal
returns-in_err-group-clause-refusal g c =
    let blocks : c.tail_len-blocks.result ≡ length (tail_of c.args.volatile.now.tail.log) = c.tail_len-blocks.ensures in
    let logged : c.self.inside.logged ≡ c.args.self.now.logged = ap (λ (d : DurableState). d.logged) c.self.view_is in
    let due : IsCutDue c.args.volatile.now c.args.self.now = record {
      logged = omega (arith, not_below c.self.inside.logged c.last_cut.result c.if-lt-2.ensures, c.last_cut.ensures, logged);
      fits = subst (FitsGroup c.args.self.now.objects) blocks (c.in_ok-reserve.ensures.fits.0 c.if-not-branch.false);
    } in
    if_err c.from_residual-in_err-group.result _ (IsCutRefusal c.args.volatile.now c.args.self.now) c.from_residual-in_err-group.ensures.1
    (λ (e : Refusal CauseState) is. subst (λ (r : Refusal CauseState). IsCutRefusal c.args.volatile.now c.args.self.now r) (sym is) (inr (inr (due, search rules))))

pub returns-in_err-group-clause-durable : goal.returns-in_err-group-clause-durable
returns-in_err-group-clause-durable g c = OnErr-any c.from_residual-in_err-group.result c.reserve.ensures.same

pub returns-in_err-group-clause-tied : goal.returns-in_err-group-clause-tied
returns-in_err-group-clause-tied g c = λ tied.
    subst (λ (v : VolatileState). Tied v c.reserve.new.self) (sym c.in_err-group.ensures.err)
    (tied_roomed c.args.volatile.now c.args.self.now c.reserve.new.self c.reserve.ensures.same tied)

pub take-requires-clause-room : goal.take-requires-clause-room
take-requires-clause-room g c =
    let blocks : c.tail_len-blocks.result ≡ length (tail_of c.args.volatile.now.tail.log) = c.tail_len-blocks.ensures in
    subst (HasGroupRoom c.reserve.new.self.objects) (blocks ∙ sym (ap length c.in_ok-group.ensures.group)) (c.in_ok-reserve.ensures.room c.if-not-branch.false)

pub take-requires-clause-longer : goal.take-requires-clause-longer
take-requires-clause-longer g c =
    subst (λ (h : List Entry). IsPrefix c.reserve.new.self.front h) (sym c.in_ok-front.ensures.whole)
    (subst (λ (h : List Entry). IsPrefix h c.args.volatile.now.ledger.history) (ap (λ (d : DurableState). d.front) c.self.view_is ∙ sym (ap (λ (d : DurableState). d.front) c.reserve.ensures.same))
    c.in_ok-front.ensures.begins)

pub take-requires-clause-counted : goal.take-requires-clause-counted
take-requires-clause-counted g c =
    c.commits.ensures ∙ ap (λ (v : VolatileState). count v.ledger.history) c.in_ok-group.ensures.ok ∙ sym (ap count c.in_ok-front.ensures.whole)

pub take-requires-clause-floored : goal.take-requires-clause-floored
take-requires-clause-floored g c =
    subst (λ (h : List Entry). floor h ≤ c.reserve.new.self.marked) (sym c.in_ok-front.ensures.whole)
    (subst (λ (n : ℕ). floor c.args.volatile.now.ledger.history ≤ n) (ap (λ (d : DurableState). d.marked) c.self.view_is ∙ sym (ap (λ (d : DurableState). d.marked) c.reserve.ensures.same))
    (omega (arith, not_below c.self.inside.marked c.floor-floor.result c.if-lt.ensures, c.floor-floor.ensures)))

pub take-requires-clause-all : goal.take-requires-clause-all
take-requires-clause-all g c = λ trusted.
    let history : c.in_ok-front.front ≡ c.args.volatile.now.ledger.history = c.in_ok-front.ensures.whole in
    subst (λ (h : List Entry). HaveAllSince g.J.Naming.layout h c.reserve.new.self.logged c.in_ok-group.group.items) (sym history)
    (since_later g.J.Naming.layout c.args.volatile.now.ledger.history c.args.volatile.now.ledger.cut c.reserve.new.self.logged c.in_ok-group.group.items
    (subst (λ (n : ℕ). c.args.volatile.now.ledger.cut ≤ n) (ap (λ (d : DurableState). d.logged) c.self.view_is ∙ sym (ap (λ (d : DurableState). d.logged) c.reserve.ensures.same))
    (omega (arith, not_below c.self.inside.logged c.last_cut.result c.if-lt-2.ensures, c.last_cut.ensures)))
    (c.in_ok-group.ensures.all (subst (λ (h : List Entry). IsTrue (is_trusted h)) history trusted)))

pub returns-clause-cuts : goal.returns-clause-cuts
returns-clause-cuts g c = λ done.
    let blocks : c.tail_len-blocks.result ≡ length (tail_of c.args.volatile.now.tail.log) = c.tail_len-blocks.ensures in
    let logged : c.self.inside.logged ≡ c.args.self.now.logged = ap (λ (d : DurableState). d.logged) c.self.view_is in
    let due : IsCutDue c.args.volatile.now c.args.self.now = record {
      logged = omega (arith, not_below c.self.inside.logged c.last_cut.result c.if-lt-2.ensures, c.last_cut.ensures, logged);
      fits = subst (FitsGroup c.args.self.now.objects) blocks (c.in_ok-reserve.ensures.fits.0 c.if-not-branch.false);
    } in
    cuts_both c.args.volatile.now c.cut.new.self c.args.self.now c.reserve.new.self c.take.new.self c.in_ok-front.front c.in_ok-group.group.items due
    c.in_ok-group.ensures.ok c.reserve.ensures.same c.in_ok-front.ensures.whole c.in_ok-group.ensures.group c.take.ensures.takes

pub returns-clause-tied : goal.returns-clause-tied
returns-clause-tied g c = λ tied.
    tied_cut g.J.Naming.layout c.args.volatile.now c.cut.new.self c.args.self.now c.take.new.self
    c.prove_invariant.ensures (returns-clause-cuts g c refl) c.take.ensures.flies tied

pub returns-clause-crash : goal.returns-clause-crash
returns-clause-crash g c = crashes_roomed c.args.self.now c.reserve.new.self c.take.new.self c.reserve.ensures.same c.take.ensures.crash

pub reserve-requires : goal.reserve-requires
reserve-requires g c = record { few = omega (arith, c.tail_len-blocks.ensures, c.prove_short_tail.ensures) }
