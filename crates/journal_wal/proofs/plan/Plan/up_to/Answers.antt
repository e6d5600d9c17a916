use Rattle.std.proofs.Common.{ℕ, ◌≡◌, ◌+◌, ◌-◌, suc, List, [], ◌∷◌, ◌++◌, length, take, Some, is_some, cond, refl, sym, ap, subst, ◌∙◌, arith}
use Rattle.std.specs.BTreeMap.{is_at}
use Rattle.std.specs.Ordering.{nat_cmp}
use Rattle.std.proofs.Math.Seq.{take-suc}
use Rattle.std.proofs.lemmas.List.{length-take-le}
use Rattle.std.proofs.lemmas.Option.{get_or_from_slice_get, slice_get_within}
use Rattle.journal_block.specs.declared.update.Update.{Update}
use Rattle.journal_memlog.specs.declared.bounds.Bounds.{Bounds}
use Rattle.journal_wal.specs.Wal.{planned, distinct_blocks, IsPlanOf}
use Rattle.journal_wal.specs.States.{updates_to}
use Rattle.journal_wal.proofs.Plans.{plan-none, plan-added, plan-length}
use Rattle.journal_wal.proofs.plan.Plan.up_to.Goals as goal

pub loop-position-init : goal.loop-position-init
loop-position-init c =
    let log = c.args.memory.now in
    let none : c.bounds-position.result.start - log.start ≡ 0 = omega (arith, ap (λ (b : Bounds). b.start) c.bounds-position.ensures.bounds) in
    let first : updates_to log c.bounds-position.result.start ≡ [] = (λ i. take (none i) log.updates) in
    let empty : c.new-homes.result.entries ≡ [] = c.new-homes.ensures.empty in
    subst (λ (us : List Update). IsPlanOf us log.start c.new-homes.result.entries × (length c.new-homes.result.entries ≡ distinct_blocks us)) (sym first)
    (subst (λ (es : List (ℕ × ℕ)). IsPlanOf [] log.start es × (length es ≡ 0)) (sym empty) (plan-none log.start, refl))

pub loop-position-preserved : goal.loop-position-preserved
loop-position-preserved c =
    let log = c.args.memory.now in
    let k : ℕ = c.loop-position.position - log.start in
    let u : Update = c.at.result.now in
    let found = c.at.ensures in
    let place : suc k ≡ (c.loop-position.position + 1) - log.start = omega (arith, c.loop-position.auto.position, ap (λ (b : Bounds). b.start) c.bounds-position.ensures.bounds) in
    let more : updates_to log (c.loop-position.position + 1) ≡ updates_to log c.loop-position.position ++ u ∷ [] =
    (λ i. take (sym place i) log.updates) ∙ take-suc log.updates k u (slice_get_within log.updates k u found)
    ∙ (λ i. take k log.updates ++ get_or_from_slice_get log.updates k u u found i ∷ []) in
    let width : length (updates_to log c.loop-position.position) ≡ k =
    length-take-le k log.updates (omega (arith, slice_get_within log.updates k u found)) in
    let at : c.loop-position.position ≡ log.start + length (updates_to log c.loop-position.position) =
    omega (arith, width, c.loop-position.auto.position, ap (λ (b : Bounds). b.start) c.bounds-position.ensures.bounds) in
    let plan = c.loop-position.invariant.0 in
    subst (λ (us : List Update). IsPlanOf us log.start c.insert.new.self.entries × (length c.insert.new.self.entries ≡ distinct_blocks us)) (sym more) (
      plan-added (updates_to log c.loop-position.position) u log.start c.loop-position.homes.entries c.insert.new.self.entries plan
          (λ b. c.in_ok-insert.ensures.updates.0 b ∙ (λ i. cond (is_at (nat_cmp u.block) b) (Some (at i)) (planned c.loop-position.homes.entries b)))
          c.insert.ensures.ordered,
      plan-length (updates_to log c.loop-position.position) u log.start c.loop-position.homes.entries (length c.insert.new.self.entries) plan
          c.loop-position.invariant.1
          (c.in_ok-insert.ensures.len ∙ (λ i. length c.loop-position.homes.entries + cond (is_some (c.in_ok-insert.ensures.old i)) 0 1)),
    )

pub returns-clause-plan : goal.returns-clause-plan
returns-clause-plan c =
    let log = c.args.memory.now in
    let all : c.loop-position.position ≡ c.args.upto = omega (arith, c.loop-position-test.false, c.loop-position.auto, ap (λ (b : Bounds). b.start) c.bounds-position.ensures.bounds, c.requires.from_start) in
    subst (λ (n : ℕ). IsPlanOf (updates_to log n) log.start c.loop-position.homes.entries) all c.loop-position.invariant.0

pub returns-clause-number : goal.returns-clause-number
returns-clause-number c =
    let log = c.args.memory.now in
    let all : c.loop-position.position ≡ c.args.upto = omega (arith, c.loop-position-test.false, c.loop-position.auto, ap (λ (b : Bounds). b.start) c.bounds-position.ensures.bounds, c.requires.from_start) in
    subst (λ (n : ℕ). length c.loop-position.homes.entries ≡ distinct_blocks (updates_to log n)) all c.loop-position.invariant.1
