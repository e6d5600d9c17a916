use Rattle.std.proofs.Common.{◌≡◌, ◌≤◌, ◌<◌, [], ◌∷◌, List, IsTrue, All, map, length, None, refl, sym, ap, subst, ◌∙◌, arith, rules}
use mathlib.Core.List.{IsPrefix}
use Rattle.std.proofs.lemmas.List.{length-map}
use Rattle.std.proofs.lemmas.List.Elements.{All-cons}
use Rattle.journal_world.specs.declared.refusal.Refusal.{Refusal}
use Rattle.journal_world.specs.Maps.{value_at, is_object}
use Rattle.journal_world.specs.Histories.{Entry, is_trusted, latest}
use Rattle.journal_world.proofs.Prefixes.{IsPrefix-refl}
use Rattle.journal_block.specs.declared.update.Update.{Update}
use Rattle.journal_object.proofs.MapOfBlocks.{valid_block}
use Rattle.journal_tail.proofs.Exits.{if_err}
use Rattle.journal_memory.specs.Causes.{CauseState}
use Rattle.journal_memory.specs.Outsets.{MayRead}
use Rattle.journal_tail.specs.ObjectTails.{known_at}
use Rattle.journal_memory.specs.Transactions.{AreUnmoved}
use Rattle.journal_memory.specs.Volatiles.{VolatileState, IsReadRefusal as IsRefusedIn, outset_of, usable}
use Rattle.journal_parts.specs.CoreStates.{CoreState, OnlyReads}
use Rattle.journal_core.specs.Steps.{IsReadRefusal}
use Rattle.journal_core.specs.Interleavings.{FindsValue}
use Rattle.journal_core.proofs.Events.{refuses_read, finds_in_memory}
use Rattle.journal_core.proofs.Joining.{crashes_still, crashes_seen, outset_seen}
use Rattle.journal_core.proofs.Reading.{reads_not, may_be_read}
use Rattle.journal_memory.proofs.Fetching.{all_of_map, fetched_known}
use Rattle.journal_core.proofs.state.Core.read_verified.Goals as goal

pub returns-in_err-found-clause-refusal : goal.returns-in_err-found-clause-refusal
returns-in_err-found-clause-refusal g c =
    let n = g.J.Naming.layout in
    let v = c.self.inside.volatile in
    let now = c.args.self.now in
    let t = c.args.transaction.now in
    let a = c.args.addr in
    let front : c.empty-nothing.result.front ≡ v.ledger.history = search rules in
    let begins : IsPrefix c.empty-nothing.result.front v.ledger.history = subst (λ (h : List Entry). IsPrefix h v.ledger.history) (sym front) (IsPrefix-refl v.ledger.history) in
    let refused : IsRefusedIn n v t a c.empty-nothing.result c.in_err-found.field-0.0 = search rules in
    if_err c.from_residual.result _ (IsReadRefusal n now t a now) c.from_residual.ensures.1
    (λ (e : Refusal CauseState) is. subst (λ (r : Refusal CauseState). IsReadRefusal n now t a now r) (sym is)
    (reads_not n v now t a c.empty-nothing.result c.in_err-found.field-0.0 (outset_seen n v c.self.inside.durable now c.self.invariant.pair c.self.view_is) (λ may. begins) refused))

pub returns-in_err-found-clause-crash : goal.returns-in_err-found-clause-crash
returns-in_err-found-clause-crash g c =
    crashes_still g.J.Naming.layout c.self.inside.volatile c.self.inside.durable c.args.self.now c.self.invariant.pair c.self.view_is

pub returns-in-Some-clause-crash : goal.returns-in-Some-clause-crash
returns-in-Some-clause-crash g c =
    crashes_still g.J.Naming.layout c.self.inside.volatile c.self.inside.durable c.args.self.now c.self.invariant.pair c.self.view_is

pub returns-in-Some-clause-event : goal.returns-in-Some-clause-event
returns-in-Some-clause-event g c =
    let n = g.J.Naming.layout in
    let v = c.self.inside.volatile in
    let t = c.args.transaction.now in
    let a = c.args.addr in
    let x = c.read_verified.new.into in
    let may : MayRead n (outset_of v) t a = search rules in
    let value : IsTrue (is_trusted v.ledger.history) → x ≡ value_at (latest v.ledger.history) a = search rules in
    let object : IsTrue (is_object n (a, x)) = search rules in
    subst (λ (s : CoreState). FindsValue n s t a x s) c.self.view_is (finds_in_memory n v c.self.inside.durable c.self.invariant.pair t a x may value object)

pub fetch_step-requires-clause-blocks : goal.fetch_step-requires-clause-blocks
fetch_step-requires-clause-blocks g c =
    let may : MayRead g.J.Naming.layout (outset_of c.self.inside.volatile) c.args.transaction.now c.args.addr = search rules in
    all_of_map (λ b. b < g.J.Naming.layout.blocks) c.fetch_buffer.result.items
    (subst (λ bs. All (λ b. b < g.J.Naming.layout.blocks) bs) (sym c.fetch_buffer.ensures)
    (All-cons (λ b. b < g.J.Naming.layout.blocks) c.args.addr.block [] (valid_block g.J.Naming.layout c.args.addr may.valid).1 (λ k d lt. absurd (omega (arith, lt)))))

pub returns-in_err-fetched-clause-crash : goal.returns-in_err-fetched-clause-crash
returns-in_err-fetched-clause-crash g c =
    crashes_seen g.J.Naming.layout c.self.inside.volatile c.self.inside.durable c.args.self.now c.self.invariant.pair c.self.view_is c.fetch_step.new.volatile c.fetch_step.new.durable
    c.fetch_step.ensures.pair c.fetch_step.ensures.crash

pub returns-clause-crash : goal.returns-clause-crash
returns-clause-crash g c =
    crashes_seen g.J.Naming.layout c.self.inside.volatile c.self.inside.durable c.args.self.now c.self.invariant.pair c.self.view_is c.fetch_step.new.volatile c.fetch_step.new.durable
    c.fetch_step.ensures.pair c.fetch_step.ensures.crash

pub returns-in_err-found-clause-event : goal.returns-in_err-found-clause-event
returns-in_err-found-clause-event g c =
    let reads : OnlyReads c.args.self.now.objects c.args.self.now.objects = search rules in
    refuses_read c.args.self.now c.args.self.now (returns-in_err-found-clause-crash g c) g.J.Naming.layout c.args.transaction.now c.args.addr _ c.from_residual.result _ c.from_residual.ensures.1
    (returns-in_err-found-clause-refusal g c) reads refl

pub read_verified-answer-requires-clause-unmoved : goal.read_verified-answer-requires-clause-unmoved
read_verified-answer-requires-clause-unmoved g c =
    subst (λ (v : VolatileState). AreUnmoved g.J.Naming.layout v.ledger.history c.args.transaction.now) (sym c.in_ok-fetched.ensures.volatile)
    (subst (λ (s : CoreState). AreUnmoved g.J.Naming.layout s.history c.args.transaction.now) (sym c.self.view_is) c.requires.unmoved)

pub unreachable-requires : goal.unreachable-requires
unreachable-requires g c =
    let v = c.fetch_step.new.volatile in
    let f = c.in_ok-fetched.fetched in
    let fresh : v.tail.trimmed ≤ f.commits = omega (arith, c.fetch_step.ensures.pair.tied.trimmed, c.in_ok-fetched.ensures.commits) in
    let named : map (λ (u : Update). u.block) f.updates ≡ c.args.addr.block ∷ [] = search rules in
    let none : known_at g.J.Naming.layout (usable v f) v.tail c.args.addr ≡ None = search rules in
    fetched_known g.J.Naming.layout v f c.args.addr fresh named none

pub unreachable-requires-in-Err : goal.unreachable-requires-in-Err
unreachable-requires-in-Err g c =
    let v = c.fetch_step.new.volatile in
    let f = c.in_ok-fetched.fetched in
    let may : MayRead g.J.Naming.layout (outset_of v) c.args.transaction.now c.args.addr = search rules in
    let begins : IsPrefix f.front v.ledger.history = search rules in
    may_be_read g.J.Naming.layout v c.args.transaction.now c.args.addr f c.in-Err.field-0 may begins (search rules)

pub invariant_of-self-2 : goal.invariant_of-self-2
invariant_of-self-2 g c =
    let named : map (λ (u : Update). u.block) c.in_ok-fetched.fetched.updates ≡ c.args.addr.block ∷ [] = search rules in
    let one : length c.in_ok-fetched.fetched.updates ≡ 1 = sym (length-map c.in_ok-fetched.fetched.updates (λ (u : Update). u.block)) ∙ ap length named in
    record {
      pair = c.fetch_step.ensures.pair;
      room = λ fine. ap length c.into_updates.ensures ∙ one;
    }
