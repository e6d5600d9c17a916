use Rattle.std.proofs.Common.{◌≡◌, ◌-◌, [], ◌∷◌, ◌++◌, false, deque_len, deque_capacity, sym, ap, ◌∙◌, subst, rules, arith, List}
use Rattle.std.proofs.lemmas.List.{map-append, map-set}
use Rattle.journal_block.specs.declared.update.Update.{Update}
use Rattle.journal_block.specs.Updates.{updates_block}
use Rattle.journal_memlog.specs.declared.entry.Entry.{Entry}
use Rattle.journal_memlog.specs.Logs.{LogState, appended, CanTake}
use Rattle.journal_memlog.specs.Buckets.{updates_from, IsLastOf}
use Rattle.journal_memlog.specs.Index.{updates_of, state_of_fields}
use Rattle.journal_memlog.proofs.Tails.{appended_fresh}
use Rattle.journal_memlog.proofs.Entries.{indexed_added, appended_there, indexed_there, sound_fresh}
use Rattle.journal_memlog.proofs.mem_log.MemLog.absorb.Goals as goal

-- In the place of the update of its block

pub invariant_of-self : goal.invariant_of-self
invariant_of-self c =
    let last = subst (λ (log : LogState). IsLastOf log c.args.update.block c.self.inside.cut c.in-Some.position) (sym c.self.view_is) c.in-Some.ensures.last in
    let can = subst (λ (log : LogState). CanTake log (c.args.update ∷ [])) (sym c.self.view_is) c.requires in
    indexed_there _ _ _ _ _ c.self.inside.entries.items c.self.inside.heads.items c.self.invariant c.args.update c.in-Some.position last
    c.index_mut.result.now c.index_mut.ensures.value can

pub returns-in-Some-clause-log : goal.returns-in-Some-clause-log
returns-in-Some-clause-log c =
    let last = subst (λ (log : LogState). IsLastOf log c.args.update.block c.self.inside.cut c.in-Some.position) (sym c.self.view_is) c.in-Some.ensures.last in
    let log = state_of_fields c.self.inside.blocks c.self.inside.start c.self.inside.logged c.self.inside.cut c.self.inside.entries.items
    (deque_capacity c.self.inside.entries - deque_len c.self.inside.entries) in
    ap (λ (us : List Update). record log { updates = us })
    (map-set (λ (e : Entry). e.update) c.self.inside.entries.items (c.in-Some.position - c.self.inside.start) (record { update = c.args.update; earlier = c.index_mut.result.now.earlier }))
    ∙ sym (appended_there _ _ _ _ _ c.self.inside.entries.items c.self.inside.heads.items c.self.invariant c.args.update c.in-Some.position last)
    ∙ ap (λ (l : LogState). appended l (c.args.update ∷ [])) c.self.view_is

pub returns-in-Some-clause-sound : goal.returns-in-Some-clause-sound
returns-in-Some-clause-sound c = (invariant_of-self c).sound

-- At the end

pub invariant_of-self-in_default : goal.invariant_of-self-in_default
invariant_of-self-in_default c =
    let fresh : updates_block (updates_from c.args.self.now c.self.inside.cut) c.args.update.block ≡ false = search rules in
    let none = subst (λ (log : LogState). updates_block (updates_from log c.self.inside.cut) c.args.update.block ≡ false) (sym c.self.view_is) fresh in
    let can = subst (λ (log : LogState). CanTake log (c.args.update ∷ [])) (sym c.self.view_is) c.requires in
    indexed_added _ _ _ _ _ c.self.inside.entries.items c.self.inside.heads.items c.self.invariant _
    (record { update = c.args.update; earlier = c.index-earlier.result.now }) c.push_back_reserved.ensures.items c.bucket_of-bucket.result _ _ _ _
    c.bucket_of-bucket.ensures c.index-earlier.ensures
    (omega (arith, c.len.ensures, c.push_back_reserved.ensures.len, c.self.inside.entries.ok.0))
    (sound_fresh _ _ _ _ _ c.self.inside.entries.items c.self.inside.heads.items c.self.invariant c.args.update none can _)

pub returns-in_default-clause-log : goal.returns-in_default-clause-log
returns-in_default-clause-log c =
    let fresh : updates_block (updates_from c.args.self.now c.self.inside.cut) c.args.update.block ≡ false = search rules in
    let none = subst (λ (log : LogState). updates_block (updates_from log c.self.inside.cut) c.args.update.block ≡ false) (sym c.self.view_is) fresh in
    let entries = c.self.inside.entries.items in
    let entry : Entry = record { update = c.args.update; earlier = c.index-earlier.result.now } in
    let updates : updates_of c.push_back_reserved.new.self.items ≡ updates_of entries ++ c.args.update ∷ [] =
    ap updates_of c.push_back_reserved.ensures.items ∙ map-append (λ (e : Entry). e.update) entries (entry ∷ []) in
    let room : deque_capacity c.push_back_reserved.new.self - deque_len c.push_back_reserved.new.self ≡ deque_capacity c.self.inside.entries - deque_len c.self.inside.entries - 1 =
    omega (arith, c.push_back_reserved.ensures.capacity, c.push_back_reserved.ensures.len) in
    (λ i. record { blocks = c.self.inside.blocks; start = c.self.inside.start; logged = c.self.inside.logged; cut = c.self.inside.cut; updates = updates i; room = room i })
    ∙ sym (appended_fresh _ c.self.invariant.sound c.args.update none)
    ∙ ap (λ (l : LogState). appended l (c.args.update ∷ [])) c.self.view_is

pub returns-in_default-clause-sound : goal.returns-in_default-clause-sound
returns-in_default-clause-sound c = (invariant_of-self-in_default c).sound
