-- Updates in memory, and where they were cut.
use Rattle.std.proofs.Common.{◌≡◌, inr, ◌<◌, ◌≤◌, ◌+◌, ◌-◌, ◌^◌, ℕ, zero, suc, ◌||◌, Bool, List, [], ◌∷◌, ◌++◌, length, length-drop, length-set, append_assoc, take, drop, set, get_or, Some, Result, Ok, Err, OnOk, refl, sym, ap, subst, ◌∙◌, arith}
use Rattle.std.specs.List.{All, slice_get}
use Rattle.std.proofs.Math.Seq.{take-suc}
use Rattle.std.proofs.lemmas.List.{append-nil, drop-append-le, drop-drop, get_or-drop, length-take-le, take-append-drop}
use Rattle.std.proofs.lemmas.List.Elements.{All-set}
use Rattle.std.proofs.lemmas.Option.{get_or_from_slice_get, slice_get_within}
use Rattle.journal_block.specs.declared.update.Update.{Update}
use Rattle.journal_block.specs.Block.{Bytes}
use Rattle.journal_block.specs.Updates.{updated, updates_block}
use Rattle.journal_block.specs.UpdateLaws.{updated-append}
use Rattle.journal_memlog.specs.Logs.{LogState, IsMemLog, next_position, head_of, tail_of, with_update, absorbed, appended, fresh_count, trimmed, CanTake}
use Rattle.journal_memlog.specs.Laws.{updates_block-append, updates_block-with_update, updated-absorbed, tail_of-appended, All-appended, can_take_fresh, length-absorbed_le}
use Rattle.journal_memlog.specs.Buckets.{no_update, update_at}
use Rattle.journal_memlog.specs.Lending.{with_content}
use Rattle.journal_memlog.proofs.Tails.{sound_content, appended_replaced}
use Rattle.journal_tail.specs.Lending.{with_block}
use Rattle.journal_tail.specs.Homes.{AreHomes}
use Rattle.journal_tail.specs.Tails.{TailState, IsTail, MakeTheSame, RisesTo, DropsCuts, TakesUpdates, TakesFresh, updates_from, without_first}
use Rattle.journal_tail.specs.declared.tail.CutPoint.{CutPoint}

-- Updates enter

-- absorbing forgets no block
updates_block-absorbed : (tail updates : List Update) (b : ℕ) → updates_block (absorbed tail updates) b ≡ updates_block (tail ++ updates) b
updates_block-absorbed tail [] b = ap (λ (us : List Update). updates_block us b) (sym (append-nil tail))
updates_block-absorbed tail (u ∷ later) b =
    updates_block-absorbed (with_update tail u) later b
    ∙ updates_block-append (with_update tail u) later b
    ∙ ap (λ (t : Bool). t || updates_block later b) (updates_block-with_update tail u b)
    ∙ sym (updates_block-append (tail ++ u ∷ []) later b)
    ∙ ap (λ (us : List Update). updates_block us b) (append_assoc tail (u ∷ []) later)

module _ (log : LogState) (updates : List Update) (sound : IsMemLog log) where
  start_to_cut : log.start ≤ log.cut
  start_to_cut = omega (arith, sound.bounds.start_to_logged, sound.bounds.logged_to_cut)

  module _ (from : ℕ) (above : log.start ≤ from) (below : from ≤ log.cut) where
    abbrev before : List Update
    before = drop (from - log.start) (head_of log)

    within : from - log.start ≤ length (head_of log)
    within = omega (
      arith,
      below,
      start_to_cut,
      length-take-le (log.cut - log.start) log.updates (omega (arith, sound.bounds.cut_to_next, start_to_cut)),
    )

    new_is : updates_from (appended log updates) from ≡ before ++ absorbed (tail_of log) updates
    new_is = drop-append-le (from - log.start) (head_of log) (absorbed (tail_of log) updates) within

    old_is : updates_from log from ++ updates ≡ before ++ (tail_of log ++ updates)
    old_is = ap (λ (us : List Update). drop (from - log.start) us ++ updates) (sym (take-append-drop (log.cut - log.start) log.updates))
        ∙ ap (λ (us : List Update). us ++ updates) (drop-append-le (from - log.start) (head_of log) (tail_of log) within)
        ∙ append_assoc before (tail_of log) updates

    -- what was updated from a position on is what was, and then these
    pub since_appended : MakeTheSame (updates_from (appended log updates) from) (updates_from log from ++ updates)
    since_appended = record {
      blocks = λ b. ap (λ (us : List Update). updates_block us b) new_is
          ∙ updates_block-append before (absorbed (tail_of log) updates) b
          ∙ ap (λ (t : Bool). updates_block before b || t) (updates_block-absorbed (tail_of log) updates b)
          ∙ sym (updates_block-append before (tail_of log ++ updates) b)
          ∙ ap (λ (us : List Update). updates_block us b) (sym old_is);
      content = λ b x. ap (λ (us : List Update). updated us b x) new_is
          ∙ updated-append before (absorbed (tail_of log) updates) b x
          ∙ updated-absorbed (tail_of log) updates b (updated before b x)
          ∙ sym (updated-append before (tail_of log ++ updates) b x)
          ∙ ap (λ (us : List Update). updated us b x) (sym old_is);
    }

pub tail_appended : (t : TailState) (updates : List Update) → IsTail t → AreHomes t.log.blocks updates → TakesUpdates t.log updates
    → IsMemLog (appended t.log updates) → IsTail (record t { log = appended t.log updates })
tail_appended t updates is homes takes sound = record {
  log = sound;
  few = omega (arith, takes.tail, ap (λ (us : List Update). length us) (tail_of-appended t.log updates (start_to_cut t.log updates is.log) is.log.bounds.cut_to_next));
  homes = All-appended (λ (u : Update). (513 ≤ u.block) × (u.block < t.log.blocks)) t.log updates is.homes homes;
  logged = is.logged;
  cuts = is.cuts;
}

-- once there is room for the fresh blocks
pub takes_fresh : (log later : LogState) (fresh : ℕ) → later ≡ record log { room = later.room } → next_position log + fresh < 2 ^ 62
    → length (tail_of log) + fresh ≤ 255
    → {E : Type 0} (result : Result Unit E) → OnOk result (fresh ≤ later.room) → OnOk result (TakesFresh later fresh)
takes_fresh log later fresh same small few (Err error) room = tt
takes_fresh log later fresh same small few (Ok unit) room = λ updates homes places.
    let number : fresh_count (tail_of log) updates ≡ fresh = ap (λ (l : LogState). fresh_count (tail_of l) updates) (sym same) ∙ places in
    let there : AreHomes log.blocks updates = subst (λ (l : LogState). AreHomes l.blocks updates) same homes in
    record {
      can = subst (λ (l : LogState). CanTake l updates) (sym same)
          (can_take_fresh (record log { room = later.room }) updates (λ k d lt. (there k d lt).1)
          (omega (arith, room, number)) (omega (arith, small, number)));
      tail = subst (λ (l : LogState). length (absorbed (tail_of l) updates) ≤ 255) (sym same)
          (omega (arith, length-absorbed_le (tail_of log) updates, few, number));
    }

-- The tail is copied

module _ (log : LogState) (p : ℕ) (u : Update) (from : log.start ≤ log.cut) (above : log.cut ≤ p)
    (found : slice_get log.updates (p - log.start) ≡ Some u) where
  in_tail : p - log.cut < length (tail_of log)
  in_tail = omega (arith, from, above, length-drop (log.cut - log.start) log.updates, slice_get_within log.updates (p - log.start) u found)

  in_place : get_or (tail_of log) (p - log.cut) u ≡ u
  in_place = get_or-drop (log.cut - log.start) log.updates (p - log.cut) u
      ∙ ap (λ (n : ℕ). get_or log.updates n u) place
      ∙ get_or_from_slice_get log.updates (p - log.start) u u found
    where
      place : (log.cut - log.start) + (p - log.cut) ≡ p - log.start
      place = omega (arith, from, above)

  -- with one more update
  pub tail_more : take (p + 1 - log.cut) (tail_of log) ≡ take (p - log.cut) (tail_of log) ++ u ∷ []
  tail_more = ap (λ (n : ℕ). take n (tail_of log)) place
      ∙ take-suc (tail_of log) (p - log.cut) u in_tail
      ∙ ap (λ (v : Update). take (p - log.cut) (tail_of log) ++ v ∷ []) in_place
    where
      place : p + 1 - log.cut ≡ suc (p - log.cut)
      place = omega (arith, above)

-- Cuts

pub rises_le : (from to : ℕ) (cuts : List CutPoint) → RisesTo from to cuts → from ≤ to
rises_le from to [] rises = omega (arith, rises)
rises_le from to (c ∷ later) rises = omega (arith, rises.0, rises_le c.end to later rises.1)

pub rises_first : (from to : ℕ) (cuts : List CutPoint) (c : CutPoint) (later : List CutPoint) → cuts ≡ c ∷ later → RisesTo from to cuts
    → (from ≤ c.end) × (c.end ≤ to)
rises_first from to cuts c later is rises =
    let both : RisesTo from to (c ∷ later) = subst (λ (cs : List CutPoint). RisesTo from to cs) is rises in
    (both.0, rises_le c.end to later both.1)

pub rises_push : (from to next : ℕ) (p : CutPoint) (cuts : List CutPoint) → p.end ≡ next → to ≤ next → RisesTo from to cuts
    → RisesTo from next (cuts ++ p ∷ [])
rises_push from to next p [] end le rises = (omega (arith, end, le, rises), end)
rises_push from to next p (c ∷ later) end le rises = (rises.0, rises_push c.end to next p later end le rises.1)

-- the first of the cuts
pub first_cut : (cuts : List CutPoint) (c : CutPoint) → 0 < length cuts → c ≡ get_or cuts 0 c → (later : List CutPoint) × (cuts ≡ c ∷ later)
first_cut [] c some is = absurd (omega (arith, some))
first_cut (d ∷ later) c some is = (later, ap (λ (e : CutPoint). e ∷ later) (sym is))

-- where the first ends past a position, so do all
pub rises_past : (from to upto : ℕ) (cuts : List CutPoint) (c : CutPoint) (later : List CutPoint) → cuts ≡ c ∷ later → RisesTo from to cuts
    → upto < c.end → All (λ d. upto < d.end) cuts
rises_past from to upto cuts c later is rises past =
    subst (λ (cs : List CutPoint). All (λ d. upto < d.end) cs) (sym is) (all c later (subst (λ (cs : List CutPoint). RisesTo from to cs) is rises).1 past)
  where
    all : (c : CutPoint) (later : List CutPoint) → RisesTo c.end to later → upto < c.end → All (λ d. upto < d.end) (c ∷ later)
    all c later rise lt zero d within = lt
    all c [] rise lt (suc k) d within = absurd (omega (arith, within))
    all c (next ∷ later) rise lt (suc k) d within = all next later rise.1 (omega (arith, lt, rise.0)) k d (omega (arith, within))

-- and the first cut of those that are left
pub drops_first : (old mid new : TailState) (upto : ℕ) (c : CutPoint) (later : List CutPoint) (home : List Update) → DropsCuts old upto mid
    → mid.cuts ≡ c ∷ later → mid.log.start ≤ c.end → c.end ≤ upto → new ≡ without_first mid c later home → DropsCuts old upto new
drops_first old mid new upto c later home drops first rises le is =
    subst (λ (t : TailState). DropsCuts old upto t) (sym is) (record {
      earlier = drops.earlier ++ record { end = mid.log.start; commits = mid.trimmed } ∷ [];
      points = drops.points
          ∙ ap (λ (cs : List CutPoint). drops.earlier ++ record { end = mid.log.start; commits = mid.trimmed } ∷ cs) first
          ∙ sym (append_assoc drops.earlier (record { end = mid.log.start; commits = mid.trimmed } ∷ []) (c ∷ later));
      above = omega (arith, drops.above, rises);
      by = inr le;
      log = log;
    })
  where
    width : (mid.log.start - old.log.start) + (c.end - mid.log.start) ≡ c.end - old.log.start
    width = omega (arith, drops.above, rises)

    room : old.log.room + (mid.log.start - old.log.start) + (c.end - mid.log.start) ≡ old.log.room + (c.end - old.log.start)
    room = omega (arith, drops.above, rises)

    log : trimmed (record mid.log { logged = c.end }) c.end ≡ record (trimmed old.log c.end) { logged = c.end }
    log = ap (λ (l : LogState). trimmed (record l { logged = c.end }) c.end) drops.log
        ∙ (λ i. record old.log {
          start = c.end;
          logged = c.end;
          updates = (drop-drop (c.end - mid.log.start) (mid.log.start - old.log.start) old.log.updates ∙ ap (λ (n : ℕ). drop n old.log.updates) width) i;
          room = room i;
        })

-- what holds of a tail after a cut
pub tail_cut : (t : TailState) (p : CutPoint) (cuts : List CutPoint) (later : LogState) → IsTail t → cuts ≡ t.cuts ++ p ∷ []
    → p.end ≡ next_position t.log → later ≡ record t.log { cut = next_position t.log } → IsMemLog later
    → IsTail (record t { log = later; cuts = cuts })
tail_cut t p cuts later is cuts_is end later_is sound = record {
  log = sound;
  few = subst (λ (l : LogState). length (tail_of l) ≤ 255) (sym later_is) (omega (arith, length-drop (next_position t.log - t.log.start) t.log.updates));
  homes = subst (λ (l : LogState). AreHomes l.blocks l.updates) (sym later_is) is.homes;
  logged = subst (λ (l : LogState). l.logged ≡ l.start) (sym later_is) is.logged;
  cuts = subst (λ (l : LogState). RisesTo l.start l.cut cuts) (sym later_is)
      (subst (λ (cs : List CutPoint). RisesTo t.log.start (next_position t.log) cs) (sym cuts_is)
      (rises_push t.log.start t.log.cut (next_position t.log) p t.cuts end is.log.bounds.cut_to_next is.cuts));
}

-- What is dropped comes home

-- the first update is dropped, and with it those before a position
pub trimmed_first : (log : LogState) (upto : ℕ) → log.start < upto → trimmed (trimmed log (log.start + 1)) upto ≡ trimmed log upto
trimmed_first log upto lt = λ i. record log {
  start = upto;
  updates = (drop-drop (upto - (log.start + 1)) (log.start + 1 - log.start) log.updates ∙ ap (λ (n : ℕ). drop n log.updates) width) i;
  room = room i;
}
  where
    width : (log.start + 1 - log.start) + (upto - (log.start + 1)) ≡ upto - log.start
    width = omega (arith, lt)

    room : log.room + (log.start + 1 - log.start) + (upto - (log.start + 1)) ≡ log.room + (upto - log.start)
    room = omega (arith, lt)

-- A block of the tail is lent

-- what holds of a tail with other content in an update after the cut
pub tail_content : (t : TailState) (position : ℕ) (bytes : Bytes) → IsTail t → t.log.cut ≤ position → position < next_position t.log
    → IsTail (with_block t position bytes)
tail_content t position bytes is above below = subst (λ (l : LogState). IsTail (record t { log = l })) (sym same) (record {
  log = sound_content t.log is.log i bytes after within;
  few = omega (arith, is.few, length-drop n t.log.updates, length-drop n (set t.log.updates i u), length-set t.log.updates i u);
  homes = All-set (λ (v : Update). (513 ≤ v.block) × (v.block < t.log.blocks)) t.log.updates i u (is.homes i no_update within) is.homes;
  logged = is.logged;
  cuts = is.cuts;
})
  where
    n : ℕ
    n = t.log.cut - t.log.start

    i : ℕ
    i = position - t.log.start

    u : Update
    u = record (update_at t.log.updates i) { bytes = bytes }

    after : n ≤ i
    after = omega (arith, above)

    within : i < length t.log.updates
    within = omega (arith, above, below, start_to_cut t.log [] is.log)

    same : with_content t.log position bytes ≡ record t.log { updates = set t.log.updates i u }
    same = appended_replaced t.log is.log u i after within refl
