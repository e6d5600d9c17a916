-- What the chains of a log's buckets lead to, and how they change with the updates.
use Rattle.std.proofs.Common.{◌≡◌, ◌≢◌, ⊎_elim, ℕ, ◌+◌, ◌-◌, ◌<◌, ◌≤◌, true, false, List, [], ◌∷◌, ◌++◌, length, drop, set, slice_index, replicate, Some, sym, ap, ◌∙◌, arith, subst, length-set, length-drop}
use Rattle.std.specs.List.{slice_get}
use Rattle.std.proofs.Math.Nat.{mod-lt}
use Rattle.std.proofs.lemmas.List.{length_push, length-replicate, get_or-drop, get_or-replicate, get_or_push, get_or_append_left, get_or-set_same, get_or-set_other, set_past}
use Rattle.std.proofs.lemmas.Option.{slice_get-get_or}
use Rattle.std.proofs.lemmas.Bool.{cases_eq, cases_lt}
use Rattle.journal_block.specs.declared.update.Update.{Update}
use Rattle.journal_block.specs.Block.{Bytes}
use Rattle.journal_block.specs.Updates.{updated, updates_block}
use Rattle.journal_memlog.specs.declared.entry.TheConstants.{BUCKETS}
use Rattle.journal_memlog.specs.Logs.{LogState, IsMemLog, next_position, tail_of, empty_log}
use Rattle.journal_memlog.specs.Buckets.{bucket_of, no_update, update_at, updates_from, IsLastOf}
use Rattle.journal_memlog.specs.Index.{LeadsTo, IsIndexed}
use Rattle.journal_memlog.proofs.Places.{same_some, stands_at, stands_nowhere, updated_by_last, at_drop}

-- each block has a bucket
pub bucket_below : (block : ℕ) → bucket_of block < BUCKETS
bucket_below block = mod-lt block (omega arith)

-- A walk along the chain of a block's bucket: all of the block's updates are before the place
pub record Walks (log : LogState) (b place : ℕ) : Type 0 where
  pub within : place ≤ next_position log
  pub same : log.start < place → bucket_of (update_at log.updates (place - 1 - log.start)).block ≡ bucket_of b
  pub last : (k : ℕ) → k < length log.updates → (update_at log.updates k).block ≡ b → log.start + k < place

-- it ends at the floor, where none of the block's updates is after it
pub walk_end : (log : LogState) (b floor place : ℕ) → Walks log b place → log.start ≤ floor → place ≤ floor
    → updates_block (updates_from log floor) b ≡ false
walk_end log b floor place walks from end = stands_nowhere (updates_from log floor) b
    (λ k lt is.
    let within : floor - log.start + k < length log.updates = omega (arith, length-drop (floor - log.start) log.updates) in
    omega (
      arith,
      walks.last (floor - log.start + k) within
          (sym (ap (λ (u : Update). u.block) (at_drop (floor - log.start) log.updates k no_update within)) ∙ is),
    ))

-- or where an update of the block is found, which is the last one
module _ (log : LogState) (b floor place : ℕ) (walks : Walks log b place) (from : log.start ≤ floor) (some : floor < place)
    (is : (update_at log.updates (place - 1 - log.start)).block ≡ b) where
  pub walk_found : IsLastOf log b floor (place - 1)
  walk_found = record {
    from = omega arith;
    within = omega (arith, walks.within);
    block = is;
    last = λ k lt after same. omega (arith, walks.last k lt same);
  }

  pub walk_stands : updates_block (updates_from log floor) b ≡ true
  walk_stands =
      let k = place - 1 - floor in
      let back : floor - log.start + k ≡ place - 1 - log.start = omega arith in
      let within : floor - log.start + k < length log.updates = omega (arith, walks.within) in
      stands_at (updates_from log floor) b k (omega (arith, length-drop (floor - log.start) log.updates))
      (ap (λ (u : Update). u.block) (at_drop (floor - log.start) log.updates k no_update within)
      ∙ ap (λ (i : ℕ). (update_at log.updates i).block) back ∙ is)

-- The last update of a block

pub from_start : (log : LogState) → updates_from log log.start ≡ log.updates
from_start log = ap (λ (n : ℕ). drop n log.updates) none
  where
    none : log.start - log.start ≡ 0
    none = omega arith

-- says what the block has
pub latest_is : (log : LogState) (b position : ℕ) → IsLastOf log b log.start position → (found : Update)
    → slice_get log.updates (position - log.start) ≡ Some found → (before : Bytes) → updated log.updates b before ≡ found.bytes
latest_is log b position last found at before =
    updated_by_last log.updates b (position - log.start) before within last.block
    (λ k after lt. last.last k lt (omega (arith, last.from)))
    ∙ ap (λ (u : Update). u.bytes) (same_some (slice_get-get_or log.updates (position - log.start) no_update within) at)
  where
    within : position - log.start < length log.updates
    within = omega (arith, last.within, last.from)

-- and that of the tail says what the block has there
pub tail_latest_is : (log : LogState) (b position : ℕ) → log.start ≤ log.cut → IsLastOf log b log.cut position → (found : Update)
    → slice_get log.updates (position - log.start) ≡ Some found → (before : Bytes) → updated (tail_of log) b before ≡ found.bytes
tail_latest_is log b position from last found at before =
    updated_by_last (tail_of log) b k before within (ap (λ (u : Update). u.block) place ∙ last.block)
    (λ j after lt is. last.last (n + j) (omega (arith, size, lt)) (omega (arith, last.from, after))
    (ap (λ (u : Update). u.block) (sym (at_drop n log.updates j no_update (omega (arith, size, lt)))) ∙ is))
    ∙ ap (λ (u : Update). u.bytes) (place ∙ same_some (slice_get-get_or log.updates (position - log.start) no_update (omega (arith, last.within, last.from, from))) at)
  where
    n : ℕ
    n = log.cut - log.start

    k : ℕ
    k = position - log.cut

    size : length (tail_of log) ≡ length log.updates - n
    size = length-drop n log.updates

    within : k < length (tail_of log)
    within = omega (arith, size, last.within, last.from, from)

    place : update_at (tail_of log) k ≡ update_at log.updates (position - log.start)
    place = at_drop n log.updates k no_update (omega (arith, last.within, last.from, from))
        ∙ ap (update_at log.updates) (omega (arith, last.from, from))

-- An empty log

pub indexed_empty : (blocks start room n : ℕ) → n ≡ BUCKETS → IsMemLog (empty_log blocks start room)
    → IsIndexed (empty_log blocks start room) [] (replicate n 0)
indexed_empty blocks start room n is sound = record {
  sound = sound;
  buckets = length-replicate n 0 ∙ is;
  chains = λ bucket lt.
      let first : slice_index (replicate n 0) bucket ≡ 0 = get_or-replicate n bucket 0 0 (omega (arith, is)) in record {
        within = omega (arith, first);
        same = λ after. absurd (omega (arith, first));
        last = λ k none here. absurd (omega arith);
      };
  links = λ k none. absurd (omega arith);
}

module _ (log : LogState) (earlier heads : List ℕ) (indexed : IsIndexed log earlier heads) where
  -- A walk begins at the bucket's last update

  pub walk_start : (b : ℕ) → Walks log b (slice_index heads (bucket_of b))
  walk_start b =
      let leads = indexed.chains (bucket_of b) (bucket_below b) in
      record { within = leads.within; same = leads.same; last = λ k lt is. leads.last k lt (ap bucket_of is) }

  -- and goes on at the one before it, where that is of another block
  module _ (b place : ℕ) (walks : Walks log b place) (some : log.start < place) where
    abbrev i : ℕ
    i = place - 1 - log.start

    leads : LeadsTo log.start log.updates (bucket_of (update_at log.updates i).block) i (slice_index earlier i)
    leads = indexed.links i (omega (arith, walks.within))

    pub walk_falls : slice_index earlier i < place
    walk_falls = omega (arith, leads.within)

    pub walk_more : (update_at log.updates i).block ≢ b → Walks log b (slice_index earlier i)
    walk_more other = record {
      within = omega (arith, leads.within, walks.within);
      same = λ after. leads.same after ∙ walks.same some;
      last = λ k lt is. leads.last k (before k lt is) (ap bucket_of is ∙ sym (walks.same some));
    }
      where
        before : (k : ℕ) → k < length log.updates → (update_at log.updates k).block ≡ b → k < i
        before k lt is =
            let not_here : k ≢ i = λ here. other (ap (λ (j : ℕ). (update_at log.updates j).block) (sym here) ∙ is) in
            omega (arith, walks.last k lt is, not_here)

  -- An update in the place of one of its block

  module _ (u : Update) (i : ℕ) (is : (update_at log.updates i).block ≡ u.block) where
    block_kept : (k : ℕ) → (update_at (set log.updates i u) k).block ≡ (update_at log.updates k).block
    block_kept k = ⊎_elim
        (λ (here : k ≡ i). ⊎_elim
        (λ (lt : i < length log.updates).
        ap (λ (j : ℕ). (update_at (set log.updates i u) j).block) here
        ∙ ap (λ (v : Update). v.block) (get_or-set_same log.updates i u no_update lt)
        ∙ sym is ∙ ap (λ (j : ℕ). (update_at log.updates j).block) (sym here))
        (λ (past : length log.updates ≤ i). ap (λ (us : List Update). (update_at us k).block) (set_past log.updates i u past))
        (cases_lt i (length log.updates)))
        (λ (other : k ≢ i). ap (λ (v : Update). v.block) (get_or-set_other log.updates i k u no_update other))
        (cases_eq k i)

    leads_kept : (bucket count place : ℕ) → LeadsTo log.start log.updates bucket count place
        → LeadsTo log.start (set log.updates i u) bucket count place
    leads_kept bucket count place leads = record {
      within = leads.within;
      same = λ after. ap bucket_of (block_kept (place - 1 - log.start)) ∙ leads.same after;
      last = λ k lt here. leads.last k lt (ap bucket_of (sym (block_kept k)) ∙ here);
    }

    pub indexed_replaced : (room : ℕ) → IsMemLog (record log { updates = set log.updates i u; room = room })
        → IsIndexed (record log { updates = set log.updates i u; room = room }) earlier heads
    indexed_replaced room sound = record {
      sound = sound;
      buckets = indexed.buckets;
      chains = λ bucket lt. subst (λ (n : ℕ). LeadsTo log.start (set log.updates i u) bucket n (slice_index heads bucket)) (sym same)
          (leads_kept bucket (length log.updates) (slice_index heads bucket) (indexed.chains bucket lt));
      links = λ k lt. subst (λ (n : ℕ). LeadsTo log.start (set log.updates i u) (bucket_of n) k (slice_index earlier k)) (sym (block_kept k))
          (leads_kept (bucket_of (update_at log.updates k).block) k (slice_index earlier k) (indexed.links k (omega (arith, same))));
    }
      where
        same : length (set log.updates i u) ≡ length log.updates
        same = length-set log.updates i u

  -- A fresh update at the end

  module _ (u : Update) (size : length earlier ≡ length log.updates) where
    abbrev now : List Update
    now = log.updates ++ u ∷ []

    longer : length now ≡ length log.updates + 1
    longer = length_push log.updates u

    old_one : (k : ℕ) → k < length log.updates → (update_at now k).block ≡ (update_at log.updates k).block
    old_one k lt = ap (λ (v : Update). v.block) (get_or_append_left log.updates (u ∷ []) no_update k lt)

    new_one : (k : ℕ) → k ≡ length log.updates → (update_at now k).block ≡ u.block
    new_one k end = ap (λ (v : Update). v.block) (get_or_push log.updates u no_update k (sym end))

    -- links among the old ones are as they were
    leads_old : (bucket count place : ℕ) → count ≤ length log.updates → LeadsTo log.start log.updates bucket count place
        → LeadsTo log.start now bucket count place
    leads_old bucket count place within leads = record {
      within = leads.within;
      same = λ after. ap bucket_of (old_one (place - 1 - log.start) (omega (arith, leads.within))) ∙ leads.same after;
      last = λ k lt here. leads.last k lt (ap bucket_of (sym (old_one k (omega arith))) ∙ here);
    }

    -- the new one is the last of its bucket
    leads_new : (place : ℕ) → place ≡ log.start + length now → LeadsTo log.start now (bucket_of u.block) (length now) place
    leads_new place at_end = record {
      within = omega (arith, at_end);
      same = λ after. ap bucket_of (new_one (place - 1 - log.start) (omega (arith, at_end, longer)));
      last = λ k lt here. omega (arith, at_end);
    }

    -- and of no other
    leads_other : (bucket place : ℕ) → bucket ≢ bucket_of u.block → LeadsTo log.start log.updates bucket (length log.updates) place
        → LeadsTo log.start now bucket (length now) place
    leads_other bucket place other leads = record {
      within = omega (arith, longer, leads.within);
      same = old.same;
      last = λ k lt here. ⊎_elim
          (λ (before : k < length log.updates). old.last k before here)
          (λ (end : length log.updates ≤ k). absurd (other (sym here ∙ ap bucket_of (new_one k (omega (arith, longer, end))))))
          (cases_lt k (length log.updates));
    }
      where
        old : LeadsTo log.start now bucket (length log.updates) place
        old = leads_old bucket (length log.updates) place (omega arith) leads

    pub indexed_pushed : (logged cut room bucket link place : ℕ) → bucket ≡ bucket_of u.block → link ≡ slice_index heads bucket
        → place ≡ log.start + length log.updates + 1
        → IsMemLog (record log { logged = logged; cut = cut; updates = now; room = room })
        → IsIndexed (record log { logged = logged; cut = cut; updates = now; room = room }) (earlier ++ link ∷ []) (set heads bucket place)
    indexed_pushed logged cut room bucket link place of is at_end sound = record {
      sound = sound;
      buckets = length-set heads bucket place ∙ indexed.buckets;
      chains = λ other lt. ⊎_elim
          (λ (here : other ≡ bucket).
          let head : slice_index (set heads bucket place) other ≡ place = ap (slice_index (set heads bucket place)) here
          ∙ get_or-set_same heads bucket place 0 (omega (arith, of, bucket_below u.block, indexed.buckets)) in
          subst (λ (p : ℕ). LeadsTo log.start now other (length now) p) (sym head)
          (subst (λ (n : ℕ). LeadsTo log.start now n (length now) place) (sym (here ∙ of)) (leads_new place (omega (arith, at_end, longer)))))
          (λ (elsewhere : other ≢ bucket).
          subst (λ (p : ℕ). LeadsTo log.start now other (length now) p) (sym (get_or-set_other heads bucket other place 0 elsewhere))
          (leads_other other (slice_index heads other) (λ same. elsewhere (same ∙ sym of)) (indexed.chains other lt)))
          (cases_eq other bucket);
      links = λ k lt. ⊎_elim
          (λ (before : k < length log.updates).
          subst (λ (n : ℕ). LeadsTo log.start now (bucket_of n) k (slice_index (earlier ++ link ∷ []) k)) (sym (old_one k before))
          (subst (λ (p : ℕ). LeadsTo log.start now (bucket_of (update_at log.updates k).block) k p)
          (sym (get_or_append_left earlier (link ∷ []) 0 k (omega (arith, size))))
          (leads_old _ k _ (omega arith) (indexed.links k before))))
          (λ (after : length log.updates ≤ k).
          let end : k ≡ length log.updates = omega (arith, longer) in
          subst (λ (n : ℕ). LeadsTo log.start now (bucket_of n) k (slice_index (earlier ++ link ∷ []) k)) (sym (new_one k end))
          (subst (λ (p : ℕ). LeadsTo log.start now (bucket_of u.block) k p)
          (sym (get_or_push earlier link 0 k (size ∙ sym end) ∙ is ∙ ap (slice_index heads) of))
          (subst (λ (n : ℕ). LeadsTo log.start now (bucket_of u.block) n (slice_index heads (bucket_of u.block))) (sym end)
          (leads_old (bucket_of u.block) (length log.updates) (slice_index heads (bucket_of u.block)) (omega arith)
          (indexed.chains (bucket_of u.block) (bucket_below u.block))))))
          (cases_lt k (length log.updates));
    }

  -- The first position dropped

  pub indexed_dropped : (room : ℕ) → IsMemLog (record log { start = log.start + 1; updates = drop 1 log.updates; room = room })
      → IsIndexed (record log { start = log.start + 1; updates = drop 1 log.updates; room = room }) (drop 1 earlier) heads
  indexed_dropped room sound = record {
    sound = sound;
    buckets = indexed.buckets;
    chains = λ bucket lt. leads_rest bucket (length (drop 1 log.updates)) (length log.updates) (slice_index heads bucket)
        (omega (arith, length-drop 1 log.updates, filled)) (indexed.chains bucket lt);
    links = λ k lt.
        subst (λ (n : ℕ). LeadsTo (log.start + 1) (drop 1 log.updates) (bucket_of n) k (slice_index (drop 1 earlier) k)) (sym (next_one k))
        (subst (λ (p : ℕ). LeadsTo (log.start + 1) (drop 1 log.updates) (bucket_of (update_at log.updates (1 + k)).block) k p)
        (sym (get_or-drop 1 earlier k 0))
        (leads_rest (bucket_of (update_at log.updates (1 + k)).block) k (1 + k) (slice_index earlier (1 + k)) (omega arith)
        (indexed.links (1 + k) (omega (arith, length-drop 1 log.updates)))));
  }
    where
      filled : 0 < length log.updates
      filled = omega (arith, sound.bounds.start_to_logged, sound.bounds.logged_to_cut, indexed.sound.bounds.cut_to_next)

      next_one : (k : ℕ) → (update_at (drop 1 log.updates) k).block ≡ (update_at log.updates (1 + k)).block
      next_one k = ap (λ (v : Update). v.block) (get_or-drop 1 log.updates k no_update)

      leads_rest : (bucket fewer count place : ℕ) → count ≡ 1 + fewer → LeadsTo log.start log.updates bucket count place
          → LeadsTo (log.start + 1) (drop 1 log.updates) bucket fewer place
      leads_rest bucket fewer count place one leads = record {
        within = omega (arith, leads.within, one);
        same = λ after.
            let back : 1 + (place - 1 - (log.start + 1)) ≡ place - 1 - log.start = omega arith in
            ap bucket_of (next_one (place - 1 - (log.start + 1)) ∙ ap (λ (j : ℕ). (update_at log.updates j).block) back)
            ∙ leads.same (omega arith);
        last = λ k lt here. omega (arith, leads.last (1 + k) (omega (arith, one)) (ap bucket_of (sym (next_one k)) ∙ here));
      }
