-- What holds of the log still does where its tail or its bounds change.
use Rattle.std.proofs.Common.{◌≡◌, ◌≢◌, ⊎_elim, ℕ, ◌+◌, ◌-◌, ◌<◌, ◌≤◌, ◌^◌, eqb, Bool, true, false, List, [], ◌∷◌, ◌++◌, length, drop, map, set, get_or, refl, sym, ap, ◌∙◌, arith, subst, append_assoc, length-append, length-set, length-drop}
use Rattle.std.proofs.lemmas.List.{length-map, length-take-le, length_push, take-append-drop, get_or-map, get_or_default, get_or-set_same, get_or-set_other, set-append_right, same_lists}
use Rattle.std.proofs.lemmas.List.Elements.{All-cons, All-nil, All-push, All-drop}
use Rattle.std.proofs.Math.Seq.{drop-drop}
use Rattle.std.proofs.lemmas.List.Quantifiers.{all_pairs_push}
use Rattle.std.proofs.lemmas.Bool.{cond-true, cond-false, eq-eqb, eqb-true, ne_eqb, cases_eq, cases_lt}
use Rattle.journal_block.specs.declared.update.Update.{Update}
use Rattle.journal_block.specs.Block.{Bytes}
use Rattle.journal_block.specs.Updates.{updates_block}
use Rattle.journal_memlog.specs.Logs.{LogState, HasDistinctBlocks, IsMemLog, next_position, head_of, tail_of, replaced, with_update, with_logged, appended, CanTake}
use Rattle.journal_memlog.specs.Laws.{All-appended, tail_of-appended}
use Rattle.journal_memlog.specs.Buckets.{no_update, update_at}
use Rattle.journal_memlog.proofs.Places.{stands_at, at_drop}

-- Distinct blocks

-- an update in the place of another is of its block
replaced_block : (u t : Update) → (replaced u t).block ≡ t.block
replaced_block u t = by (eqb t.block u.block) refl
  where
    by : (same : Bool) → eqb t.block u.block ≡ same → (replaced u t).block ≡ t.block
    by true same = ap (λ (v : Update). v.block) (cond-true _ u t same) ∙ sym (eqb-true t.block u.block same)
    by false same = ap (λ (v : Update). v.block) (cond-false _ u t same)

distinct_replaced : (tail : List Update) (u : Update) → HasDistinctBlocks tail → HasDistinctBlocks (map (replaced u) tail)
distinct_replaced tail u distinct = λ i j d before lt same.
    let within : j < length tail = omega (arith, length-map tail (replaced u)) in
    let block_of : (k : ℕ) → k < length tail → (get_or (map (replaced u) tail) k d).block ≡ (get_or tail k d).block =
    λ k lt. ap (λ (v : Update). v.block) (get_or-map (replaced u) tail k d d lt) ∙ replaced_block u (get_or tail k d) in
    distinct i j d before within (sym (block_of i (omega arith)) ∙ same ∙ block_of j within)

distinct_pushed : (tail : List Update) (u : Update) → HasDistinctBlocks tail → updates_block tail u.block ≡ false
    → HasDistinctBlocks (tail ++ u ∷ [])
distinct_pushed tail u distinct fresh = all_pairs_push (λ t v. t.block ≢ v.block) tail u distinct
    (λ k d lt same.
    let stands : updates_block tail u.block ≡ true =
    stands_at tail u.block k lt (ap (λ (v : Update). v.block) (get_or_default tail k no_update d lt) ∙ same) in
    let impossible : ⊥ = cc in
    absurd impossible)

distinct_absorbed : (tail : List Update) (u : Update) → HasDistinctBlocks tail → HasDistinctBlocks (with_update tail u)
distinct_absorbed tail u distinct = by (updates_block tail u.block) refl
  where
    by : (stands : Bool) → updates_block tail u.block ≡ stands → HasDistinctBlocks (with_update tail u)
    by true stands = subst HasDistinctBlocks (sym (cond-true _ (map (replaced u) tail) (tail ++ u ∷ []) stands)) (distinct_replaced tail u distinct)
    by false stands = subst HasDistinctBlocks (sym (cond-false _ (map (replaced u) tail) (tail ++ u ∷ []) stands)) (distinct_pushed tail u distinct stands)

-- no updates are distinct
pub distinct_none : (tail : List Update) → length tail ≡ 0 → HasDistinctBlocks tail
distinct_none tail none = λ i j d before lt same. absurd (omega arith)

-- What holds of each log

module _ (log : LogState) (sound : IsMemLog log) where
  from : log.start ≤ log.cut
  from = omega (arith, sound.bounds.start_to_logged, sound.bounds.logged_to_cut)

  -- room does not matter
  pub sound_roomy : (room : ℕ) → IsMemLog (record log { room = room })
  sound_roomy room = record {
    bounds = record { start_to_logged = sound.bounds.start_to_logged; logged_to_cut = sound.bounds.logged_to_cut; cut_to_next = sound.bounds.cut_to_next; below = sound.bounds.below };
    on_disk = sound.on_disk;
    distinct = sound.distinct;
  }

  pub sound_with_logged : (u : Update) (room : ℕ) → u.block < log.blocks → next_position log + 1 < 2 ^ 62 → IsMemLog (with_logged log u room)
  sound_with_logged u room on below = record {
    bounds = record {
      start_to_logged = omega arith;
      logged_to_cut = omega arith;
      cut_to_next = omega (arith, length_push log.updates u);
      below = omega (arith, below, length_push log.updates u);
    };
    on_disk = All-push (λ v. v.block < log.blocks) log.updates u sound.on_disk on;
    distinct = distinct_none (drop (next_position log + 1 - log.start) (log.updates ++ u ∷ []))
        (omega (arith, length_push log.updates u, length-drop (next_position log + 1 - log.start) (log.updates ++ u ∷ [])));
  }

  pub sound_appended : (u : Update) → CanTake log (u ∷ []) → IsMemLog (appended log (u ∷ []))
  sound_appended u can = record {
    bounds = record {
      start_to_logged = sound.bounds.start_to_logged;
      logged_to_cut = sound.bounds.logged_to_cut;
      cut_to_next = omega (arith, from, length_tail, sound.bounds.cut_to_next);
      below = can.below;
    };
    on_disk = All-appended (λ v. v.block < log.blocks) log (u ∷ []) sound.on_disk can.on_disk;
    distinct = subst HasDistinctBlocks (sym (tail_of-appended log (u ∷ []) from sound.bounds.cut_to_next)) (distinct_absorbed (tail_of log) u sound.distinct);
  }
    where
      length_tail : log.cut ≤ next_position (appended log (u ∷ []))
      length_tail = omega (arith, from, sound.bounds.cut_to_next, length-take-le (log.cut - log.start) log.updates (omega (arith, sound.bounds.cut_to_next)), length-append (head_of log) (with_update (tail_of log) u))

  pub sound_dropped : log.start < log.logged → (room : ℕ) → IsMemLog (record log { start = log.start + 1; updates = drop 1 log.updates; room = room })
  sound_dropped some room = record {
    bounds = record {
      start_to_logged = omega arith;
      logged_to_cut = sound.bounds.logged_to_cut;
      cut_to_next = omega (arith, shorter, sound.bounds.cut_to_next);
      below = omega (arith, shorter, sound.bounds.below);
    };
    on_disk = All-drop (λ v. v.block < log.blocks) 1 log.updates sound.on_disk;
    distinct = subst HasDistinctBlocks (sym same_tail) sound.distinct;
  }
    where
      shorter : length (drop 1 log.updates) + 1 ≡ length log.updates
      shorter = omega (arith, length-drop 1 log.updates, sound.bounds.logged_to_cut, sound.bounds.cut_to_next)

      same_tail : drop (log.cut - (log.start + 1)) (drop 1 log.updates) ≡ drop (log.cut - log.start) log.updates
      same_tail = drop-drop (log.cut - (log.start + 1)) 1 log.updates ∙ ap (λ (n : ℕ). drop n log.updates) (omega (arith, sound.bounds.logged_to_cut))

  -- An update in the place of that of its block

  module _ (u : Update) (i : ℕ) (after : log.cut - log.start ≤ i) (within : i < length log.updates) (is : (update_at log.updates i).block ≡ u.block) where
    abbrev n : ℕ
    n = log.cut - log.start

    back : n + (i - n) ≡ i
    back = omega arith

    here : (d : Update) → (get_or (tail_of log) (i - n) d).block ≡ u.block
    here d = ap (λ (v : Update). v.block) (at_drop n log.updates (i - n) d (omega (arith, back)))
        ∙ ap (λ (k : ℕ). (update_at log.updates k).block) back ∙ is

    size : i - n < length (tail_of log)
    size = omega (arith, length-drop n log.updates)

    -- it is the only one of its block in the tail
    only : map (replaced u) (tail_of log) ≡ set (tail_of log) (i - n) u
    only = same_lists (map (replaced u) (tail_of log)) (set (tail_of log) (i - n) u)
        (length-map (tail_of log) (replaced u) ∙ sym (length-set (tail_of log) (i - n) u))
        (λ k d lt. each k d (omega (arith, length-map (tail_of log) (replaced u))))
      where
        differs : (k : ℕ) (d : Update) → k < length (tail_of log) → k ≢ i - n → (get_or (tail_of log) k d).block ≢ u.block
        differs k d lt other same = ⊎_elim
            (λ (before : k < i - n). sound.distinct k (i - n) d before size (same ∙ sym (here d)))
            (λ (later : i - n ≤ k). sound.distinct (i - n) k d (omega (arith, later, other)) lt (here d ∙ sym same))
            (cases_lt k (i - n))

        each : (k : ℕ) (d : Update) → k < length (tail_of log)
            → get_or (map (replaced u) (tail_of log)) k d ≡ get_or (set (tail_of log) (i - n) u) k d
        each k d lt = get_or-map (replaced u) (tail_of log) k d d lt ∙ ⊎_elim
            (λ (same : k ≡ i - n).
            cond-true (eqb (get_or (tail_of log) k d).block u.block) u (get_or (tail_of log) k d)
            (eq-eqb _ u.block (ap (λ (m : ℕ). (get_or (tail_of log) m d).block) same ∙ here d))
            ∙ sym (get_or-set_same (tail_of log) k u d lt) ∙ ap (λ (m : ℕ). get_or (set (tail_of log) m u) k d) same)
            (λ (other : k ≢ i - n).
            cond-false (eqb (get_or (tail_of log) k d).block u.block) u (get_or (tail_of log) k d)
            (ne_eqb _ u.block (differs k d lt other))
            ∙ sym (get_or-set_other (tail_of log) (i - n) k u d other))
            (cases_eq k (i - n))

    -- and this is what absorbing makes
    pub appended_replaced : appended log (u ∷ []) ≡ record log { updates = set log.updates i u }
    appended_replaced =
        ap (λ (t : List Update). record log { updates = head_of log ++ t; room = log.room + length (tail_of log) - length t }) (tail_now ∙ only)
        ∙ ap (λ (m : ℕ). record log { updates = head_of log ++ set (tail_of log) (i - n) u; room = m }) room
        ∙ ap (λ (us : List Update). record log { updates = us })
        (sym (set-append_right (head_of log) (tail_of log) n i u (length-take-le n log.updates (omega (arith, from, sound.bounds.cut_to_next))) after)
        ∙ ap (λ (us : List Update). set us i u) (take-append-drop n log.updates))
      where
        tail_now : with_update (tail_of log) u ≡ map (replaced u) (tail_of log)
        tail_now = cond-true (updates_block (tail_of log) u.block) (map (replaced u) (tail_of log)) (tail_of log ++ u ∷ [])
            (stands_at (tail_of log) u.block (i - n) size (here no_update))

        room : log.room + length (tail_of log) - length (set (tail_of log) (i - n) u) ≡ log.room
        room = omega (arith, length-set (tail_of log) (i - n) u)

  -- other content in an update of the tail

  pub sound_content : (i : ℕ) (bytes : Bytes) → log.cut - log.start ≤ i → i < length log.updates
      → IsMemLog (record log { updates = set log.updates i (record (update_at log.updates i) { bytes = bytes }) })
  sound_content i bytes after within =
      subst IsMemLog (appended_replaced u i after within refl) (record {
        bounds = record {
          start_to_logged = sound.bounds.start_to_logged;
          logged_to_cut = sound.bounds.logged_to_cut;
          cut_to_next = omega (arith, from, sound.bounds.cut_to_next, size);
          below = omega (arith, sound.bounds.below, size);
        };
        on_disk = All-appended (λ v. v.block < log.blocks) log (u ∷ []) sound.on_disk
            (All-cons (λ v. v.block < log.blocks) u [] (sound.on_disk i no_update within) (All-nil (λ v. v.block < log.blocks)));
        distinct = subst HasDistinctBlocks (sym (tail_of-appended log (u ∷ []) from sound.bounds.cut_to_next)) (distinct_absorbed (tail_of log) u sound.distinct);
      })
    where
      u : Update
      u = record (update_at log.updates i) { bytes = bytes }

      size : length (appended log (u ∷ [])).updates ≡ length log.updates
      size = ap (λ (l : LogState). length l.updates) (appended_replaced u i after within refl) ∙ length-set log.updates i u

  -- A fresh update at the end

  module _ (u : Update) (fresh : updates_block (tail_of log) u.block ≡ false) where
    tail_fresh : with_update (tail_of log) u ≡ tail_of log ++ u ∷ []
    tail_fresh = cond-false (updates_block (tail_of log) u.block) (map (replaced u) (tail_of log)) (tail_of log ++ u ∷ []) fresh

    -- there is room for it
    pub room_for_fresh : CanTake log (u ∷ []) → 0 < log.room
    room_for_fresh can = omega (arith, can.room, ap (λ (t : List Update). length t) tail_fresh, length_push (tail_of log) u)

    -- this is what absorbing makes
    pub appended_fresh : appended log (u ∷ []) ≡ record log { updates = log.updates ++ u ∷ []; room = log.room - 1 }
    appended_fresh =
        ap (λ (t : List Update). record log { updates = head_of log ++ t; room = log.room + length (tail_of log) - length t }) tail_fresh
        ∙ ap (λ (m : ℕ). record log { updates = head_of log ++ (tail_of log ++ u ∷ []); room = m }) room
        ∙ ap (λ (us : List Update). record log { updates = us; room = log.room - 1 })
        (sym (append_assoc (head_of log) (tail_of log) (u ∷ [])) ∙ ap (λ (us : List Update). us ++ u ∷ []) (take-append-drop (log.cut - log.start) log.updates))
      where
        room : log.room + length (tail_of log) - length (tail_of log ++ u ∷ []) ≡ log.room - 1
        room = omega (arith, length_push (tail_of log) u)
