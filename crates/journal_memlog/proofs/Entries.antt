-- How a log's index changes with its entries.
use Rattle.std.proofs.Common.{◌≡◌, ℕ, ◌+◌, ◌-◌, ◌<◌, ◌≤◌, ◌^◌, List, [], ◌∷◌, ◌++◌, length, false, drop, set, get_or, replicate, refl, sym, ap, ◌∙◌, arith, subst, length-drop}
use Rattle.std.proofs.lemmas.List.{get_or_read, length-map, map-append, map-set, drop-map}
use Rattle.std.proofs.Math.Seq.{map-set_same}
use Rattle.std.proofs.lemmas.List.Elements.{All-nil}
use Rattle.journal_block.specs.declared.update.Update.{Update}
use Rattle.journal_block.specs.Block.{Bytes}
use Rattle.journal_block.specs.Updates.{updates_block}
use Rattle.journal_memlog.specs.declared.entry.Entry.{Entry}
use Rattle.journal_memlog.specs.declared.entry.TheConstants.{BUCKETS}
use Rattle.journal_memlog.specs.Logs.{LogState, IsMemLog, next_position, tail_of, empty_log, appended, CanTake}
use Rattle.journal_memlog.specs.Buckets.{bucket_of, update_at, IsLastOf}
use Rattle.journal_memlog.specs.Index.{IsIndexed, updates_of, earlier_of, state_of_fields}
use Rattle.journal_memlog.proofs.Places.{update_is}
use Rattle.journal_memlog.proofs.Tails.{distinct_none, sound_roomy, sound_dropped, sound_appended, sound_content, sound_with_logged, appended_replaced, appended_fresh}
use Rattle.journal_memlog.proofs.Indexed.{bucket_below, indexed_empty, indexed_replaced, indexed_pushed, indexed_dropped}

-- an empty log is indexed
pub indexed_new : (blocks start room n : ℕ) (entries : List Entry) (heads : List ℕ) → entries ≡ [] → heads ≡ replicate n 0
    → n ≡ BUCKETS → start < 2 ^ 62 → IsIndexed (state_of_fields blocks start start start entries room) (earlier_of entries) heads
indexed_new blocks start room n entries heads none zeros is below =
    subst (λ (es : List Entry). IsIndexed (state_of_fields blocks start start start es room) (earlier_of es) heads) (sym none)
    (subst (λ (hs : List ℕ). IsIndexed (empty_log blocks start room) [] hs) (sym zeros) (indexed_empty blocks start room n is sound))
  where
    sound : IsMemLog (empty_log blocks start room)
    sound = record {
      bounds = record { start_to_logged = omega arith; logged_to_cut = omega arith; cut_to_next = omega arith; below = omega arith };
      on_disk = All-nil (λ u. u.block < blocks);
      distinct = distinct_none _ (omega (arith, length-drop (start - start) none_yet));
    }
      where
        none_yet : List Update
        none_yet = []

module _ (blocks start logged cut room : ℕ) (entries : List Entry) (heads : List ℕ)
    (indexed : IsIndexed (state_of_fields blocks start logged cut entries room) (earlier_of entries) heads) where
  -- one more at the end, linked to its bucket's last
  pub indexed_added : (now : List Entry) (entry : Entry) → now ≡ entries ++ entry ∷ [] → (bucket place logged_now cut_now more : ℕ)
      → bucket ≡ bucket_of entry.update.block → entry.earlier ≡ get_or heads bucket entry.earlier → place ≡ start + length entries + 1
      → IsMemLog (record (state_of_fields blocks start logged cut entries room) { logged = logged_now; cut = cut_now; updates = updates_of entries ++ entry.update ∷ []; room = more })
      → IsIndexed (state_of_fields blocks start logged_now cut_now now more) (earlier_of now) (set heads bucket place)
  indexed_added now entry added bucket place logged_now cut_now more of read at_end sound =
      subst (λ (es : List Entry). IsIndexed (state_of_fields blocks start logged_now cut_now es more) (earlier_of es) (set heads bucket place)) (sym added)
      (subst (λ (us : List Update). IsIndexed (record (state_of_fields blocks start logged_now cut_now entries more) { updates = us }) (earlier_of (entries ++ entry ∷ [])) (set heads bucket place))
      (sym (map-append (λ (e : Entry). e.update) entries (entry ∷ [])))
      (subst (λ (es : List ℕ). IsIndexed (record (state_of_fields blocks start logged_now cut_now entries more) { updates = updates_of entries ++ entry.update ∷ [] }) es (set heads bucket place))
      (sym (map-append (λ (e : Entry). e.earlier) entries (entry ∷ [])))
      (indexed_pushed (state_of_fields blocks start logged cut entries room) (earlier_of entries) heads indexed entry.update
      (length-map entries (λ (e : Entry). e.earlier) ∙ sym (length-map entries (λ (e : Entry). e.update)))
      logged_now cut_now more bucket entry.earlier place of (get_or_read heads bucket entry.earlier (omega (arith, of, bucket_below entry.update.block, indexed.buckets)) read 0) (omega (arith, at_end, length-map entries (λ (e : Entry). e.update))) sound)))

  -- one update in the place of another of its block, with the same link
  pub indexed_changed : (now : List Entry) (i : ℕ) (old entry : Entry) → i < length entries → old ≡ get_or entries i old
      → now ≡ set entries i entry → entry.earlier ≡ old.earlier → old.update.block ≡ entry.update.block
      → IsMemLog (record (state_of_fields blocks start logged cut entries room) { updates = set (updates_of entries) i entry.update })
      → IsIndexed (state_of_fields blocks start logged cut now room) (earlier_of now) heads
  indexed_changed now i old entry lt read changed link block sound =
      subst (λ (es : List Entry). IsIndexed (state_of_fields blocks start logged cut es room) (earlier_of es) heads) (sym changed)
      (subst (λ (us : List Update). IsIndexed (record (state_of_fields blocks start logged cut entries room) { updates = us }) (earlier_of (set entries i entry)) heads)
      (sym (map-set (λ (e : Entry). e.update) entries i entry))
      (subst (λ (es : List ℕ). IsIndexed (record (state_of_fields blocks start logged cut entries room) { updates = set (updates_of entries) i entry.update }) es heads)
      (sym (map-set_same (λ (e : Entry). e.earlier) entries i entry old (link ∙ ap (λ (e : Entry). e.earlier) read)))
      (indexed_replaced (state_of_fields blocks start logged cut entries room) (earlier_of entries) heads indexed entry.update i
      (ap (λ (u : Update). u.block) (update_is entries i old lt read) ∙ block) room sound)))

  -- without the first
  pub indexed_popped : (now : List Entry) → now ≡ drop 1 entries → start < logged → (more : ℕ)
      → IsIndexed (state_of_fields blocks (start + 1) logged cut now more) (earlier_of now) heads
  indexed_popped now rest some more =
      subst (λ (es : List Entry). IsIndexed (state_of_fields blocks (start + 1) logged cut es more) (earlier_of es) heads) (sym rest)
      (subst (λ (us : List Update). IsIndexed (record (state_of_fields blocks (start + 1) logged cut entries more) { updates = us }) (earlier_of (drop 1 entries)) heads)
      (drop-map (λ (e : Entry). e.update) 1 entries)
      (subst (λ (es : List ℕ). IsIndexed (record (state_of_fields blocks (start + 1) logged cut entries more) { updates = drop 1 (updates_of entries) }) es heads)
      (drop-map (λ (e : Entry). e.earlier) 1 entries)
      (indexed_dropped (state_of_fields blocks start logged cut entries room) (earlier_of entries) heads indexed more
      (sound_dropped _ indexed.sound some more))))

  -- What the calls make of the log

  abbrev log : LogState
  log = state_of_fields blocks start logged cut entries room

  -- an update that is absorbed in the place of the last one of its block
  module _ (u : Update) (position : ℕ) (last : IsLastOf log u.block cut position) where
    place_within : position - start < length (updates_of entries)
    place_within = omega (arith, last.within, last.from, indexed.sound.bounds.start_to_logged, indexed.sound.bounds.logged_to_cut)

    pub entry_within : position - start < length entries
    entry_within = omega (arith, place_within, length-map entries (λ (e : Entry). e.update))

    pub appended_there : appended log (u ∷ []) ≡ record log { updates = set (updates_of entries) (position - start) u }
    appended_there = appended_replaced log indexed.sound u (position - start) (omega (arith, last.from)) place_within last.block

    pub indexed_there : (old : Entry) → old ≡ get_or entries (position - start) old → CanTake log (u ∷ [])
        → IsIndexed (state_of_fields blocks start logged cut (set entries (position - start) (record { update = u; earlier = old.earlier })) room)
        (earlier_of (set entries (position - start) (record { update = u; earlier = old.earlier }))) heads
    indexed_there old read can = indexed_changed _ (position - start) old (record { update = u; earlier = old.earlier }) entry_within read refl refl
        (ap (λ (v : Update). v.block) (sym (update_is entries (position - start) old entry_within read)) ∙ last.block)
        (subst IsMemLog appended_there (sound_appended log indexed.sound u can))

  -- other content in an update of the tail
  module _ (position : ℕ) (above : cut ≤ position) (below : position < next_position log) where
    there : position - start < length (updates_of entries)
    there = omega (arith, above, below, indexed.sound.bounds.start_to_logged, indexed.sound.bounds.logged_to_cut)

    pub entry_inside : position - start < length entries
    entry_inside = omega (arith, there, length-map entries (λ (e : Entry). e.update))

    module _ (old : Entry) (read : old ≡ get_or entries (position - start) old) (bytes : Bytes) where
      abbrev changed : Update
      changed = record (update_at (updates_of entries) (position - start)) { bytes = bytes }

      abbrev entry : Entry
      entry = record { update = record { block = old.update.block; bytes = bytes }; earlier = old.earlier }

      is_changed : entry.update ≡ changed
      is_changed = ap (λ (u : Update). record u { bytes = bytes }) (sym (update_is entries (position - start) old entry_inside read))

      by_set : appended log (changed ∷ []) ≡ record log { updates = set (updates_of entries) (position - start) changed }
      by_set = appended_replaced log indexed.sound changed (position - start) (omega (arith, above)) there refl

      pub content_changed : state_of_fields blocks start logged cut (set entries (position - start) entry) room ≡ appended log (changed ∷ [])
      content_changed =
          ap (λ (us : List Update). record log { updates = us })
          (map-set (λ (e : Entry). e.update) entries (position - start) entry
          ∙ ap (set (updates_of entries) (position - start)) is_changed)
          ∙ sym by_set

      pub indexed_content : IsIndexed (state_of_fields blocks start logged cut (set entries (position - start) entry) room)
          (earlier_of (set entries (position - start) entry)) heads
      indexed_content = indexed_changed _ (position - start) old entry entry_inside read refl refl refl
          (subst (λ (u : Update). IsMemLog (record log { updates = set (updates_of entries) (position - start) u })) (sym is_changed)
          (sound_content log indexed.sound (position - start) bytes (omega (arith, above)) there))

  -- one that is absorbed at the end
  module _ (u : Update) (fresh : updates_block (tail_of log) u.block ≡ false) (can : CanTake log (u ∷ [])) where
    pub sound_fresh : (more : ℕ) → IsMemLog (record log { updates = updates_of entries ++ u ∷ []; room = more })
    sound_fresh more = sound_roomy _ (subst IsMemLog (appended_fresh log indexed.sound u fresh) (sound_appended log indexed.sound u can)) more

  -- and one that the disk's log has
  pub sound_on_disk : (u : Update) → u.block < blocks → next_position log + 1 < 2 ^ 62 → cut ≡ next_position log → (more : ℕ)
      → IsMemLog (record log { logged = cut + 1; cut = cut + 1; updates = updates_of entries ++ u ∷ []; room = more })
  sound_on_disk u on below whole more = subst (λ (n : ℕ). IsMemLog (record log { logged = n + 1; cut = n + 1; updates = updates_of entries ++ u ∷ []; room = more })) (sym whole)
      (sound_with_logged log indexed.sound u more on below)
