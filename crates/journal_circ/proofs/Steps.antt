-- What each step says of images, and of the log and the home blocks.
use Rattle.std.proofs.Common.{◌≡◌, ◌≢◌, ◌⊎◌, inl, inr, ◌<◌, ◌≤◌, ◌+◌, ◌-◌, ℕ, Bool, true, [], ◌∷◌, ◌++◌, drop, refl, sym, ap, ◌∙◌, arith, subst, IsTrue}
use Rattle.journal_block.specs.Block.{Bytes}
use Rattle.journal_block.specs.Updates.{Content, updated}
use Rattle.journal_disk.specs.Disks.{write, barrier, Past, DiskState, Keeps, read_of, past_after, MayHaveHappened}
use Rattle.journal_circ.specs.declared.extent.Extent.{Extent}
use Rattle.journal_circ.specs.Log.{log_block, address, is_sealed, home_by, bytes_by, updates_from}
use Rattle.journal_circ.specs.Ring.{Ring, log_of, blocks_to, IsLogged, Crashes, SameBlocksTo}
use Rattle.journal_circ.specs.Soundness.{updates_between, IsCirc}
use Rattle.journal_circ.proofs.Logs.{updates_alike, updates_dropped, blocks_as, log_more}
use Rattle.journal_circ.proofs.Writes.{Written, written}
use Rattle.journal_circ.specs.Laws.{blocks_stay, blocks_stay_put, blocks_stay_home}
use Rattle.journal_circ.proofs.Moments.{blocks_stay_freed, steps}
use Rattle.journal_circ.proofs.Barriers.{nothing_done}
use Rattle.journal_circ.proofs.Forms.{form_home, form_bytes}

-- the ring of these parts
abbrev pub ring : DiskState → (header tags label : Bytes) → Bool → Extent → ℕ → Bool → Ring
ring disk header tags label sealed extent next faulted = record { disk = disk; header = header; tags = tags; label = label; sealed = sealed; extent = extent; next = next; faulted = faulted }

-- a step from a ring that is another by its view
pub stepped_at : {old r new : Ring} → old ≡ r → Crashes old.extent.coming old new → Crashes r.extent.coming r new
stepped_at {new = new} view = subst (λ (r : Ring). Crashes r.extent.coming r new) view

-- no call, and so no change
pub stays : (r : Ring) (coming : ℕ) → IsCirc r → r.extent.end ≤ coming → coming ≤ r.next → (r.extent.coming ≡ r.extent.end) ⊎ (r.extent.coming ≡ coming) → Crashes coming r r
stays r coming is ge le which = steps r r coming is is
    (record { size = refl; honest = refl; failures = omega arith })
    (record { ge = ge; le = le; old_coming = which; new_end = inl refl; new_coming = which })
    barrier (λ honest. inl refl) refl (λ honest to b t_ge t_le home lt. refl)

-- Barriers

pub not_synced : (old : Ring) (d : DiskState) (f : Bool) → IsCirc old → Keeps old.disk d → (IsTrue old.disk.honest → d.past ≡ old.disk.past) → f ≡ true
    → Crashes old.extent.coming old (record old { disk = d; faulted = f })
not_synced old d f was keeps same bad = steps old (record old { disk = d; faulted = f }) old.extent.coming was
    (nothing_done old d f was keeps same (λ good. let impossible : ⊥ = cc in absurd impossible)) keeps
    (record { ge = was.bounds.end_coming; le = omega (arith, was.bounds); old_coming = inr refl; new_end = inl refl; new_coming = inr refl })
    barrier (λ honest. inl (same honest)) refl
    (λ honest to b ge le home lt. ap (λ (p : Past). blocks_to (record old { disk = record old.disk { past = p } }) to b) (same honest))

module _ (old : Ring) (d : DiskState) (m : Extent) (f : Bool) (was : IsCirc old) (is : IsCirc (record old { disk = d; extent = m; faulted = f })) (keeps : Keeps old.disk d)
    (happened : IsTrue old.disk.honest → d.past ≡ past_after barrier old.disk.past) (coming : m.coming ≡ old.extent.coming) where
  pub synced : m.start ≡ old.extent.start → (m.end ≡ old.extent.end) ⊎ (m.end ≡ old.extent.coming)
      → Crashes old.extent.coming old (record old { disk = d; extent = m; faulted = f })
  synced start end = steps old (record old { disk = d; extent = m; faulted = f }) old.extent.coming was is keeps
      (record { ge = was.bounds.end_coming; le = omega (arith, was.bounds); old_coming = inr refl; new_end = end; new_coming = inr coming })
      barrier (λ honest. inr (happened honest)) refl
      (λ honest. blocks_stay old (record old { disk = d; extent = m; faulted = f }) start
      (λ i. updates_between (happened honest i) old.header (start i) old.next)
      (λ b home lt. ap (λ (p : Past). read_of p b) (happened honest)))

  pub blocks_freed : m.start ≡ old.extent.freed → IsTrue old.disk.honest → SameBlocksTo old (record old { disk = d; extent = m; faulted = f })
  blocks_freed start honest to b ge le home lt =
      blocks_as (record old { disk = d; extent = m; faulted = f }) to b le
      ∙ (λ i. updated (updates_between (happened honest i) old.header (start i) to) b (read_of (happened honest i) b))
      ∙ blocks_stay_freed old.disk.past old.header old.extent (was.sound honest) was.bounds.start_freed was.bounds.freed_end to b ge home lt
      ∙ sym (blocks_as old to b le)

  pub log_freed : m.start ≡ old.extent.freed → IsTrue old.disk.honest
      → log_of (record old { disk = d; extent = m; faulted = f }) ≡ drop (old.extent.freed - old.extent.start) (log_of old)
  log_freed start honest = (λ i. updates_between (happened honest i) old.header (start i) old.next)
      ∙ sym (updates_dropped old.header (read_of old.disk.past) old.extent.start (old.next - old.extent.start) (old.extent.freed - old.extent.start) (omega (arith, was.bounds))
      ∙ (λ i. updates_from old.header (read_of old.disk.past) (there i) (rest i)))
    where
      there : old.extent.start + (old.extent.freed - old.extent.start) ≡ old.extent.freed
      there = omega (arith, was.bounds)

      rest : (old.next - old.extent.start) - (old.extent.freed - old.extent.start) ≡ old.next - old.extent.freed
      rest = omega (arith, was.bounds)

  pub freed : m.start ≡ old.extent.freed → m.end ≡ old.extent.end
      → Crashes old.extent.coming old (record old { disk = d; extent = m; faulted = f })
  freed start end = steps old (record old { disk = d; extent = m; faulted = f }) old.extent.coming was is keeps
      (record { ge = was.bounds.end_coming; le = omega (arith, was.bounds); old_coming = inr refl; new_end = inl end; new_coming = inr coming })
      barrier (λ honest. inr (happened honest)) refl (blocks_freed start)

-- Two blocks 0 say the same of a position's update
abbrev pub Alike : Bytes → Bytes → ℕ → Type 0
Alike h h2 q = (home_by h2 q ≡ home_by h q) × ((f : Content) → bytes_by h2 f q ≡ bytes_by h f q)

pub alike_by : (h h2 : Bytes) (q : ℕ) → is_sealed h2 ≡ is_sealed h → address h2 q ≡ address h q → Alike h h2 q
alike_by h h2 q form word = (form_home h h2 q form word, λ f. form_bytes h h2 f f q form word refl)

log_alike : (p now : Past) (h h2 : Bytes) (start to c : ℕ) (v : Bytes) → Written p now c v
    → ((q : ℕ) → start ≤ q → q < to → log_block q ≢ c) → ((q : ℕ) → start ≤ q → q < to → Alike h h2 q)
    → updates_between now h2 start to ≡ updates_between p h start to
log_alike p now h h2 start to c v w off alike = updates_alike h h2 (read_of p) (read_of now) start (to - start) (λ q ge lt. (
  (alike q ge (omega arith)).0,
  (alike q ge (omega arith)).1 (read_of now) ∙ form_bytes h h (read_of p) (read_of now) q refl refl (w.others (log_block q) (off q ge (omega arith))),
))

-- Puts: block c was or was not written, and neither the old log blocks nor their addresses changed

module _ (old : Ring) (d : DiskState) (c : ℕ) (v : Bytes) (was : IsCirc old) (keeps : Keeps old.disk d) (on_disk : c < old.disk.past.size)
    (happened : IsTrue old.disk.honest → MayHaveHappened (write c v) old.disk.past d.past)
    (h tags : Bytes) (off : (q : ℕ) → old.extent.start ≤ q → q < old.next → log_block q ≢ c)
    (alike : (q : ℕ) → old.extent.start ≤ q → q < old.next → Alike old.header h q) where
  -- the log from the start to the old next position
  pub log_put : IsTrue old.disk.honest → updates_between d.past h old.extent.start old.next ≡ log_of old
  log_put honest = log_alike old.disk.past d.past old.header h old.extent.start old.next c v (written old.disk.past d.past c v on_disk (happened honest)) off alike

  pub others_put : IsTrue old.disk.honest → (b : ℕ) → b ≢ c → read_of d.past b ≡ read_of old.disk.past b
  others_put honest b other = (written old.disk.past d.past c v on_disk (happened honest)).others b other

  pub homes_put : IsTrue old.disk.honest → c < 513 → (b : ℕ) → 513 ≤ b → b < old.disk.past.size → read_of d.past b ≡ read_of old.disk.past b
  homes_put honest low b home lt = others_put honest b (omega arith)

  module _ (m : Extent) (f : Bool) (start : m.start ≡ old.extent.start) (end : m.end ≡ old.extent.end) where
    -- a block of the log was put
    pub put : (is : IsCirc (record old { disk = d; header = h; tags = tags; extent = m; faulted = f })) → c < 513 → (coming : ℕ) → old.extent.end ≤ coming → coming ≤ old.next
        → (old.extent.coming ≡ old.extent.end) ⊎ (old.extent.coming ≡ coming) → m.coming ≡ coming → Crashes coming old (record old { disk = d; header = h; tags = tags; extent = m; faulted = f })
    put is low coming ge le old_coming new_coming = steps old (record old { disk = d; header = h; tags = tags; extent = m; faulted = f }) coming was is keeps
        (record { ge = ge; le = le; old_coming = old_coming; new_end = inl end; new_coming = inr new_coming })
        (write c v) happened refl
        (λ honest. blocks_stay old (record old { disk = d; header = h; tags = tags; extent = m; faulted = f }) start
        ((λ i. updates_between d.past h (start i) old.next) ∙ log_put honest) (homes_put honest low))

    -- a home block was put that the log names
    pub home : (is : IsCirc (record old { disk = d; header = h; tags = tags; extent = m; faulted = f })) → (IsTrue old.disk.honest → IsLogged old c)
        → m.coming ≡ old.extent.coming → Crashes old.extent.coming old (record old { disk = d; header = h; tags = tags; extent = m; faulted = f })
    home is named new_coming = steps old (record old { disk = d; header = h; tags = tags; extent = m; faulted = f }) old.extent.coming was is keeps
        (record { ge = was.bounds.end_coming; le = omega (arith, was.bounds); old_coming = inr refl; new_end = inl end; new_coming = inr new_coming })
        (write c v) happened refl
        (λ honest. blocks_stay_home old (record old { disk = d; header = h; tags = tags; extent = m; faulted = f }) c start
        ((λ i. updates_between d.past h (start i) old.next) ∙ log_put honest) (λ b high lt other. others_put honest b other) (named honest))

  -- the update of the next position was put
  module _ (a : ℕ) (bytes : Bytes) (f : Bool) (address_put : home_by h old.next ≡ a) (content : IsTrue old.disk.honest → bytes_by h (read_of d.past) old.next ≡ bytes)
      (is : IsCirc (record old { disk = d; header = h; tags = tags; next = old.next + 1; faulted = f })) where
    pub log_grown : IsTrue old.disk.honest
        → log_of (record old { disk = d; header = h; tags = tags; next = old.next + 1; faulted = f }) ≡ log_of old ++ record { block = a; bytes = bytes } ∷ []
    log_grown honest = log_more d.past h old.extent.start old.next (omega (arith, was.bounds))
        ∙ (λ i. log_put honest i ++ record { block = address_put i; bytes = content honest i } ∷ [])

    pub slot : c < 513 → Crashes old.extent.coming old (record old { disk = d; header = h; tags = tags; next = old.next + 1; faulted = f })
    slot low = steps old (record old { disk = d; header = h; tags = tags; next = old.next + 1; faulted = f }) old.extent.coming was is keeps
        (record { ge = was.bounds.end_coming; le = omega (arith, was.bounds); old_coming = inr refl; new_end = inl refl; new_coming = inr refl })
        (write c v) happened refl
        (λ honest. blocks_stay_put old (record old { disk = d; header = h; tags = tags; next = old.next + 1; faulted = f }) (record { block = a; bytes = bytes }) refl
        (log_grown honest) (homes_put honest low))
