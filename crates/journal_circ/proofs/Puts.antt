-- What each put makes of what holds of every circular log.
use Rattle.std.proofs.Common.{◌≡◌, ◌≢◌, ◌⊎◌, inl, inr, ⊎_elim, ◌<◌, ◌≤◌, ◌+◌, ◌-◌, ◌%◌, ◌/◌, ◌^◌, ℕ, Bool, true, false, length, List, Result, Ok, Err, OnOk, OnErr, refl, sym, ap, ◌∙◌, arith, subst, IsTrue}
use Rattle.std.proofs.lemmas.Bool.{cases_eq, cases_lt}
use Rattle.journal_block.specs.Block.{Bytes, u64_at}
use Rattle.journal_block.specs.Updates.{updated, updates_block}
use Rattle.journal_block.specs.UpdateLaws.{updated-named}
use Rattle.journal_disk.specs.Disks.{write, Past, DiskState, Keeps, LostNone, block_at, read_of, past_after, MayHaveHappened}
use Rattle.journal_disk.specs.Images.{IsImage, EveryImage, reading, IsOldOrWritten}
use Rattle.journal_disk.specs.Laws.{read_written, reading_is_image, reading-at, lost_none_after}
use Rattle.journal_circ.specs.declared.extent.Extent.{Extent}
use Rattle.journal_circ.specs.Log.{log_block, address_at, address, is_sealed, begin_of, count_in, tag_in, tag_of, tag_at, home_by, end_by, end_in, start_in, label_of, HasLabel}
use Rattle.journal_circ.specs.Ring.{Ring, IsLogged, IsInstalled}
use Rattle.journal_circ.specs.Soundness.{updates_between, HasStart, HasEnd, HasForm, HasAddresses, HasLogBlocks, HasWhole, GivesHomeBlocks, HasHomeBlocks, HasSoundImages, HasHolds, HasTags, HasBounds, IsCirc}
use Rattle.journal_circ.proofs.Forms.{form_home, plain_end, end_same, end_as}
use Rattle.journal_circ.proofs.Logs.{updates_same, taken, blocks_as, updated_cut}
use Rattle.journal_circ.proofs.Groups.{slot_keeps_end, group_ends, group_there}
use Rattle.journal_circ.proofs.Tags.{holds_apart, tags_apart, tags_slot}
use Rattle.journal_circ.proofs.Writes.{Written, written}

abbrev number_at : Bytes → ℕ
number_at bytes = u64_at bytes 0

-- a call that failed leaves the disk faulted
pub not_good : {X : Type 0} (f : Bool) → f ≡ true → f ≡ false → X
not_good f bad good = let impossible : ⊥ = cc in absurd impossible

-- a plain block 0 is not sealed
pub not_sealed : {X : Type 0} {b : Bool} → b ≡ false → b ≡ true → X
not_sealed plain sealed = let impossible : ⊥ = cc in absurd impossible

-- a call that did not fail was made of a disk that had not failed, and what it says of its success
-- holds
pub fine_of : {T E : Type 0} {was now : Bool} (result : Result T E) → OnOk result ((was ≡ false) × (now ≡ false)) → OnErr result (now ≡ true) → now ≡ false → was ≡ false
fine_of (Ok value) ok err good = ok.0
fine_of {now = now} (Err error) ok err good = not_good now err good

pub done_of : {T E H X : Type 0} {now : Bool} (result : Result T E) → (H → OnOk result X) → OnErr result (now ≡ true) → now ≡ false → H → X
done_of (Ok value) done err good honest = done honest
done_of {now = now} (Err error) done err good honest = not_good now err good

-- The number of block 0 for the next position changes, and that of no other position
module _ (h h2 : Bytes) (start next a : ℕ) (room : next < start + 511) (put : u64_at h2 (address_at next) ≡ a)
    (before : (k : ℕ) → k + 8 ≤ address_at next → u64_at h2 k ≡ u64_at h k) (after : (k : ℕ) → address_at next + 8 ≤ k → u64_at h2 k ≡ u64_at h k) where
  pub address_kept : (q : ℕ) → start ≤ q → q < next → address h2 q ≡ address h q
  address_kept q ge lt = ⊎_elim
      (λ (less : q % 511 < next % 511). before (address_at q) (omega arith))
      (λ (more : next % 511 ≤ q % 511). after (address_at q) (omega (arith, other)))
      (cases_lt (q % 511) (next % 511))
    where
      other : q % 511 ≢ next % 511
      other same = omega arith

  pub addresses_put : (size b : ℕ) → is_sealed h2 ≡ is_sealed h → home_by h2 next ≡ b → 513 ≤ b → b < size → ((q : ℕ) → start ≤ q → q < next → (513 ≤ home_by h q) × (home_by h q < size))
      → (q : ℕ) → start ≤ q → q < next + 1 → (513 ≤ home_by h2 q) × (home_by h2 q < size)
  addresses_put size b form is home on_disk all q ge lt = ⊎_elim
      (λ (below : q < next). subst (λ (n : ℕ). (513 ≤ n) × (n < size)) (sym (form_home h h2 q form (address_kept q ge below))) (all q ge below))
      (λ (last : next ≤ q). let here : q ≡ next = omega arith in
      subst (λ (n : ℕ). (513 ≤ home_by h2 n) × (home_by h2 n < size)) (sym here) (subst (λ (n : ℕ). (513 ≤ n) × (n < size)) (sym is) (home, on_disk)))
      (cases_lt q next)

-- The log reads as before, where neither its log blocks nor its addresses change
pub log_stays : (p now : Past) (h h2 : Bytes) (start to c : ℕ) (v : Bytes) → Written p now c v → is_sealed h2 ≡ is_sealed h
    → ((q : ℕ) → start ≤ q → q < to → log_block q ≢ c) → ((q : ℕ) → start ≤ q → q < to → address h2 q ≡ address h q)
    → updates_between now h2 start to ≡ updates_between p h start to
log_stays p now h h2 start to c v w form off words =
    updates_same h h2 (read_of p) (read_of now) start (to - start) form (λ q ge lt. (words q ge (omega arith), w.others (log_block q) (off q ge (omega arith))))

-- What each image of the disk keeps, where block c may have been written
module _ (p now : Past) (h : Bytes) (m : Extent) (next : ℕ) (bounds : HasBounds p.size h m next) (s : HasSoundImages p h m) (c : ℕ) (v : Bytes) (w : Written p now c v) where
  start_kept : 1 ≢ c → EveryImage now (HasStart m)
  start_kept other image is = let from = w.images image is in
      subst (λ (n : ℕ). (n ≡ m.start) ⊎ (n ≡ m.freed)) (sym (ap number_at (from.others 1 other))) (s.start from.old from.was)

  end_kept : ((image : List Bytes) (from : IsOldOrWritten p c v image) → end_in image ≡ end_in from.old) → EveryImage now (HasEnd m)
  end_kept ends image is = let from = w.images image is in
      subst (λ (n : ℕ). (n ≡ m.end) ⊎ (n ≡ m.coming)) (sym (ends image from)) (s.end from.old from.was)

  -- where neither block 0 nor a log block was written, an image ends where it ended
  ends_apart : 0 ≢ c → ((q : ℕ) → log_block q ≢ c) → (image : List Bytes) (from : IsOldOrWritten p c v image) → end_in image ≡ end_in from.old
  ends_apart other off image from = end_as (block_at from.old 0) (block_at from.old) image (from.others 0 other) (λ q. from.others (log_block q) (off q))

  homes_kept : c < 513 → EveryImage p (HasHomeBlocks p) → EveryImage now (HasHomeBlocks now)
  homes_kept low all image is b home lt = let from = w.images image is in
      from.others b (omega arith) ∙ all from.old from.was b home (omega (arith, lt, w.size)) ∙ sym (w.others b (omega arith))

  -- an image's log is no longer than what is coming, and so than what was put
  end_coming : (image : List Bytes) → IsImage p image → end_in image ≤ m.coming
  end_coming image is = ⊎_elim
      (λ (e : end_in image ≡ m.end). let le : end_in image ≤ m.coming = omega (arith, e, bounds) in le)
      (λ (e : end_in image ≡ m.coming). let le : end_in image ≤ m.coming = omega (arith, e) in le)
      (s.end image is)

  end_next : (image : List Bytes) → IsImage p image → end_in image ≤ next
  end_next image is = ⊎_elim
      (λ (e : end_in image ≡ m.end). let le : end_in image ≤ next = omega (arith, e, bounds) in le)
      (λ (e : end_in image ≡ m.coming). let le : end_in image ≤ next = omega (arith, e, bounds) in le)
      (s.end image is)

  module _ (h2 : Bytes) (form : is_sealed h2 ≡ is_sealed h) (off : (q : ℕ) → m.start ≤ q → q < next → log_block q ≢ c)
      (to : ℕ) (top : m.coming ≤ to) (words : (q : ℕ) → m.start ≤ q → q < to → address h2 q ≡ address h q) where
    form_kept : 0 ≢ c → EveryImage now (HasForm h2)
    form_kept other image is = let from = w.images image is in
        ap is_sealed (from.others 0 other) ∙ s.form from.old from.was ∙ sym form

    module _ (ends : (image : List Bytes) (from : IsOldOrWritten p c v image) → end_in image ≡ end_in from.old) where
      addresses_kept : 0 ≢ c → EveryImage now (HasAddresses h2 m)
      addresses_kept other image is q ge lt = let from = w.images image is in
          let same : block_at image 0 ≡ block_at from.old 0 = from.others 0 other in
          let below : q < end_in from.old = omega (arith, lt, ends image from) in
          ap (λ (x : Bytes). address x q) same ∙ s.addresses from.old from.was q ge below
          ∙ sym (words q ge (omega (arith, below, end_coming from.old from.was, top)))

      whole_kept : EveryImage now (HasWhole now m)
      whole_kept image is q ge lt = let from = w.images image is in
          let below : q < end_in from.old = omega (arith, lt, ends image from) in
          let apart : log_block q ≢ c = off q ge (omega (arith, below, end_next from.old from.was)) in
          from.others (log_block q) apart ∙ s.whole from.old from.was q ge below ∙ sym (w.others (log_block q) apart)

    log_blocks_kept : EveryImage now (HasLogBlocks now m)
    log_blocks_kept image is q ge lt = let from = w.images image is in
        let apart : log_block q ≢ c = off q ge (omega (arith, bounds)) in
        from.others (log_block q) apart ∙ s.log_blocks from.old from.was q ge lt ∙ sym (w.others (log_block q) apart)

    log_kept : (from : ℕ) → m.start ≤ from → from ≤ m.end → updates_between now h2 from m.end ≡ updates_between p h from m.end
    log_kept from ge le = log_stays p now h h2 from m.end c v w form
        (λ q q_ge q_lt. off q (omega arith) (omega (arith, bounds))) (λ q q_ge q_lt. words q (omega arith) (omega (arith, bounds, top)))

    blocks_kept : (b : ℕ) → b ≢ c → updated (updates_between now h2 m.start m.end) b (read_of now b) ≡ updated (updates_between p h m.start m.end) b (read_of p b)
    blocks_kept b other i = updated (log_kept m.start (omega arith) (omega (arith, bounds)) i) b (w.others b other i)

    gives_other : (from : ℕ) → m.start ≤ from → from ≤ m.end → EveryImage p (GivesHomeBlocks p h m from) → (image : List Bytes) → IsImage now image → (b : ℕ) → 513 ≤ b → b < now.size → b ≢ c
        → updated (updates_between now h2 from m.end) b (block_at image b) ≡ updated (updates_between now h2 m.start m.end) b (read_of now b)
    gives_other from ge le all image is b home lt other = let old = w.images image is in
        (λ i. updated (log_kept from ge le i) b (old.others b other i))
        ∙ all old.old old.was b home (omega (arith, lt, w.size))
        ∙ sym (blocks_kept b other)

    gives_kept : c < 513 → (from : ℕ) → m.start ≤ from → from ≤ m.end → EveryImage p (GivesHomeBlocks p h m from) → EveryImage now (GivesHomeBlocks now h2 m from)
    gives_kept low from ge le all image is b home lt = gives_other from ge le all image is b home lt (omega arith)

    log_block_put : 2 ≤ c → c < 513 → ((image : List Bytes) (from : IsOldOrWritten p c v image) → end_in image ≡ end_in from.old) → HasSoundImages now h2 m
    log_block_put high low ends = record {
      start = start_kept (omega arith);
      end = end_kept ends;
      form = form_kept (omega arith);
      addresses = addresses_kept ends (omega arith);
      log_blocks = log_blocks_kept;
      whole = whole_kept ends;
      from_start = gives_kept low m.start (omega arith) (omega (arith, bounds)) s.from_start;
      from_freed = gives_kept low m.freed (omega (arith, bounds)) (omega (arith, bounds)) s.from_freed;
      homes = λ yes. homes_kept low (s.homes yes);
    }

    -- Block 0 is put: an image that has it ends where its log ended or at the next position, with
    -- its log blocks as they read
    zero_put : c ≡ 0 → v ≡ h2 → m.coming ≡ m.end
        → ((image : List Bytes) (from : IsOldOrWritten p c v image) → block_at image 0 ≡ h2 → (end_in image ≡ m.end) ⊎ (end_in image ≡ next))
        → ((image : List Bytes) (from : IsOldOrWritten p c v image) → block_at image 0 ≡ h2 → (q : ℕ) → m.start ≤ q → q < end_in image → block_at from.old (log_block q) ≡ read_of p (log_block q))
        → HasSoundImages now h2 (record m { coming = next })
    zero_put zero_block is_header one ends blocks = record {
      start = start_kept (omega arith);
      end = λ image is. let from = w.images image is in ⊎_elim
          (λ (kept : block_at image c ≡ block_at from.old c). inl (same_end image from kept ∙ end_before from.old from.was))
          (λ (new : block_at image c ≡ v). ends image from (header_at image new))
          from.here;
      form = λ image is. let from = w.images image is in ⊎_elim
          (λ (kept : block_at image c ≡ block_at from.old c). ap is_sealed (at_zero image from.old kept) ∙ s.form from.old from.was ∙ sym form)
          (λ (new : block_at image c ≡ v). ap is_sealed (header_at image new))
          from.here;
      addresses = λ image is q ge lt. let from = w.images image is in ⊎_elim
          (λ (kept : block_at image c ≡ block_at from.old c).
          let below : q < end_in from.old = omega (arith, lt, same_end image from kept) in
          ap (λ (x : Bytes). address x q) (at_zero image from.old kept) ∙ s.addresses from.old from.was q ge below
          ∙ sym (words q ge (omega (arith, below, end_coming from.old from.was, top))))
          (λ (new : block_at image c ≡ v). ap (λ (x : Bytes). address x q) (header_at image new))
          from.here;
      log_blocks = log_blocks_kept;
      whole = λ image is q ge lt. let from = w.images image is in
          from.others (log_block q) (λ (same : log_block q ≡ c). omega arith)
          ∙ ⊎_elim
          (λ (kept : block_at image c ≡ block_at from.old c). s.whole from.old from.was q ge (omega (arith, lt, same_end image from kept)))
          (λ (new : block_at image c ≡ v). blocks image from (header_at image new) q ge lt)
          from.here
          ∙ sym (w.others (log_block q) (λ (same : log_block q ≡ c). omega arith));
      from_start = gives_kept (omega arith) m.start (omega arith) (omega (arith, bounds)) s.from_start;
      from_freed = gives_kept (omega arith) m.freed (omega (arith, bounds)) (omega (arith, bounds)) s.from_freed;
      homes = λ yes. homes_kept (omega arith) (s.homes yes);
    }
      where
        at_zero : (image old : List Bytes) → block_at image c ≡ block_at old c → block_at image 0 ≡ block_at old 0
        at_zero image old kept = subst (λ (n : ℕ). block_at image n ≡ block_at old n) zero_block kept

        header_at : (image : List Bytes) → block_at image c ≡ v → block_at image 0 ≡ h2
        header_at image new = subst (λ (n : ℕ). block_at image n ≡ v) zero_block new ∙ is_header

        same_end : (image : List Bytes) (from : IsOldOrWritten p c v image) → block_at image c ≡ block_at from.old c → end_in image ≡ end_in from.old
        same_end image from kept = end_as (block_at from.old 0) (block_at from.old) image (at_zero image from.old kept)
            (λ q. from.others (log_block q) (λ (same : log_block q ≡ c). omega arith))

        end_before : (image : List Bytes) → IsImage p image → end_in image ≡ m.end
        end_before image is = ⊎_elim (λ (e : end_in image ≡ m.end). e) (λ (e : end_in image ≡ m.coming). e ∙ one) (s.end image is)

    -- in the plain form it has the next position as its end, and the log blocks up to there are
    -- stable
    end_put : c ≡ 0 → v ≡ h2 → m.coming ≡ m.end → is_sealed h2 ≡ false → m.stable ≡ next → number_at h2 ≡ next → HasSoundImages now h2 (record m { coming = next })
    end_put zero_block is_header one plain synced put = zero_put zero_block is_header one
        (λ image from new. inr (ends image new))
        (λ image from new q ge lt. s.log_blocks from.old from.was q ge (omega (arith, lt, ends image new, synced)))
      where
        ends : (image : List Bytes) → block_at image 0 ≡ h2 → end_in image ≡ next
        ends image new = (λ i. end_by (new i) (block_at image)) ∙ plain_end h2 (block_at image) plain ∙ put

    home_put : 513 ≤ c → m.freed ≡ m.start → updates_block (updates_between p h m.start m.end) c ≡ true → HasSoundImages now h2 (record m { homes = false })
    home_put high none named = record {
      start = start_kept (omega arith);
      end = end_kept (ends_apart (omega arith) (λ q is. omega arith));
      form = form_kept (omega arith);
      addresses = addresses_kept (ends_apart (omega arith) (λ q is. omega arith)) (omega arith);
      log_blocks = log_blocks_kept;
      whole = whole_kept (ends_apart (omega arith) (λ q is. omega arith));
      from_start = gives;
      from_freed = subst (λ (n : ℕ). EveryImage now (GivesHomeBlocks now h2 (record m { homes = false }) n)) (sym none) gives;
      homes = λ (no : false ≡ true). let impossible : ⊥ = cc in absurd impossible;
    }
      where
        named_now : (b : ℕ) → b ≡ c → updates_block (updates_between now h2 m.start m.end) b ≡ true
        named_now b here = (λ i. updates_block (log_kept m.start (omega arith) (omega (arith, bounds)) i) (here i)) ∙ named

        gives : EveryImage now (GivesHomeBlocks now h2 (record m { homes = false }) m.start)
        gives image is b home lt = ⊎_elim
            (λ (here : b ≡ c). updated-named (updates_between now h2 m.start m.end) b (block_at image b) (read_of now b) (named_now b here))
            (λ (other : b ≢ c). gives_other m.start (omega arith) (omega (arith, bounds)) s.from_start image is b home lt other)
            (cases_eq b c)

    start_put : c ≡ 1 → (upto : ℕ) → m.freed ≡ m.start → IsTrue m.homes → m.start ≤ upto → upto ≤ m.end → number_at v ≡ upto
        → ((b : ℕ) → 513 ≤ b → b < p.size → updated (updates_between p h m.start upto) b (read_of p b) ≡ read_of p b) → HasSoundImages now h2 (record m { freed = upto })
    start_put one_block upto none homes ge_start le_end put installed = record {
      start = λ image is. let from = w.images image is in ⊎_elim
          (λ (kept : block_at image c ≡ block_at from.old c). inl (ap number_at (subst (λ (n : ℕ). block_at image n ≡ block_at from.old n) one_block kept) ∙ start_before from.old from.was))
          (λ (new : block_at image c ≡ v). inr (ap number_at (subst (λ (n : ℕ). block_at image n ≡ v) one_block new) ∙ put))
          from.here;
      end = end_kept (ends_apart (omega arith) (λ q is. omega arith));
      form = form_kept (omega arith);
      addresses = addresses_kept (ends_apart (omega arith) (λ q is. omega arith)) (omega arith);
      log_blocks = log_blocks_kept;
      whole = whole_kept (ends_apart (omega arith) (λ q is. omega arith));
      from_start = gives_kept (omega arith) m.start (omega arith) (omega (arith, bounds)) s.from_start;
      from_freed = λ image is b home lt. let old = w.images image is in
          let size_lt : b < p.size = omega (arith, lt, w.size) in
          let here : block_at image b ≡ read_of p b = old.others b (omega arith) ∙ s.homes homes old.old old.was b home size_lt in
          (λ i. updated (log_kept upto ge_start le_end i) b (here i))
          ∙ (λ i. updated (updates_between p h upto m.end) b (sym (installed b home size_lt) i))
          ∙ sym (updated_cut p h m.start upto m.end b (read_of p b) ge_start le_end)
          ∙ sym (blocks_kept b (omega arith));
      homes = λ yes. homes_kept (omega arith) (s.homes yes);
    }
      where
        start_before : (image : List Bytes) → IsImage p image → start_in image ≡ m.start
        start_before image is = ⊎_elim (λ (e : start_in image ≡ m.start). e) (λ (e : start_in image ≡ m.freed). e ∙ none) (s.start image is)

-- The log after a write of block c: the disk is another one
module _ (old : Ring) (d : DiskState) (f : Bool) (was : IsCirc old) (keeps : Keeps old.disk d) (fine : f ≡ false → old.faulted ≡ false)
    (c : ℕ) (v : Bytes) (on_disk : c < old.disk.past.size) (happened : IsTrue old.disk.honest → MayHaveHappened (write c v) old.disk.past d.past) where
  lost_kept : IsTrue d.honest → LostNone d.past
  lost_kept honest = let was_honest = subst IsTrue keeps.honest honest in
      lost_none_after (write c v) old.disk.past d.past (happened was_honest) (was.lost was_honest)

  pub write_of : IsTrue old.disk.honest → Written old.disk.past d.past c v
  write_of honest = written old.disk.past d.past c v on_disk (happened honest)

  before : IsTrue d.honest → IsTrue old.disk.honest
  before honest = subst IsTrue keeps.honest honest

  addresses_within : (h2 : Bytes) → is_sealed h2 ≡ is_sealed old.header → ((q : ℕ) → old.extent.start ≤ q → q < old.next → address h2 q ≡ address old.header q)
      → (q : ℕ) → old.extent.start ≤ q → q < old.next → (513 ≤ home_by h2 q) × (home_by h2 q < d.past.size)
  addresses_within h2 form words q ge lt = subst (λ (n : ℕ). (513 ≤ n) × (n < d.past.size)) (sym (form_home old.header h2 q form (words q ge lt)))
      (subst (λ (n : ℕ). (513 ≤ home_by old.header q) × (home_by old.header q < n)) (sym keeps.size) (was.bounds.addresses q ge lt))

  -- where neither block 0 nor a log block was written, the log ends as it reads where it ended
  header_stays : IsTrue d.honest → f ≡ false → 0 ≢ c → ((q : ℕ) → log_block q ≢ c) → end_by (read_of d.past 0) (read_of d.past) ≡ old.extent.coming
  header_stays honest good other off = (λ i. end_by ((write_of (before honest)).others 0 other i) (read_of d.past))
      ∙ end_same (read_of old.disk.past 0) (read_of old.disk.past) (read_of d.past) (λ q. (write_of (before honest)).others (log_block q) (off q))
      ∙ (was.headers (before honest) (fine good)).end

  -- the label stays, where block 1 was not written or was written with it
  label_apart : 1 ≢ c → IsTrue d.honest → EveryImage d.past (HasLabel old.label)
  label_apart other honest image is = let from = (write_of (before honest)).images image is in
      ap label_of (from.others 1 other) ∙ was.label (before honest) from.old from.was

  label_put : c ≡ 1 → label_of v ≡ old.label → IsTrue d.honest → EveryImage d.past (HasLabel old.label)
  label_put one_block labels honest image is = let from = (write_of (before honest)).images image is in ⊎_elim
      (λ (stays : block_at image c ≡ block_at from.old c).
      ap label_of (subst (λ (n : ℕ). block_at image n ≡ block_at from.old n) one_block stays) ∙ was.label (before honest) from.old from.was)
      (λ (new : block_at image c ≡ v). ap label_of (subst (λ (n : ℕ). block_at image n ≡ v) one_block new) ∙ labels)
      from.here

  narrow_kept : is_sealed old.header ≡ true → d.past.size ≤ 2 ^ 40
  narrow_kept sealed = subst (λ (n : ℕ). n ≤ 2 ^ 40) (sym keeps.size) (was.bounds.narrow sealed)

  -- what block 0 says as it reads, which is an image's too
  read_zero : (P : Bytes → Type 0) → EveryImage old.disk.past (λ image. P (block_at image 0)) → P (read_of old.disk.past 0)
  read_zero P all = subst P (reading-at old.disk.past 0 (omega (arith, was.bounds))) (all (reading old.disk.past) (reading_is_image old.disk.past))

  read_form : IsTrue old.disk.honest → is_sealed (read_of old.disk.past 0) ≡ is_sealed old.header
  read_form honest = read_zero (λ (b : Bytes). is_sealed b ≡ is_sealed old.header) (was.sound honest).form

  -- a plain block 0 alone says where the log ends
  module _ (plain : is_sealed old.header ≡ false) (other : 0 ≢ c) where
    plain_image : IsTrue old.disk.honest → (image : List Bytes) (from : IsOldOrWritten old.disk.past c v image) → end_in image ≡ end_in from.old
    plain_image honest image from = (λ i. end_by (from.others 0 other i) (block_at image))
        ∙ plain_end (block_at from.old 0) (block_at image) old_plain ∙ sym (plain_end (block_at from.old 0) (block_at from.old) old_plain)
      where
        old_plain : is_sealed (block_at from.old 0) ≡ false
        old_plain = (was.sound honest).form from.old from.was ∙ plain

    plain_stays : IsTrue d.honest → f ≡ false → end_by (read_of d.past 0) (read_of d.past) ≡ old.extent.coming
    plain_stays honest good = (λ i. end_by ((write_of (before honest)).others 0 other i) (read_of d.past))
        ∙ plain_end (read_of old.disk.past 0) (read_of d.past) (read_form (before honest) ∙ plain)
        ∙ sym (plain_end (read_of old.disk.past 0) (read_of old.disk.past) (read_form (before honest) ∙ plain))
        ∙ (was.headers (before honest) (fine good)).end

  -- a sealed log ends where it ended once the next log block is put, with a tag that block 0 does
  -- not want there
  module _ (sealed : is_sealed old.header ≡ true) (here : c ≡ log_block old.next) (room : old.next < old.extent.start + 511) (few : old.next < old.extent.end + 255)
      (torn : tag_of v ≢ tag_in old.header old.next) where
    sealed_image : IsTrue old.disk.honest → (image : List Bytes) (from : IsOldOrWritten old.disk.past c v image) → end_in image ≡ end_in from.old
    sealed_image honest image from = (λ i. end_by (from.others 0 (λ (zero_block : 0 ≡ c). omega (arith, zero_block, here)) i) (block_at image))
        ∙ slot_keeps_end (block_at from.old 0) (block_at from.old) (block_at image) old.next ((was.sound honest).form from.old from.was ∙ sealed)
        (λ q other. from.others (log_block q) (λ (is : log_block q ≡ c). other (is ∙ here)))
        (⊎_elim
        (λ (kept : block_at image c ≡ block_at from.old c). inl (subst (λ (b : ℕ). block_at image b ≡ block_at from.old b) here kept))
        (λ (new : block_at image c ≡ v). inr (λ (is : tag_of (block_at image (log_block old.next)) ≡ tag_in (block_at from.old 0) old.next).
        torn (sym (ap tag_of (subst (λ (b : ℕ). block_at image b ≡ v) here new)) ∙ is ∙ holds.wants from.old from.was old.next (omega arith) room)))
        from.here)
        later (omega (arith, few, holds.hold from.old from.was))
      where
        holds : HasHolds old.disk.past old.header old.extent.start old.extent.end old.next
        holds = was.holds honest sealed

        later : end_in from.old ≤ old.next
        later = ⊎_elim
            (λ (e : end_in from.old ≡ old.extent.end). let it : end_in from.old ≤ old.next = omega (arith, e, was.bounds) in it)
            (λ (e : end_in from.old ≡ old.extent.coming). let it : end_in from.old ≤ old.next = omega (arith, e, was.bounds) in it)
            ((was.sound honest).end from.old from.was)

    sealed_stays : (IsTrue old.disk.honest → read_of d.past c ≡ v) → IsTrue d.honest → f ≡ false → end_by (read_of d.past 0) (read_of d.past) ≡ old.extent.coming
    sealed_stays done honest good = (λ i. end_by (w.others 0 (λ (zero_block : 0 ≡ c). omega (arith, zero_block, here)) i) (read_of d.past))
        ∙ slot_keeps_end (read_of old.disk.past 0) (read_of old.disk.past) (read_of d.past) old.next (read_form was_honest ∙ sealed)
        (λ q other. w.others (log_block q) (λ (is : log_block q ≡ c). other (is ∙ here)))
        (inr (λ (is : tag_of (read_of d.past (log_block old.next)) ≡ tag_in (read_of old.disk.past 0) old.next).
        torn (sym (ap tag_of (subst (λ (b : ℕ). read_of d.past b ≡ v) here (done was_honest))) ∙ is
        ∙ read_zero (λ (b : Bytes). tag_in b old.next ≡ tag_in old.header old.next) (λ image is. holds.wants image is old.next (omega arith) room))))
        (omega (arith, ends, was.bounds)) (omega (arith, few, read_zero (λ (b : Bytes). old.extent.end ≤ begin_of b + 255) holds.hold))
        ∙ ends
      where
        was_honest : IsTrue old.disk.honest
        was_honest = before honest

        w : Written old.disk.past d.past c v
        w = write_of was_honest

        holds : HasHolds old.disk.past old.header old.extent.start old.extent.end old.next
        holds = was.holds was_honest sealed

        ends : end_by (read_of old.disk.past 0) (read_of old.disk.past) ≡ old.extent.coming
        ends = (was.headers was_honest (fine good)).end

  front_stays : IsTrue d.honest → f ≡ false → 1 ≢ c → number_at (read_of d.past 1) ≡ old.extent.freed
  front_stays honest good other = ap number_at ((write_of (before honest)).others 1 other) ∙ (was.headers (before honest) (fine good)).start

  -- a log block of no position so far, and perhaps the header and the next position
  module _ (h2 tags2 : Bytes) (next : ℕ) (form : is_sealed h2 ≡ is_sealed old.header) (high : 2 ≤ c) (low : c < 513)
      (off : (q : ℕ) → old.extent.start ≤ q → q < old.next → log_block q ≢ c)
      (words : (q : ℕ) → old.extent.start ≤ q → q < old.next → address h2 q ≡ address old.header q)
      (more : old.next ≤ next) (fits : next ≤ old.extent.start + 511) (small : next < 2 ^ 62)
      (within : (q : ℕ) → old.extent.start ≤ q → q < next → (513 ≤ home_by h2 q) × (home_by h2 q < d.past.size)) where
    abbrev pub slotted : Ring
    slotted = record old { disk = d; header = h2; tags = tags2; next = next; faulted = f }

    slot_by : (IsTrue old.disk.honest → (image : List Bytes) (from : IsOldOrWritten old.disk.past c v image) → end_in image ≡ end_in from.old)
        → (IsTrue d.honest → f ≡ false → end_by (read_of d.past 0) (read_of d.past) ≡ old.extent.coming)
        → (is_sealed old.header ≡ true → next ≤ old.extent.end + 255) → length tags2 ≡ 4096
        → (IsTrue d.honest → is_sealed old.header ≡ true → HasHolds d.past h2 old.extent.start old.extent.end next)
        → (IsTrue d.honest → f ≡ false → is_sealed old.header ≡ true → HasTags d.past h2 tags2 old.extent.start old.extent.end old.extent.coming next)
        → IsCirc slotted
    slot_by ends reads few size holds tags = record {
      bounds = record {
        large = omega (arith, was.bounds, keeps.size);
        start_freed = was.bounds.start_freed;
        freed_end = was.bounds.freed_end;
        end_coming = was.bounds.end_coming;
        few = λ sealed. few (sym form ∙ sealed);
        narrow = λ sealed. narrow_kept (sym form ∙ sealed);
        coming_next = omega (arith, was.bounds);
        coming_stable = λ plain. was.bounds.coming_stable (sym form ∙ plain);
        stable_next = omega (arith, was.bounds);
        fits = fits;
        small = small;
        addresses = within;
      };
      sound = λ honest. log_block_put old.disk.past d.past old.header old.extent old.next was.bounds (was.sound (before honest)) c v (write_of (before honest)) h2
          form off old.next was.bounds.coming_next words high low (ends (before honest));
      headers = λ honest good. record { end = reads honest good; start = front_stays honest good (omega arith) };
      label = label_apart (omega arith);
      form = was.form ∙ sym form;
      tags_size = size;
      lost = lost_kept;
      holds = λ honest sealed. holds honest (sym form ∙ sealed);
      tags = λ honest good sealed. tags honest good (sym form ∙ sealed);
    }

    pub slot_is_put : is_sealed old.header ≡ false → length tags2 ≡ 4096 → IsCirc slotted
    slot_is_put plain size = slot_by (plain_image plain (omega arith)) (plain_stays plain (omega arith)) (λ sealed. not_sealed plain sealed) size
        (λ honest sealed. not_sealed plain sealed) (λ honest good sealed. not_sealed plain sealed)

  not_tried : is_sealed old.header ≡ true → 0 ≢ c → IsTrue d.honest → HasHolds d.past old.header old.extent.start old.extent.end old.next
  not_tried sealed other honest = holds_apart old.disk.past d.past c v (write_of (before honest)) old.header old.header old.tags old.extent.start old.extent.end old.extent.coming old.next
      other old.next (omega arith) (λ q ge lt. refl) (was.holds (before honest) sealed)

  -- neither block 0 nor a log block
  tags_stay : 0 ≢ c → ((q : ℕ) → log_block q ≢ c) → IsTrue d.honest → f ≡ false → is_sealed old.header ≡ true
      → HasTags d.past old.header old.tags old.extent.start old.extent.end old.extent.coming old.next
  tags_stay other off honest good sealed = tags_apart old.disk.past d.past c v (write_of (before honest)) old.header old.header old.tags old.extent.start old.extent.end old.extent.coming old.next
      other off (was.tags (before honest) (fine good) sealed)

  -- Of a sealed log the next log block was tried, and perhaps put
  pub slot_is_tried : is_sealed old.header ≡ true → c ≡ log_block old.next → old.next < old.extent.start + 511 → old.next < old.extent.end + 255
      → tag_of v ≢ tag_in old.header old.next → f ≡ true → IsCirc (record old { disk = d; faulted = f })
  slot_is_tried sealed here room few torn bad = slot_by old.header old.tags old.next refl (omega (arith, here)) (omega (arith, here)) (λ q ge lt is. omega (arith, is, here))
      (λ q ge lt. refl) (omega arith) was.bounds.fits was.bounds.small (addresses_within old.header refl (λ q ge lt. refl))
      (sealed_image sealed here room few torn) (λ honest good. not_good f bad good) was.bounds.few was.tags_size
      (λ honest is. not_tried sealed (λ (zero_block : 0 ≡ c). omega (arith, zero_block, here)) honest) (λ honest good is. not_good f bad good)

  pub tagged_slot_is_put : is_sealed old.header ≡ true → c ≡ log_block old.next → old.next < old.extent.start + 511 → old.next < old.extent.end + 255
      → (IsTrue old.disk.honest → read_of d.past c ≡ v)
      → (t : ℕ) → tag_of v ≡ t → t ≢ tag_in old.header old.next → t ≢ tag_at old.tags old.next
      → (h2 : Bytes) → is_sealed h2 ≡ is_sealed old.header → tag_in h2 old.next ≡ t
      → ((q : ℕ) → q % 511 ≢ old.next % 511 → address h2 q ≡ address old.header q)
      → (tags2 : Bytes) → length tags2 ≡ 4096 → tag_at tags2 old.next ≡ t → ((q : ℕ) → q % 511 ≢ old.next % 511 → tag_at tags2 q ≡ tag_at old.tags q)
      → old.next + 1 < 2 ^ 62
      → ((q : ℕ) → old.extent.start ≤ q → q < old.next + 1 → (513 ≤ home_by h2 q) × (home_by h2 q < d.past.size))
      → IsCirc (record old { disk = d; header = h2; tags = tags2; next = old.next + 1; faulted = f })
  tagged_slot_is_put sealed here room few stored t v_tag torn new h2 form put words tags2 size known others small within =
      slot_by h2 tags2 (old.next + 1) form (omega (arith, here)) (omega (arith, here)) (λ q ge lt is. omega (arith, is, here))
      (λ q ge lt. words q (apart_mod q ge lt)) (omega arith) (omega arith) small within
      (sealed_image sealed here room few torn_v) (sealed_stays sealed here room few torn_v stored) (λ _. omega arith) size
      (λ honest is. holds_apart old.disk.past d.past c v (write_of (before honest)) old.header h2 old.tags old.extent.start old.extent.end old.extent.coming old.next
      not_zero (old.next + 1) (omega arith) (λ q ge lt. tag_same q (later_mod q ge lt)) (was.holds (before honest) sealed))
      (λ honest good is. tags_slot old.disk.past d.past c v (write_of (before honest)) old.header h2 old.tags old.extent.start old.extent.end old.extent.coming old.next
      here room (omega (arith, was.bounds)) (omega (arith, was.bounds)) (stored (before honest)) t v_tag put new
      (λ q ge lt. tag_same q (apart_mod q (omega (arith, ge, was.bounds)) lt)) tags2 known others (was.tags (before honest) (fine good) sealed))
    where
      torn_v : tag_of v ≢ tag_in old.header old.next
      torn_v is = torn (sym v_tag ∙ is)

      not_zero : 0 ≢ c
      not_zero zero_block = omega (arith, zero_block, here)

      apart_mod : (q : ℕ) → old.extent.start ≤ q → q < old.next → q % 511 ≢ old.next % 511
      apart_mod q ge lt is = omega (arith, is, room)

      later_mod : (q : ℕ) → old.next + 1 ≤ q → q < old.extent.start + 511 → q % 511 ≢ old.next % 511
      later_mod q ge lt is = omega (arith, is, was.bounds)

      tag_same : (q : ℕ) → q % 511 ≢ old.next % 511 → tag_in h2 q ≡ tag_in old.header q
      tag_same q other = ap (λ (w : ℕ). w / 2 ^ 48 % 2 ^ 8) (words q other)

  pub home_is_put : 513 ≤ c → old.extent.freed ≡ old.extent.start → (IsTrue old.disk.honest → IsLogged old c)
      → IsCirc (record old { disk = d; extent = record old.extent { homes = false }; faulted = f })
  home_is_put high none logged = record {
    bounds = record {
      large = omega (arith, was.bounds, keeps.size);
      start_freed = was.bounds.start_freed;
      freed_end = was.bounds.freed_end;
      end_coming = was.bounds.end_coming;
      few = was.bounds.few;
      narrow = narrow_kept;
      coming_next = was.bounds.coming_next;
      coming_stable = was.bounds.coming_stable;
      stable_next = was.bounds.stable_next;
      fits = was.bounds.fits;
      small = was.bounds.small;
      addresses = addresses_within old.header refl (λ q ge lt. refl);
    };
    sound = λ honest. home_put old.disk.past d.past old.header old.extent old.next was.bounds (was.sound (before honest)) c v (write_of (before honest)) old.header
        refl (λ q ge lt same. omega arith) old.next was.bounds.coming_next (λ q ge lt. refl) high none (named (before honest));
    headers = λ honest good. record { end = header_stays honest good (omega arith) (λ q is. omega arith); start = front_stays honest good (omega arith) };
    label = label_apart (omega arith);
    form = was.form;
    tags_size = was.tags_size;
    lost = lost_kept;
    holds = λ honest sealed. not_tried sealed (omega arith) honest;
    tags = tags_stay (omega arith) (λ q is. omega arith);
  }
    where
      named : IsTrue old.disk.honest → updates_block (updates_between old.disk.past old.header old.extent.start old.extent.end) c ≡ true
      named honest = (λ i. updates_block (sym (taken old.disk.past old.header old.extent.start old.extent.end old.next (omega (arith, was.bounds))) i) c) ∙ logged honest

  module _ (done : f ≡ false → IsTrue old.disk.honest → d.past ≡ past_after (write c v) old.disk.past) where
    reads_written : IsTrue d.honest → f ≡ false → read_of d.past c ≡ v
    reads_written honest good = ap (λ (p : Past). read_of p c) (done good (before honest)) ∙ read_written old.disk.past c v

    pub end_is_put : c ≡ 0 → is_sealed old.header ≡ false → is_sealed v ≡ false → old.extent.coming ≡ old.extent.end → old.extent.stable ≡ old.next → number_at v ≡ old.next
        → ((q : ℕ) → address v q ≡ address old.header q)
        → IsCirc (record old { disk = d; header = v; extent = record old.extent { coming = old.next }; faulted = f })
    end_is_put zero_block was_plain plain one synced put words = record {
      bounds = record {
        large = omega (arith, was.bounds, keeps.size);
        start_freed = was.bounds.start_freed;
        freed_end = was.bounds.freed_end;
        end_coming = omega (arith, was.bounds);
        few = λ sealed. not_sealed plain sealed;
        narrow = λ sealed. not_sealed plain sealed;
        coming_next = omega arith;
        coming_stable = λ _. omega (arith, synced);
        stable_next = was.bounds.stable_next;
        fits = was.bounds.fits;
        small = was.bounds.small;
        addresses = addresses_within v (plain ∙ sym was_plain) (λ q ge lt. words q);
      };
      sound = λ honest. end_put old.disk.past d.past old.header old.extent old.next was.bounds (was.sound (before honest)) c v (write_of (before honest)) v
          (plain ∙ sym was_plain) (λ q ge lt same. omega arith) old.next was.bounds.coming_next (λ q ge lt. words q) zero_block refl one plain synced put;
      headers = λ honest good. record {
        end = (λ i. end_by (subst (λ (n : ℕ). read_of d.past n ≡ v) zero_block (reads_written honest good) i) (read_of d.past)) ∙ plain_end v (read_of d.past) plain ∙ put;
        start = front_stays honest good (omega arith);
      };
      label = label_apart (omega arith);
      form = was.form ∙ was_plain ∙ sym plain;
      tags_size = was.tags_size;
      lost = lost_kept;
      holds = λ honest sealed. not_sealed plain sealed;
      tags = λ honest good sealed. not_sealed plain sealed;
    }

    -- Of a sealed log block 0 is put with the group as its last
    pub group_is_put : c ≡ 0 → old.faulted ≡ false → is_sealed old.header ≡ true → old.extent.coming ≡ old.extent.end
        → is_sealed v ≡ true → begin_of v ≡ old.extent.end → count_in v old.extent.end ≡ old.next - old.extent.end
        → ((q : ℕ) → tag_in v q ≡ tag_in old.header q)
        → ((q : ℕ) → old.extent.start ≤ q → q < old.extent.end → address v q ≡ address old.header q)
        → ((q : ℕ) → home_by v q ≡ home_by old.header q)
        → IsCirc (record old { disk = d; header = v; extent = record old.extent { coming = old.next }; faulted = f })
    group_is_put zero_block well was_sealed one sealed begins counts wants words homes = record {
      bounds = record {
        large = omega (arith, was.bounds, keeps.size);
        start_freed = was.bounds.start_freed;
        freed_end = was.bounds.freed_end;
        end_coming = omega (arith, was.bounds);
        few = λ _. was.bounds.few was_sealed;
        narrow = λ _. narrow_kept was_sealed;
        coming_next = omega arith;
        coming_stable = λ plain. not_sealed plain sealed;
        stable_next = was.bounds.stable_next;
        fits = was.bounds.fits;
        small = was.bounds.small;
        addresses = λ q ge lt. subst (λ (n : ℕ). (513 ≤ n) × (n < d.past.size)) (sym (homes q))
            (subst (λ (n : ℕ). (513 ≤ home_by old.header q) × (home_by old.header q < n)) (sym keeps.size) (was.bounds.addresses q ge lt));
      };
      sound = λ honest. zero_put old.disk.past d.past old.header old.extent old.next was.bounds (was.sound (before honest)) c v (write_of (before honest)) v
          (sealed ∙ sym was_sealed) (λ q ge lt same. omega arith) old.extent.end (omega (arith, one)) words zero_block refl one
          (λ image from new. ⊎_elim (λ whole. inr (whole.0 ∙ sum)) (λ torn. inl torn) (whole_or_not (before honest) image from new))
          (λ image from new q ge lt. ⊎_elim
          (λ (below : q < old.extent.end). (was.sound (before honest)).whole from.old from.was q ge (omega (arith, below, ends_before (before honest) from.old from.was)))
          (λ (behind : old.extent.end ≤ q). ⊎_elim
          (λ whole. whole.1 q behind (omega (arith, lt, whole.0)))
          (λ (torn : end_in image ≡ old.extent.end). absurd (omega (arith, lt, torn, behind)))
          (whole_or_not (before honest) image from new))
          (cases_lt q old.extent.end));
      headers = λ honest good. record {
        end = (λ i. end_by (zero_reads honest good i) (read_of d.past))
            ∙ group_there v (read_of d.past) old.extent.end (old.next - old.extent.end) sealed begins counts
            (λ q ge lt. ap tag_of (others honest q) ∙ (tags_before (before honest)).tagged q ge (omega (arith, lt, was.bounds)) ∙ sym (wants q))
            ∙ sum;
        start = front_stays honest good (omega arith);
      };
      label = label_apart (omega arith);
      form = was.form ∙ was_sealed ∙ sym sealed;
      tags_size = was.tags_size;
      lost = lost_kept;
      holds = λ honest _. let held = was.holds (before honest) was_sealed in record {
        hold = λ image is. let from = (write_of (before honest)).images image is in ⊎_elim
            (λ (kept : block_at image c ≡ block_at from.old c). subst (λ (b : Bytes). old.extent.end ≤ begin_of b + 255) (sym (at_zero image (block_at from.old 0) (subst (λ (n : ℕ). block_at image c ≡ block_at from.old n) zero_block kept))) (held.hold from.old from.was))
            (λ (new : block_at image c ≡ v). subst (λ (b : Bytes). old.extent.end ≤ begin_of b + 255) (sym (at_zero image v new)) (omega (arith, begins)))
            from.here;
        wants = λ image is q ge lt. let from = (write_of (before honest)).images image is in ⊎_elim
            (λ (kept : block_at image c ≡ block_at from.old c).
            ap (λ (b : Bytes). tag_in b q) (at_zero image (block_at from.old 0) (subst (λ (n : ℕ). block_at image c ≡ block_at from.old n) zero_block kept)) ∙ held.wants from.old from.was q ge lt ∙ sym (wants q))
            (λ (new : block_at image c ≡ v). ap (λ (b : Bytes). tag_in b q) (at_zero image v new))
            from.here;
      };
      tags = λ honest good _. let held = tags_before (before honest) in record {
        flight = λ image is q ge lt. let from = (write_of (before honest)).images image is in
            subst (λ (n : ℕ). (block_at image (log_block q) ≡ read_of d.past (log_block q)) ⊎ (tag_of (block_at image (log_block q)) ≢ n)) (sym (wants q))
            (subst (λ (b : Bytes). (b ≡ read_of d.past (log_block q)) ⊎ (tag_of b ≢ tag_in old.header q)) (sym (from.others (log_block q) (λ (is : log_block q ≡ c). omega (arith, is, zero_block))))
            (subst (λ (r : Bytes). (block_at from.old (log_block q) ≡ r) ⊎ (tag_of (block_at from.old (log_block q)) ≢ tag_in old.header q)) (sym (others honest q))
            (held.flight from.old from.was q ge lt)));
        free = λ image is q ge lt. let from = (write_of (before honest)).images image is in
            from.others (log_block q) (λ (is : log_block q ≡ c). omega (arith, is, zero_block)) ∙ held.free from.old from.was q ge lt ∙ sym (others honest q);
        tagged = λ q ge lt. ap tag_of (others honest q) ∙ held.tagged q ge lt ∙ sym (wants q);
        knows = λ q. held.knows q ∙ sym (ap tag_of (others honest q));
        last = subst (λ (b : Bytes). old.next ≤ begin_of b + 255) (sym (zero_reads honest good)) (omega (arith, begins, was.bounds.few was_sealed));
      };
    }
      where
        sum : old.extent.end + (old.next - old.extent.end) ≡ old.next
        sum = omega (arith, was.bounds)

        tags_before : IsTrue old.disk.honest → HasTags old.disk.past old.header old.tags old.extent.start old.extent.end old.extent.coming old.next
        tags_before honest = was.tags honest well was_sealed

        at_zero : (image : List Bytes) (b : Bytes) → block_at image c ≡ b → block_at image 0 ≡ b
        at_zero image b is = subst (λ (n : ℕ). block_at image n ≡ b) zero_block is

        zero_reads : IsTrue d.honest → f ≡ false → read_of d.past 0 ≡ v
        zero_reads honest good = subst (λ (n : ℕ). read_of d.past n ≡ v) zero_block (reads_written honest good)

        others : IsTrue d.honest → (q : ℕ) → read_of d.past (log_block q) ≡ read_of old.disk.past (log_block q)
        others honest q = (write_of (before honest)).others (log_block q) (λ (is : log_block q ≡ c). omega (arith, is, zero_block))

        ends_before : IsTrue old.disk.honest → (image : List Bytes) → IsImage old.disk.past image → end_in image ≡ old.extent.end
        ends_before honest image is = ⊎_elim (λ (e : end_in image ≡ old.extent.end). e) (λ (e : end_in image ≡ old.extent.coming). e ∙ one) ((was.sound honest).end image is)

        whole_or_not : IsTrue old.disk.honest → (image : List Bytes) (from : IsOldOrWritten old.disk.past c v image) → block_at image 0 ≡ v
            → ((end_in image ≡ old.extent.end + (old.next - old.extent.end))
            × ((q : ℕ) → old.extent.end ≤ q → q < old.extent.end + (old.next - old.extent.end) → block_at from.old (log_block q) ≡ read_of old.disk.past (log_block q)))
            ⊎ (end_in image ≡ old.extent.end)
        whole_or_not honest image from new = subst (λ (n : ℕ). ((n ≡ old.extent.end + (old.next - old.extent.end))
            × ((q : ℕ) → old.extent.end ≤ q → q < old.extent.end + (old.next - old.extent.end) → block_at from.old (log_block q) ≡ read_of old.disk.past (log_block q)))
            ⊎ (n ≡ old.extent.end)) (λ i. end_by (sym new i) (block_at image))
            (group_ends v (block_at image) (λ q. block_at from.old (log_block q) ≡ read_of old.disk.past (log_block q)) old.extent.end (old.next - old.extent.end) sealed begins counts
            (λ q ge lt. subst (λ (b : Bytes). (block_at from.old (log_block q) ≡ read_of old.disk.past (log_block q)) ⊎ (tag_of b ≢ tag_in v q))
            (sym (from.others (log_block q) (λ (is : log_block q ≡ c). omega (arith, is, zero_block))))
            (subst (λ (n : ℕ). (block_at from.old (log_block q) ≡ read_of old.disk.past (log_block q)) ⊎ (tag_of (block_at from.old (log_block q)) ≢ n)) (sym (wants q))
            ((tags_before honest).flight from.old from.was q ge (omega (arith, lt, was.bounds))))))

    pub start_is_put : c ≡ 1 → (upto : ℕ) → old.extent.freed ≡ old.extent.start → IsTrue old.extent.homes → old.extent.start ≤ upto → upto ≤ old.extent.end → number_at v ≡ upto
        → label_of v ≡ old.label → (IsTrue old.disk.honest → IsInstalled old upto)
        → IsCirc (record old { disk = d; extent = record old.extent { freed = upto }; faulted = f })
    start_is_put one_block upto none homes ge le put labels installed = record {
      bounds = record {
        large = omega (arith, was.bounds, keeps.size);
        start_freed = ge;
        freed_end = le;
        end_coming = was.bounds.end_coming;
        few = was.bounds.few;
        narrow = narrow_kept;
        coming_next = was.bounds.coming_next;
        coming_stable = was.bounds.coming_stable;
        stable_next = was.bounds.stable_next;
        fits = was.bounds.fits;
        small = was.bounds.small;
        addresses = addresses_within old.header refl (λ q ge lt. refl);
      };
      sound = λ honest. start_put old.disk.past d.past old.header old.extent old.next was.bounds (was.sound (before honest)) c v (write_of (before honest)) old.header
          refl (λ q ge lt same. omega arith) old.next was.bounds.coming_next (λ q ge lt. refl) one_block upto none homes ge le put
          (λ b home lt. sym (blocks_as old upto b (omega (arith, was.bounds))) ∙ installed (before honest) b home lt);
      headers = λ honest good. record {
        end = header_stays honest good (omega arith) (λ q is. omega arith);
        start = ap number_at (subst (λ (n : ℕ). read_of d.past n ≡ v) one_block (reads_written honest good)) ∙ put;
      };
      label = label_put one_block labels;
      form = was.form;
      tags_size = was.tags_size;
      lost = lost_kept;
      holds = λ honest sealed. not_tried sealed (omega arith) honest;
      tags = tags_stay (omega arith) (λ q is. omega arith);
    }
