-- What each barrier makes of what holds of every circular log.
use Rattle.std.proofs.Common.{◌≡◌, inl, inr, ⊎_elim, ◌^◌, ◌<◌, ◌≤◌, ℕ, Bool, true, false, List, refl, sym, ap, ◌∙◌, arith, subst, IsTrue}
use Rattle.journal_block.specs.Block.{Bytes, u64_at}
use Rattle.journal_block.specs.Updates.{updated}
use Rattle.journal_disk.specs.Disks.{barrier, Past, DiskState, Keeps, LostNone, block_at, read_of, past_after}
use Rattle.journal_disk.specs.Images.{IsImage, EveryImage}
use Rattle.journal_disk.specs.Laws.{settled_reads, settled_after_barrier, images_after_barrier, lost_none_after}
use Rattle.journal_circ.specs.declared.extent.Extent.{Extent}
use Rattle.journal_circ.specs.Log.{log_block, is_sealed, home_by, end_in, HasLabel}
use Rattle.journal_circ.specs.Ring.{Ring}
use Rattle.journal_circ.specs.Soundness.{updates_between, HasStart, HasEnd, HasForm, HasAddresses, HasLogBlocks, HasWhole, GivesHomeBlocks, HasHomeBlocks, HasHeaders, HasSoundImages, HasHolds, HasTags, HasBounds, IsCirc}
use Rattle.journal_circ.proofs.Forms.{end_as}
use Rattle.journal_circ.proofs.Logs.{updated_cut}
use Rattle.journal_circ.proofs.Tags.{holds_synced, tags_synced, holds_ended, tags_ended, holds_freed, tags_freed}

-- what every image had, every image after a barrier has
kept : (p : Past) (Q : List Bytes → Type 0) → EveryImage p Q → EveryImage (past_after barrier p) Q
kept p Q all image is = all image (images_after_barrier p image is)

-- after a barrier an image has each block as it reads
reads : (p : Past) → LostNone p → (image : List Bytes) → IsImage (past_after barrier p) image → (b : ℕ) → b < p.size → block_at image b ≡ read_of p b
reads p lost image is b lt = settled_reads (past_after barrier p) (settled_after_barrier p lost) image is b lt

abbrev number_at : Bytes → ℕ
number_at bytes = u64_at bytes 0

module _ (p : Past) (h : Bytes) (m : Extent) (next : ℕ) (bounds : HasBounds p.size h m next) (s : HasSoundImages p h m) (lost : LostNone p) where
  log_blocks_synced : HasSoundImages (past_after barrier p) h (record m { stable = next })
  log_blocks_synced = record {
    start = kept p (HasStart m) s.start;
    end = kept p (HasEnd m) s.end;
    form = kept p (HasForm h) s.form;
    addresses = kept p (HasAddresses h m) s.addresses;
    log_blocks = λ image is q ge lt. reads p lost image is (log_block q) (omega (arith, bounds));
    whole = kept p (HasWhole p m) s.whole;
    from_start = kept p (GivesHomeBlocks p h m m.start) s.from_start;
    from_freed = kept p (GivesHomeBlocks p h m m.freed) s.from_freed;
    homes = λ yes. kept p (HasHomeBlocks p) (s.homes yes);
  }

  homes_synced : HasSoundImages (past_after barrier p) h (record m { homes = true })
  homes_synced = record {
    start = kept p (HasStart m) s.start;
    end = kept p (HasEnd m) s.end;
    form = kept p (HasForm h) s.form;
    addresses = kept p (HasAddresses h m) s.addresses;
    log_blocks = kept p (HasLogBlocks p m) s.log_blocks;
    whole = kept p (HasWhole p m) s.whole;
    from_start = kept p (GivesHomeBlocks p h m m.start) s.from_start;
    from_freed = kept p (GivesHomeBlocks p h m m.freed) s.from_freed;
    homes = λ yes image is b home lt. reads p lost image is b lt;
  }

  end_synced : HasHeaders p m → HasSoundImages (past_after barrier p) h (record m { end = m.coming })
  end_synced headers = record {
    start = kept p (HasStart m) s.start;
    end = λ image is. inl (end_as (read_of p 0) (read_of p) image (reads p lost image is 0 (omega (arith, bounds))) (λ q. reads p lost image is (log_block q) (omega (arith, bounds))) ∙ headers.end);
    form = kept p (HasForm h) s.form;
    addresses = kept p (HasAddresses h m) s.addresses;
    log_blocks = kept p (HasLogBlocks p m) s.log_blocks;
    whole = kept p (HasWhole p m) s.whole;
    from_start = kept p (GivesHomeBlocks p h (record m { end = m.coming }) m.start) (longer m.start (omega (arith, bounds)) (omega (arith, bounds)) s.from_start);
    from_freed = kept p (GivesHomeBlocks p h (record m { end = m.coming }) m.freed) (longer m.freed (omega (arith, bounds)) (omega (arith, bounds)) s.from_freed);
    homes = λ yes. kept p (HasHomeBlocks p) (s.homes yes);
  }
    where
      longer : (from : ℕ) → m.start ≤ from → from ≤ m.end → EveryImage p (GivesHomeBlocks p h m from) → EveryImage p (GivesHomeBlocks p h (record m { end = m.coming }) from)
      longer from ge le all image is b home lt =
          updated_cut p h from m.end m.coming b (block_at image b) le bounds.end_coming
          ∙ (λ i. updated (updates_between p h m.end m.coming) b (all image is b home lt i))
          ∙ sym (updated_cut p h m.start m.end m.coming b (read_of p b) (omega (arith, bounds)) bounds.end_coming)

  start_synced : HasHeaders p m → HasSoundImages (past_after barrier p) h (record m { start = m.freed })
  start_synced headers = record {
    start = λ image is. inl (ap number_at (reads p lost image is 1 (omega (arith, bounds))) ∙ headers.start);
    end = kept p (HasEnd m) s.end;
    form = kept p (HasForm h) s.form;
    addresses = kept p (HasAddresses h (record m { start = m.freed })) (λ image is q ge lt. s.addresses image is q (omega (arith, bounds)) lt);
    log_blocks = kept p (HasLogBlocks p (record m { start = m.freed })) (λ image is q ge lt. s.log_blocks image is q (omega (arith, bounds)) lt);
    whole = kept p (HasWhole p (record m { start = m.freed })) (λ image is q ge lt. s.whole image is q (omega (arith, bounds)) lt);
    from_start = shorter;
    from_freed = shorter;
    homes = λ yes. kept p (HasHomeBlocks p) (s.homes yes);
  }
    where
      shorter : EveryImage (past_after barrier p) (GivesHomeBlocks (past_after barrier p) h (record m { start = m.freed }) m.freed)
      shorter image is b home lt = ap (λ (x : Bytes). updated (updates_between p h m.freed m.end) b x) (reads p lost image is b lt)

-- The log after a barrier: the disk and the marks are other ones
module _ (old : Ring) (d : DiskState) (f : Bool) (was : IsCirc old) (keeps : Keeps old.disk d) (well : old.faulted ≡ false)
    (happened : IsTrue old.disk.honest → d.past ≡ past_after barrier old.disk.past) where
  with_disk : (P : Past → Type 0) → IsTrue d.honest → P (past_after barrier old.disk.past) → P d.past
  with_disk P honest here = subst P (sym (happened (subst IsTrue keeps.honest honest))) here

  sound : IsTrue d.honest → HasSoundImages old.disk.past old.header old.extent
  sound honest = was.sound (subst IsTrue keeps.honest honest)

  lost_before : IsTrue d.honest → LostNone old.disk.past
  lost_before honest = was.lost (subst IsTrue keeps.honest honest)

  lost_kept : IsTrue d.honest → LostNone d.past
  lost_kept honest = lost_none_after barrier old.disk.past d.past (inr (happened (subst IsTrue keeps.honest honest))) (lost_before honest)

  headers : IsTrue d.honest → f ≡ false → HasHeaders old.disk.past old.extent
  headers honest good = was.headers (subst IsTrue keeps.honest honest) well

  headers_kept : (m : Extent) → m.coming ≡ old.extent.coming → m.freed ≡ old.extent.freed → IsTrue d.honest → f ≡ false → HasHeaders d.past m
  headers_kept m coming freed honest good = with_disk (λ (p : Past). HasHeaders p m) honest
      (record { end = (headers honest good).end ∙ sym coming; start = (headers honest good).start ∙ sym freed })

  label_kept : IsTrue d.honest → EveryImage d.past (HasLabel old.label)
  label_kept honest = with_disk (λ (p : Past). EveryImage p (HasLabel old.label)) honest
      (kept old.disk.past (HasLabel old.label) (was.label (subst IsTrue keeps.honest honest)))

  narrow_kept : is_sealed old.header ≡ true → d.past.size ≤ 2 ^ 40
  narrow_kept sealed = subst (λ (n : ℕ). n ≤ 2 ^ 40) (sym keeps.size) (was.bounds.narrow sealed)

  honest_before : IsTrue d.honest → IsTrue old.disk.honest
  honest_before honest = subst IsTrue keeps.honest honest

  -- a sealed log's tags where nothing but what is stable changes
  holds_kept : IsTrue d.honest → is_sealed old.header ≡ true → HasHolds d.past old.header old.extent.start old.extent.end old.next
  holds_kept honest sealed = with_disk (λ (p : Past). HasHolds p old.header old.extent.start old.extent.end old.next) honest
      (holds_synced old.disk.past old.header old.tags old.extent.start old.extent.end old.extent.coming old.next was.bounds.large (lost_before honest) (was.holds (honest_before honest) sealed))

  tags_kept : IsTrue d.honest → f ≡ false → is_sealed old.header ≡ true → HasTags d.past old.header old.tags old.extent.start old.extent.end old.extent.coming old.next
  tags_kept honest good sealed = with_disk (λ (p : Past). HasTags p old.header old.tags old.extent.start old.extent.end old.extent.coming old.next) honest
      (tags_synced old.disk.past old.header old.tags old.extent.start old.extent.end old.extent.coming old.next was.bounds.large (lost_before honest) (was.tags (honest_before honest) well sealed))

  addresses_kept : (from : ℕ) → old.extent.start ≤ from → (q : ℕ) → from ≤ q → q < old.next → (513 ≤ home_by old.header q) × (home_by old.header q < d.past.size)
  addresses_kept from le q ge lt = subst (λ (n : ℕ). (513 ≤ home_by old.header q) × (home_by old.header q < n)) (sym keeps.size) (was.bounds.addresses q (omega arith) lt)

  pub slots_are_synced : IsCirc (record old { disk = d; extent = record old.extent { stable = old.next }; faulted = f })
  slots_are_synced = record {
    bounds = record {
      large = omega (arith, was.bounds, keeps.size);
      start_freed = was.bounds.start_freed;
      freed_end = was.bounds.freed_end;
      end_coming = was.bounds.end_coming;
      few = was.bounds.few;
      narrow = narrow_kept;
      coming_next = was.bounds.coming_next;
      coming_stable = λ plain. was.bounds.coming_next;
      stable_next = omega arith;
      fits = was.bounds.fits;
      small = was.bounds.small;
      addresses = addresses_kept old.extent.start (omega arith);
    };
    sound = λ honest. with_disk (λ (p : Past). HasSoundImages p old.header (record old.extent { stable = old.next })) honest
        (log_blocks_synced old.disk.past old.header old.extent old.next was.bounds (sound honest) (lost_before honest));
    headers = headers_kept (record old.extent { stable = old.next }) refl refl;
    label = label_kept;
    form = was.form;
    tags_size = was.tags_size;
    lost = lost_kept;
    holds = holds_kept;
    tags = tags_kept;
  }

  pub end_is_synced : IsCirc (record old { disk = d; extent = record old.extent { end = old.extent.coming }; faulted = f })
  end_is_synced = record {
    bounds = record {
      large = omega (arith, was.bounds, keeps.size);
      start_freed = was.bounds.start_freed;
      freed_end = omega (arith, was.bounds);
      end_coming = omega arith;
      few = λ sealed. omega (arith, was.bounds.few sealed, was.bounds);
      narrow = narrow_kept;
      coming_next = was.bounds.coming_next;
      coming_stable = was.bounds.coming_stable;
      stable_next = was.bounds.stable_next;
      fits = was.bounds.fits;
      small = was.bounds.small;
      addresses = addresses_kept old.extent.start (omega arith);
    };
    sound = λ honest. with_disk (λ (p : Past). HasSoundImages p old.header (record old.extent { end = old.extent.coming })) honest
        (end_synced old.disk.past old.header old.extent old.next was.bounds (sound honest) (lost_before honest) (was.headers (subst IsTrue keeps.honest honest) well));
    headers = headers_kept (record old.extent { end = old.extent.coming }) refl refl;
    label = label_kept;
    form = was.form;
    tags_size = was.tags_size;
    lost = lost_kept;
    holds = λ honest sealed. with_disk (λ (p : Past). HasHolds p old.header old.extent.start old.extent.coming old.next) honest
        (holds_ended old.disk.past old.header old.tags old.extent.start old.extent.end old.extent.coming old.next was.bounds.large (lost_before honest)
        (was.holds (honest_before honest) sealed) (was.tags (honest_before honest) well sealed));
    tags = λ honest good sealed. with_disk (λ (p : Past). HasTags p old.header old.tags old.extent.start old.extent.coming old.extent.coming old.next) honest
        (tags_ended old.disk.past old.header old.tags old.extent.start old.extent.end old.extent.coming old.next was.bounds.large (lost_before honest) was.bounds.end_coming
        (was.tags (honest_before honest) well sealed));
  }

  pub homes_are_synced : IsCirc (record old { disk = d; extent = record old.extent { homes = true }; faulted = f })
  homes_are_synced = record {
    bounds = record {
      large = omega (arith, was.bounds, keeps.size);
      start_freed = was.bounds.start_freed;
      freed_end = was.bounds.freed_end;
      end_coming = was.bounds.end_coming;
      few = was.bounds.few;
      narrow = narrow_kept;
      coming_next = was.bounds.coming_next;
      coming_stable = was.bounds.coming_stable;
      stable_next = was.bounds.stable_next;
      fits = was.bounds.fits;
      small = was.bounds.small;
      addresses = addresses_kept old.extent.start (omega arith);
    };
    sound = λ honest. with_disk (λ (p : Past). HasSoundImages p old.header (record old.extent { homes = true })) honest
        (homes_synced old.disk.past old.header old.extent old.next was.bounds (sound honest) (lost_before honest));
    headers = headers_kept (record old.extent { homes = true }) refl refl;
    label = label_kept;
    form = was.form;
    tags_size = was.tags_size;
    lost = lost_kept;
    holds = holds_kept;
    tags = tags_kept;
  }

  pub start_is_synced : IsCirc (record old { disk = d; extent = record old.extent { start = old.extent.freed }; faulted = f })
  start_is_synced = record {
    bounds = record {
      large = omega (arith, was.bounds, keeps.size);
      start_freed = omega arith;
      freed_end = was.bounds.freed_end;
      end_coming = was.bounds.end_coming;
      few = was.bounds.few;
      narrow = narrow_kept;
      coming_next = was.bounds.coming_next;
      coming_stable = was.bounds.coming_stable;
      stable_next = was.bounds.stable_next;
      fits = omega (arith, was.bounds);
      small = was.bounds.small;
      addresses = addresses_kept old.extent.freed was.bounds.start_freed;
    };
    sound = λ honest. with_disk (λ (p : Past). HasSoundImages p old.header (record old.extent { start = old.extent.freed })) honest
        (start_synced old.disk.past old.header old.extent old.next was.bounds (sound honest) (lost_before honest) (was.headers (subst IsTrue keeps.honest honest) well));
    headers = headers_kept (record old.extent { start = old.extent.freed }) refl refl;
    label = label_kept;
    form = was.form;
    tags_size = was.tags_size;
    lost = lost_kept;
    holds = λ honest sealed. with_disk (λ (p : Past). HasHolds p old.header old.extent.freed old.extent.end old.next) honest
        (holds_freed old.disk.past old.header old.tags old.extent.start old.extent.end old.extent.coming old.next was.bounds.large (lost_before honest) old.extent.freed was.bounds.start_freed
        (omega (arith, was.bounds)) (omega (arith, was.bounds)) (λ image is q ge lt. (sound honest).addresses image is q ge (below honest image is q lt)) (was.holds (honest_before honest) sealed));
    tags = λ honest good sealed. with_disk (λ (p : Past). HasTags p old.header old.tags old.extent.freed old.extent.end old.extent.coming old.next) honest
        (tags_freed old.disk.past old.header old.tags old.extent.start old.extent.end old.extent.coming old.next was.bounds.large (lost_before honest) old.extent.freed
        (was.tags (honest_before honest) well sealed));
  }
    where
      below : IsTrue d.honest → (image : List Bytes) → IsImage old.disk.past image → (q : ℕ) → q < old.extent.freed → q < end_in image
      below honest image is q lt = ⊎_elim
          (λ (e : end_in image ≡ old.extent.end). let it : q < end_in image = omega (arith, e, was.bounds) in it)
          (λ (e : end_in image ≡ old.extent.coming). let it : q < end_in image = omega (arith, e, was.bounds) in it)
          ((sound honest).end image is)

-- a call that failed and left no trace
pub nothing_done : (old : Ring) (d : DiskState) (f : Bool) → IsCirc old → Keeps old.disk d → (IsTrue old.disk.honest → d.past ≡ old.disk.past) → (f ≡ false → old.faulted ≡ false)
    → IsCirc (record old { disk = d; faulted = f })
nothing_done old d f was keeps same fine = record {
  bounds = subst (λ (n : ℕ). HasBounds n old.header old.extent old.next) (sym keeps.size) was.bounds;
  sound = λ honest. let before = subst IsTrue keeps.honest honest in subst (λ (p : Past). HasSoundImages p old.header old.extent) (sym (same before)) (was.sound before);
  headers = λ honest good. let before = subst IsTrue keeps.honest honest in subst (λ (p : Past). HasHeaders p old.extent) (sym (same before)) (was.headers before (fine good));
  label = λ honest. let before = subst IsTrue keeps.honest honest in subst (λ (p : Past). EveryImage p (HasLabel old.label)) (sym (same before)) (was.label before);
  form = was.form;
  tags_size = was.tags_size;
  lost = λ honest. let before = subst IsTrue keeps.honest honest in subst LostNone (sym (same before)) (was.lost before);
  holds = λ honest sealed. let before = subst IsTrue keeps.honest honest in
      subst (λ (p : Past). HasHolds p old.header old.extent.start old.extent.end old.next) (sym (same before)) (was.holds before sealed);
  tags = λ honest good sealed. let before = subst IsTrue keeps.honest honest in
      subst (λ (p : Past). HasTags p old.header old.tags old.extent.start old.extent.end old.extent.coming old.next) (sym (same before)) (was.tags before (fine good) sealed);
}
