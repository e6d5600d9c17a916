-- A disk on which nothing is pending, and whose blocks 0 and 1 describe a log.
use Rattle.std.proofs.Common.{true, length, ◌+◌, ◌%◌, ◌^◌, if◌then◌else◌, List, ◌≡◌, inl, ⊎_elim, ◌<◌, ◌≤◌, ℕ, Bool, false, true, sym, ap, ◌∙◌, arith, subst, IsTrue}
use Rattle.journal_block.specs.Block.{Bytes, u64_at}
use Rattle.std.specs.Prelude.{slice_index_or}
use Rattle.journal_block.specs.Updates.{Content, updated}
use Rattle.journal_disk.specs.Disks.{Past, DiskState, Keeps, LostNone, IsSettled, block_at, read_of}
use Rattle.journal_disk.specs.Images.{IsImage, EveryImage, reading}
use Rattle.journal_disk.specs.Laws.{settled_reads, settled_lost_none, reading_is_image, reading-at}
use Rattle.journal_circ.specs.declared.extent.Extent.{Extent}
use Rattle.journal_circ.specs.Log.{log_block, address, is_sealed, home_by, begin_of, count_in, tag_in, tag_of, tag_at, are_there, end_of, sealed_end, end_by, end_in, start_in, label_of, HasLabel, DescribesLog, IsWellFormed}
use Rattle.journal_circ.specs.StandsFor.{StandsFor}
use Rattle.journal_circ.specs.Ring.{Ring, blocks_to}
use Rattle.journal_circ.specs.Soundness.{updates_between, HasSoundImages, HasHolds, HasTags, IsCirc}
use Rattle.journal_circ.proofs.Forms.{there_same, end_as}
use Rattle.journal_circ.proofs.Groups.{end_sealed}
use Rattle.journal_circ.proofs.Images.{every_stands}

-- marks of a log from one position to another on which nothing is in flight
abbrev pub resting : ℕ → ℕ → Extent
resting start end = record { start = start; freed = start; end = end; coming = end; stable = end; homes = false }

abbrev number_at : Bytes → ℕ
number_at bytes = u64_at bytes 0

abbrev end_at : Past → ℕ
end_at p = end_by (read_of p 0) (read_of p)

sound : (p : Past) → IsSettled p → 513 < p.size → HasSoundImages p (read_of p 0) (resting (number_at (read_of p 1)) (end_at p))
sound p settled large = record {
  start = λ image is. inl (ap number_at (settled_reads p settled image is 1 (omega arith)));
  end = λ image is. inl (end_as (read_of p 0) (read_of p) image (settled_reads p settled image is 0 (omega arith)) (λ q. settled_reads p settled image is (log_block q) (omega arith)));
  form = λ image is. ap is_sealed (settled_reads p settled image is 0 (omega arith));
  addresses = λ image is q ge lt. ap (λ (x : Bytes). address x q) (settled_reads p settled image is 0 (omega arith));
  log_blocks = λ image is q ge lt. settled_reads p settled image is (log_block q) (omega arith);
  whole = λ image is q ge lt. settled_reads p settled image is (log_block q) (omega arith);
  from_start = λ image is b home lt. ap (updated (updates_between p (read_of p 0) (number_at (read_of p 1)) (end_at p)) b) (settled_reads p settled image is b lt);
  from_freed = λ image is b home lt. ap (updated (updates_between p (read_of p 0) (number_at (read_of p 1)) (end_at p)) b) (settled_reads p settled image is b lt);
  homes = λ (no : false ≡ true). let impossible : ⊥ = cc in absurd impossible;
}

module _ (d d2 : DiskState) (h : Bytes) (tags : Bytes) (start end : ℕ) (f : Bool) (large : 532 ≤ d.past.size) (settled : IsTrue d.honest → IsSettled d.past) (keeps : Keeps d d2)
    (same : IsTrue d.honest → d2.past ≡ d.past) (h_is : IsTrue d.honest → h ≡ read_of d.past 0) (start_is : IsTrue d.honest → start ≡ number_at (read_of d.past 1))
    (ends : IsTrue d.honest → end ≡ end_in (reading d.past)) (log : DescribesLog h start end d.past.size)
    (label : Bytes) (label_is : IsTrue d.honest → label ≡ label_of (read_of d.past 1)) (size : length tags ≡ 4096) (knows : IsTrue d.honest → is_sealed h ≡ true → (q : ℕ) → tag_at tags q ≡ tag_of (read_of d.past (log_block q)))
    (sealed : Bool) (form : sealed ≡ is_sealed h) where
  end_is : IsTrue d.honest → end ≡ end_at d.past
  end_is honest = ends honest ∙ end_as (read_of d.past 0) (read_of d.past) (reading d.past) (reading-at d.past 0 (omega (arith, large)))
      (λ q. reading-at d.past (log_block q) (omega (arith, large)))

  near : IsTrue d.honest → is_sealed h ≡ true → end ≤ begin_of h + 255
  near was is = omega (arith, by (are_there (tag_in h) have (begin_of h) (count_in h (begin_of h))), ends_at)
    where
      have : ℕ → ℕ
      have q = tag_of (read_of d.past (log_block q))

      by : (b : Bool) → (if b then begin_of h + count_in h (begin_of h) else begin_of h) ≤ begin_of h + 255
      by true = omega arith
      by false = omega arith

      ends_at : end ≡ sealed_end h (read_of d.past)
      ends_at = end_is was ∙ (λ i. end_by (sym (h_is was) i) (read_of d.past)) ∙ end_sealed h (read_of d.past) is

  held : IsTrue d.honest → is_sealed h ≡ true → HasHolds d.past h start end end
  held was is_so = record {
    hold = λ image is. subst (λ (b : Bytes). end ≤ begin_of b + 255) (sym (zero_is image is)) (near was is_so);
    wants = λ image is q ge lt. ap (λ (b : Bytes). tag_in b q) (zero_is image is);
  }
    where
      zero_is : (image : List Bytes) → IsImage d.past image → block_at image 0 ≡ h
      zero_is image is = settled_reads d.past (settled was) image is 0 (omega (arith, large)) ∙ sym (h_is was)

  in_order : IsCirc (record { disk = d2; header = h; tags = tags; label = label; sealed = sealed; extent = resting start end; next = end; faulted = f })
  in_order = record {
    bounds = record {
      large = omega (arith, large, keeps.size);
      few = λ _. omega arith;
      narrow = λ is. subst (λ (n : ℕ). n ≤ 2 ^ 40) (sym keeps.size) (log.narrow is);
      start_freed = omega arith;
      freed_end = log.ordered;
      end_coming = omega arith;
      coming_next = omega arith;
      coming_stable = λ plain. omega arith;
      stable_next = omega arith;
      fits = log.fits;
      small = log.small;
      addresses = λ q ge lt. subst (λ (n : ℕ). (513 ≤ home_by h q) × (home_by h q < n)) (sym keeps.size) (log.addresses q ge lt);
    };
    sound = λ honest. let was = subst IsTrue keeps.honest honest in
        subst (λ (p : Past). HasSoundImages p h (resting start end)) (sym (same was))
        (subst (λ (x : Bytes). HasSoundImages d.past x (resting start end)) (sym (h_is was))
        (subst (λ (n : ℕ). HasSoundImages d.past (read_of d.past 0) (resting start n)) (sym (end_is was))
        (subst (λ (n : ℕ). HasSoundImages d.past (read_of d.past 0) (resting n (end_at d.past))) (sym (start_is was))
        (sound d.past (settled was) (omega (arith, large))))));
    headers = λ honest good. let was = subst IsTrue keeps.honest honest in record {
      end = ap end_at (same was) ∙ sym (end_is was);
      start = ap (λ (p : Past). number_at (read_of p 1)) (same was) ∙ sym (start_is was);
    };
    label = λ honest. let was = subst IsTrue keeps.honest honest in
        subst (λ (p : Past). EveryImage p (HasLabel label)) (sym (same was))
        (λ image is. ap label_of (settled_reads d.past (settled was) image is 1 (omega (arith, large))) ∙ sym (label_is was));
    form = form;
    tags_size = size;
    lost = λ honest. let was = subst IsTrue keeps.honest honest in subst LostNone (sym (same was)) (settled_lost_none d.past (settled was));
    holds = λ honest is. let was = subst IsTrue keeps.honest honest in
        subst (λ (p : Past). HasHolds p h start end end) (sym (same was)) (held was is);
    tags = λ honest good is. let was = subst IsTrue keeps.honest honest in
        subst (λ (p : Past). HasTags p h tags start end end end) (sym (same was)) (record {
          flight = λ image is q ge lt. absurd (omega arith);
          free = λ image is q ge lt. settled_reads d.past (settled was) image is (log_block q) (omega (arith, large));
          tagged = λ q ge lt. absurd (omega arith);
          knows = knows was is;
          last = subst (λ (b : Bytes). end ≤ begin_of b + 255) (h_is was) (near was is);
        });
  }

  pub opened : (m : Extent) → m ≡ resting start end → IsCirc (record { disk = d2; header = h; tags = tags; label = label; sealed = sealed; extent = m; next = m.end; faulted = f })
  opened m is = subst (λ (k : Extent). IsCirc (record { disk = d2; header = h; tags = tags; label = label; sealed = sealed; extent = k; next = k.end; faulted = f })) (sym is) in_order

-- where nothing is in flight each image stands for the same
pub stand_at_rest : (r : Ring) → IsCirc r → IsTrue r.disk.honest → r.extent.coming ≡ r.extent.end → EveryImage r.disk.past (StandsFor r.disk.past.size (blocks_to r r.extent.end))
stand_at_rest r is honest one image here = ⊎_elim
    (λ stands. stands)
    (λ stands. subst (λ (n : ℕ). StandsFor r.disk.past.size (blocks_to r n) image) one stands)
    (every_stands r is honest image here)

-- The end that block 0 and the tags tell
pub end_told : (h : Bytes) (f : Content) (tags : Bytes) → is_sealed h ≡ true → ((q : ℕ) → tag_at tags q ≡ tag_of (f (log_block q)))
    → end_of (tag_in h) (tag_at tags) (begin_of h) (count_in h (begin_of h)) ≡ end_by h f
end_told h f tags sealed told = (λ i. if there_same (tag_in h) (λ q. tag_of (f (log_block q))) (tag_at tags) (begin_of h) (count_in h (begin_of h)) (λ q ge lt. told q) i
    then begin_of h + count_in h (begin_of h) else begin_of h)
    ∙ sym (end_sealed h f sealed)

pub all_told : (f : Content) (tags : Bytes) → ((q : ℕ) → q < 511 → tag_at tags q ≡ tag_of (f (log_block q))) → (q : ℕ) → tag_at tags q ≡ tag_of (f (log_block q))
all_told f tags told q = subst (λ (k : ℕ). slice_index_or tags k 0 ≡ tag_of (f (2 + k))) same (told (q % 511) (omega arith))
  where
    same : q % 511 % 511 ≡ q % 511
    same = omega arith

module _ (p : Past) (large : 532 ≤ p.size) (h : Bytes) (start end : ℕ) (h_is : h ≡ read_of p 0) (start_is : start ≡ number_at (read_of p 1)) (end_is : end ≡ end_by h (read_of p)) where
  zero_is : block_at (reading p) 0 ≡ h
  zero_is = reading-at p 0 (omega arith) ∙ sym h_is

  first_is : start_in (reading p) ≡ start
  first_is = ap number_at (reading-at p 1 (omega arith)) ∙ sym start_is

  pub last_is : end_in (reading p) ≡ end
  last_is = end_as h (read_of p) (reading p) zero_is (λ q. reading-at p (log_block q) (omega arith)) ∙ sym end_is

  all_are : length (reading p) ≡ p.size
  all_are = (reading_is_image p).size

  pub describes : IsWellFormed (reading p) → DescribesLog h start end p.size
  describes w = subst (λ (b : Bytes). DescribesLog b start end p.size) zero_is
      (subst (λ (n : ℕ). DescribesLog (block_at (reading p) 0) n end p.size) first_is
      (subst (λ (n : ℕ). DescribesLog (block_at (reading p) 0) (start_in (reading p)) n p.size) last_is
      (subst (λ (n : ℕ). DescribesLog (block_at (reading p) 0) (start_in (reading p)) (end_in (reading p)) n) all_are w)))

  pub described : DescribesLog h start end p.size → IsWellFormed (reading p)
  described log = subst (λ (n : ℕ). DescribesLog (block_at (reading p) 0) (start_in (reading p)) (end_in (reading p)) n) (sym all_are)
      (subst (λ (n : ℕ). DescribesLog (block_at (reading p) 0) (start_in (reading p)) n p.size) (sym last_is)
      (subst (λ (n : ℕ). DescribesLog (block_at (reading p) 0) n end p.size) (sym first_is)
      (subst (λ (b : Bytes). DescribesLog b start end p.size) (sym zero_is) log)))

pub well_formed_by : (p : Past) (large : 532 ≤ p.size) (h : Bytes) (start end : ℕ) → h ≡ read_of p 0 → start ≡ number_at (read_of p 1) → end ≡ end_in (reading p)
    → DescribesLog h start end p.size → IsWellFormed (reading p)
well_formed_by p large h start end h_is start_is ends = described p large h start end h_is start_is
    (ends ∙ end_as h (read_of p) (reading p) (reading-at p 0 (omega arith) ∙ sym h_is) (λ q. reading-at p (log_block q) (omega arith)))
