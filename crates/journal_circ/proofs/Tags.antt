-- What events make of a sealed log's tags.
use Rattle.std.proofs.Common.{◌≡◌, ◌≢◌, ◌⊎◌, inl, inr, ⊎_elim, ◌<◌, ◌≤◌, ◌+◌, ◌-◌, ◌*◌, ◌/◌, ◌%◌, ◌^◌, ℕ, sym, ap, ◌∙◌, arith, subst, List}
use Rattle.std.specs.Prelude.{slice_index_or}
use Rattle.std.proofs.lemmas.Bool.{cases_eq, cases_lt}
use Rattle.journal_block.specs.Block.{Bytes, u64_at}
use Rattle.journal_disk.specs.Disks.{barrier, Past, LostNone, block_at, read_of, past_after}
use Rattle.journal_disk.specs.Images.{IsImage, EveryImage}
use Rattle.journal_disk.specs.Laws.{settled_reads, settled_after_barrier, images_after_barrier}
use Rattle.journal_circ.specs.Log.{log_block, address, begin_of, tag_in, tag_of, tag_at}
use Rattle.journal_circ.specs.Soundness.{HasHolds, HasTags}
use Rattle.journal_circ.proofs.Writes.{Written}

-- After a barrier an image has each block as it reads
reads : (p : Past) → LostNone p → (image : List Bytes) → IsImage (past_after barrier p) image → (b : ℕ) → b < p.size → block_at image b ≡ read_of p b
reads p lost image is b lt = settled_reads (past_after barrier p) (settled_after_barrier p lost) image is b lt

module _ (p : Past) (h tags : Bytes) (start end coming next : ℕ) (large : 513 < p.size) (lost : LostNone p) where
  pub holds_synced : HasHolds p h start end next → HasHolds (past_after barrier p) h start end next
  holds_synced s = record { hold = λ image is. s.hold image (images_after_barrier p image is); wants = λ image is. s.wants image (images_after_barrier p image is) }

  pub tags_synced : HasTags p h tags start end coming next → HasTags (past_after barrier p) h tags start end coming next
  tags_synced s = record {
    flight = λ image is q ge lt. inl (reads p lost image is (log_block q) (omega arith));
    free = λ image is q ge lt. reads p lost image is (log_block q) (omega arith);
    tagged = s.tagged;
    knows = s.knows;
    last = s.last;
  }

  -- the coming end counts
  pub holds_ended : HasHolds p h start end next → HasTags p h tags start end coming next → HasHolds (past_after barrier p) h start coming next
  holds_ended s t = record {
    hold = λ image is. subst (λ (b : Bytes). coming ≤ begin_of b + 255) (sym (reads p lost image is 0 (omega arith))) t.last;
    wants = (holds_synced s).wants;
  }

  pub tags_ended : end ≤ coming → HasTags p h tags start end coming next → HasTags (past_after barrier p) h tags start coming coming next
  tags_ended le s = record {
    flight = λ image is q ge lt. inl (reads p lost image is (log_block q) (omega arith));
    free = λ image is q ge lt. reads p lost image is (log_block q) (omega arith);
    tagged = λ q ge lt. s.tagged q (omega arith) lt;
    knows = s.knows;
    last = s.last;
  }

  -- the positions before a later start are free: of these block 0 has the words that it has in
  -- memory
  pub holds_freed : (from : ℕ) → start ≤ from → from ≤ next → from ≤ end → EveryImage p (λ image. (q : ℕ) → start ≤ q → q < from → address (block_at image 0) q ≡ address h q)
      → HasHolds p h start end next → HasHolds (past_after barrier p) h from end next
  holds_freed from ge le below words s = record {
    hold = (holds_synced s).hold;
    wants = λ image is q q_ge q_lt. ⊎_elim
        (λ (old : q < start + 511). s.wants image (images_after_barrier p image is) q q_ge old)
        (λ (freed : start + 511 ≤ q). ap (λ (w : ℕ). w / 2 ^ 48 % 2 ^ 8)
        (there (block_at image 0) q freed ∙ words image (images_after_barrier p image is) (q - 511) (omega arith) (omega arith) ∙ sym (there h q freed)))
        (cases_lt q (start + 511));
  }
    where
      there : (b : Bytes) (q : ℕ) → start + 511 ≤ q → address b q ≡ address b (q - 511)
      there b q le2 = ap (λ (k : ℕ). u64_at b (8 + 8 * k)) same
        where
          same : q % 511 ≡ (q - 511) % 511
          same = omega arith

  pub tags_freed : (from : ℕ) → HasTags p h tags start end coming next → HasTags (past_after barrier p) h tags from end coming next
  tags_freed from s = record {
    flight = λ image is q ge lt. inl (reads p lost image is (log_block q) (omega arith));
    free = λ image is q ge lt. reads p lost image is (log_block q) (omega arith);
    tagged = s.tagged;
    knows = s.knows;
    last = s.last;
  }

-- Block c may have been written
module _ (p now : Past) (c : ℕ) (v : Bytes) (w : Written p now c v) (h h2 tags : Bytes) (start end coming next : ℕ) where
  -- where it is not block 0
  pub holds_apart : 0 ≢ c → (next2 : ℕ) → next ≤ next2 → ((q : ℕ) → next2 ≤ q → q < start + 511 → tag_in h2 q ≡ tag_in h q)
      → HasHolds p h start end next → HasHolds now h2 start end next2
  holds_apart other next2 ge same s = record {
    hold = λ image is. let from = w.images image is in subst (λ (b : Bytes). end ≤ begin_of b + 255) (sym (from.others 0 other)) (s.hold from.old from.was);
    wants = λ image is q q_ge q_lt. let from = w.images image is in
        ap (λ (b : Bytes). tag_in b q) (from.others 0 other) ∙ s.wants from.old from.was q (omega arith) q_lt ∙ sym (same q q_ge q_lt);
  }

  -- where it is no log block either
  pub tags_apart : 0 ≢ c → ((q : ℕ) → log_block q ≢ c) → HasTags p h tags start end coming next → HasTags now h tags start end coming next
  tags_apart other off s = record {
    flight = λ image is q ge lt. let from = w.images image is in subst (λ (b : Bytes). (b ≡ read_of now (log_block q)) ⊎ (tag_of b ≢ tag_in h q)) (sym (from.others (log_block q) (off q)))
        (subst (λ (r : Bytes). (block_at from.old (log_block q) ≡ r) ⊎ (tag_of (block_at from.old (log_block q)) ≢ tag_in h q)) (sym (w.others (log_block q) (off q))) (s.flight from.old from.was q ge lt));
    free = λ image is q ge lt. let from = w.images image is in from.others (log_block q) (off q) ∙ s.free from.old from.was q ge lt ∙ sym (w.others (log_block q) (off q));
    tagged = λ q ge lt. ap tag_of (w.others (log_block q) (off q)) ∙ s.tagged q ge lt;
    knows = λ q. s.knows q ∙ sym (ap tag_of (w.others (log_block q) (off q)));
    last = subst (λ (b : Bytes). coming ≤ begin_of b + 255) (sym (w.others 0 other)) s.last;
  }

  -- The log block of the next position was written, with a tag that it did not have
  pub tags_slot : c ≡ log_block next → next < start + 511 → start ≤ end → end ≤ next → read_of now c ≡ v → (t : ℕ) → tag_of v ≡ t → tag_in h2 next ≡ t → t ≢ tag_at tags next
      → ((q : ℕ) → end ≤ q → q < next → tag_in h2 q ≡ tag_in h q)
      → (tags2 : Bytes) → tag_at tags2 next ≡ t → ((q : ℕ) → q % 511 ≢ next % 511 → tag_at tags2 q ≡ tag_at tags q)
      → HasTags p h tags start end coming next → HasTags now h2 tags2 start end coming (next + 1)
  tags_slot here room ordered le written t v_tag put new same tags2 known others s = record {
    flight = λ image is q ge lt. let from = w.images image is in ⊎_elim
        (λ (below : q < next). subst (λ (b : Bytes). (b ≡ read_of now (log_block q)) ⊎ (tag_of b ≢ tag_in h2 q)) (sym (from.others (log_block q) (off q (omega arith) (omega arith) (omega arith))))
        (subst (λ (r : Bytes). (block_at from.old (log_block q) ≡ r) ⊎ (tag_of (block_at from.old (log_block q)) ≢ tag_in h2 q)) (sym (w.others (log_block q) (off q (omega arith) (omega arith) (omega arith))))
        (subst (λ (n : ℕ). (block_at from.old (log_block q) ≡ read_of p (log_block q)) ⊎ (tag_of (block_at from.old (log_block q)) ≢ n)) (sym (same q ge below)) (s.flight from.old from.was q ge below))))
        (λ (last : next ≤ q). let at : q ≡ next = omega arith in
        subst (λ (n : ℕ). (block_at image (log_block n) ≡ read_of now (log_block n)) ⊎ (tag_of (block_at image (log_block n)) ≢ tag_in h2 n)) (sym at)
        (subst (λ (b : ℕ). (block_at image b ≡ read_of now b) ⊎ (tag_of (block_at image b) ≢ tag_in h2 next)) here (⊎_elim
        (λ (kept : block_at image c ≡ block_at from.old c). inr (λ (is_put : tag_of (block_at image c) ≡ tag_in h2 next).
        new (sym put ∙ sym is_put ∙ ap tag_of kept ∙ ap tag_of (subst (λ (b : ℕ). block_at from.old b ≡ read_of p b) (sym here) (s.free from.old from.was next (omega arith) room))
        ∙ sym (subst (λ (b : ℕ). tag_at tags next ≡ tag_of (read_of p b)) (sym here) (s.knows next)))))
        (λ (is_new : block_at image c ≡ v). inl (is_new ∙ sym written))
        from.here)))
        (cases_lt q next);
    free = λ image is q ge lt. let from = w.images image is in
        from.others (log_block q) (off q (omega arith) lt (omega arith)) ∙ s.free from.old from.was q (omega arith) lt ∙ sym (w.others (log_block q) (off q (omega arith) lt (omega arith)));
    tagged = λ q ge lt. ⊎_elim
        (λ (below : q < next). ap tag_of (w.others (log_block q) (off q (omega arith) (omega arith) (omega arith))) ∙ s.tagged q ge below ∙ sym (same q ge below))
        (λ (last : next ≤ q). let at : q ≡ next = omega arith in
        subst (λ (n : ℕ). tag_of (read_of now (log_block n)) ≡ tag_in h2 n) (sym at)
        (subst (λ (b : ℕ). tag_of (read_of now b) ≡ tag_in h2 next) here (ap tag_of written ∙ v_tag ∙ sym put)))
        (cases_lt q next);
    knows = λ q. ⊎_elim
        (λ (at : q % 511 ≡ next % 511). subst (λ (k : ℕ). slice_index_or tags2 k 0 ≡ tag_of (read_of now (2 + k))) (sym at)
        (known ∙ sym v_tag ∙ sym (ap tag_of written) ∙ ap (λ (b : ℕ). tag_of (read_of now b)) here))
        (λ (other : q % 511 ≢ next % 511). others q other ∙ s.knows q ∙ sym (ap tag_of (w.others (log_block q) (λ (is : log_block q ≡ c). other (omega (arith, is, here))))))
        (cases_eq (q % 511) (next % 511));
    last = subst (λ (b : Bytes). coming ≤ begin_of b + 255) (sym (w.others 0 (λ (zero_block : 0 ≡ c). omega (arith, here, zero_block)))) s.last;
  }
    where
      off : (q : ℕ) → start ≤ q → q < start + 511 → q ≢ next → log_block q ≢ c
      off q ge lt other is = omega (arith, is, here, other)
