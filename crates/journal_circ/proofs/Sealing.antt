-- What an empty log's images stand for, and those of the same disk with a block 0 of another form.
use Rattle.std.proofs.Common.{◌≡◌, ◌≢◌, ⊎_elim, ◌<◌, ◌≤◌, ◌+◌, ◌-◌, ◌^◌, ℕ, zero, true, length, List, sym, ap, ◌∙◌, arith, IsTrue}
use Rattle.journal_block.specs.Block.{Bytes, u64_at}
use Rattle.journal_block.specs.Updates.{Content, updated}
use Rattle.journal_disk.specs.Disks.{write, barrier, Past, block_at, read_of, past_after, MayHaveHappened}
use Rattle.journal_disk.specs.Images.{IsImage, IsOldOrWritten, IsRewritten}
use Rattle.journal_disk.specs.Moments.{LeavesOnly}
use Rattle.journal_disk.specs.Laws.{leaves_by_write, leaves_by_barrier, leaves_also, leaves_now, others_read, rewritten_synced}
use Rattle.journal_circ.specs.Log.{log_block, is_sealed, begin_of, count_in, end_by, end_in, start_in, updates_from, label_of}
use Rattle.journal_circ.specs.StandsFor.{StandsFor}
use Rattle.journal_circ.specs.Ring.{Ring, home_of, IsHomeAndLabel, ChangesForm}
use Rattle.journal_circ.specs.Soundness.{IsCirc}
use Rattle.journal_circ.specs.Mending.{IsMendable}
use Rattle.journal_circ.proofs.Forms.{end_as}
use Rattle.journal_circ.proofs.Groups.{group_there}

-- a sealed block 0 whose last group has no position ends where that begins
pub none_there : (v : Bytes) (end : ℕ) → is_sealed v ≡ true → begin_of v ≡ end → count_in v end ≡ 0 → (f : Content) → end_by v f ≡ end
none_there v end sealed begins counts f = group_there v f end 0 sealed begins counts (λ q ge lt. absurd (omega (arith, ge, lt))) ∙ all
  where
    all : end + 0 ≡ end
    all = omega arith

module _ (r : Ring) (is : IsCirc r) (honest : IsTrue r.disk.honest) (empty : r.extent.start ≡ r.next) where
  abbrev Stands : List Bytes → Type 0
  Stands = StandsFor r.disk.past.size (home_of r)

  stands : (image : List Bytes) → length image ≡ r.disk.past.size → (is_sealed (block_at image 0) ≡ true → r.disk.past.size ≤ 2 ^ 40)
      → start_in image ≡ r.next → end_in image ≡ r.next
      → ((b : ℕ) → 513 ≤ b → b < r.disk.past.size → block_at image b ≡ home_of r b) → Stands image
  stands image size narrow start end homes = record {
    size = size;
    well_formed = record {
      narrow = λ sealed. omega (arith, size, narrow sealed);
      ordered = omega (arith, start, end);
      fits = omega (arith, start, end);
      small = omega (arith, end, is.bounds);
      addresses = λ q ge lt. absurd (omega (arith, start, end, ge, lt));
    };
    each = λ b home lt. (λ i. updated (updates_from (block_at image 0) (block_at image) (start_in image) (none i)) b (block_at image b)) ∙ homes b home lt;
  }
    where
      none : end_in image - start_in image ≡ zero
      none = omega (arith, start, end)

  start_of : (image : List Bytes) → IsImage r.disk.past image → start_in image ≡ r.next
  start_of image here = ⊎_elim
      (λ (e : start_in image ≡ r.extent.start). let it : start_in image ≡ r.next = omega (arith, e, empty, is.bounds) in it)
      (λ (e : start_in image ≡ r.extent.freed). let it : start_in image ≡ r.next = omega (arith, e, empty, is.bounds) in it)
      ((is.sound honest).start image here)

  end_was : (image : List Bytes) → IsImage r.disk.past image → end_in image ≡ r.next
  end_was image here = ⊎_elim
      (λ (e : end_in image ≡ r.extent.end). let it : end_in image ≡ r.next = omega (arith, e, empty, is.bounds) in it)
      (λ (e : end_in image ≡ r.extent.coming). let it : end_in image ≡ r.next = omega (arith, e, empty, is.bounds) in it)
      ((is.sound honest).end image here)

  homes_of : (image : List Bytes) → IsImage r.disk.past image → (b : ℕ) → 513 ≤ b → b < r.disk.past.size → block_at image b ≡ home_of r b
  homes_of image here b home lt =
      sym (λ i. updated (updates_from r.header (read_of r.disk.past) r.extent.start (none i)) b (block_at image b))
      ∙ (is.sound honest).from_start image here b home lt
      ∙ (λ i. updated (updates_from r.header (read_of r.disk.past) r.extent.start (none i)) b (read_of r.disk.past b))
    where
      none : r.extent.end - r.extent.start ≡ zero
      none = omega (arith, empty, is.bounds)

  -- Block 0 is put, which ends the log where it ends
  module _ (v : Bytes) (ends : (f : Content) → end_by v f ≡ r.next) (narrow : is_sealed v ≡ true → r.disk.past.size ≤ 2 ^ 40) where
    written_stands : (image : List Bytes) → IsOldOrWritten r.disk.past 0 v image → Stands image
    written_stands image from = stands image (from.size ∙ from.was.size)
        (⊎_elim
        (λ (kept : block_at image 0 ≡ block_at from.old 0) (sealed : is_sealed (block_at image 0) ≡ true).
        is.bounds.narrow (sym ((is.sound honest).form from.old from.was) ∙ ap is_sealed (sym kept) ∙ sealed))
        (λ (new : block_at image 0 ≡ v) (sealed : is_sealed (block_at image 0) ≡ true). narrow (ap is_sealed (sym new) ∙ sealed))
        from.here)
        (ap start_at (from.others 1 (λ (no : 1 ≡ 0). omega (arith, no))) ∙ start_of from.old from.was)
        (⊎_elim
        (λ (kept : block_at image 0 ≡ block_at from.old 0).
        end_as (block_at from.old 0) (block_at from.old) image kept (λ q. from.others (log_block q) (λ (no : log_block q ≡ 0). omega (arith, no)))
        ∙ end_was from.old from.was)
        (λ (new : block_at image 0 ≡ v). (λ i. end_by (new i) (block_at image)) ∙ ends (block_at image))
        from.here)
        (λ b home lt. from.others b (λ (no : b ≡ 0). omega (arith, no, home)) ∙ homes_of from.old from.was b home lt)
      where
        start_at : Bytes → ℕ
        start_at bytes = u64_at bytes 0

    written_keeps : (image : List Bytes) → IsOldOrWritten r.disk.past 0 v image → IsHomeAndLabel r image
    written_keeps image from = (written_stands image from, ap label_of (from.others 1 (λ (no : 1 ≡ 0). omega (arith, no))) ∙ is.label honest from.old from.was)

    pub changes : (new : Past) → (mid : Past) × (MayHaveHappened (write 0 v) r.disk.past mid × MayHaveHappened barrier mid new) → ChangesForm r new
    changes new happened = (happened.0, (first, leaves_also happened.0 new (IsImage happened.0) (IsHomeAndLabel r) (leaves_by_barrier happened.0 new happened.1.1) (leaves_now r.disk.past happened.0 (IsHomeAndLabel r) first)))
      where
        first : LeavesOnly r.disk.past happened.0 (IsHomeAndLabel r)
        first = leaves_also r.disk.past happened.0 (IsOldOrWritten r.disk.past 0 v) (IsHomeAndLabel r)
            (leaves_by_write r.disk.past happened.0 0 v (omega (arith, is.bounds)) happened.1.0) written_keeps

    -- and each home block is in each image as it reads, whatever the log names
    pub mends : (new : Past) → (mid : Past) × (MayHaveHappened (write 0 v) r.disk.past mid × MayHaveHappened barrier mid new) → IsMendable new
    mends new happened b home lt leaves image is_one =
        from.others b other ∙ homes_of from.old from.was b home on_disk
        ∙ sym (others_read r.disk.past happened.0 b 0 v happened.1.0 other) ∙ sym (synced.reads b)
      where
        synced : IsRewritten happened.0 new
        synced = rewritten_synced happened.0 new happened.1.1

        from : IsOldOrWritten r.disk.past 0 v image
        from = leaves_now r.disk.past happened.0 (IsOldOrWritten r.disk.past 0 v)
            (leaves_by_write r.disk.past happened.0 0 v (omega (arith, is.bounds)) happened.1.0) image (synced.images image is_one)

        other : b ≢ 0
        other here = omega (arith, here, home)

        same_size : happened.0.size ≡ r.disk.past.size
        same_size = ⊎_elim
            (λ (none : happened.0 ≡ r.disk.past). ap (λ (p : Past). p.size) none)
            (λ (one : happened.0 ≡ past_after (write 0 v) r.disk.past). ap (λ (p : Past). p.size) one)
            happened.1.0

        on_disk : b < r.disk.past.size
        on_disk = omega (arith, lt, synced.size, same_size)
