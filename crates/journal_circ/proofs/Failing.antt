-- What a failed barrier leaves of the home blocks: those that the log does not name the device has as
-- they read.
use Rattle.std.proofs.Common.{◌≡◌, ◌≢◌, ⊎_elim, ◌<◌, ◌≤◌, ◌+◌, ◌-◌, ◌||◌, ℕ, zero, suc, Bool, false, List, refl, sym, ap, ◌∙◌, arith, IsTrue}
use Rattle.std.proofs.lemmas.Bool.{ne_eqb}
use Rattle.journal_block.specs.Block.{Bytes}
use Rattle.journal_block.specs.declared.update.Update.{Update}
use Rattle.journal_block.specs.Updates.{Content, updated, updates_block}
use Rattle.journal_block.specs.UpdateLaws.{updated-unnamed}
use Rattle.journal_disk.specs.Disks.{block_at, read_of}
use Rattle.journal_disk.specs.Images.{IsImage, EveryImage, reading}
use Rattle.journal_disk.specs.Laws.{reading_is_image, reading-at}
use Rattle.journal_circ.specs.Log.{home_by, start_in, end_in, updates_from}
use Rattle.journal_circ.specs.Ring.{Ring}
use Rattle.journal_circ.specs.Soundness.{updates_between, IsCirc}
use Rattle.journal_circ.specs.Mending.{LeavesOut, IsMendable}
use Rattle.journal_circ.proofs.Forms.{form_home}

module _ (r : Ring) (is : IsCirc r) (honest : IsTrue r.disk.honest) (b : ℕ) (home : 513 ≤ b) (lt : b < r.disk.past.size)
    (unnamed : updates_block (updates_between r.disk.past r.header r.extent.freed r.extent.end) b ≡ false) where
  pub unnamed_agrees : EveryImage r.disk.past (λ image. block_at image b ≡ read_of r.disk.past b)
  unnamed_agrees image here =
      sym (updated-unnamed log b (block_at image b) unnamed)
      ∙ (is.sound honest).from_freed image here b home lt
      ∙ sym ((is.sound honest).from_freed (reading r.disk.past) (reading_is_image r.disk.past) b home lt)
      ∙ (λ i. updated log b (reading-at r.disk.past b lt i))
      ∙ updated-unnamed log b (read_of r.disk.past b) unnamed
    where
      log : List Update
      log = updates_between r.disk.past r.header r.extent.freed r.extent.end

-- updates of which none is of a block do not name it
unnamed_by : (h : Bytes) (blocks : Content) (from n b : ℕ) → ((q : ℕ) → from ≤ q → q < from + n → home_by h q ≢ b)
    → updates_block (updates_from h blocks from n) b ≡ false
unnamed_by h blocks from zero b none = refl
unnamed_by h blocks from (suc n) b none =
    ap (λ (t : Bool). t || updates_block (updates_from h blocks (from + 1) n) b) (ne_eqb (home_by h from) b (none from (omega arith) (omega arith)))
    ∙ unnamed_by h blocks (from + 1) n b (λ q ge lt. none q (omega arith) (omega arith))

-- The log as it reads has each position from the later start to the end, with its home block
module _ (r : Ring) (is : IsCirc r) (honest : IsTrue r.disk.honest) where
  as_read : List Bytes
  as_read = reading r.disk.past

  has_image : IsImage r.disk.past as_read
  unfolding as_read
  has_image = reading_is_image r.disk.past

  starts : start_in as_read ≤ r.extent.freed
  starts = ⊎_elim
      (λ (at_start : start_in as_read ≡ r.extent.start). let order = is.bounds.start_freed in omega (arith, at_start, order))
      (λ (at_freed : start_in as_read ≡ r.extent.freed). omega (arith, at_freed))
      ((is.sound honest).start as_read has_image)

  ends : r.extent.end ≤ end_in as_read
  ends = ⊎_elim
      (λ (at_end : end_in as_read ≡ r.extent.end). omega (arith, at_end))
      (λ (at_coming : end_in as_read ≡ r.extent.coming). let order = is.bounds.end_coming in omega (arith, at_coming, order))
      ((is.sound honest).end as_read has_image)

  same_home : (q : ℕ) → r.extent.start ≤ q → q < end_in as_read → home_by (block_at as_read 0) q ≡ home_by r.header q
  same_home q ge lt = form_home r.header (block_at as_read 0) q ((is.sound honest).form as_read has_image)
      ((is.sound honest).addresses as_read has_image q ge lt)

  left_out : (b : ℕ) → LeavesOut as_read b → updates_block (updates_between r.disk.past r.header r.extent.freed r.extent.end) b ≡ false
  left_out b leaves = unnamed_by r.header (read_of r.disk.past) r.extent.freed (r.extent.end - r.extent.freed) b
      (λ q ge lt same. let below = is.bounds.start_freed in let order = is.bounds.freed_end in let from = starts in let to = ends in
      leaves q (omega (arith, from, ge)) (omega (arith, to, lt, ge, order)) (same_home q (omega (arith, below, ge)) (omega (arith, to, lt, ge, order)) ∙ same))

-- so whoever gives a log's disk up gives one that can be mended, be it after a fault
pub mendable : (r : Ring) → IsCirc r → IsTrue r.disk.honest → IsMendable r.disk.past
unfolding as_read
mendable r is honest b home lt leaves = unnamed_agrees r is honest b home lt (left_out r is honest b leaves)
