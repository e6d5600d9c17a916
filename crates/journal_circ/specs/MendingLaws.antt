-- Which disks can be mended: a settled one, as one that was made or that a crash left, and one that
-- could be, once writes were lost or written again.
use Rattle.std.proofs.Common.{◌≡◌, ◌<◌, ◌≤◌, ◌+◌, ℕ, List, [], map, refl, sym, ap, ◌∙◌, arith, subst}
use Rattle.std.specs.List.{range_with_len}
use Rattle.std.proofs.lemmas.List.FromFn.{fill_by_all, length-map-range_with_len}
use Rattle.journal_block.specs.Block.{Bytes}
use Rattle.journal_disk.specs.Disks.{Past, IsSettled, block_at, past_from, read_of}
use Rattle.journal_disk.specs.Images.{EveryImage, IsImage, reading, LosesWrites, IsRewritten}
use Rattle.journal_disk.specs.Laws.{settled_reads, reading_is_image, reading-at, reads_after_loss, images_after_loss}
use Rattle.journal_circ.specs.Mending.{LeavesOut, IsMendable}

-- a disk on which nothing is pending and of which nothing is lost
pub settled_mendable : (p : Past) → IsSettled p → IsMendable p
settled_mendable p settled b home lt leaves image is = settled_reads p settled image is b lt

-- a disk that was made, or that a crash left
pub begun_mendable : (size : ℕ) (blocks : List Bytes) → IsMendable (past_from size blocks)
begun_mendable size blocks = settled_mendable (past_from size blocks) (λ b lt. (refl, refl))

-- disks that read the same have the same reading
same_reading : (old new : Past) → new.size ≡ old.size → ((b : ℕ) → b < old.size → read_of new b ≡ read_of old b) → reading new ≡ reading old
same_reading old new size reads =
    fill_by_all (read_of old) (reading new) old.size [] (length-map-range_with_len (read_of new) 0 new.size ∙ size)
    (λ b lt. reading-at new b (omega (arith, size, lt)) ∙ reads b lt)

-- a disk of which reads give what they gave, and which has no image more
pub mendable_after : (old new : Past) → new.size ≡ old.size → ((b : ℕ) → b < old.size → read_of new b ≡ read_of old b)
    → EveryImage new (IsImage old) → IsMendable old → IsMendable new
mendable_after old new size reads images mendable b home lt leaves image is =
    mendable b home on_disk (subst (λ (as_read : List Bytes). LeavesOut as_read b) (same_reading old new size reads) leaves) image (images image is)
    ∙ sym (reads b on_disk)
  where
    on_disk : b < old.size
    on_disk = omega (arith, size, lt)

-- a failed barrier, a kill, or both
pub mendable_after_loss : (old new : Past) → LosesWrites old new → IsMendable old → IsMendable new
mendable_after_loss old new loss = mendable_after old new (ap (λ (p : Past). p.size) loss.is) (reads_after_loss old new loss) (images_after_loss old new loss)

-- a mending that failed
pub mendable_after_rewrite : (old new : Past) → IsRewritten old new → IsMendable old → IsMendable new
mendable_after_rewrite old new rewritten = mendable_after old new rewritten.size (λ b lt. rewritten.reads b) rewritten.images

-- each image of a mended disk is one from before the failed barrier
pub images_mended : (old lost mended : Past) → LosesWrites old lost → IsRewritten lost mended → EveryImage mended (IsImage old)
images_mended old lost mended loss rewritten image is = images_after_loss old lost loss image (rewritten.images image is)

-- its reading is among them
pub reading_mended : (old lost mended : Past) → LosesWrites old lost → IsRewritten lost mended → IsImage old (reading mended)
reading_mended old lost mended loss rewritten = images_mended old lost mended loss rewritten (reading mended) (reading_is_image mended)
