-- An image of an image is one of the disk that the first was made of.
use Rattle.std.proofs.Common.{◌≡◌, ⊎_elim, ◌<◌, ℕ, List, [], Contains, Result, Ok, Err, IfOk, sym, subst, arith}
use Rattle.journal_block.specs.Block.{Bytes}
use Rattle.journal_disk.specs.Disks.{Past, block_at, past_from}
use Rattle.journal_disk.specs.Images.{MayLeave, IsImage, EveryImage}
use Rattle.journal_disk.specs.MemDisks.{MemState, disk_from}

again : (p : Past) (blocks other : List Bytes) → IsImage p blocks → IsImage (past_from p.size blocks) other → IsImage p other
again p blocks other was is = record {
  size = is.size;
  each = λ b lt. subst (MayLeave p b) (sym (stays b lt)) (was.each b lt);
}
  where
    nothing : (b : ℕ) → Contains [] (block_at other b) → block_at other b ≡ block_at blocks b
    nothing b among = absurd (omega (arith, among.1))

    stays : (b : ℕ) → b < p.size → block_at other b ≡ block_at blocks b
    stays b lt = ⊎_elim (λ same. same) (λ rest. ⊎_elim (λ among. nothing b among) (λ reads. reads) rest) (is.each b lt)

-- what holds of each image of a disk holds of each image of one of these
pub images_again : {E T : Type 0} (p : Past) (Q : List Bytes → Type 0) (blocks : List Bytes) (r : Result MemState E) → IfOk r (λ m. m ≡ disk_from p.size blocks)
    → IfOk r (λ m. IsImage p m.past.first) → (T → EveryImage p Q) → IfOk r (λ m. T → EveryImage m.past Q)
images_again p Q blocks (Err why) is image all = tt
images_again p Q blocks (Ok m) is image all = λ yes other one.
    all yes other (again p blocks other (subst (λ (x : MemState). IsImage p x.past.first) is image) (subst (λ (x : MemState). IsImage x.past other) is one))
