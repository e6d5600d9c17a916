-- What a poke leaves of a disk.
use Rattle.std.proofs.Common.{◌≡◌, ◌<◌, inr, ⊎_elim, ℕ, List, [], refl, sym, ap, subst, arith, ◌∙◌}
use Rattle.journal_block.specs.Block.{Bytes, with_bytes}
use Rattle.journal_disk.specs.Disks.{Past, write, barrier, block_at, newest, pending_of, stable_of, read_of, past_after, past_from, IsSettled, LostNone, MayHaveHappened}
use Rattle.journal_disk.specs.Images.{IsImage}
use Rattle.journal_disk.specs.MemDisks.{MemState, disk_from, chosen, image_of}
use Rattle.journal_disk.specs.Laws.{read_written, read_other, settled_reads, settled_after_barrier, lost_none_after}
use Rattle.std.proofs.Math.ListN.{drop_of_length-le}
use Rattle.std.proofs.lemmas.List.FromFn.{get_or-map-range_with_len}
use Rattle.journal_script.specs.Downs.{IsPoked, ReadsAsBefore}

-- an image of a disk whose writes were just made stable has its blocks as they read
synced_image : (p : Past) (first : List Bytes) → LostNone p → IsImage (past_after barrier p) first → (b : ℕ) → b < p.size → block_at first b ≡ read_of p b
synced_image p first lost image b lt = settled_reads (past_after barrier p) (settled_after_barrier p lost) first image b lt

-- a write that was made stable, and then the image that a crash leaves
pub poked_image : (old : Past) (block at : ℕ) (bytes : Bytes) (first : List Bytes) → block < old.size → LostNone old
    → IsImage (past_after barrier (past_after (write block (with_bytes (read_of old block) at bytes)) old)) first
    → IsPoked block at bytes old (past_from old.size first)
poked_image old block at bytes first lt lost image = record {
  size = refl;
  here = synced_image (past_after (write block (with_bytes (read_of old block) at bytes)) old) first written image block lt
      ∙ read_written old block (with_bytes (read_of old block) at bytes);
  others = λ b b_lt other. synced_image (past_after (write block (with_bytes (read_of old block) at bytes)) old) first written image b b_lt
      ∙ read_other old b block (with_bytes (read_of old block) at bytes) other;
}
  where
    written : LostNone (past_after (write block (with_bytes (read_of old block) at bytes)) old)
    written = lost_none_after (write block (with_bytes (read_of old block) at bytes)) old
        (past_after (write block (with_bytes (read_of old block) at bytes)) old) (inr refl) lost

-- what a crash leaves begins anew
pub begun_first : (m : MemState) (n : ℕ) (first : List Bytes) → m ≡ disk_from n first → m.past ≡ past_from n m.past.first
begun_first m n first is = subst (λ (k : MemState). k.past ≡ past_from n k.past.first) (sym is) refl

-- the same of a disk as a call leaves it
pub poked : (old mid : Past) (new : MemState) (block at : ℕ) (bytes : Bytes) (image : List Bytes) → block < old.size → LostNone old
    → mid ≡ past_after barrier (past_after (write block (with_bytes (read_of old block) at bytes)) old)
    → IsImage mid new.past.first → new ≡ disk_from mid.size image → IsPoked block at bytes old new.past
poked old mid new block at bytes image lt lost is left anew =
    subst (λ (p : Past). IsPoked block at bytes old p)
    (sym (begun_first new mid.size image anew ∙ ap (λ (p : Past). past_from p.size new.past.first) is))
    (poked_image old block at bytes new.past.first lt lost (subst (λ (p : Past). IsImage p new.past.first) is left))

-- where a choice has no number, a crash leaves each block as last synced
chosen-none : (p : Past) (b : ℕ) → chosen p [] b ≡ stable_of p b
chosen-none p b = ap (λ (ws : List Bytes). newest ws (stable_of p b)) (drop_of_length-le (pending_of p b) (omega arith))

stable_image : (p : Past) (b : ℕ) → b < p.size → block_at (image_of p []) b ≡ stable_of p b
stable_image p b lt = get_or-map-range_with_len (chosen p []) 0 p.size b b [] lt (omega arith) ∙ chosen-none p b

-- a disk on which nothing was pending, and at most a write was made since, reads as before after
-- such a crash
pub reads_kept : (old mid : Past) (new : MemState) (block : ℕ) (bytes : Bytes) → IsSettled old
    → MayHaveHappened (write block bytes) old mid → new ≡ disk_from mid.size (image_of mid []) → ReadsAsBefore old new.past
reads_kept old mid new block bytes settled happened anew = record {
  size = ap (λ (m : MemState). m.past.size) anew ∙ size;
  reads = λ b lt. ap (λ (m : MemState). read_of m.past b) anew
      ∙ stable_image mid b (omega (arith, lt, size))
      ∙ stable b
      ∙ (settled b lt).1;
}
  where
    size : mid.size ≡ old.size
    size = ⊎_elim (λ none. ap (λ (p : Past). p.size) none) (λ one. ap (λ (p : Past). p.size) one) happened

    stable : (b : ℕ) → stable_of mid b ≡ stable_of old b
    stable b = ⊎_elim (λ none. ap (λ (p : Past). stable_of p b) none) (λ one. ap (λ (p : Past). stable_of p b) one) happened
