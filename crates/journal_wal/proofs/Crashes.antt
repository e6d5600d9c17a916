-- What the log on the disk says of images, in the words of the log in memory.
use Rattle.std.proofs.Common.{◌≡◌, ◌⊎◌, inl, inr, ⊎_elim, ◌≤◌, ◌-◌, ℕ, List, take, refl, sym, ap, subst, ◌∙◌, arith, IsTrue}
use Rattle.std.proofs.lemmas.List.{take-take}
use Rattle.journal_block.specs.declared.update.Update.{Update}
use Rattle.journal_block.specs.Block.{Bytes}
use Rattle.journal_block.specs.Updates.{updated}
use Rattle.journal_disk.specs.Disks.{Past}
use Rattle.journal_disk.specs.Images.{EveryImage}
use Rattle.journal_disk.specs.Moments.{LeavesOnly}
use Rattle.journal_disk.specs.Laws.{leaves_also, leaves_now}
use Rattle.journal_circ.specs.Log.{HasLabel}
use Rattle.journal_circ.specs.StandsFor.{StandsFor}
use Rattle.journal_circ.specs.Ring.{Ring, log_of, home_of, blocks_to, StandsForEither, Crashes as RingCrashes}
use Rattle.journal_circ.specs.Laws.{stands_same}
use Rattle.journal_memlog.specs.Logs.{LogState}
use Rattle.journal_wal.specs.Wal.{WalState, MayStandFor, size_of, blocks_at}
use Rattle.journal_wal.specs.States.{AreTied, updates_to}

-- the label that stays is in each image
pub labels_of : {coming : ℕ} (old new : Ring) → RingCrashes coming old new → IsTrue new.disk.honest → EveryImage new.disk.past (HasLabel new.label)
labels_of old new steps honest = subst (λ (l : Bytes). EveryImage new.disk.past (HasLabel l)) (sym steps.label.same)
    (leaves_now old.disk.past new.disk.past (HasLabel old.label) (steps.label.moments (subst IsTrue steps.keeps.honest honest)))

-- the log on the disk, up to a position that was put
pub ring_updates : (ring : Ring) (log : LogState) → ring.extent.start ≡ log.start
    → log_of ring ≡ take (ring.next - log.start) log.updates → (to : ℕ) → to ≤ ring.next
    → take (to - ring.extent.start) (log_of ring) ≡ updates_to log to
ring_updates ring log start same to le =
    (λ i. take (to - start i) (same i)) ∙ take-take (to - log.start) (ring.next - log.start) log.updates (omega (arith, le))

module _ (w : WalState) (tied : AreTied w.ring w.log) (same : log_of w.ring ≡ take (w.ring.next - w.log.start) w.log.updates) where
  pub ring_blocks : (to b : ℕ) → to ≤ w.ring.next → blocks_to w.ring to b ≡ blocks_at w to b
  ring_blocks to b le = ap (λ (us : List Update). updated us b (home_of w.ring b)) (ring_updates w.ring w.log tied.start same to le)

  stands_at : (to at : ℕ) (image : List Bytes) → to ≡ at → to ≤ w.ring.next
      → StandsFor w.ring.disk.past.size (blocks_to w.ring to) image → StandsFor (size_of w) (blocks_at w at) image
  stands_at to at image is le stands =
      subst (λ (n : ℕ). StandsFor (size_of w) (blocks_at w n) image) is
      (stands_same (size_of w) (size_of w) (blocks_to w.ring to) (blocks_at w to) image refl (λ b home lt. ring_blocks to b le) stands)

  pub is_crash : (end coming : ℕ) → end ≡ w.log.logged
      → (coming ≡ w.log.logged) ⊎ ((coming ≡ w.log.cut) × (w.ring.next ≡ w.log.cut))
      → (image : List Bytes) → StandsForEither w.ring end coming image → MayStandFor w image
  is_crash end coming end_is coming_is image either = ⊎_elim
      (λ old. inl (stands_at end w.log.logged image end_is (omega (arith, end_is, tied.end_to_next)) old))
      (λ new. ⊎_elim
      (λ (last : coming ≡ w.log.logged). inl (stands_at coming w.log.logged image last (omega (arith, last, tied.end_to_next)) new))
      (λ cut. inr (stands_at coming w.log.cut image cut.0 (omega (arith, cut.0, cut.1)) new))
      coming_is)
      either

  pub images_of : EveryImage w.ring.disk.past (StandsForEither w.ring w.ring.extent.end w.ring.extent.coming)
      → EveryImage w.ring.disk.past (MayStandFor w)
  images_of every image is = is_crash w.ring.extent.end w.ring.extent.coming tied.end tied.coming image (every image is)

  pub moments_of : (later : Past) (coming : ℕ)
      → (coming ≡ w.log.logged) ⊎ ((coming ≡ w.log.cut) × (w.ring.next ≡ w.log.cut))
      → LeavesOnly w.ring.disk.past later (StandsForEither w.ring w.ring.extent.end coming)
      → LeavesOnly w.ring.disk.past later (MayStandFor w)
  moments_of later coming coming_is leaves =
      leaves_also w.ring.disk.past later (StandsForEither w.ring w.ring.extent.end coming) (MayStandFor w) leaves
      (λ image. is_crash w.ring.extent.end coming tied.end coming_is image)
