-- Laws of an object log that was only read.
use Rattle.std.proofs.Common.{◌≡◌, ℕ, IsTrue, ap, subst, sym, ◌∙◌}
use Rattle.journal_world.specs.Addresses.{Shape}
use Rattle.journal_world.specs.Maps.{Map}
use Rattle.journal_block.specs.Updates.{with_updates}
use Rattle.journal_disk.specs.Disks.{Past, read_of}
use Rattle.journal_disk.specs.Images.{EveryImage}
use Rattle.journal_wal.specs.Wal.{WalState, blocks_now}
use Rattle.journal_tail.specs.Maps.{map_of}
use Rattle.journal_objlog.specs.Maps.{OpensAs}
use Rattle.journal_objlog.specs.ObjectLogs.{map_now, OnlyReads, disk_of}

module _ (old new : WalState) (reads : OnlyReads old new) (honest : IsTrue (disk_of old).honest) where
  -- the map now is the same
  pub now_read : (layout : Shape) → map_now layout new ≡ map_now layout old
  now_read layout = ap (map_now layout) reads.same
      ∙ ap (λ (past : Past). map_of layout (with_updates (read_of past) old.log.updates)) (reads.past honest)

  -- and so is each block
  pub block_read : (block : ℕ) → blocks_now new block ≡ blocks_now old block
  block_read block = ap (λ (w : WalState). blocks_now w block) reads.same
      ∙ ap (λ (past : Past). with_updates (read_of past) old.log.updates block) (reads.past honest)

  -- where each image opened as the map now, it does so still
  pub images_read : (layout : Shape) → EveryImage (disk_of old).past (OpensAs (map_now layout old)) → EveryImage (disk_of new).past (OpensAs (map_now layout new))
  images_read layout images =
      subst (λ (past : Past). EveryImage past (OpensAs (map_now layout new))) (sym (reads.past honest))
      (subst (λ (m : Map). EveryImage (disk_of old).past (OpensAs m)) (sym (now_read layout)) images)
