-- A block that is not in memory is as the disk reads.
use Rattle.std.proofs.Common.{◌≡◌, ◌⊎◌, ℕ, List, IsTrue, false, true, Result, Ok, Err, OnOk, OnErr, sym, ap, subst, ◌∙◌}
use Rattle.journal_block.specs.Block.{Bytes}
use Rattle.journal_block.specs.Updates.{updates_block}
use Rattle.journal_block.specs.UpdateLaws.{updated-unnamed}
use Rattle.journal_circ.specs.Ring.{home_of}
use Rattle.journal_block.specs.Updates.{updated}
use Rattle.journal_disk.specs.Disks.{Past, Keeps, read_of}
use Rattle.journal_disk.specs.Images.{IsImage}
use Rattle.journal_disk.specs.Laws.{leaves_none}
use Rattle.journal_circ.specs.Log.{HasLabel}
use Rattle.journal_circ.specs.StandsFor.{StandsFor}
use Rattle.journal_circ.specs.Ring.{Ring}
use Rattle.journal_wal.specs.Wal.{WalState, Crashes, MayStandFor, blocks_now, blocks_at}
use Rattle.journal_wal.specs.States.{IsWal, updates_to}

pub read_home : {E : Type 0} (w : WalState) (b : ℕ) (bytes : Bytes) (result : Result Unit E) → updates_block w.log.updates b ≡ false
    → OnOk result (bytes ≡ home_of w.ring b) → OnOk result (bytes ≡ blocks_now w b)
read_home w b bytes (Ok unit) unnamed is = is ∙ sym (updated-unnamed w.log.updates b (home_of w.ring b) unnamed)
read_home w b bytes (Err error) unnamed is = tt

-- no update of the log, up to a position, is of the block
pub read_home_at : {E : Type 0} (w : WalState) (to b : ℕ) (bytes : Bytes) (result : Result Unit E) → updates_block (updates_to w.log to) b ≡ false
    → OnOk result (bytes ≡ home_of w.ring b) → OnOk result (bytes ≡ blocks_at w to b)
read_home_at w to b bytes (Ok unit) unnamed is = is ∙ sym (updated-unnamed (updates_to w.log to) b (home_of w.ring b) unnamed)
read_home_at w to b bytes (Err error) unnamed is = tt

-- a read, done or failed, leaves the label
pub label_read : {E : Type 0} (old new : Ring) (result : Result Unit E) → OnOk result (new ≡ record old { disk = new.disk })
    → OnErr result (new ≡ record old { disk = new.disk; faulted = true }) → new.label ≡ old.label
label_read old new (Ok unit) ok err = ap (λ (r : Ring). r.label) ok
label_read old new (Err error) ok err = ap (λ (r : Ring). r.label) err

-- a read leaves what a crash may leave
pub read_crashes : (w : WalState) (now : Ring) → IsWal w → Keeps w.ring.disk now.disk
    → (IsTrue w.ring.disk.honest → now.disk.past ≡ w.ring.disk.past) → now.label ≡ w.ring.label → Crashes w (record w { ring = now })
read_crashes w now is keeps past label = record {
  keeps = keeps;
  label = record { same = label; moments = λ honest. leaves_none w.ring.disk.past now.disk.past (HasLabel w.ring.label) (past honest) (is.label honest) };
  moments = λ honest. leaves_none w.ring.disk.past now.disk.past (MayStandFor w) (past honest) (is.images honest);
  images = λ honest. let was : IsTrue w.ring.disk.honest = subst IsTrue keeps.honest honest in
      subst Every (sym (past was)) (is.images was);
}
  where
    Every : Past → Type 0
    Every p = (image : List Bytes) → IsImage p image
        → StandsFor p.size (λ b. updated (updates_to w.log w.log.logged) b (read_of p b)) image
        ⊎ StandsFor p.size (λ b. updated (updates_to w.log w.log.cut) b (read_of p b)) image
