-- What refusals are, and leave.
use Rattle.std.proofs.Common.{◌≡◌, ◌∙◌, IsTrue, sym}
use Rattle.journal_disk.specs.Images.{EveryImage}
use Rattle.journal_wal.specs.Wal.{WalState, size_of, MayStandFor}
use Rattle.journal_objlog.specs.ObjectLogs.{map_now, map_cut, map_logged, KeepsMaps, Crashes as MapCrashes, disk_of}
use Rattle.journal_world.proofs.SameMaps.{SameMap-trans}
use Rattle.journal_objlog.proofs.Openings.{crash_read, OnlyReads-refl}

pub keeps_trans : (a b c : WalState) → size_of b ≡ size_of a → KeepsMaps a b → KeepsMaps b c → KeepsMaps a c
keeps_trans a b c size first second = record {
  now = λ n is. SameMap-trans (map_now n c) (map_now n b) (map_now n a) (second.now n (is ∙ sym size)) (first.now n is);
  cut = λ n is. SameMap-trans (map_cut n c) (map_cut n b) (map_cut n a) (second.cut n (is ∙ sym size)) (first.cut n is);
  logged = λ n is. SameMap-trans (map_logged n c) (map_logged n b) (map_logged n a) (second.logged n (is ∙ sym size)) (first.logged n is);
}

-- nothing was done
pub still : (w : WalState) → (IsTrue (disk_of w).honest → EveryImage (disk_of w).past (MayStandFor w)) → MapCrashes w w
still w left = crash_read w w left (OnlyReads-refl w)
