-- What reads leave of the maps, and of what a crash may leave.
use Rattle.std.proofs.Common.{◌≡◌, inl, inr, ⊎_elim, ◌<◌, ◌≤◌, IsTrue, List, refl, sym, ap, subst, ◌∙◌, arith}
use Rattle.std.proofs.lemmas.Bool.{cases_lt}
use Rattle.journal_world.specs.Addresses.{Shape}
use Rattle.journal_world.specs.Maps.{Map}
use Rattle.journal_block.specs.Block.{Bytes}
use Rattle.journal_disk.specs.Disks.{Past, DiskState, Keeps, HasFailed}
use Rattle.journal_disk.specs.Images.{EveryImage}
use Rattle.journal_disk.specs.Moments.{LeavesOnly}
use Rattle.journal_disk.specs.Laws.{leaves_none, leaves_also}
use Rattle.journal_wal.specs.Wal.{WalState, size_of, MayStandFor}
use Rattle.journal_objlog.specs.Maps.{OpensAs}
use Rattle.journal_objlog.specs.ObjectLogs.{EachLayout, map_cut, map_logged, MayOpenAs, KeepsMaps, Crashes as MapCrashes, OnlyReads, disk_of}
use Rattle.journal_objlog.specs.MapLaws.{opens_crash}
use Rattle.journal_objlog.specs.ReadLaws.{now_read}
use Rattle.journal_tail.proofs.MapsOfBlocks.{SameMap-path}

-- nothing changed but what no map shows
module _ (old new : WalState) (reads : OnlyReads old new) (honest : IsTrue (disk_of old).honest) where
  pub cut_read : (layout : Shape) → map_cut layout new ≡ map_cut layout old
  cut_read layout = ap (map_cut layout) reads.same
      ∙ ap (λ (past : Past). map_cut layout (record old { ring = record old.ring { disk = record old.ring.disk { past = past } } })) (reads.past honest)

  pub logged_read : (layout : Shape) → map_logged layout new ≡ map_logged layout old
  logged_read layout = ap (map_logged layout) reads.same
      ∙ ap (λ (past : Past). map_logged layout (record old { ring = record old.ring { disk = record old.ring.disk { past = past } } })) (reads.past honest)

  pub maps_read : KeepsMaps old new
  maps_read = record {
    now = λ layout size. SameMap-path (now_read old new reads honest layout);
    cut = λ layout size. SameMap-path (cut_read layout);
    logged = λ layout size. SameMap-path (logged_read layout);
  }

  pub opens_read : (layout : Shape) (image : List Bytes) → MayOpenAs layout new image → MayOpenAs layout old image
  opens_read layout image opens = ⊎_elim
      (λ is. inl (subst (λ (m : Map). OpensAs m image) (logged_read layout) is))
      (λ is. inr (subst (λ (m : Map). OpensAs m image) (cut_read layout) is))
      opens

  pub opens_as_read : (layout : Shape) (image : List Bytes) → MayOpenAs layout old image → MayOpenAs layout new image
  opens_as_read layout image opens = ⊎_elim
      (λ is. inl (subst (λ (m : Map). OpensAs m image) (sym (logged_read layout)) is))
      (λ is. inr (subst (λ (m : Map). OpensAs m image) (sym (cut_read layout)) is))
      opens

pub OnlyReads-refl : (w : WalState) → OnlyReads w w
OnlyReads-refl w = record {
  same = refl;
  keeps = record { size = refl; honest = refl; failures = omega arith };
  past = λ honest. refl;
  fault = λ faulted. inl faulted;
  stays = λ faulted. faulted;
}

-- a failure is one of a longer time
pub failed_before : (a b c : DiskState) → Keeps a b → Keeps b c → HasFailed a b → HasFailed a c
failed_before a b c first second (inl rose) = inl (omega (arith, rose, second.failures))
failed_before a b c first second (inr most) = ⊎_elim
    (λ (rose : a.failures < c.failures). inl rose)
    (λ (stays : c.failures ≤ a.failures).
    let same : c.failures ≡ b.failures = omega (arith, stays, first.failures, second.failures) in
    inr (same ∙ most))
    (cases_lt a.failures c.failures)

pub failed_after : (a b c : DiskState) → Keeps a b → HasFailed b c → HasFailed a c
failed_after a b c first (inl rose) = inl (omega (arith, rose, first.failures))
failed_after a b c first (inr most) = inr most

pub OnlyReads-trans : (a b c : WalState) → OnlyReads a b → OnlyReads b c → OnlyReads a c
OnlyReads-trans a b c first second = record {
  same = second.same ∙ ap (λ (w : WalState). record w {
    ring = record w.ring { disk = c.ring.disk; faulted = c.ring.faulted };
    log = record w.log { room = c.log.room };
  }) first.same;
  keeps = record {
    size = second.keeps.size ∙ first.keeps.size;
    honest = second.keeps.honest ∙ first.keeps.honest;
    failures = omega (arith, first.keeps.failures, second.keeps.failures);
  };
  past = λ honest. second.past (subst IsTrue (sym first.keeps.honest) honest) ∙ first.past honest;
  fault = λ faulted. ⊎_elim
      (λ was. ⊎_elim (λ before. inl before) (λ failed. inr (failed_before (disk_of a) (disk_of b) (disk_of c) first.keeps second.keeps failed)) (first.fault was))
      (λ failed. inr (failed_after (disk_of a) (disk_of b) (disk_of c) first.keeps failed))
      (second.fault faulted);
  stays = λ faulted. second.stays (first.stays faulted);
}

-- reads leave what a crash left before
pub crash_read : (old new : WalState) → (IsTrue (disk_of old).honest → EveryImage (disk_of old).past (MayStandFor old)) → OnlyReads old new → MapCrashes old new
crash_read old new left reads = record {
  keeps = reads.keeps;
  moments = λ honest layout size.
      leaves_none (disk_of old).past (disk_of new).past (MayOpenAs layout old) (reads.past honest) (images honest layout size);
  images = λ honest layout size image is.
      let was : IsTrue (disk_of old).honest = subst IsTrue reads.keeps.honest honest in
      opens_as_read old new reads was layout image
      (subst (λ (past : Past). EveryImage past (MayOpenAs layout old)) (sym (reads.past was)) (images was layout (size ∙ reads.keeps.size)) image is);
}
  where
    images : IsTrue (disk_of old).honest → EachLayout (size_of old) (λ layout. EveryImage (disk_of old).past (MayOpenAs layout old))
    images honest layout size image is = opens_crash old layout size image (left honest image is)

-- what a call says of images after reads
pub crash_after : (a b c : WalState) → OnlyReads a b → MapCrashes b c → MapCrashes a c
crash_after a b c reads crash = record {
  keeps = record {
    size = crash.keeps.size ∙ reads.keeps.size;
    honest = crash.keeps.honest ∙ reads.keeps.honest;
    failures = omega (arith, reads.keeps.failures, crash.keeps.failures);
  };
  moments = λ honest layout size.
      subst (λ (past : Past). LeavesOnly past (disk_of c).past (MayOpenAs layout a)) (reads.past honest)
      (leaves_also (disk_of b).past (disk_of c).past (MayOpenAs layout b) (MayOpenAs layout a)
      (crash.moments (subst IsTrue (sym reads.keeps.honest) honest) layout (size ∙ sym reads.keeps.size))
      (opens_read a b reads honest layout));
  images = crash.images;
}
