-- Laws of the log's calls: what each makes of the maps, by what its contract says of the blocks.
use Rattle.std.proofs.Common.{◌≡◌, IsTrue, List, Result, Ok, Err, OnErr, IfOk, IfErr, sym, ap, ◌∙◌}
use Rattle.journal_world.specs.declared.refusal.Refusal.{Refusal}
use Rattle.journal_world.specs.declared.refusal.Refusal.TheVariants.{NoMemory, BadAddress, BadSize, TooLarge, Busy, DeviceFailed, BadLog, BadSuper, Stale, Stranger, Worn, Full, Closed, Fenced}
use Rattle.journal_block.specs.declared.update.Update.{Update}
use Rattle.journal_block.specs.Updates.{with_updates}
use Rattle.journal_disk.specs.Laws.{leaves_also}
use Rattle.journal_wal.specs.Wal.{WalState, size_of, blocks_now, blocks_cut, blocks_logged, MayStandFor, Crashes, Fails, LogAnswers, InstallAnswers, IsInstallRefusal, OnlyReads as LogOnlyReads}
use Rattle.journal_wal.specs.Groups.{TakesGroup}
use Rattle.journal_wal.specs.declared.step.GroupStep.{GroupStep}
use Rattle.journal_wal.specs.declared.step.GroupStep.TheVariants.{Idle, Put, Logged}
use Rattle.journal_wal.specs.declared.step.InstallStep.{InstallStep}
use Rattle.journal_wal.specs.declared.step.InstallStep.TheVariants.{Idle as InstallIdle, Put as InstallPut, Freed}
use Rattle.journal_objlog.specs.Groups.{TakesMap}
use Rattle.journal_objlog.specs.ObjectLogs.{MayOpenAs, KeepsMaps, LogsMaps, Crashes as MapCrashes, OnlyReads, disk_of}
use Rattle.journal_objlog.specs.MapLaws.{opens_crash, same_maps, keeps_maps, KeepsMaps-path}

-- at every moment of any call, an image opens as one of the two maps that a crash might have left
pub may_crash : (old new : WalState) → Crashes old new → MapCrashes old new
may_crash old new crash = record {
  keeps = crash.keeps;
  moments = λ honest layout size. leaves_also (disk_of old).past (disk_of new).past (MayStandFor old) (MayOpenAs layout old) (crash.moments honest)
      (λ image. opens_crash old layout size image);
  images = λ honest layout size image is. opens_crash new layout size image (crash.images honest image is);
}

-- a read makes no other map
pub OnlyReads-from : (old new : WalState) → LogOnlyReads old new → OnlyReads old new
OnlyReads-from old new reads = record {
  same = reads.same ∙ (λ i. record old {
    ring = record old.ring { disk = new.ring.disk; faulted = sym (ap (λ (w : WalState). w.ring.faulted) reads.same) i };
    log = record old.log { room = sym (ap (λ (w : WalState). w.log.room) reads.same) i };
  });
  keeps = reads.keeps;
  past = reads.past;
  fault = reads.fault;
  stays = reads.stays;
}

-- what a step of the logger, a failed one, and a step of the installer make of the maps
module _ (old new : WalState) where
  pub logs_maps : IsTrue (disk_of old).honest → (result : Result GroupStep (Refusal Unit)) → IfOk result (λ step. LogAnswers old step new)
      → IfOk result (λ step. LogsMaps old step new)
  logs_maps honest (Ok Idle) answers = KeepsMaps-path old new answers.1
  logs_maps honest (Ok Put) puts = keeps_maps old new (puts.blocks honest)
  logs_maps honest (Ok Logged) ends = record {
    now = same_maps (size_of old) (blocks_now new) (blocks_now old) (ends.now honest);
    cut = same_maps (size_of old) (blocks_cut new) (blocks_cut old) (ends.cut honest);
    logged = same_maps (size_of old) (blocks_logged new) (blocks_cut old) (ends.logged honest);
  }
  logs_maps honest (Err refusal) answers = tt

  pub fails_maps : IsTrue (disk_of old).honest → (result : Result GroupStep (Refusal Unit)) → OnErr result (Fails old new)
      → OnErr result (KeepsMaps old new)
  fails_maps honest (Ok step) fails = tt
  fails_maps honest (Err refusal) fails = keeps_maps old new (fails.blocks honest)

  -- a refused step of the installer leaves the log in memory, and the maps
  refused_install : (refusal : Refusal Unit) → IsInstallRefusal old new refusal
      → (new.log ≡ old.log) × (IsTrue (disk_of old).honest → KeepsMaps old new)
  refused_install NoMemory fault = (ap (λ (w : WalState). w.log) fault.1, λ honest. KeepsMaps-path old new fault.1)
  refused_install (DeviceFailed cause) fault = (fault.1.log, λ honest. keeps_maps old new (fault.1.blocks honest))
  refused_install BadAddress fault = absurd fault
  refused_install BadSize fault = absurd fault
  refused_install TooLarge fault = absurd fault
  refused_install Busy fault = absurd fault
  refused_install BadLog fault = absurd fault
  refused_install BadSuper fault = absurd fault
  refused_install (Stale cause) fault = absurd fault
  refused_install (Stranger cause) fault = absurd fault
  refused_install (Worn cause) fault = absurd fault
  refused_install (Full cause) fault = absurd fault
  refused_install (Closed cause) fault = absurd fault
  refused_install Fenced fault = absurd fault

  pub leaves_install : (result : Result InstallStep (Refusal Unit)) → IfErr result (IsInstallRefusal old new)
      → OnErr result ((new.log ≡ old.log) × (IsTrue (disk_of old).honest → KeepsMaps old new))
  leaves_install (Ok step) fault = tt
  leaves_install (Err refusal) fault = refused_install refusal fault

  pub installs_maps : IsTrue (disk_of old).honest → (result : Result InstallStep (Refusal Unit)) → IfOk result (λ step. InstallAnswers old step new)
      → IfErr result (IsInstallRefusal old new) → KeepsMaps old new
  installs_maps honest (Ok InstallIdle) answers fault = KeepsMaps-path old new answers.1
  installs_maps honest (Ok InstallPut) answers fault = keeps_maps old new (answers.0.blocks honest)
  installs_maps honest (Ok (Freed upto)) answers fault = keeps_maps old new (answers.0.blocks honest)
  installs_maps honest (Err refusal) answers fault = (refused_install refusal fault).1 honest

-- a group that was cut elsewhere is taken
pub takes_map : (old new : WalState) (group : List Update) → TakesGroup old group new → TakesMap old group new
takes_map old new group takes = record {
  now = same_maps (size_of old) (blocks_now new) (with_updates (blocks_now old) group) takes.now;
  cut = same_maps (size_of old) (blocks_cut new) (with_updates (blocks_now old) group) takes.cut;
  logged = same_maps (size_of old) (blocks_logged new) (blocks_logged old) takes.logged;
}
