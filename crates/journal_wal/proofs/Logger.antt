-- The steps of the logger's cycle.
use Rattle.std.proofs.Common.{◌≡◌, ◌⊎◌, inl, inr, ◌<◌, ◌≤◌, ◌+◌, ◌-◌, ◌^◌, ℕ, Bool, zero, suc, true, false, if◌then◌else◌, [], ◌∷◌, ◌++◌, take, length-drop, Option, Some, IsTrue, refl, sym, ap, subst, ◌∙◌, arith}
use Rattle.std.specs.List.{slice_get}
use Rattle.std.proofs.Math.Seq.{take-suc}
use Rattle.journal_block.specs.Block.{Bytes}
use Rattle.journal_block.specs.Updates.{updated}
use Rattle.journal_disk.specs.Disks.{DiskEvent, write, barrier}
use Rattle.journal_disk.specs.Laws.{leaves_none}
use Rattle.std.proofs.lemmas.Option.{get_or_from_slice_get, slice_get_within}
use Rattle.journal_block.specs.declared.update.Update.{Update}
use Rattle.journal_disk.specs.Images.{EveryImage}
use Rattle.journal_circ.specs.Log.{HasLabel, log_block, with_end, with_group}
use Rattle.journal_circ.specs.Ring.{Ring, log_of, home_of, bytes_put, header_put, tags_put, Crashes as RingCrashes, KeepsLog, SameHome, MakesCall}
use Rattle.journal_memlog.specs.Logs.{LogState, next_position}
use Rattle.journal_tail.specs.Homes.{AreHomes}
use Rattle.journal_wal.specs.Wal.{WalState, Logging, log_blocks, log_end, log_sync, log_spent, Installing, Crashes, Fails, LogsOn, EndsGroup, log_steps, log_steps_by, barriers_before, call_after_blocks, log_call, log_call_by, bytes_at, MakesDueCall, MayStandFor, tail_length}
use Rattle.journal_wal.specs.States.{updates_to, AreTied, IsWal, IsLogging, IsInstalling}
use Rattle.journal_wal.proofs.Crashes.{labels_of, images_of, moments_of}
use Rattle.journal_wal.proofs.Frames.{keeps_homes, KeepsInstalling, installing_stays, tied_by, keeps_installing}

-- What a device call leaves of a log that is in step: one that is in step, and nothing else of its
-- images
pub record Leaves (old new : WalState) : Type 0 where
  pub sound : IsWal new
  pub crash : Crashes old new

-- no device call
pub unchanged : (w : WalState) → IsWal w → Crashes w w
unchanged w is = record {
  keeps = record { size = refl; honest = refl; failures = omega arith };
  moments = λ honest. leaves_none w.ring.disk.past w.ring.disk.past (MayStandFor w) refl (is.images honest);
  label = record { same = refl; moments = λ honest. leaves_none w.ring.disk.past w.ring.disk.past (HasLabel w.ring.label) refl (is.label honest) };
  images = is.images;
}

-- a device call that leaves the memory
pub stepped : (w : WalState) (ring : Ring) (logging : Logging) (installing : Installing) (coming : ℕ) → IsWal w
    → RingCrashes coming w.ring ring
    → (coming ≡ w.log.logged) ⊎ ((coming ≡ w.log.cut) × (w.ring.next ≡ w.log.cut))
    → AreTied ring w.log
    → (IsTrue w.ring.disk.honest → log_of ring ≡ take (ring.next - w.log.start) w.log.updates)
    → IsLogging ring w.log logging → IsInstalling ring w.log installing
    → Leaves w (record { ring = ring; log = w.log; logging = logging; installing = installing })
stepped w ring logging installing coming is steps coming_is tied log logging_is installing_is = record {
  sound = record {
    tied = tied;
    log = λ honest. log (subst IsTrue steps.keeps.honest honest);
    images = images;
    label = labels_of w.ring ring steps;
    logging = logging_is;
    installing = installing_is;
  };
  crash = record {
    keeps = steps.keeps;
    moments = λ honest. moments_of w is.tied (is.log honest) ring.disk.past coming coming_is (steps.moments honest);
    label = steps.label;
    images = images;
  };
}
  where
    images : IsTrue ring.disk.honest
        → EveryImage ring.disk.past (MayStandFor (record { ring = ring; log = w.log; logging = logging; installing = installing }))
    images honest = images_of (record { ring = ring; log = w.log; logging = logging; installing = installing }) tied
        (log (subst IsTrue steps.keeps.honest honest)) (steps.images honest)

-- a group in flight has blocks left, or what comes after them
pub steps_in_group : (sealed : Bool) (group left : ℕ) → 0 < group → log_steps_by sealed log_blocks group left ≡ left + barriers_before sealed + 2
steps_in_group sealed zero left some = absurd (omega (arith, some))
steps_in_group sealed (suc group) left some = refl

-- a number that is not 0 is a successor
more_than_none : (n : ℕ) → 0 < n → n ≡ suc (n - 1)
more_than_none n some = omega (arith, some)

module _ (ring now : Ring) (log : LogState) (installing : Installing) where
  abbrev pub at : Ring → Logging → WalState
  at r phase = record { ring = r; log = log; logging = phase; installing = installing }

  -- the device calls of a group
  pub call_block : (u : Update) → log.logged < log.cut → ring.next < log.cut → slice_get log.updates (ring.next - log.start) ≡ Some u
      → log_call (at ring log_blocks) ≡ Some (write (log_block ring.next) (bytes_put ring u.bytes))
  call_block u group left found =
      (λ i. log_call_by log_blocks (more_than_none (log.cut - log.logged) (omega (arith, group)) i) (more_than_none (log.cut - ring.next) (omega (arith, left)) i)
      (write (log_block ring.next) (bytes_put ring (bytes_at log ring.next))) (call_after_blocks ring log) (with_end ring.header log.cut))
      ∙ ap (λ (v : Update). Some (write (log_block ring.next) (bytes_put ring v.bytes))) (get_or_from_slice_get log.updates (ring.next - log.start) u (record { block = 0; bytes = [] }) found)

  -- once all are put
  call_after : log.logged < log.cut → ring.next ≡ log.cut → log_call (at ring log_blocks) ≡ Some (call_after_blocks ring log)
  call_after group all =
      (λ i. log_call_by log_blocks (more_than_none (log.cut - log.logged) (omega (arith, group)) i) (none_left i)
      (write (log_block ring.next) (bytes_put ring (bytes_at log ring.next))) (call_after_blocks ring log) (with_end ring.header log.cut))
    where
      none_left : log.cut - ring.next ≡ 0
      none_left = omega (arith, all)

  pub call_barrier : log.logged < log.cut → ring.next ≡ log.cut → ring.sealed ≡ false → log_call (at ring log_blocks) ≡ Some barrier
  call_barrier group all plain = call_after group all
      ∙ (λ i. Some (if plain i then write 0 (with_group ring.header log.logged (log.cut - log.logged)) else barrier))

  pub call_group : log.logged < log.cut → ring.next ≡ log.cut → ring.sealed ≡ true → ring.extent.end ≡ log.logged
      → log_call (at ring log_blocks) ≡ Some (write 0 (with_group ring.header ring.extent.end (ring.next - ring.extent.end)))
  call_group group all sealed end = call_after group all
      ∙ (λ i. Some (if sealed i then write 0 (with_group ring.header log.logged (log.cut - log.logged)) else barrier))
      ∙ (λ i. Some (write 0 (with_group ring.header (sym end i) (sym all i - sym end i))))

  pub call_end : ring.next ≡ log.cut → log_call (at ring log_end) ≡ Some (write 0 (with_end ring.header ring.next))
  call_end all = ap (λ (n : ℕ). Some (write 0 (with_end ring.header n))) (sym all)

  -- What a device call of the logger keeps of the numbers, where the next position and the coming
  -- end now are these
  record Kept (n c : ℕ) : Type 0 where
    next : now.next ≡ n
    coming : now.extent.coming ≡ c
    start : now.extent.start ≡ ring.extent.start
    end : now.extent.end ≡ ring.extent.end
    freed : now.extent.freed ≡ ring.extent.freed
    homes : now.extent.homes ≡ ring.extent.homes
    sealed : now.sealed ≡ ring.sealed
    faulted : IsTrue ring.faulted → IsTrue now.faulted

  kept : (h t : Bytes) (n c s : ℕ) (f : Bool) → now ≡ record ring { disk = now.disk; header = h; tags = t; extent = record ring.extent { coming = c; stable = s }; next = n; faulted = f }
      → (IsTrue ring.faulted → IsTrue f) → Kept n c
  kept h t n c s f is_now stays = record {
    next = ap (λ (r : Ring). r.next) is_now;
    coming = ap (λ (r : Ring). r.extent.coming) is_now;
    start = ap (λ (r : Ring). r.extent.start) is_now;
    end = ap (λ (r : Ring). r.extent.end) is_now;
    freed = ap (λ (r : Ring). r.extent.freed) is_now;
    homes = ap (λ (r : Ring). r.extent.homes) is_now;
    sealed = ap (λ (r : Ring). r.sealed) is_now;
    faulted = λ was. subst IsTrue (sym (ap (λ (r : Ring). r.faulted) is_now)) (stays was);
  }

  -- a log block of the group
  pub block_logged : (u : Update) → IsWal (at ring log_blocks) → log.logged < log.cut → ring.next < log.cut
      → slice_get log.updates (ring.next - log.start) ≡ Some u → RingCrashes ring.extent.coming ring now
      → (IsTrue ring.disk.honest → log_of now ≡ log_of ring ++ u ∷ []) → (IsTrue ring.disk.honest → SameHome ring now)
      → now ≡ record ring { disk = now.disk; header = header_put ring u.block u.bytes; tags = tags_put ring; next = ring.next + 1 }
      → MakesCall (write (log_block ring.next) (bytes_put ring u.bytes)) ring.disk now.disk
      → Leaves (at ring log_blocks) (at now log_blocks) × LogsOn (at ring log_blocks) (at now log_blocks)
  block_logged u is group left found steps log_is home is_now happened = (
    stepped (at ring log_blocks) now log_blocks installing ring.extent.coming is steps is.tied.coming tied same
        (k.coming ∙ is.logging ∙ sym k.end)
        (installing_stays ring now log log keeps installing is.installing),
    record {
      steps = omega (arith, before, after, k.next, ap barriers_before k.sealed);
      left = omega (arith, after);
      log = refl;
      blocks = λ honest. keeps_homes (at ring log_blocks) (at now log_blocks) refl (home honest);
      call = subst (λ (call : Option DiskEvent). MakesDueCall call ring.disk now.disk) (sym (call_block u group left found)) happened;
      installing = refl;
    },
  )
    where
      k : Kept (ring.next + 1) ring.extent.coming
      k = kept (header_put ring u.block u.bytes) (tags_put ring) (ring.next + 1) ring.extent.coming ring.extent.stable ring.faulted is_now (λ was. was)

      tied : AreTied now log
      tied = tied_by ring now log is.tied steps.keeps.size k.start k.end (omega (arith, k.next)) (omega (arith, k.next))
          (inl (k.coming ∙ is.logging ∙ is.tied.end))

      same : IsTrue ring.disk.honest → log_of now ≡ take (now.next - log.start) log.updates
      same honest =
          log_is honest
          ∙ (λ i. is.log honest i ++ sym (get_or_from_slice_get log.updates (ring.next - log.start) u u found) i ∷ [])
          ∙ sym (take-suc log.updates (ring.next - log.start) u (slice_get_within log.updates (ring.next - log.start) u found))
          ∙ (λ i. take (place i) log.updates)
        where
          place : suc (ring.next - log.start) ≡ now.next - log.start
          place = omega (arith, k.next, is.tied.start_to_end, is.tied.end_to_next)

      keeps : KeepsInstalling ring now log log
      keeps = keeps_installing ring now log steps.keeps k.start k.freed k.homes k.faulted home

      before : log_steps (at ring log_blocks) ≡ (log.cut - ring.next) + barriers_before ring.sealed + 2
      before = steps_in_group ring.sealed (log.cut - log.logged) (log.cut - ring.next) (omega (arith, group))

      after : log_steps (at now log_blocks) ≡ (log.cut - now.next) + barriers_before now.sealed + 2
      after = steps_in_group now.sealed (log.cut - log.logged) (log.cut - now.next) (omega (arith, group))

  -- a device call of the logger that failed
  failed : (phase : Logging) (coming : ℕ) → IsWal (at ring phase) → RingCrashes coming ring now
      → (coming ≡ log.logged) ⊎ ((coming ≡ log.cut) × (ring.next ≡ log.cut)) → Kept ring.next coming → now.faulted ≡ true
      → (now.extent.coming ≡ log.logged) ⊎ ((now.extent.coming ≡ log.cut) × (now.next ≡ log.cut))
      → (IsTrue ring.disk.honest → KeepsLog ring now)
      → Leaves (at ring phase) (at now log_spent) × Fails (at ring phase) (at now log_spent)
  failed phase coming is steps coming_is k faulted coming_now same = (
    stepped (at ring phase) now log_spent installing coming is steps coming_is
        (tied_by ring now log is.tied steps.keeps.size k.start k.end (omega (arith, k.next)) (omega (arith, k.next, is.tied.next_to_cut)) coming_now)
        (λ honest. (same honest).log ∙ is.log honest ∙ (λ i. take (sym k.next i - log.start) log.updates))
        faulted
        (installing_stays ring now log log (keeps_installing ring now log steps.keeps k.start k.freed k.homes (λ was. faulted) (λ honest. (same honest).home)) installing is.installing),
    record { faulted = faulted; log = refl; blocks = λ honest. keeps_homes (at ring phase) (at now log_spent) refl (same honest).home },
  )

  -- a call that changes no mark
  pub call_failed : (phase : Logging) → IsWal (at ring phase) → RingCrashes ring.extent.coming ring now
      → (IsTrue ring.disk.honest → KeepsLog ring now)
      → now ≡ record ring { disk = now.disk; faulted = true }
      → Leaves (at ring phase) (at now log_spent) × Fails (at ring phase) (at now log_spent)
  call_failed phase is steps same is_now =
      failed phase ring.extent.coming is steps is.tied.coming (kept ring.header ring.tags ring.next ring.extent.coming ring.extent.stable true is_now (λ _. refl)) (ap (λ (r : Ring). r.faulted) is_now)
      (subst (λ (r : Ring). (r.extent.coming ≡ log.logged) ⊎ ((r.extent.coming ≡ log.cut) × (r.next ≡ log.cut))) (sym is_now) is.tied.coming)
      same

  -- the write of block 0
  pub end_failed : (phase : Logging) (header : Bytes) → IsWal (at ring phase) → ring.next ≡ log.cut → RingCrashes ring.next ring now
      → (IsTrue ring.disk.honest → KeepsLog ring now)
      → now ≡ record ring { disk = now.disk; header = header; extent = record ring.extent { coming = ring.next }; faulted = true }
      → Leaves (at ring phase) (at now log_spent) × Fails (at ring phase) (at now log_spent)
  end_failed phase header is all steps same is_now =
      failed phase ring.next is steps (inr (all, all)) (kept header ring.tags ring.next ring.next ring.extent.stable true is_now (λ _. refl)) (ap (λ (r : Ring). r.faulted) is_now)
      (inr (ap (λ (r : Ring). r.extent.coming) is_now ∙ all, ap (λ (r : Ring). r.next) is_now ∙ all))
      same

  -- the barrier of a plain log after the log blocks
  pub blocks_synced : IsWal (at ring log_blocks) → log.logged < log.cut → ring.next ≡ log.cut → ring.sealed ≡ false
      → RingCrashes ring.extent.coming ring now
      → (IsTrue ring.disk.honest → KeepsLog ring now)
      → now ≡ record ring { disk = now.disk; extent = record ring.extent { stable = ring.next } } → MakesCall barrier ring.disk now.disk
      → Leaves (at ring log_blocks) (at now log_end) × LogsOn (at ring log_blocks) (at now log_end)
  blocks_synced is group all plain steps same is_now happened = (
    stepped (at ring log_blocks) now log_end installing ring.extent.coming is steps is.tied.coming
        (tied_by ring now log is.tied steps.keeps.size k.start k.end (omega (arith, k.next)) (omega (arith, k.next, all))
        (inl (k.coming ∙ is.logging ∙ is.tied.end)))
        (λ honest. (same honest).log ∙ is.log honest ∙ (λ i. take (sym k.next i - log.start) log.updates))
        (k.coming ∙ is.logging ∙ sym k.end, ap (λ (r : Ring). r.extent.stable) is_now ∙ sym k.next, k.next ∙ all, group, k.sealed ∙ plain)
        (installing_stays ring now log log keeps installing is.installing),
    record {
      steps = omega (arith, before);
      left = omega arith;
      log = refl;
      blocks = λ honest. keeps_homes (at ring log_blocks) (at now log_end) refl (same honest).home;
      call = subst (λ (call : Option DiskEvent). MakesDueCall call ring.disk now.disk) (sym (call_barrier group all plain)) happened;
      installing = refl;
    },
  )
    where
      k : Kept ring.next ring.extent.coming
      k = kept ring.header ring.tags ring.next ring.extent.coming ring.next ring.faulted is_now (λ was. was)

      keeps : KeepsInstalling ring now log log
      keeps = keeps_installing ring now log steps.keeps k.start k.freed k.homes k.faulted (λ honest. (same honest).home)

      before : log_steps (at ring log_blocks) ≡ 3
      before = steps_in_group ring.sealed (log.cut - log.logged) (log.cut - ring.next) (omega (arith, group)) ∙ omega (arith, all, ap barriers_before plain)

  -- the write of block 0, with which the group may count
  header_written : (phase : Logging) (header : Bytes) → IsWal (at ring phase) → log.logged < log.cut → ring.next ≡ log.cut → log_steps (at ring phase) ≡ 2
      → log_call (at ring phase) ≡ Some (write 0 header) → RingCrashes ring.next ring now
      → (IsTrue ring.disk.honest → KeepsLog ring now)
      → now ≡ record ring { disk = now.disk; header = header; extent = record ring.extent { coming = ring.next } }
      → MakesCall (write 0 header) ring.disk now.disk
      → Leaves (at ring phase) (at now log_sync) × LogsOn (at ring phase) (at now log_sync)
  header_written phase header is group all before call steps same is_now happened = (
    stepped (at ring phase) now log_sync installing ring.next is steps (inr (all, all))
        (tied_by ring now log is.tied steps.keeps.size k.start k.end (omega (arith, k.next)) (omega (arith, k.next, is.tied.next_to_cut))
        (inr (k.coming ∙ all, k.next ∙ all)))
        (λ honest. (same honest).log ∙ is.log honest ∙ (λ i. take (sym k.next i - log.start) log.updates))
        (k.coming ∙ all, k.next ∙ all, group)
        (installing_stays ring now log log keeps installing is.installing),
    record {
      steps = sym before;
      left = omega arith;
      log = refl;
      blocks = λ honest. keeps_homes (at ring phase) (at now log_sync) refl (same honest).home;
      call = subst (λ (call : Option DiskEvent). MakesDueCall call ring.disk now.disk) (sym call) happened;
      installing = refl;
    },
  )
    where
      k : Kept ring.next ring.next
      k = kept header ring.tags ring.next ring.next ring.extent.stable ring.faulted is_now (λ was. was)

      keeps : KeepsInstalling ring now log log
      keeps = keeps_installing ring now log steps.keeps k.start k.freed k.homes k.faulted (λ honest. (same honest).home)

  -- of a plain log with the end
  pub end_written : IsWal (at ring log_end) → RingCrashes ring.next ring now
      → (IsTrue ring.disk.honest → KeepsLog ring now)
      → now ≡ record ring { disk = now.disk; header = with_end ring.header ring.next; extent = record ring.extent { coming = ring.next } }
      → MakesCall (write 0 (with_end ring.header ring.next)) ring.disk now.disk
      → Leaves (at ring log_end) (at now log_sync) × LogsOn (at ring log_end) (at now log_sync)
  end_written is = header_written log_end (with_end ring.header ring.next) is is.logging.3 is.logging.2 refl (call_end is.logging.2)

  -- of a sealed log with the group, whose log blocks may be stable or not
  pub group_written : IsWal (at ring log_blocks) → log.logged < log.cut → ring.next ≡ log.cut → ring.sealed ≡ true
      → RingCrashes ring.next ring now
      → (IsTrue ring.disk.honest → KeepsLog ring now)
      → now ≡ record ring { disk = now.disk; header = with_group ring.header ring.extent.end (ring.next - ring.extent.end); extent = record ring.extent { coming = ring.next } }
      → MakesCall (write 0 (with_group ring.header ring.extent.end (ring.next - ring.extent.end))) ring.disk now.disk
      → Leaves (at ring log_blocks) (at now log_sync) × LogsOn (at ring log_blocks) (at now log_sync)
  group_written is group all sealed = header_written log_blocks (with_group ring.header ring.extent.end (ring.next - ring.extent.end)) is group all
      (steps_in_group ring.sealed (log.cut - log.logged) (log.cut - ring.next) (omega (arith, group)) ∙ omega (arith, all, ap barriers_before sealed))
      (call_group group all sealed is.tied.end)

  -- the barrier after block 0
  pub group_ended : (later : LogState) → IsWal (at ring log_sync) → RingCrashes ring.extent.coming ring now
      → (IsTrue ring.disk.honest → KeepsLog ring now)
      → now ≡ record ring { disk = now.disk; extent = record ring.extent { end = ring.extent.coming } }
      → later ≡ record log { logged = now.extent.end } → MakesCall barrier ring.disk now.disk
      → Leaves (at ring log_sync) (record { ring = now; log = later; logging = log_blocks; installing = installing })
      × EndsGroup (at ring log_sync) (record { ring = now; log = later; logging = log_blocks; installing = installing })
  group_ended later is steps keeps_log is_now later_is happened = (
    record {
      sound = record {
        tied = tied;
        log = λ honest. same (subst IsTrue steps.keeps.honest honest);
        images = images;
        label = labels_of ring now steps;
        logging = ap (λ (r : Ring). r.extent.coming) is_now ∙ sym end;
        installing = installing_stays ring now log later keeps installing is.installing;
      };
      crash = record {
        keeps = steps.keeps;
        moments = λ honest. moments_of (at ring log_sync) is.tied (is.log honest) now.disk.past ring.extent.coming is.tied.coming (steps.moments honest);
        label = steps.label;
        images = images;
      };
    },
    record {
      last = refl;
      steps = λ i. log_steps_by now.sealed log_blocks (none i) (later.cut - now.next);
      end = later_is ∙ (λ i. record log { logged = end_is i });
      now = λ honest b home_b lt. λ i. updated (later_is i).updates b ((keeps_log honest).home b home_b lt i);
      cut = λ honest b home_b lt. λ i. updated (updates_to (later_is i) (later_is i).cut) b ((keeps_log honest).home b home_b lt i);
      logged = λ honest b home_b lt. (λ i. updated (updates_to (later_is i) (later_is i).logged) b ((keeps_log honest).home b home_b lt i))
          ∙ (λ i. updated (updates_to log (end_is i)) b (home_of ring b));
      call = happened;
      installing = refl;
    },
  )
    where
      new : WalState
      new = record { ring = now; log = later; logging = log_blocks; installing = installing }

      next : now.next ≡ ring.next
      next = ap (λ (r : Ring). r.next) is_now

      start : now.extent.start ≡ ring.extent.start
      start = ap (λ (r : Ring). r.extent.start) is_now

      end : now.extent.end ≡ ring.extent.coming
      end = ap (λ (r : Ring). r.extent.end) is_now

      end_is : now.extent.end ≡ log.cut
      end_is = end ∙ is.logging.0

      logged_is : later.logged ≡ log.cut
      logged_is = ap (λ (l : LogState). l.logged) later_is ∙ end_is

      none : later.cut - later.logged ≡ 0
      none = omega (arith, logged_is, ap (λ (l : LogState). l.cut) later_is)

      tied : AreTied now later
      tied = record {
        size = steps.keeps.size ∙ is.tied.size ∙ sym (ap (λ (l : LogState). l.blocks) later_is);
        start = start ∙ is.tied.start ∙ sym (ap (λ (l : LogState). l.start) later_is);
        end = end_is ∙ sym logged_is;
        start_to_end = omega (arith, is.tied.start_to_end, is.logging.2, logged_is, ap (λ (l : LogState). l.start) later_is);
        end_to_next = omega (arith, logged_is, next, is.logging.1);
        next_to_cut = omega (arith, next, is.logging.1, ap (λ (l : LogState). l.cut) later_is);
        no_tail = subst (λ (l : LogState). next_position l ≡ l.cut) (sym later_is) is.tied.no_tail;
        fits = subst (λ (l : LogState). l.cut ≤ l.start + 511) (sym later_is) is.tied.fits;
        group = omega (arith, none);
        small = subst (λ (l : LogState). next_position l < 2 ^ 62) (sym later_is) is.tied.small;
        blocks = subst (λ (l : LogState). AreHomes l.blocks l.updates) (sym later_is) is.tied.blocks;
        coming = inl (ap (λ (r : Ring). r.extent.coming) is_now ∙ is.logging.0 ∙ sym logged_is);
      }

      same : IsTrue ring.disk.honest → log_of now ≡ take (now.next - later.start) later.updates
      same honest = (keeps_log honest).log ∙ is.log honest
          ∙ (λ i. take (sym next i - (sym later_is i).start) (sym later_is i).updates)

      images : IsTrue now.disk.honest → EveryImage now.disk.past (MayStandFor new)
      images honest = images_of new tied (same (subst IsTrue steps.keeps.honest honest)) (steps.images honest)

      keeps : KeepsInstalling ring now log later
      keeps = record {
        size = steps.keeps.size;
        honest = steps.keeps.honest;
        start = start;
        freed = ap (λ (r : Ring). r.extent.freed) is_now;
        homes = ap (λ (r : Ring). r.extent.homes) is_now;
        faulted = subst IsTrue (sym (ap (λ (r : Ring). r.faulted) is_now));
        home = λ honest. (keeps_log honest).home;
        first = ap (λ (l : LogState). l.start) later_is;
        logged = omega (arith, logged_is, is.logging.2);
        updates = λ upto le. λ i. take (upto - (later_is i).start) (later_is i).updates;
      }

-- each update is in a group
pub nothing_waits : (w : WalState) → IsWal w → tail_length w ≡ 0
nothing_waits w is = length-drop (w.log.cut - w.log.start) w.log.updates ∙ omega (arith, is.tied.no_tail)
