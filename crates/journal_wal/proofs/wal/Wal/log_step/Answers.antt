use Rattle.std.proofs.Common.{◌≡◌, ◌<◌, ◌-◌, ℕ, Option, Some, refl, sym, ap, subst, ◌∙◌, arith}
use Rattle.std.specs.List.{slice_get}
use Rattle.journal_disk.specs.Disks.{DiskEvent}
use Rattle.journal_circ.specs.Log.{with_end, with_group}
use Rattle.journal_circ.specs.Ring.{Ring}
use Rattle.journal_memlog.specs.Logs.{LogState}
use Rattle.journal_memlog.specs.declared.bounds.Bounds.{Bounds}
use Rattle.journal_wal.specs.Wal.{WalState, Installing, log_blocks, log_end, log_sync, log_spent, Crashes, Fails, LogAnswers, TriesDueCall, log_call}
use Rattle.journal_wal.specs.declared.step.GroupStep.{GroupStep}
use Rattle.journal_wal.specs.States.{logging_of, installing_of}
use Rattle.journal_wal.proofs.Homes.{home_at}
use Rattle.journal_wal.proofs.Phases.{of_parts, in_logging, logged_from, put_failed, on_err}
use Rattle.journal_wal.proofs.Logger.{unchanged, call_block, block_logged, blocks_synced, end_written, group_written, group_ended, call_failed, end_failed, Leaves}
use Rattle.journal_wal.proofs.wal.Wal.log_step.Given.{Over}
use Rattle.journal_wal.proofs.wal.Wal.log_step.Goals as goal
use Rattle.journal_wal.proofs.wal.Wal.log_step.Goals.{In_err-put_slot-in-Blocks, In_err-put_group-in-Blocks-2, In_err-sync_slots-in-Blocks-3, In_err-put_end-in-Synced, In_err-state-in-EndPut, Joined-replace, in-Blocks+in_ok-put_slot-in-Blocks, in-Blocks-2+in_ok-put_group-in-Blocks-2, in-Blocks-3+in_ok-sync_slots-in-Blocks-3, in-Synced+in_ok-put_end-in-Synced, in-EndPut+in_ok-state-in-EndPut}

pub returns-then-is_faulted-clause-crash : goal.returns-then-is_faulted-clause-crash
returns-then-is_faulted-clause-crash g c = subst (λ (w : WalState). Crashes w w) c.self.view_is (unchanged (of_parts c.self.inside.on_disk.circ c.self.inside.memory (logging_of c.self.inside.on_disk.logger) (installing_of c.self.inside.on_disk.installer)) c.self.invariant)

pub returns-then-not-is_logging-clause-crash : goal.returns-then-not-is_logging-clause-crash
returns-then-not-is_logging-clause-crash g c = subst (λ (w : WalState). Crashes w w) c.self.view_is (unchanged (of_parts c.self.inside.on_disk.circ c.self.inside.memory (logging_of c.self.inside.on_disk.logger) (installing_of c.self.inside.on_disk.installer)) c.self.invariant)

pub put_slot-requires-clause-home : goal.put_slot-requires-clause-home
put_slot-requires-clause-home g c =
    (home_at c.self.inside.on_disk.circ c.self.inside.memory c.self.invariant.tied (c.next-in-Blocks.result - c.self.inside.memory.start) c.at-update.result.now c.at-update.ensures).0

pub put_slot-requires-clause-on_disk : goal.put_slot-requires-clause-on_disk
put_slot-requires-clause-on_disk g c =
    (home_at c.self.inside.on_disk.circ c.self.inside.memory c.self.invariant.tied (c.next-in-Blocks.result - c.self.inside.memory.start) c.at-update.result.now c.at-update.ensures).1

-- what a device call that failed leaves, and one that moved
abbrev Failed : WalState → WalState → Type 0
Failed old new = Leaves old new × Fails old new

abbrev Moved_on : GroupStep → WalState → WalState → Type 0
Moved_on step old new = Leaves old new × LogAnswers old step new

put_slot_fails : (g : Over) (c : In_err-put_slot-in-Blocks g) → Failed c.args.self.now (of_parts c.put_slot.new.self c.self.inside.memory (logging_of c.replace.new.dest) (installing_of c.self.inside.on_disk.installer))
put_slot_fails g c = logged_from Failed c.args.self.now c.self.inside.on_disk.circ c.put_slot.new.self c.self.inside.memory c.self.inside.memory (logging_of c.self.inside.on_disk.logger) log_blocks (logging_of c.replace.new.dest) log_spent (installing_of c.self.inside.on_disk.installer)
    c.self.view_is (ap logging_of (sym c.in-Blocks.ensures.value)) (ap logging_of c.in-Blocks.ensures.after)
    (call_failed c.self.inside.on_disk.circ c.put_slot.new.self c.self.inside.memory (installing_of c.self.inside.on_disk.installer) log_blocks (in_logging c.self.inside.on_disk.circ c.self.inside.memory (logging_of c.self.inside.on_disk.logger) log_blocks (installing_of c.self.inside.on_disk.installer) (ap logging_of (sym c.in-Blocks.ensures.value)) c.self.invariant)
    c.put_slot.ensures.crash (λ honest. record { log = c.in_err-put_slot-in-Blocks.ensures.log honest; home = c.in_err-put_slot-in-Blocks.ensures.home honest }) c.in_err-put_slot-in-Blocks.ensures.err)

pub invariant_of-self : goal.invariant_of-self
invariant_of-self g c = (put_slot_fails g (goal.at.invariant_of-self g c).In_err-put_slot-in-Blocks).0.sound

pub returns-in_err-put_slot-in-Blocks-clause-crash : goal.returns-in_err-put_slot-in-Blocks-clause-crash
returns-in_err-put_slot-in-Blocks-clause-crash g c = (put_slot_fails g (goal.at.returns-in_err-put_slot-in-Blocks-clause-crash g c).In_err-put_slot-in-Blocks).0.crash

pub returns-in_err-put_slot-in-Blocks-clause-err : goal.returns-in_err-put_slot-in-Blocks-clause-err
returns-in_err-put_slot-in-Blocks-clause-err g c = on_err c.from_residual.result (put_slot_fails g (goal.at.returns-in_err-put_slot-in-Blocks-clause-err g c).In_err-put_slot-in-Blocks).1

-- the failed call was the one that was due
abbrev Tried : WalState → WalState → Type 0
Tried old new = TriesDueCall (log_call old) old.ring.disk new.ring.disk

pub returns-in_err-put_slot-in-Blocks-clause-tries : goal.returns-in_err-put_slot-in-Blocks-clause-tries
returns-in_err-put_slot-in-Blocks-clause-tries g c = on_err c.from_residual.result
    (logged_from Tried c.args.self.now ring now memory memory (logging_of c.self.inside.on_disk.logger) log_blocks (logging_of c.replace.new.dest) log_spent installing
    c.self.view_is (ap logging_of (sym c.in-Blocks.ensures.value)) (ap logging_of c.in-Blocks.ensures.after)
    (subst (λ (call : Option DiskEvent). TriesDueCall call ring.disk now.disk) (sym (call_block ring now memory installing c.at-update.result.now
    (omega (arith, left, c.self.invariant.tied.end_to_next)) left
    (subst (λ (n : ℕ). slice_get memory.updates (n - memory.start) ≡ Some c.at-update.result.now) c.next-in-Blocks.ensures c.at-update.ensures)))
    c.in_err-put_slot-in-Blocks.ensures.step.tries))
  where
    ring : Ring
    ring = c.self.inside.on_disk.circ

    now : Ring
    now = c.put_slot.new.self

    memory : LogState
    memory = c.self.inside.memory

    installing : Installing
    installing = installing_of c.self.inside.on_disk.installer

    left : ring.next < memory.cut
    left = omega (arith, c.if-next-bounds.true, c.next.ensures, ap (λ (b : Bounds). b.cut) c.bounds-bounds.ensures.bounds)

put_group_fails : (g : Over) (c : In_err-put_group-in-Blocks-2 g) → Failed c.args.self.now (of_parts c.put_group.new.self c.self.inside.memory (logging_of c.replace.new.dest) (installing_of c.self.inside.on_disk.installer))
put_group_fails g c = logged_from Failed c.args.self.now c.self.inside.on_disk.circ c.put_group.new.self c.self.inside.memory c.self.inside.memory (logging_of c.self.inside.on_disk.logger) log_blocks (logging_of c.replace.new.dest) log_spent (installing_of c.self.inside.on_disk.installer)
    c.self.view_is (ap logging_of (sym c.in-Blocks-2.ensures.value)) (ap logging_of c.in-Blocks-2.ensures.after)
    (end_failed c.self.inside.on_disk.circ c.put_group.new.self c.self.inside.memory (installing_of c.self.inside.on_disk.installer) log_blocks (with_group c.self.inside.on_disk.circ.header c.self.inside.on_disk.circ.extent.end (c.self.inside.on_disk.circ.next - c.self.inside.on_disk.circ.extent.end)) (in_logging c.self.inside.on_disk.circ c.self.inside.memory (logging_of c.self.inside.on_disk.logger) log_blocks (installing_of c.self.inside.on_disk.installer) (ap logging_of (sym c.in-Blocks-2.ensures.value)) c.self.invariant)
    (omega (arith, c.if-next-bounds.false, c.next.ensures, ap (λ (b : Bounds). b.cut) c.bounds-bounds.ensures.bounds, c.self.invariant.tied.end_to_next, c.self.invariant.tied.next_to_cut))
    c.put_group.ensures.crash c.in_err-put_group-in-Blocks-2.ensures.log (put_failed (sym c.is_faulted.ensures ∙ c.if-is_faulted.false) c.in_err-put_group-in-Blocks-2.ensures.err))

pub invariant_of-self-in_err-put_group-in-Blocks-2 : goal.invariant_of-self-in_err-put_group-in-Blocks-2
invariant_of-self-in_err-put_group-in-Blocks-2 g c = (put_group_fails g (goal.at.invariant_of-self-in_err-put_group-in-Blocks-2 g c).In_err-put_group-in-Blocks-2).0.sound

pub returns-in_err-put_group-in-Blocks-2-clause-crash : goal.returns-in_err-put_group-in-Blocks-2-clause-crash
returns-in_err-put_group-in-Blocks-2-clause-crash g c = (put_group_fails g (goal.at.returns-in_err-put_group-in-Blocks-2-clause-crash g c).In_err-put_group-in-Blocks-2).0.crash

pub returns-in_err-put_group-in-Blocks-2-clause-err : goal.returns-in_err-put_group-in-Blocks-2-clause-err
returns-in_err-put_group-in-Blocks-2-clause-err g c = on_err c.from_residual-in_err-put_group-in-Blocks-2.result (put_group_fails g (goal.at.returns-in_err-put_group-in-Blocks-2-clause-err g c).In_err-put_group-in-Blocks-2).1

sync_slots_fails : (g : Over) (c : In_err-sync_slots-in-Blocks-3 g) → Failed c.args.self.now (of_parts c.sync_slots.new.self c.self.inside.memory (logging_of c.replace.new.dest) (installing_of c.self.inside.on_disk.installer))
sync_slots_fails g c = logged_from Failed c.args.self.now c.self.inside.on_disk.circ c.sync_slots.new.self c.self.inside.memory c.self.inside.memory (logging_of c.self.inside.on_disk.logger) log_blocks (logging_of c.replace.new.dest) log_spent (installing_of c.self.inside.on_disk.installer)
    c.self.view_is (ap logging_of (sym c.in-Blocks-3.ensures.value)) (ap logging_of c.in-Blocks-3.ensures.after)
    (call_failed c.self.inside.on_disk.circ c.sync_slots.new.self c.self.inside.memory (installing_of c.self.inside.on_disk.installer) log_blocks (in_logging c.self.inside.on_disk.circ c.self.inside.memory (logging_of c.self.inside.on_disk.logger) log_blocks (installing_of c.self.inside.on_disk.installer) (ap logging_of (sym c.in-Blocks-3.ensures.value)) c.self.invariant)
    c.sync_slots.ensures.crash c.in_err-sync_slots-in-Blocks-3.ensures.log c.in_err-sync_slots-in-Blocks-3.ensures.err)

pub invariant_of-self-in_err-sync_slots-in-Blocks-3 : goal.invariant_of-self-in_err-sync_slots-in-Blocks-3
invariant_of-self-in_err-sync_slots-in-Blocks-3 g c = (sync_slots_fails g (goal.at.invariant_of-self-in_err-sync_slots-in-Blocks-3 g c).In_err-sync_slots-in-Blocks-3).0.sound

pub returns-in_err-sync_slots-in-Blocks-3-clause-crash : goal.returns-in_err-sync_slots-in-Blocks-3-clause-crash
returns-in_err-sync_slots-in-Blocks-3-clause-crash g c = (sync_slots_fails g (goal.at.returns-in_err-sync_slots-in-Blocks-3-clause-crash g c).In_err-sync_slots-in-Blocks-3).0.crash

pub returns-in_err-sync_slots-in-Blocks-3-clause-err : goal.returns-in_err-sync_slots-in-Blocks-3-clause-err
returns-in_err-sync_slots-in-Blocks-3-clause-err g c = on_err c.from_residual-in_err-sync_slots-in-Blocks-3.result (sync_slots_fails g (goal.at.returns-in_err-sync_slots-in-Blocks-3-clause-err g c).In_err-sync_slots-in-Blocks-3).1

put_end_fails : (g : Over) (c : In_err-put_end-in-Synced g) → Failed c.args.self.now (of_parts c.put_end.new.self c.self.inside.memory (logging_of c.replace.new.dest) (installing_of c.self.inside.on_disk.installer))
put_end_fails g c = logged_from Failed c.args.self.now c.self.inside.on_disk.circ c.put_end.new.self c.self.inside.memory c.self.inside.memory (logging_of c.self.inside.on_disk.logger) log_end (logging_of c.replace.new.dest) log_spent (installing_of c.self.inside.on_disk.installer)
    c.self.view_is (ap logging_of (sym c.in-Synced.ensures.value)) (ap logging_of c.in-Synced.ensures.after)
    (end_failed c.self.inside.on_disk.circ c.put_end.new.self c.self.inside.memory (installing_of c.self.inside.on_disk.installer) log_end (with_end c.self.inside.on_disk.circ.header c.self.inside.on_disk.circ.next) (in_logging c.self.inside.on_disk.circ c.self.inside.memory (logging_of c.self.inside.on_disk.logger) log_end (installing_of c.self.inside.on_disk.installer) (ap logging_of (sym c.in-Synced.ensures.value)) c.self.invariant)
    (in_logging c.self.inside.on_disk.circ c.self.inside.memory (logging_of c.self.inside.on_disk.logger) log_end (installing_of c.self.inside.on_disk.installer) (ap logging_of (sym c.in-Synced.ensures.value)) c.self.invariant).logging.2
    c.put_end.ensures.crash c.in_err-put_end-in-Synced.ensures.log (put_failed (sym c.is_faulted.ensures ∙ c.if-is_faulted.false) c.in_err-put_end-in-Synced.ensures.err))

pub invariant_of-self-in_err-put_end-in-Synced : goal.invariant_of-self-in_err-put_end-in-Synced
invariant_of-self-in_err-put_end-in-Synced g c = (put_end_fails g (goal.at.invariant_of-self-in_err-put_end-in-Synced g c).In_err-put_end-in-Synced).0.sound

pub returns-in_err-put_end-in-Synced-clause-crash : goal.returns-in_err-put_end-in-Synced-clause-crash
returns-in_err-put_end-in-Synced-clause-crash g c = (put_end_fails g (goal.at.returns-in_err-put_end-in-Synced-clause-crash g c).In_err-put_end-in-Synced).0.crash

pub returns-in_err-put_end-in-Synced-clause-err : goal.returns-in_err-put_end-in-Synced-clause-err
returns-in_err-put_end-in-Synced-clause-err g c = on_err c.from_residual-in_err-put_end-in-Synced.result (put_end_fails g (goal.at.returns-in_err-put_end-in-Synced-clause-err g c).In_err-put_end-in-Synced).1

sync_end_fails : (g : Over) (c : In_err-state-in-EndPut g) → Failed c.args.self.now (of_parts c.sync_end.new.self c.self.inside.memory (logging_of c.replace.new.dest) (installing_of c.self.inside.on_disk.installer))
sync_end_fails g c = logged_from Failed c.args.self.now c.self.inside.on_disk.circ c.sync_end.new.self c.self.inside.memory c.self.inside.memory (logging_of c.self.inside.on_disk.logger) log_sync (logging_of c.replace.new.dest) log_spent (installing_of c.self.inside.on_disk.installer)
    c.self.view_is (ap logging_of (sym c.in-EndPut.ensures.value)) (ap logging_of c.in-EndPut.ensures.after)
    (call_failed c.self.inside.on_disk.circ c.sync_end.new.self c.self.inside.memory (installing_of c.self.inside.on_disk.installer) log_sync (in_logging c.self.inside.on_disk.circ c.self.inside.memory (logging_of c.self.inside.on_disk.logger) log_sync (installing_of c.self.inside.on_disk.installer) (ap logging_of (sym c.in-EndPut.ensures.value)) c.self.invariant)
    c.sync_end.ensures.crash c.in_err-state-in-EndPut.ensures.log c.in_err-state-in-EndPut.ensures.err)

pub invariant_of-self-in_err-state-in-EndPut : goal.invariant_of-self-in_err-state-in-EndPut
invariant_of-self-in_err-state-in-EndPut g c = (sync_end_fails g (goal.at.invariant_of-self-in_err-state-in-EndPut g c).In_err-state-in-EndPut).0.sound

pub returns-in_err-state-in-EndPut-clause-crash : goal.returns-in_err-state-in-EndPut-clause-crash
returns-in_err-state-in-EndPut-clause-crash g c = (sync_end_fails g (goal.at.returns-in_err-state-in-EndPut-clause-crash g c).In_err-state-in-EndPut).0.crash

pub returns-in_err-state-in-EndPut-clause-err : goal.returns-in_err-state-in-EndPut-clause-err
returns-in_err-state-in-EndPut-clause-err g c = on_err c.from_residual-in_err-state-in-EndPut.result (sync_end_fails g (goal.at.returns-in_err-state-in-EndPut-clause-err g c).In_err-state-in-EndPut).1

by_step : {old new : WalState} {given step : GroupStep} → given ≡ step → Moved_on step old new → Moved_on given old new
by_step {old} {new} is = subst (λ (s : GroupStep). Moved_on s old new) (sym is)

-- a group is in flight
in_flight : (g : Over) (c : Joined-replace g) → c.self.inside.memory.logged < c.self.inside.memory.cut
in_flight g c = subst (λ (w : WalState). w.log.logged < w.log.cut) (sym c.self.view_is) (c.if-not-is_logging.ensures.group.0 refl)

clauses_ok_and_crash : (g : Over) (c : Joined-replace g) → let s = c.match-replace.self-inside in Moved_on c.match-replace.step c.args.self.now (of_parts s.on_disk.circ s.memory (logging_of c.match-replace.next) (installing_of s.on_disk.installer))
clauses_ok_and_crash g c = elim c.match-replace.branch [
  | in-Blocks+in_ok-put_slot-in-Blocks w ↦
      subst (λ s. Moved_on c.match-replace.step c.args.self.now (of_parts s.on_disk.circ s.memory (logging_of c.match-replace.next) (installing_of s.on_disk.installer))) (sym w.self-inside-is)
      (logged_from (Moved_on c.match-replace.step) c.args.self.now c.self.inside.on_disk.circ w.put_slot.new.self c.self.inside.memory c.self.inside.memory (logging_of c.self.inside.on_disk.logger) log_blocks (logging_of c.match-replace.next) log_blocks (installing_of c.self.inside.on_disk.installer) c.self.view_is (ap logging_of (sym w.in-Blocks.ensures.value)) (ap logging_of w.next-is)
      (by_step w.step-is (block_logged c.self.inside.on_disk.circ w.put_slot.new.self c.self.inside.memory (installing_of c.self.inside.on_disk.installer) w.at-update.result.now (in_logging c.self.inside.on_disk.circ c.self.inside.memory (logging_of c.self.inside.on_disk.logger) log_blocks (installing_of c.self.inside.on_disk.installer) (ap logging_of (sym w.in-Blocks.ensures.value)) c.self.invariant) (omega (arith, w.if-next-bounds.true, w.next.ensures, ap (λ (b : Bounds). b.cut) c.bounds-bounds.ensures.bounds, c.self.invariant.tied.end_to_next, c.self.invariant.tied.next_to_cut)) (omega (arith, w.if-next-bounds.true, w.next.ensures, ap (λ (b : Bounds). b.cut) c.bounds-bounds.ensures.bounds)) (subst (λ (n : ℕ). slice_get c.self.inside.memory.updates (n - c.self.inside.memory.start) ≡ Some w.at-update.result.now) w.next-in-Blocks.ensures w.at-update.ensures) w.put_slot.ensures.crash w.in_ok-put_slot-in-Blocks.ensures.log w.in_ok-put_slot-in-Blocks.ensures.home w.in_ok-put_slot-in-Blocks.ensures.ok w.in_ok-put_slot-in-Blocks.ensures.step.makes)))
  | in-Blocks-2+in_ok-put_group-in-Blocks-2 w ↦
      subst (λ s. Moved_on c.match-replace.step c.args.self.now (of_parts s.on_disk.circ s.memory (logging_of c.match-replace.next) (installing_of s.on_disk.installer))) (sym w.self-inside-is)
      (logged_from (Moved_on c.match-replace.step) c.args.self.now c.self.inside.on_disk.circ w.put_group.new.self c.self.inside.memory c.self.inside.memory (logging_of c.self.inside.on_disk.logger) log_blocks (logging_of c.match-replace.next) log_sync (installing_of c.self.inside.on_disk.installer) c.self.view_is (ap logging_of (sym w.in-Blocks-2.ensures.value)) (ap logging_of w.next-is)
      (by_step w.step-is (group_written c.self.inside.on_disk.circ w.put_group.new.self c.self.inside.memory (installing_of c.self.inside.on_disk.installer) (in_logging c.self.inside.on_disk.circ c.self.inside.memory (logging_of c.self.inside.on_disk.logger) log_blocks (installing_of c.self.inside.on_disk.installer) (ap logging_of (sym w.in-Blocks-2.ensures.value)) c.self.invariant)
      (in_flight g c)
      (omega (arith, w.if-next-bounds.false, w.next.ensures, ap (λ (b : Bounds). b.cut) c.bounds-bounds.ensures.bounds, c.self.invariant.tied.end_to_next, c.self.invariant.tied.next_to_cut))
      (sym w.is_sealed.ensures ∙ w.if-is_sealed.true)
      w.put_group.ensures.crash w.in_ok-put_group-in-Blocks-2.ensures.log w.in_ok-put_group-in-Blocks-2.ensures.ok w.in_ok-put_group-in-Blocks-2.ensures.step.makes)))
  | in-Blocks-3+in_ok-sync_slots-in-Blocks-3 w ↦
      subst (λ s. Moved_on c.match-replace.step c.args.self.now (of_parts s.on_disk.circ s.memory (logging_of c.match-replace.next) (installing_of s.on_disk.installer))) (sym w.self-inside-is)
      (logged_from (Moved_on c.match-replace.step) c.args.self.now c.self.inside.on_disk.circ w.sync_slots.new.self c.self.inside.memory c.self.inside.memory (logging_of c.self.inside.on_disk.logger) log_blocks (logging_of c.match-replace.next) log_end (installing_of c.self.inside.on_disk.installer) c.self.view_is (ap logging_of (sym w.in-Blocks-3.ensures.value)) (ap logging_of w.next-is)
      (by_step w.step-is (blocks_synced c.self.inside.on_disk.circ w.sync_slots.new.self c.self.inside.memory (installing_of c.self.inside.on_disk.installer) (in_logging c.self.inside.on_disk.circ c.self.inside.memory (logging_of c.self.inside.on_disk.logger) log_blocks (installing_of c.self.inside.on_disk.installer) (ap logging_of (sym w.in-Blocks-3.ensures.value)) c.self.invariant) (in_flight g c) (omega (arith, w.if-next-bounds.false, w.next.ensures, ap (λ (b : Bounds). b.cut) c.bounds-bounds.ensures.bounds, c.self.invariant.tied.end_to_next, c.self.invariant.tied.next_to_cut)) (sym w.is_sealed.ensures ∙ w.if-is_sealed.false) w.sync_slots.ensures.crash w.in_ok-sync_slots-in-Blocks-3.ensures.log w.in_ok-sync_slots-in-Blocks-3.ensures.ok w.in_ok-sync_slots-in-Blocks-3.ensures.step.makes)))
  | in-Synced+in_ok-put_end-in-Synced w ↦
      subst (λ s. Moved_on c.match-replace.step c.args.self.now (of_parts s.on_disk.circ s.memory (logging_of c.match-replace.next) (installing_of s.on_disk.installer))) (sym w.self-inside-is)
      (logged_from (Moved_on c.match-replace.step) c.args.self.now c.self.inside.on_disk.circ w.put_end.new.self c.self.inside.memory c.self.inside.memory (logging_of c.self.inside.on_disk.logger) log_end (logging_of c.match-replace.next) log_sync (installing_of c.self.inside.on_disk.installer) c.self.view_is (ap logging_of (sym w.in-Synced.ensures.value)) (ap logging_of w.next-is)
      (by_step w.step-is (end_written c.self.inside.on_disk.circ w.put_end.new.self c.self.inside.memory (installing_of c.self.inside.on_disk.installer) (in_logging c.self.inside.on_disk.circ c.self.inside.memory (logging_of c.self.inside.on_disk.logger) log_end (installing_of c.self.inside.on_disk.installer) (ap logging_of (sym w.in-Synced.ensures.value)) c.self.invariant) w.put_end.ensures.crash w.in_ok-put_end-in-Synced.ensures.log w.in_ok-put_end-in-Synced.ensures.ok w.in_ok-put_end-in-Synced.ensures.step.makes)))
  | in-EndPut+in_ok-state-in-EndPut w ↦
      subst (λ s. Moved_on c.match-replace.step c.args.self.now (of_parts s.on_disk.circ s.memory (logging_of c.match-replace.next) (installing_of s.on_disk.installer))) (sym w.self-inside-is)
      (logged_from (Moved_on c.match-replace.step) c.args.self.now c.self.inside.on_disk.circ w.sync_end.new.self c.self.inside.memory w.logged.new.self (logging_of c.self.inside.on_disk.logger) log_sync (logging_of c.match-replace.next) log_blocks (installing_of c.self.inside.on_disk.installer) c.self.view_is (ap logging_of (sym w.in-EndPut.ensures.value)) (ap logging_of w.next-is)
      (by_step w.step-is (group_ended c.self.inside.on_disk.circ w.sync_end.new.self c.self.inside.memory (installing_of c.self.inside.on_disk.installer) w.logged.new.self (in_logging c.self.inside.on_disk.circ c.self.inside.memory (logging_of c.self.inside.on_disk.logger) log_sync (installing_of c.self.inside.on_disk.installer) (ap logging_of (sym w.in-EndPut.ensures.value)) c.self.invariant) w.sync_end.ensures.crash w.in_ok-state-in-EndPut.ensures.log w.in_ok-state-in-EndPut.ensures.ok (w.logged.ensures.log ∙ (λ i. record c.self.inside.memory { logged = w.end.ensures.end i })) w.in_ok-state-in-EndPut.ensures.step.makes)))
]

pub invariant_of-self-2 : goal.invariant_of-self-2
invariant_of-self-2 g c = (clauses_ok_and_crash g (goal.at.invariant_of-self-2 g c).Joined-replace).0.sound

pub returns-clause-crash : goal.returns-clause-crash
returns-clause-crash g c = (clauses_ok_and_crash g (goal.at.returns-clause-crash g c).Joined-replace).0.crash

pub returns-clause-ok : goal.returns-clause-ok
returns-clause-ok g c = (clauses_ok_and_crash g (goal.at.returns-clause-ok g c).Joined-replace).1
