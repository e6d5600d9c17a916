-- The first step of an installing: its plan, and its first home block.
use Rattle.std.proofs.Common.{◌≡◌, ◌<◌, ◌+◌, ℕ, zero, suc, IsTrue, Result, Ok, Err, IfOk, refl, sym, ap, subst, ◌∙◌, arith}
use Rattle.journal_wal.specs.Wal.{WalState, IsAhead, MakesDueCall, install_call, after_call, log_steps, Installing, Crashes, KeepsBlocks, Plans, Installs, InstallMoves, BeginsInstall, InstallsOn, install_steps, install_steps_by, install_sync, InstallAnswers, distinct_blocks, logged_updates}
use Rattle.journal_wal.specs.declared.step.InstallStep.{InstallStep}
use Rattle.journal_wal.specs.declared.step.InstallStep.TheVariants.{Idle, Put, Freed}
use Rattle.journal_world.specs.declared.refusal.Refusal.{Refusal}

-- a plan is no part of what a crash may leave, and none of the blocks
keeps_planned : (old new : WalState) (installing : Installing) → KeepsBlocks (record old { installing = installing }) new → KeepsBlocks old new
keeps_planned old new installing keeps = record { now = keeps.now; cut = keeps.cut; logged = keeps.logged }

crashes_from : (old new : WalState) (installing : Installing) → Crashes (record old { installing = installing }) new → Crashes old new
crashes_from old new installing crash = record {
  keeps = crash.keeps;
  moments = crash.moments;
  label = crash.label;
  images = crash.images;
}

pub crashes_planned : (old mid new : WalState) → mid ≡ record old { installing = mid.installing } → Crashes mid new → Crashes old new
crashes_planned old mid new same crash = crashes_from old new mid.installing (subst (λ (w : WalState). Crashes w new) same crash)

-- what was planned is ahead, and the step made its call
installs_from : (old mid new : WalState) → mid ≡ record old { installing = mid.installing } → IsAhead old mid.installing → 0 < install_steps mid
    → Installs mid new → InstallMoves (install_steps old) old new → Installs old new
installs_from old mid new same ahead some installs moves = record {
  ahead = mid.installing;
  is_ahead = ahead;
  call = subst (λ (w : WalState). MakesDueCall (install_call w.ring.label w.log mid.installing) w.ring.disk new.ring.disk) same
      (subst (λ (i : Installing). MakesDueCall (install_call mid.ring.label mid.log i) mid.ring.disk new.ring.disk) goes_on installs.call);
  next = installs.next ∙ ap after_call goes_on;
  blocks = λ honest. keeps_planned old new mid.installing (subst (λ (w : WalState). IsTrue w.ring.disk.honest → KeepsBlocks w new) same installs.blocks honest);
  logging = installs.logging ∙ ap log_steps same;
  moves = moves;
}
  where
    goes_on : installs.ahead ≡ mid.installing
    goes_on = installs.is_ahead.goes_on some

began : (old mid new : WalState) (left : ℕ) → mid ≡ record old { installing = mid.installing } → Installs mid new
    → install_steps mid ≡ suc (suc left) → old.log.start < old.log.logged → install_steps mid ≡ distinct_blocks (logged_updates old) + 3
    → BeginsInstall old new
began old mid new left same installs many some steps =
    let on : InstallsOn mid new = subst (λ (n : ℕ). InstallMoves n mid new) many installs.moves in
    record { some = some; steps = on.steps ∙ steps; log = on.log ∙ ap (λ (w : WalState). w.log) same }

installs_planned : (old mid new : WalState) → Plans old mid → Installs mid new → Installs old new
installs_planned old mid new plans installs = by_steps (install_steps old) refl
  where
    by_steps : (n : ℕ) → install_steps old ≡ n → Installs old new
    by_steps zero none_yet =
        let begun = plans.begun none_yet in
        let many : install_steps mid ≡ suc (suc (distinct_blocks (logged_updates old) + 1)) = omega (arith, begun.1) in
        installs_from old mid new plans.same plans.ahead plans.some installs
        (subst (λ (m : ℕ). InstallMoves m old new) (sym none_yet)
        (began old mid new (distinct_blocks (logged_updates old) + 1) plans.same installs many begun.0 begun.1))
    by_steps (suc n) some = subst (λ (w : WalState). Installs w new) (plans.stays (omega (arith, some))) installs

-- the same by what is answered
pub answers_planned : (old mid new : WalState) → Plans old mid → (r : Result InstallStep (Refusal Unit))
    → IfOk r (λ step. InstallAnswers mid step new) → IfOk r (λ step. InstallAnswers old step new)
answers_planned old mid new plans (Ok Idle) ok = absurd (omega (arith, plans.some, ok.0.steps))
answers_planned old mid new plans (Ok Put) ok = (installs_planned old mid new plans ok.0, ok.1)
answers_planned old mid new plans (Ok (Freed upto)) ok = (installs_planned old mid new plans ok.0, by_steps (install_steps old) refl)
  where
    by_steps : (n : ℕ) → install_steps old ≡ n → old.installing ≡ install_sync upto
    by_steps zero none_yet = absurd (omega (arith, (plans.begun none_yet).1, ap install_steps_by ok.1))
    by_steps (suc n) some = sym (ap (λ (w : WalState). w.installing) (plans.stays (omega (arith, some)))) ∙ ok.1
answers_planned old mid new plans (Err refusal) ok = tt
