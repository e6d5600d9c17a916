-- Which steps of the object log let no group come or go.
use Rattle.std.proofs.Common.{◌≡◌, Bool, true, false, IsTrue, Result, Ok, Err, IsErr, IfOk, IfErr, refl, sym, ap, ◌∙◌}
use Rattle.std.proofs.lemmas.Bool.{false≢true}
use Rattle.journal_world.specs.declared.refusal.Refusal.{Refusal}
use Rattle.journal_world.specs.declared.refusal.Refusal.TheVariants.{NoMemory, BadAddress, BadSize, TooLarge, Busy, DeviceFailed, BadLog, BadSuper, Stale, Stranger, Worn, Full, Closed, Fenced}
use Rattle.journal_wal.specs.declared.step.InstallStep.{InstallStep}
use Rattle.journal_wal.specs.declared.step.InstallStep.TheVariants.{Idle, Put, Freed}
use Rattle.journal_wal.specs.Wal.{WalState, log_steps, Installs, InstallAnswers, IsInstallRefusal}
use Rattle.journal_objlog.specs.ObjectLogs.{is_faulted as is_log_faulted}

-- where no group is in flight now, none was
abbrev pub Rests : WalState → WalState → Type 0
Rests old new = is_log_faulted new ≡ false → log_steps new ≡ 0 → (is_log_faulted old ≡ false) × (log_steps old ≡ 0)

-- a step of the installer
moved_rests : (old new : WalState) → Installs old new → (IsTrue (is_log_faulted old) → IsTrue false) → Rests old new
moved_rests old new installs fine_or_not fine none = (by (is_log_faulted old) refl, sym installs.logging ∙ none)
  where
    by : (b : Bool) → is_log_faulted old ≡ b → is_log_faulted old ≡ false
    by true is = absurd (false≢true (fine_or_not is))
    by false is = is

pub rests_install : (old new : WalState) (r : Result InstallStep (Refusal Unit)) → IfOk r (λ step. InstallAnswers old step new)
    → IfErr r (IsInstallRefusal old new) → (IsTrue (is_log_faulted old) → IsErr r × (new ≡ old)) → Rests old new
rests_install old new (Ok Idle) ok err stays = λ fine none.
    (sym (ap is_log_faulted ok.1) ∙ fine, sym (ap log_steps ok.1) ∙ none)
rests_install old new (Ok Put) ok err stays = moved_rests old new ok.0 (λ faulted. (stays faulted).0)
rests_install old new (Ok (Freed upto)) ok err stays = moved_rests old new ok.0 (λ faulted. (stays faulted).0)
rests_install old new (Err NoMemory) ok err stays = λ fine none.
    (sym (ap is_log_faulted err.1) ∙ fine, sym (ap log_steps err.1) ∙ none)
rests_install old new (Err (DeviceFailed cause)) ok err stays = λ fine none. absurd (false≢true (sym fine ∙ err.1.faulted))
rests_install old new (Err BadAddress) ok err stays = absurd err
rests_install old new (Err BadSize) ok err stays = absurd err
rests_install old new (Err TooLarge) ok err stays = absurd err
rests_install old new (Err Busy) ok err stays = absurd err
rests_install old new (Err BadLog) ok err stays = absurd err
rests_install old new (Err BadSuper) ok err stays = absurd err
rests_install old new (Err (Stale cause)) ok err stays = absurd err
rests_install old new (Err (Stranger cause)) ok err stays = absurd err
rests_install old new (Err (Worn cause)) ok err stays = absurd err
rests_install old new (Err (Full cause)) ok err stays = absurd err
rests_install old new (Err (Closed cause)) ok err stays = absurd err
rests_install old new (Err Fenced) ok err stays = absurd err
