use Rattle.std.proofs.Common.{◌≡◌, ◌+◌, ℕ, false, List, length, refl, sym, ap, subst, ◌∙◌, arith}
use Rattle.journal_circ.specs.Ring.{Ring}
use Rattle.journal_memlog.specs.Logs.{LogState, trimmed}
use Rattle.journal_wal.specs.Wal.{WalState, install_none, install_homes, install_start, install_sync, install_spent, install_call, after_call, MakesDueCall, Fails, InstallAnswers}
use Rattle.journal_wal.specs.declared.step.InstallStep.{InstallStep}
use Rattle.journal_wal.specs.declared.step.InstallStep.TheVariants.{Put, Freed}
use Rattle.journal_wal.specs.States.{logging_of, installing_of, IsWal, IsInstalling}
use Rattle.journal_wal.proofs.Phases.{of_parts, in_installing, installed_from, put_failed, on_err}
use Rattle.journal_wal.proofs.Installer.{planned_home, logged_on_disk, home_put, home_failed, homes_synced, installer_failed, is_installed, start_written, start_synced, call_home, installs_on, installs_freed}
use Rattle.journal_wal.proofs.Logger.{Leaves}
use Rattle.journal_wal.proofs.wal.Wal.install_on.Given.{Over}
use Rattle.journal_wal.proofs.wal.Wal.install_on.Goals as goal
use Rattle.journal_wal.proofs.wal.Wal.install_on.Goals.{In-Homes, In_err-put_home-in-Some, In_err-sync_homes-in-None, In_err-put_start-in-Synced, In_err-freed-in-StartPut, Joined-self-next, in-Homes+in-Some+in_ok-put_home-in-Some, in-Homes+in-None+in_ok-sync_homes-in-None, in-Synced+in_ok-put_start-in-Synced, in-StartPut+in_ok-freed-in-StartPut}

-- what a device call that failed leaves, and one that was made
abbrev Failed : WalState → WalState → Type 0
Failed old new = Leaves old new × Fails old new

abbrev Moved : InstallStep → WalState → WalState → Type 0
Moved step old new = Leaves old new × InstallAnswers old step new

by_step : {old new : WalState} {given step : InstallStep} → given ≡ step → Moved step old new → Moved given old new
by_step {old} {new} is = subst (λ (s : InstallStep). Moved s old new) (sym is)

-- while home blocks are put
homes : (g : Over) (c : In-Homes g) → IsWal (of_parts c.self.inside.on_disk.circ c.self.inside.memory (logging_of c.self.inside.on_disk.logger) (install_homes c.in-Homes.plan.upto c.in-Homes.plan.homes.entries))
homes g c = in_installing c.self.inside.on_disk.circ c.self.inside.memory (logging_of c.self.inside.on_disk.logger) (installing_of c.self.inside.on_disk.installer) (install_homes c.in-Homes.plan.upto c.in-Homes.plan.homes.entries) (ap installing_of (sym c.in-Homes.ensures.value)) c.self.invariant

pub put_home-requires-clause-home : goal.put_home-requires-clause-home
put_home-requires-clause-home g c =
    let is = homes g (goal.at.put_home-requires-clause-home g c).In-Homes in
    (planned_home c.self.inside.on_disk.circ c.self.inside.on_disk.circ c.self.inside.memory (logging_of c.self.inside.on_disk.logger) c.in-Homes.plan.upto c.in-Homes.plan.homes.entries c.in-Some.block c.in-Some.position is.installing c.in-Some.ensures.found is.tied c.at-update.result.now c.at-update.ensures).0

pub put_home-requires-clause-on_disk : goal.put_home-requires-clause-on_disk
put_home-requires-clause-on_disk g c =
    let is = homes g (goal.at.put_home-requires-clause-on_disk g c).In-Homes in
    (planned_home c.self.inside.on_disk.circ c.self.inside.on_disk.circ c.self.inside.memory (logging_of c.self.inside.on_disk.logger) c.in-Homes.plan.upto c.in-Homes.plan.homes.entries c.in-Some.block c.in-Some.position is.installing c.in-Some.ensures.found is.tied c.at-update.result.now c.at-update.ensures).1

pub put_home-requires-clause-logged : goal.put_home-requires-clause-logged
put_home-requires-clause-logged g c =
    let is = homes g (goal.at.put_home-requires-clause-logged g c).In-Homes in
    logged_on_disk c.self.inside.on_disk.circ c.self.inside.on_disk.circ c.self.inside.memory (logging_of c.self.inside.on_disk.logger) c.in-Homes.plan.upto c.in-Homes.plan.homes.entries c.in-Some.block c.in-Some.position is.installing c.in-Some.ensures.found (install_homes c.in-Homes.plan.upto c.in-Homes.plan.homes.entries) is

put_home_fails : (g : Over) (c : In_err-put_home-in-Some g) → Failed c.args.self.now (of_parts c.put_home.new.self c.self.inside.memory (logging_of c.self.inside.on_disk.logger) (installing_of c.replace.new.dest))
put_home_fails g c = installed_from Failed c.args.self.now c.self.inside.on_disk.circ c.put_home.new.self c.self.inside.memory c.self.inside.memory (logging_of c.self.inside.on_disk.logger) (installing_of c.self.inside.on_disk.installer) (install_homes c.in-Homes.plan.upto c.in-Homes.plan.homes.entries) (installing_of c.replace.new.dest) install_spent c.self.view_is (ap installing_of (sym c.in-Homes.ensures.value)) (ap installing_of c.replace.ensures.after)
    (home_failed c.self.inside.on_disk.circ c.put_home.new.self c.self.inside.memory (logging_of c.self.inside.on_disk.logger) c.in-Homes.plan.upto c.in-Homes.plan.homes.entries c.in-Some.block c.in-Some.position ((in_installing c.self.inside.on_disk.circ c.self.inside.memory (logging_of c.self.inside.on_disk.logger) (installing_of c.self.inside.on_disk.installer) (install_homes c.in-Homes.plan.upto c.in-Homes.plan.homes.entries) (ap installing_of (sym c.in-Homes.ensures.value)) c.self.invariant)).installing c.in-Some.ensures.found (install_homes c.in-Homes.plan.upto c.in-Homes.plan.homes.entries) (in_installing c.self.inside.on_disk.circ c.self.inside.memory (logging_of c.self.inside.on_disk.logger) (installing_of c.self.inside.on_disk.installer) (install_homes c.in-Homes.plan.upto c.in-Homes.plan.homes.entries) (ap installing_of (sym c.in-Homes.ensures.value)) c.self.invariant) c.put_home.ensures.crash c.in_err-put_home-in-Some.ensures.log c.in_err-put_home-in-Some.ensures.others (put_failed (subst (λ (w : WalState). w.ring.faulted ≡ false) (sym c.self.view_is) c.requires.fine) c.in_err-put_home-in-Some.ensures.err))

pub invariant_of-self : goal.invariant_of-self
invariant_of-self g c = (put_home_fails g (goal.at.invariant_of-self g c).In_err-put_home-in-Some).0.sound

pub returns-in_err-put_home-in-Some-clause-crash : goal.returns-in_err-put_home-in-Some-clause-crash
returns-in_err-put_home-in-Some-clause-crash g c = (put_home_fails g (goal.at.returns-in_err-put_home-in-Some-clause-crash g c).In_err-put_home-in-Some).0.crash

pub returns-in_err-put_home-in-Some-clause-err : goal.returns-in_err-put_home-in-Some-clause-err
returns-in_err-put_home-in-Some-clause-err g c = on_err c.from_residual.result (put_home_fails g (goal.at.returns-in_err-put_home-in-Some-clause-err g c).In_err-put_home-in-Some).1

sync_homes_fails : (g : Over) (c : In_err-sync_homes-in-None g) → Failed c.args.self.now (of_parts c.sync_homes.new.self c.self.inside.memory (logging_of c.self.inside.on_disk.logger) (installing_of c.replace.new.dest))
sync_homes_fails g c = installed_from Failed c.args.self.now c.self.inside.on_disk.circ c.sync_homes.new.self c.self.inside.memory c.self.inside.memory (logging_of c.self.inside.on_disk.logger) (installing_of c.self.inside.on_disk.installer) (install_homes c.in-Homes.plan.upto c.in-Homes.plan.homes.entries) (installing_of c.replace.new.dest) install_spent c.self.view_is (ap installing_of (sym c.in-Homes.ensures.value)) (ap installing_of c.replace.ensures.after)
    (installer_failed c.self.inside.on_disk.circ c.sync_homes.new.self c.self.inside.memory (logging_of c.self.inside.on_disk.logger) (install_homes c.in-Homes.plan.upto c.in-Homes.plan.homes.entries) (in_installing c.self.inside.on_disk.circ c.self.inside.memory (logging_of c.self.inside.on_disk.logger) (installing_of c.self.inside.on_disk.installer) (install_homes c.in-Homes.plan.upto c.in-Homes.plan.homes.entries) (ap installing_of (sym c.in-Homes.ensures.value)) c.self.invariant) c.sync_homes.ensures.crash c.in_err-sync_homes-in-None.ensures.log c.self.inside.on_disk.circ.extent.freed c.in_err-sync_homes-in-None.ensures.err)

pub invariant_of-self-in_err-sync_homes-in-None : goal.invariant_of-self-in_err-sync_homes-in-None
invariant_of-self-in_err-sync_homes-in-None g c = (sync_homes_fails g (goal.at.invariant_of-self-in_err-sync_homes-in-None g c).In_err-sync_homes-in-None).0.sound

pub returns-in_err-sync_homes-in-None-clause-crash : goal.returns-in_err-sync_homes-in-None-clause-crash
returns-in_err-sync_homes-in-None-clause-crash g c = (sync_homes_fails g (goal.at.returns-in_err-sync_homes-in-None-clause-crash g c).In_err-sync_homes-in-None).0.crash

pub returns-in_err-sync_homes-in-None-clause-err : goal.returns-in_err-sync_homes-in-None-clause-err
returns-in_err-sync_homes-in-None-clause-err g c = on_err c.from_residual-in_err-sync_homes-in-None.result (sync_homes_fails g (goal.at.returns-in_err-sync_homes-in-None-clause-err g c).In_err-sync_homes-in-None).1

pub put_start-requires-clause-installed : goal.put_start-requires-clause-installed
put_start-requires-clause-installed g c = is_installed c.self.inside.on_disk.circ c.self.inside.on_disk.circ c.self.inside.memory (logging_of c.self.inside.on_disk.logger) c.in-Synced.upto (in_installing c.self.inside.on_disk.circ c.self.inside.memory (logging_of c.self.inside.on_disk.logger) (installing_of c.self.inside.on_disk.installer) (install_start c.in-Synced.upto) (ap installing_of (sym c.in-Synced.ensures.value)) c.self.invariant)

put_start_fails : (g : Over) (c : In_err-put_start-in-Synced g) → Failed c.args.self.now (of_parts c.put_start.new.self c.self.inside.memory (logging_of c.self.inside.on_disk.logger) (installing_of c.replace.new.dest))
put_start_fails g c = installed_from Failed c.args.self.now c.self.inside.on_disk.circ c.put_start.new.self c.self.inside.memory c.self.inside.memory (logging_of c.self.inside.on_disk.logger) (installing_of c.self.inside.on_disk.installer) (install_start c.in-Synced.upto) (installing_of c.replace.new.dest) install_spent c.self.view_is (ap installing_of (sym c.in-Synced.ensures.value)) (ap installing_of c.replace.ensures.after)
    (installer_failed c.self.inside.on_disk.circ c.put_start.new.self c.self.inside.memory (logging_of c.self.inside.on_disk.logger) (install_start c.in-Synced.upto) (in_installing c.self.inside.on_disk.circ c.self.inside.memory (logging_of c.self.inside.on_disk.logger) (installing_of c.self.inside.on_disk.installer) (install_start c.in-Synced.upto) (ap installing_of (sym c.in-Synced.ensures.value)) c.self.invariant) c.put_start.ensures.crash c.in_err-put_start-in-Synced.ensures.log c.in-Synced.upto (put_failed (subst (λ (w : WalState). w.ring.faulted ≡ false) (sym c.self.view_is) c.requires.fine) c.in_err-put_start-in-Synced.ensures.err))

pub invariant_of-self-in_err-put_start-in-Synced : goal.invariant_of-self-in_err-put_start-in-Synced
invariant_of-self-in_err-put_start-in-Synced g c = (put_start_fails g (goal.at.invariant_of-self-in_err-put_start-in-Synced g c).In_err-put_start-in-Synced).0.sound

pub returns-in_err-put_start-in-Synced-clause-crash : goal.returns-in_err-put_start-in-Synced-clause-crash
returns-in_err-put_start-in-Synced-clause-crash g c = (put_start_fails g (goal.at.returns-in_err-put_start-in-Synced-clause-crash g c).In_err-put_start-in-Synced).0.crash

pub returns-in_err-put_start-in-Synced-clause-err : goal.returns-in_err-put_start-in-Synced-clause-err
returns-in_err-put_start-in-Synced-clause-err g c = on_err c.from_residual-in_err-put_start-in-Synced.result (put_start_fails g (goal.at.returns-in_err-put_start-in-Synced-clause-err g c).In_err-put_start-in-Synced).1

sync_start_fails : (g : Over) (c : In_err-freed-in-StartPut g) → Failed c.args.self.now (of_parts c.sync_start.new.self c.self.inside.memory (logging_of c.self.inside.on_disk.logger) (installing_of c.replace.new.dest))
sync_start_fails g c = installed_from Failed c.args.self.now c.self.inside.on_disk.circ c.sync_start.new.self c.self.inside.memory c.self.inside.memory (logging_of c.self.inside.on_disk.logger) (installing_of c.self.inside.on_disk.installer) (install_sync c.in-StartPut.upto) (installing_of c.replace.new.dest) install_spent c.self.view_is (ap installing_of (sym c.in-StartPut.ensures.value)) (ap installing_of c.replace.ensures.after)
    (installer_failed c.self.inside.on_disk.circ c.sync_start.new.self c.self.inside.memory (logging_of c.self.inside.on_disk.logger) (install_sync c.in-StartPut.upto) (in_installing c.self.inside.on_disk.circ c.self.inside.memory (logging_of c.self.inside.on_disk.logger) (installing_of c.self.inside.on_disk.installer) (install_sync c.in-StartPut.upto) (ap installing_of (sym c.in-StartPut.ensures.value)) c.self.invariant) c.sync_start.ensures.crash (λ honest. record { log = c.in_err-freed-in-StartPut.ensures.log honest; home = c.in_err-freed-in-StartPut.ensures.home honest }) c.self.inside.on_disk.circ.extent.freed c.in_err-freed-in-StartPut.ensures.err)

pub invariant_of-self-in_err-freed-in-StartPut : goal.invariant_of-self-in_err-freed-in-StartPut
invariant_of-self-in_err-freed-in-StartPut g c = (sync_start_fails g (goal.at.invariant_of-self-in_err-freed-in-StartPut g c).In_err-freed-in-StartPut).0.sound

pub returns-in_err-freed-in-StartPut-clause-crash : goal.returns-in_err-freed-in-StartPut-clause-crash
returns-in_err-freed-in-StartPut-clause-crash g c = (sync_start_fails g (goal.at.returns-in_err-freed-in-StartPut-clause-crash g c).In_err-freed-in-StartPut).0.crash

pub returns-in_err-freed-in-StartPut-clause-err : goal.returns-in_err-freed-in-StartPut-clause-err
returns-in_err-freed-in-StartPut-clause-err g c = on_err c.from_residual-in_err-freed-in-StartPut.result (sync_start_fails g (goal.at.returns-in_err-freed-in-StartPut-clause-err g c).In_err-freed-in-StartPut).1

clauses_ok_and_crash : (g : Over) (c : Joined-self-next g) → let s = c.match-replace.self-inside in Moved c.match-replace.step c.args.self.now (of_parts s.on_disk.circ s.memory (logging_of s.on_disk.logger) (installing_of c.match-replace.next))
clauses_ok_and_crash g c = elim c.match-replace.branch [
  | in-Homes+in-Some+in_ok-put_home-in-Some w ↦
      let put = home_put c.self.inside.on_disk.circ w.put_home.new.self c.self.inside.memory (logging_of c.self.inside.on_disk.logger) w.in-Homes.plan.upto w.in-Homes.plan.homes.entries w.in-Some.block w.in-Some.position ((in_installing c.self.inside.on_disk.circ c.self.inside.memory (logging_of c.self.inside.on_disk.logger) (installing_of c.self.inside.on_disk.installer) (install_homes w.in-Homes.plan.upto w.in-Homes.plan.homes.entries) (ap installing_of (sym w.in-Homes.ensures.value)) c.self.invariant)).installing w.in-Some.ensures.found w.next.new.self.homes.entries w.at-update.result.now (install_homes w.in-Homes.plan.upto w.in-Homes.plan.homes.entries) (in_installing c.self.inside.on_disk.circ c.self.inside.memory (logging_of c.self.inside.on_disk.logger) (installing_of c.self.inside.on_disk.installer) (install_homes w.in-Homes.plan.upto w.in-Homes.plan.homes.entries) (ap installing_of (sym w.in-Homes.ensures.value)) c.self.invariant) w.in-Some.ensures.left w.at-update.ensures w.put_home.ensures.crash w.in_ok-put_home-in-Some.ensures.log w.in_ok-put_home-in-Some.ensures.home w.in_ok-put_home-in-Some.ensures.others w.in_ok-put_home-in-Some.ensures.ok in
      subst (λ s. Moved c.match-replace.step c.args.self.now (of_parts s.on_disk.circ s.memory (logging_of s.on_disk.logger) (installing_of c.match-replace.next))) (sym w.self-inside-is)
      (by_step w.step-is (installed_from (Moved Put) c.args.self.now c.self.inside.on_disk.circ w.put_home.new.self c.self.inside.memory c.self.inside.memory (logging_of c.self.inside.on_disk.logger) (installing_of c.self.inside.on_disk.installer) (install_homes w.in-Homes.plan.upto w.in-Homes.plan.homes.entries) (installing_of c.match-replace.next) (install_homes w.in-Homes.plan.upto w.next.new.self.homes.entries) c.self.view_is (ap installing_of (sym w.in-Homes.ensures.value)) ((ap installing_of w.next-is) ∙ (λ i. install_homes (w.next.ensures.upto i) w.next.new.self.homes.entries)) (put.0, installs_on c.self.inside.on_disk.circ w.put_home.new.self c.self.inside.memory (logging_of c.self.inside.on_disk.logger) (install_homes w.in-Homes.plan.upto w.in-Homes.plan.homes.entries) (install_homes w.in-Homes.plan.upto w.next.new.self.homes.entries) (length w.next.new.self.homes.entries + 2) (ap (λ (r : Ring). r.next) w.in_ok-put_home-in-Some.ensures.ok) (ap (λ (r : Ring). r.sealed) w.in_ok-put_home-in-Some.ensures.ok) (omega (arith, ap (λ (es : List (ℕ × ℕ)). length es) w.in-Some.ensures.some)) (omega arith) (call_home c.self.inside.on_disk.circ.label c.self.inside.memory w.in-Homes.plan.upto w.in-Homes.plan.homes.entries w.next.new.self.homes.entries w.in-Some.block w.in-Some.position w.at-update.result.now c.self.inside.on_disk.circ.disk w.put_home.new.self.disk w.in-Some.ensures.some w.at-update.ensures w.in_ok-put_home-in-Some.ensures.step.makes) (sym (ap (λ (es : List (ℕ × ℕ)). after_call (install_homes w.in-Homes.plan.upto es)) w.in-Some.ensures.some)) put.1)))
  | in-Homes+in-None+in_ok-sync_homes-in-None w ↦
      let put = homes_synced c.self.inside.on_disk.circ w.sync_homes.new.self c.self.inside.memory (logging_of c.self.inside.on_disk.logger) w.in-Homes.plan.upto (install_homes w.in-Homes.plan.upto w.in-Homes.plan.homes.entries) (in_installing c.self.inside.on_disk.circ c.self.inside.memory (logging_of c.self.inside.on_disk.logger) (installing_of c.self.inside.on_disk.installer) (install_homes w.in-Homes.plan.upto w.in-Homes.plan.homes.entries) (ap installing_of (sym w.in-Homes.ensures.value)) c.self.invariant) (subst (λ (es : List (ℕ × ℕ)). IsInstalling c.self.inside.on_disk.circ c.self.inside.memory (install_homes w.in-Homes.plan.upto es)) w.in-None.ensures.none.0 ((in_installing c.self.inside.on_disk.circ c.self.inside.memory (logging_of c.self.inside.on_disk.logger) (installing_of c.self.inside.on_disk.installer) (install_homes w.in-Homes.plan.upto w.in-Homes.plan.homes.entries) (ap installing_of (sym w.in-Homes.ensures.value)) c.self.invariant)).installing) w.sync_homes.ensures.crash w.in_ok-sync_homes-in-None.ensures.log w.in_ok-sync_homes-in-None.ensures.ok in
      subst (λ s. Moved c.match-replace.step c.args.self.now (of_parts s.on_disk.circ s.memory (logging_of s.on_disk.logger) (installing_of c.match-replace.next))) (sym w.self-inside-is)
      (by_step w.step-is (installed_from (Moved Put) c.args.self.now c.self.inside.on_disk.circ w.sync_homes.new.self c.self.inside.memory c.self.inside.memory (logging_of c.self.inside.on_disk.logger) (installing_of c.self.inside.on_disk.installer) (install_homes w.in-Homes.plan.upto w.in-Homes.plan.homes.entries) (installing_of c.match-replace.next) (install_start w.in-Homes.plan.upto) c.self.view_is (ap installing_of (sym w.in-Homes.ensures.value)) ((ap installing_of w.next-is) ∙ (λ i. install_start (w.next.ensures.upto i))) (put.0, installs_on c.self.inside.on_disk.circ w.sync_homes.new.self c.self.inside.memory (logging_of c.self.inside.on_disk.logger) (install_homes w.in-Homes.plan.upto w.in-Homes.plan.homes.entries) (install_start w.in-Homes.plan.upto) 1 (ap (λ (r : Ring). r.next) w.in_ok-sync_homes-in-None.ensures.ok) (ap (λ (r : Ring). r.sealed) w.in_ok-sync_homes-in-None.ensures.ok) (omega (arith, ap (λ (es : List (ℕ × ℕ)). length es) w.in-None.ensures.none.0)) refl (subst (λ (es : List (ℕ × ℕ)). MakesDueCall (install_call c.self.inside.on_disk.circ.label c.self.inside.memory (install_homes w.in-Homes.plan.upto es)) c.self.inside.on_disk.circ.disk w.sync_homes.new.self.disk) (sym w.in-None.ensures.none.0) w.in_ok-sync_homes-in-None.ensures.step.makes) (sym (ap (λ (es : List (ℕ × ℕ)). after_call (install_homes w.in-Homes.plan.upto es)) w.in-None.ensures.none.0)) put.1)))
  | in-Synced+in_ok-put_start-in-Synced w ↦
      let put = start_written c.self.inside.on_disk.circ w.put_start.new.self c.self.inside.memory (logging_of c.self.inside.on_disk.logger) w.in-Synced.upto (in_installing c.self.inside.on_disk.circ c.self.inside.memory (logging_of c.self.inside.on_disk.logger) (installing_of c.self.inside.on_disk.installer) (install_start w.in-Synced.upto) (ap installing_of (sym w.in-Synced.ensures.value)) c.self.invariant) w.put_start.ensures.crash w.in_ok-put_start-in-Synced.ensures.log w.in_ok-put_start-in-Synced.ensures.ok in
      subst (λ s. Moved c.match-replace.step c.args.self.now (of_parts s.on_disk.circ s.memory (logging_of s.on_disk.logger) (installing_of c.match-replace.next))) (sym w.self-inside-is)
      (by_step w.step-is (installed_from (Moved Put) c.args.self.now c.self.inside.on_disk.circ w.put_start.new.self c.self.inside.memory c.self.inside.memory (logging_of c.self.inside.on_disk.logger) (installing_of c.self.inside.on_disk.installer) (install_start w.in-Synced.upto) (installing_of c.match-replace.next) (install_sync w.in-Synced.upto) c.self.view_is (ap installing_of (sym w.in-Synced.ensures.value)) (ap installing_of w.next-is) (put.0, installs_on c.self.inside.on_disk.circ w.put_start.new.self c.self.inside.memory (logging_of c.self.inside.on_disk.logger) (install_start w.in-Synced.upto) (install_sync w.in-Synced.upto) 0 (ap (λ (r : Ring). r.next) w.in_ok-put_start-in-Synced.ensures.ok) (ap (λ (r : Ring). r.sealed) w.in_ok-put_start-in-Synced.ensures.ok) refl refl w.in_ok-put_start-in-Synced.ensures.step.makes refl put.1)))
  | in-StartPut+in_ok-freed-in-StartPut w ↦
      let put = start_synced c.self.inside.on_disk.circ w.sync_start.new.self c.self.inside.memory (logging_of c.self.inside.on_disk.logger) w.in-StartPut.upto (in_installing c.self.inside.on_disk.circ c.self.inside.memory (logging_of c.self.inside.on_disk.logger) (installing_of c.self.inside.on_disk.installer) (install_sync w.in-StartPut.upto) (ap installing_of (sym w.in-StartPut.ensures.value)) c.self.invariant) w.sync_start.ensures.crash w.in_ok-freed-in-StartPut.ensures.home w.in_ok-freed-in-StartPut.ensures.ok w.in_ok-freed-in-StartPut.ensures.log (ap (λ (r : Ring). r.extent.freed) w.in_ok-freed-in-StartPut.ensures.ok) in
      subst (λ s. Moved c.match-replace.step c.args.self.now (of_parts s.on_disk.circ s.memory (logging_of s.on_disk.logger) (installing_of c.match-replace.next))) (sym w.self-inside-is)
      (by_step w.step-is (subst (λ (l : LogState). Moved (Freed w.in-StartPut.upto) c.args.self.now (of_parts w.sync_start.new.self l (logging_of c.self.inside.on_disk.logger) (installing_of c.match-replace.next))) (sym w.free.ensures) (installed_from (Moved (Freed w.in-StartPut.upto)) c.args.self.now c.self.inside.on_disk.circ w.sync_start.new.self c.self.inside.memory (trimmed c.self.inside.memory w.in-StartPut.upto) (logging_of c.self.inside.on_disk.logger) (installing_of c.self.inside.on_disk.installer) (install_sync w.in-StartPut.upto) (installing_of c.match-replace.next) install_none c.self.view_is (ap installing_of (sym w.in-StartPut.ensures.value)) (ap installing_of w.next-is) (put.0, installs_freed c.self.inside.on_disk.circ w.sync_start.new.self c.self.inside.memory (logging_of c.self.inside.on_disk.logger) w.in-StartPut.upto (ap (λ (r : Ring). r.next) w.in_ok-freed-in-StartPut.ensures.ok) (ap (λ (r : Ring). r.sealed) w.in_ok-freed-in-StartPut.ensures.ok) ((in_installing c.self.inside.on_disk.circ c.self.inside.memory (logging_of c.self.inside.on_disk.logger) (installing_of c.self.inside.on_disk.installer) (install_sync w.in-StartPut.upto) (ap installing_of (sym w.in-StartPut.ensures.value)) c.self.invariant)).installing.position w.in_ok-freed-in-StartPut.ensures.step.makes put.1))))
]

pub invariant_of-self-2 : goal.invariant_of-self-2
invariant_of-self-2 g c = (clauses_ok_and_crash g (goal.at.invariant_of-self-2 g c).Joined-self-next).0.sound

pub returns-clause-crash : goal.returns-clause-crash
returns-clause-crash g c = (clauses_ok_and_crash g (goal.at.returns-clause-crash g c).Joined-self-next).0.crash

pub returns-clause-ok : goal.returns-clause-ok
returns-clause-ok g c = (clauses_ok_and_crash g (goal.at.returns-clause-ok g c).Joined-self-next).1
