-- What a call asks is decided by its program, and then by its version.
use Rattle.std.proofs.Common.{◌≡◌, ◌≢◌, ℕ, List, Err, refl, sym, ap, ◌∙◌}
use Rattle.std.proofs.lemmas.Bool.{ne_eqb}
use Rattle.journal_rpc.specs.declared.replies.CallRefused.{CallRefused}
use Rattle.journal_rpc.specs.declared.replies.CallRefused.TheVariants.{RpcMismatch, ProgramUnavailable, ProgramMismatch, ProcedureUnavailable, GarbageArguments}
use Rattle.journal_rpc.specs.Calls.{Asked, OtherVersion, Procedure}
use Rattle.journal_rpc.specs.CallViews.{Routes}
use Rattle.journal_mount3.specs.Calls.{asks, asks_files, asks_mount}

pub asks_of_mount : (asked : Asked) (procedure : ℕ) (arguments : List ℕ) → asked ≡ Procedure 100005 3 procedure arguments → asks asked ≡ asks_mount procedure arguments
asks_of_mount asked procedure arguments is = ap asks is

pub asks_of_files : (asked : Asked) (procedure : ℕ) (arguments : List ℕ) → asked ≡ Procedure 100003 3 procedure arguments → asks asked ≡ asks_files procedure arguments
asks_of_files asked procedure arguments is = ap asks is

-- another version of a program that is served
mismatch : (asked : Asked) (here : Asked) (served : ℕ) → asked ≡ here → served ≡ 3 → asks here ≡ Err (ProgramMismatch 3) → Err (ProgramMismatch served) ≡ asks asked
mismatch asked here served is three refused = ap (λ (n : ℕ). Err (ProgramMismatch n)) three ∙ sym refused ∙ sym (ap asks is)

-- NFS is asked, and refuses
pub refused_by_files : (asked : Asked) (why : CallRefused) → Routes 100003 3 asked (Err why) → why ≢ ProgramUnavailable → Err why ≡ asks asked
refused_by_files asked RpcMismatch h other = sym (ap asks h)
refused_by_files asked ProgramUnavailable h other = absurd (other refl)
refused_by_files asked (ProgramMismatch served) h other =
    let here : asks (Procedure 100003 h.0 h.1 h.2) ≡ Err (ProgramMismatch 3) = rw (ne_eqb h.0 3 h.4) refl in
    mismatch asked (Procedure 100003 h.0 h.1 h.2) served h.3 h.5 here
refused_by_files asked ProcedureUnavailable h other = absurd h
refused_by_files asked GarbageArguments h other = absurd h

-- it is not asked, and MOUNT refuses
pub refused_by_mount : (asked : Asked) (why : CallRefused) → Routes 100003 3 asked (Err ProgramUnavailable) → Routes 100005 3 asked (Err why) → Err why ≡ asks asked
refused_by_mount asked RpcMismatch f h = sym (ap asks h)
refused_by_mount asked ProgramUnavailable f h =
    let same : Procedure f.0 f.1 f.2 f.3 ≡ Procedure h.0 h.1 h.2 h.3 = sym f.4 ∙ h.4 in
    let number : f.0 ≡ h.0 = ap (λ (a : Asked). program_of a f.0) same in
    let here : asks (Procedure h.0 h.1 h.2 h.3) ≡ Err ProgramUnavailable = rw (ne_eqb h.0 100005 h.5, ne_eqb h.0 100003 (λ e. f.5 (number ∙ e))) refl in
    sym here ∙ sym (ap asks h.4)
  where
    program_of : Asked → ℕ → ℕ
    program_of (Procedure program version procedure arguments) n = program
    program_of OtherVersion n = n
refused_by_mount asked (ProgramMismatch served) f h =
    let here : asks (Procedure 100005 h.0 h.1 h.2) ≡ Err (ProgramMismatch 3) = rw (ne_eqb h.0 3 h.4) refl in
    mismatch asked (Procedure 100005 h.0 h.1 h.2) served h.3 h.5 here
refused_by_mount asked ProcedureUnavailable f h = absurd h
refused_by_mount asked GarbageArguments f h = absurd h
