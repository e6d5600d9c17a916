-- From the states that the code holds to those that the lemmas speak of.
use Rattle.std.proofs.Common.{◌≡◌, ◌⊎◌, inl, inr, Bool, false, IsTrue, Result, Ok, Err, OnErr, sym, subst}
use Rattle.journal_circ.specs.Ring.{Ring}
use Rattle.journal_memlog.specs.Logs.{LogState}
use Rattle.journal_wal.specs.Wal.{WalState, Logging, Installing}
use Rattle.journal_wal.specs.States.{IsWal}

abbrev pub of_parts : Ring → LogState → Logging → Installing → WalState
of_parts ring log logging installing = record { ring = ring; log = log; logging = logging; installing = installing }

pub in_logging : (ring : Ring) (log : LogState) (logging p : Logging) (installing : Installing) → logging ≡ p
    → IsWal (of_parts ring log logging installing) → IsWal (of_parts ring log p installing)
in_logging ring log logging p installing same = subst (λ (l : Logging). IsWal (of_parts ring log l installing)) same

pub in_installing : (ring : Ring) (log : LogState) (logging : Logging) (installing p : Installing) → installing ≡ p
    → IsWal (of_parts ring log logging installing) → IsWal (of_parts ring log logging p)
in_installing ring log logging installing p same = subst (λ (i : Installing). IsWal (of_parts ring log logging i)) same

-- what holds from one phase of the logger to another
pub logged_from : (P : WalState → WalState → Type 0) (old : WalState) (ring now : Ring) (log later : LogState) (before p after q : Logging) (installing : Installing)
    → of_parts ring log before installing ≡ old → before ≡ p → after ≡ q
    → P (of_parts ring log p installing) (of_parts now later q installing) → P old (of_parts now later after installing)
logged_from P old ring now log later before p after q installing view is_p is_q holds =
    subst (λ (w : WalState). P w (of_parts now later after installing)) view
    (subst (λ (l : Logging). P (of_parts ring log l installing) (of_parts now later after installing)) (sym is_p)
    (subst (λ (l : Logging). P (of_parts ring log p installing) (of_parts now later l installing)) (sym is_q) holds))

-- what holds from one phase of the installer to another
pub installed_from : (P : WalState → WalState → Type 0) (old : WalState) (ring now : Ring) (log later : LogState) (logging : Logging) (before p after q : Installing)
    → of_parts ring log logging before ≡ old → before ≡ p → after ≡ q
    → P (of_parts ring log logging p) (of_parts now later logging q) → P old (of_parts now later logging after)
installed_from P old ring now log later logging before p after q view is_p is_q holds =
    subst (λ (w : WalState). P w (of_parts now later logging after)) view
    (subst (λ (i : Installing). P (of_parts ring log logging i) (of_parts now later logging after)) (sym is_p)
    (subst (λ (i : Installing). P (of_parts ring log logging p) (of_parts now later logging i)) (sym is_q) holds))

-- a call that is made on a log that is not faulted may have failed, no more
pub put_failed : {X : Type 0} {faulted : Bool} → faulted ≡ false → IsTrue faulted ⊎ X → X
put_failed fine (inl was) = let impossible : ⊥ = cc in absurd impossible
put_failed fine (inr x) = x

pub on_err : {T E X : Type 0} (result : Result T E) → X → OnErr result X
on_err (Ok value) x = tt
on_err (Err error) x = x
