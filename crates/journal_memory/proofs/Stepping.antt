-- What holds of an answer, and which steps of the object log let no group come or go.
use Rattle.std.proofs.Common.{◌≡◌, Result, Ok, Err, IsErr, OnErr, IfOk, subst}
use Rattle.std.proofs.lemmas.Bool.{false≢true}

-- what holds of an error
pub of_err : {T E P : Type 0} (r : Result T E) → IsErr r → OnErr r P → P
of_err (Ok value) is holds = absurd (false≢true is)
of_err (Err e) is holds = holds

-- what holds of this answer, where it is known which it is
pub of_ok : {T E : Type 0} (P : T → Type 0) (r : Result T E) (value which : T) → r ≡ Ok value → value ≡ which → IfOk r P → P which
of_ok P r value which is this holds = subst P this (subst (λ x. IfOk x P) is holds)
