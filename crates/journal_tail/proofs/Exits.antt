-- What the exit of a `?` returns.
use Rattle.std.proofs.Common.{Result, Ok, Err, IfErr, IsErrAnd}

-- what the exit of a `?` returns
pub if_err : {T E : Type 0} (r : Result T E) (Q P : E → Type 0) → IsErrAnd r Q → ((e : E) → Q e → P e) → IfErr r P
if_err (Ok x) Q P and go = tt
if_err (Err e) Q P and go = go e and
