-- What is opened as a disk with files.
use Rattle.std.proofs.Common.{Result, Ok, Err, OnOk, IfErr}

-- what refuses is told in other words
pub told_as : {T E : Type 0} (P Q : E → Type 0) (r : Result T E) → ((e : E) → P e → Q e) → IfErr r P → IfErr r Q
told_as P Q (Ok value) same refusal = tt
told_as P Q (Err e) same refusal = same e refusal

-- what holds at any rate
pub on_any : {T E P : Type 0} (r : Result T E) → P → OnOk r P
on_any (Ok value) holds = holds
on_any (Err e) holds = tt
