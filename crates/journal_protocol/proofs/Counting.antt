-- How many records were answered.
use Rattle.std.proofs.Common.{ℕ, List, ◌++◌, ◌+◌, ◌-◌, length, arith}
use lib.ListN.{length-append}
use Rattle.journal_protocol.specs.Sending.{GrowsBy}

pub counts_more : (a b : List (List ℕ)) (old n new : ℕ) → GrowsBy old (length a) n → GrowsBy n (length b) new → GrowsBy old (length (a ++ b)) new
counts_more a b old n new h k lt =
    let l = length-append a b in
    let e = h (omega (arith, l, lt)) in
    let f = k (omega (arith, l, lt, e)) in
    omega (arith, l, e, f)
