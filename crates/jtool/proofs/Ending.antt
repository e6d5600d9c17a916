-- How the program ends.
use Rattle.std.proofs.Common.{◌≡◌, ◌≢◌, inl, inr, ℕ, List, [], length, Option, Result, Ok, Err, sym, ap, subst, ◌∙◌, arith, get_or}
use Rattle.std.specs.Prelude.{◌==◌}
use Rattle.std.proofs.lemmas.Fmt.{decimal_injective}
use Rattle.journal_command.specs.declared.ask.AskFault.{AskFault}
use Rattle.journal_command.specs.declared.ask.AskFault.TheVariants as asks_for
use Rattle.journal_command.specs.Asks.{AsksScript, AsksFormat, IsSize, CannotBegin}
use Rattle.jtool.specs.declared.fault.Fault.{Fault}
use Rattle.jtool.specs.declared.fault.Fault.TheVariants as faults
use Rattle.journal_script.specs.Transcripts.{IsTranscript}
use Rattle.jtool.specs.Programs.{EndsScript, status_of}

-- words that ask for a script ask for nothing else
pub script_is_no_format : (words : List (List ℕ)) (n : ℕ) (path : List ℕ) (m : ℕ) → AsksScript words n → AsksFormat words path m → ⊥
script_is_no_format words n path m asks other =
    let same : 2 ≡ 3 = ap length (sym asks.1 ∙ other.1) in
    absurd (omega (arith, same))

-- words that ask for a script begin one
pub can_begin : (words : List (List ℕ)) (fault : AskFault) → CannotBegin words fault → (n : ℕ) → AsksScript words n → IsSize n → ⊥
can_begin words asks_for.Usage none n asks size = none.0 n asks
can_begin words asks_for.BadSize (m, inl other, outside) n asks size =
    let same : m ≡ n = decimal_injective m n (omega (arith, other.0)) (omega (arith, asks.0)) (ap (λ l. get_or l 1 []) (sym other.1 ∙ asks.1)) in
    outside (subst IsSize (sym same) size)
can_begin words asks_for.BadSize (m, inr (path, other), outside) n asks size = script_is_no_format words n path m asks other

-- what was said of a script's end, by the status
pub ends_well : (left held new : Option (List ℕ)) (r : Result (Unit {0}) Fault) (done : Unit {0}) → EndsScript left held new r → r ≡ Ok done → IsTranscript left held new (0 == 2)
ends_well left held new r done runs is = subst (EndsScript left held new) is runs

pub ends_by_fault : (left held new : Option (List ℕ)) (r : Result (Unit {0}) Fault) (fault : Fault) (status : ℕ) → EndsScript left held new r → r ≡ Err fault → status ≡ status_of fault → status ≢ 1
    → IsTranscript left held new (status == 2)
ends_by_fault left held new r fault status runs is told other = by_fault fault (subst (EndsScript left held new) is runs) told
  where
    by_fault : (f : Fault) → EndsScript left held new (Err f) → status ≡ status_of f → IsTranscript left held new (status == 2)
    by_fault faults.BadLine h e = subst (λ n. IsTranscript left held new (n == 2)) (sym e) h
    by_fault (faults.Refused why) h e = absurd (other e)
    by_fault faults.CannotRead h e = absurd (other e)
    by_fault faults.CannotWrite h e = absurd (other e)
    by_fault (faults.BadFile path) h e = absurd h
    by_fault (faults.Label path why) h e = absurd h
    by_fault (faults.Device _ _) h e = elim h [ ]
    by_fault faults.CannotListen h e = absurd h
    by_fault faults.Usage h e = absurd h
    by_fault faults.BadSize h e = absurd h
