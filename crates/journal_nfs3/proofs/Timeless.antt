-- Which calls have replies that depend on no moment.
use Rattle.std.proofs.Common.{◌≡◌, ℕ, Bool, true, false, List, [], ◌∷◌, Option, Some, None, Ok, Err, sym}
use Rattle.std.specs.Prelude.{◌==◌, if◌then◌else◌}
use Rattle.std.proofs.lemmas.Bool.{false≢true}
use Rattle.journal_xdr.specs.Items.{◌>>=◌}
use Rattle.journal_rpc.specs.declared.replies.CallRefused.{CallRefused}
use Rattle.journal_rpc.specs.declared.replies.CallRefused.TheVariants.{ProgramUnavailable, ProgramMismatch}
use Rattle.journal_rpc.specs.Calls as calls
use Rattle.journal_nfs3_wire.specs.declared.procedure.Procedure.{Procedure}
use Rattle.journal_nfs3_wire.specs.declared.procedure.Procedure.TheVariants as procedure
use Rattle.journal_nfs3_wire.specs.Arguments.{Operation, Null, GetAttributes, Lookup, Read, Remove, Commit, arguments}
use Rattle.journal_nfs3_wire.specs.Calls.{asks, called, requested, unless_garbage}
use Rattle.journal_nfs3_wire.specs.Procedures.{procedure_of}
use Rattle.journal_nfs3_wire.specs.Whole.{alone}
use Rattle.journal_nfs3.specs.Answers.{sets_times, IsTimeless}

refused_timeless : (why : CallRefused) → IsTimeless (Err why)
refused_timeless why version standing verifier one other xid old new text a = record { outcome = a.outcome; comes = a.comes; is_sent = a.is_sent }

-- what was read, or nothing
module _ {A : Type 0} (make : A → Operation) (each : (x : A) → IsTimeless (Ok (make x))) where
  left_timeless : (x : A) (rest : List ℕ) → IsTimeless (unless_garbage (alone (Some (make x, rest))))
  left_timeless x [] = each x
  left_timeless x (b ∷ rest) = refused_timeless _

  read_timeless : (found : Option (A × List ℕ)) → IsTimeless (unless_garbage (alone (found >>= λ x. Some (make x.0, x.1))))
  read_timeless None = refused_timeless _
  read_timeless (Some x) = left_timeless x.0 x.1

called_timeless : (p : Option Procedure) (bytes : List ℕ) → sets_times p ≡ false → IsTimeless (called p bytes)
unfolding called arguments
called_timeless None bytes e = refused_timeless _
called_timeless (Some procedure.Null) bytes e =
    left_timeless (λ (x : ℕ). Null) (λ x version standing verifier one other xid old new text a. record { outcome = a.outcome; comes = a.comes; is_sent = a.is_sent }) 0 bytes
called_timeless (Some procedure.GetAttributes) bytes e =
    read_timeless (λ h. GetAttributes h) (λ x version standing verifier one other xid old new text a. record { outcome = a.outcome; comes = a.comes; is_sent = a.is_sent }) _
called_timeless (Some procedure.SetAttributes) bytes e = absurd (false≢true (sym e))
called_timeless (Some procedure.Lookup) bytes e = read_timeless (λ e. Lookup e) (λ x version standing verifier one other xid old new text a. record { outcome = a.outcome; comes = a.comes; is_sent = a.is_sent }) _
called_timeless (Some procedure.Read) bytes e = read_timeless (λ p. Read p.0 p.1.0 p.1.1) (λ x version standing verifier one other xid old new text a. record { outcome = a.outcome; comes = a.comes; is_sent = a.is_sent }) _
called_timeless (Some procedure.Write) bytes e = absurd (false≢true (sym e))
called_timeless (Some procedure.Create) bytes e = absurd (false≢true (sym e))
called_timeless (Some procedure.Remove) bytes e = read_timeless (λ e. Remove e) (λ x version standing verifier one other xid old new text a. record { outcome = a.outcome; comes = a.comes; is_sent = a.is_sent }) _
called_timeless (Some procedure.Commit) bytes e = read_timeless (λ p. Commit p.0 p.1.0 p.1.1) (λ x version standing verifier one other xid old new text a. record { outcome = a.outcome; comes = a.comes; is_sent = a.is_sent }) _

-- a call of another version of RPC
pub other_timeless : IsTimeless (asks calls.OtherVersion)
other_timeless = refused_timeless _

-- a call of a procedure that sets none
pub asks_timeless : (program version number : ℕ) (bytes : List ℕ) → sets_times (procedure_of number) ≡ false → IsTimeless (asks (calls.Procedure program version number bytes))
asks_timeless program version number bytes e = of (program == 100003) (version == 3)
  where
    of : (mine right : Bool) → IsTimeless (requested (if mine then (if right then Ok (number, bytes) else Err (ProgramMismatch 3)) else Err ProgramUnavailable))
    of true true = called_timeless (procedure_of number) bytes e
    of true false = refused_timeless _
    of false right = refused_timeless _
