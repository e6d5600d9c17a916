-- Which arguments run an operation.
use Rattle.std.proofs.Common.{◌≡◌, ℕ, List, Option, Some, None, Ok, Err, refl, ap}
use Rattle.journal_rpc.specs.declared.replies.CallRefused.TheVariants.{GarbageArguments}
use Rattle.journal_nfs3_wire.specs.declared.procedure.Procedure.{Procedure}
use Rattle.journal_nfs3_wire.specs.Arguments.{Operation, arguments}
use Rattle.journal_nfs3_wire.specs.Whole.{whole, IsSpelling}
use Rattle.journal_nfs3_wire.specs.Calls.{unless_garbage, called}
use Rattle.journal_nfs3_wire.proofs.ArgumentLaws.{arguments_laws}
use Rattle.journal_nfs3_wire.proofs.WholeLaws.{whole_is, is_whole, none_is, is_none}

runs_some : (o : Option Operation) (operation : Operation) → unless_garbage o ≡ Ok operation → o ≡ Some operation
runs_some None operation e = absurd cc
runs_some (Some read) operation e = cc

garbage_none : (o : Option Operation) → unless_garbage o ≡ Err GarbageArguments → o ≡ None
garbage_none None e = refl
garbage_none (Some read) e = absurd cc

pub runs_spelled : (p : Procedure) (bytes : List ℕ) (operation : Operation) → called (Some p) bytes ≡ Ok operation → IsSpelling (arguments p) bytes operation
unfolding called
runs_spelled p bytes operation e = whole_is (arguments p) (arguments_laws p) bytes operation (runs_some (whole (arguments p) bytes) operation e)

pub spelled_runs : (p : Procedure) (bytes : List ℕ) (operation : Operation) → IsSpelling (arguments p) bytes operation → called (Some p) bytes ≡ Ok operation
unfolding called
spelled_runs p bytes operation s = ap unless_garbage (is_whole (arguments p) (arguments_laws p) bytes operation s)

pub garbage_unspelled : (p : Procedure) (bytes : List ℕ) → called (Some p) bytes ≡ Err GarbageArguments → (operation : Operation) → IsSpelling (arguments p) bytes operation → ⊥
unfolding called
garbage_unspelled p bytes e = none_is (arguments p) (arguments_laws p) bytes (garbage_none (whole (arguments p) bytes) e)

pub unspelled_garbage : (p : Procedure) (bytes : List ℕ) → ((operation : Operation) → IsSpelling (arguments p) bytes operation → ⊥) → called (Some p) bytes ≡ Err GarbageArguments
unfolding called
unspelled_garbage p bytes h = ap unless_garbage (is_none (arguments p) (arguments_laws p) bytes h)
