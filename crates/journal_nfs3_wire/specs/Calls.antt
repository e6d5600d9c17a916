-- The request of a call to the program: an operation, or why it is refused (RFC 5531, section 9;
-- RFC 1813, section 3.3).
use Rattle.std.specs.Prelude.{ℕ, List, Option, Some, None, Result, Ok, Err}
use Rattle.journal_rpc.specs.declared.replies.CallRefused.{CallRefused}
use Rattle.journal_rpc.specs.declared.replies.CallRefused.TheVariants.{ProcedureUnavailable, GarbageArguments}
use Rattle.journal_rpc.specs.Calls.{Asked}
use Rattle.journal_rpc.specs.CallViews.{routed}
use Rattle.journal_nfs3_wire.specs.declared.arguments.Operation as code_operation
use Rattle.journal_nfs3_wire.specs.declared.procedure.Procedure.{Procedure}
use Rattle.journal_nfs3_wire.specs.Procedures.{procedure_of}
use Rattle.journal_nfs3_wire.specs.Arguments.{Operation, operation_of, arguments}
use Rattle.journal_nfs3_wire.specs.Whole.{whole}

abbrev pub unless_garbage : Option Operation → Result Operation CallRefused
unless_garbage None = Err GarbageArguments
unless_garbage (Some operation) = Ok operation

-- the operation whose arguments the bytes are
unfoldable pub called : Option Procedure → List ℕ → Result Operation CallRefused
called None bytes = Err ProcedureUnavailable
called (Some procedure) bytes = unless_garbage (whole (arguments procedure) bytes)

abbrev pub requested : Result (ℕ × List ℕ) CallRefused → Result Operation CallRefused
requested (Err why) = Err why
requested (Ok request) = called (procedure_of request.0) request.1

-- The first case that holds
abbrev pub asks : Asked → Result Operation CallRefused
asks asked = requested (routed 100003 3 asked)

-- the meaning of the code's answer
abbrev pub decided : Result code_operation.Operation CallRefused → Result Operation CallRefused
decided (Ok operation) = Ok (operation_of operation)
decided (Err why) = Err why

abbrev pub found : Option code_operation.Operation → Option Operation
found None = None
found (Some operation) = Some (operation_of operation)
