-- The request of a call to NFS in its version 3, or why it is refused (RFC 5531, section 9; RFC
-- 1813, section 3.3).
use Rattle.std.specs.Prelude.{ℕ, List, Option, Some, None, Result, Ok, Err}
use Rattle.journal_rpc.specs.declared.replies.CallRefused.{CallRefused}
use Rattle.journal_rpc.specs.declared.replies.CallRefused.TheVariants.{GarbageArguments}
use Rattle.journal_nfs3_wire.specs.declared.query.Query as code_query
use Rattle.journal_nfs3_wire.specs.declared.query.QueryProcedure.{QueryProcedure}
use Rattle.journal_nfs3_wire.specs.Arguments.{Operation, operation_of}
use Rattle.journal_nfs3_wire.specs.Calls.{called}
use Rattle.journal_nfs3_wire.specs.Procedures.{procedure_of}
use Rattle.journal_nfs3_wire.specs.Queries.{Query, query_of, query_arguments, query_procedure_of}
use Rattle.journal_nfs3_wire.specs.Whole.{whole}
use Rattle.journal_treewire.specs.declared.arguments.DirectoryOperation as code_operation
use Rattle.journal_treewire.specs.declared.arguments.Requested as code_requested
use Rattle.journal_treewire.specs.declared.arguments.Requested.TheVariants as code_requests
use Rattle.journal_treewire.specs.declared.procedure.DirectoryProcedure.{DirectoryProcedure}
use Rattle.journal_treewire.specs.Directories.{DirectoryOperation, directory_operation_of, directory_arguments, directory_procedure_of}

-- A request: one of the nine procedures of a flat directory, a query, or one of directories and
-- links
pub data Requested : Type 0 where
  file : Operation → Requested
  query : Query → Requested
  directory : DirectoryOperation → Requested

abbrev pub or_garbage : {T : Type 0} → (T → Requested) → Option T → Result Requested CallRefused
or_garbage as_request None = Err GarbageArguments
or_garbage as_request (Some x) = Ok (as_request x)

abbrev pub asks_file : Result Operation CallRefused → Result Requested CallRefused
asks_file (Ok operation) = Ok (file operation)
asks_file (Err why) = Err why

abbrev pub asks_directory : Option DirectoryProcedure → ℕ → List ℕ → Result Requested CallRefused
asks_directory (Some procedure) number arguments = or_garbage directory (whole (directory_arguments procedure) arguments)
asks_directory None number arguments = asks_file (called (procedure_of number) arguments)

abbrev pub asks_query : Option QueryProcedure → ℕ → List ℕ → Result Requested CallRefused
asks_query (Some procedure) number arguments = or_garbage query (whole (query_arguments procedure) arguments)
asks_query None number arguments = asks_directory (directory_procedure_of number) number arguments

-- what the procedure of this number is asked by these arguments
abbrev pub requested : ℕ → List ℕ → Result Requested CallRefused
requested number arguments = asks_query (query_procedure_of number) number arguments

-- ---- what the code's answers stand for

abbrev pub request_of : code_requested.Requested → Requested
request_of (code_requests.File operation) = file (operation_of operation)
request_of (code_requests.Query q) = query (query_of q)
request_of (code_requests.Directory d) = directory (directory_operation_of d)

abbrev pub decided : Result code_requested.Requested CallRefused → Result Requested CallRefused
decided (Ok r) = Ok (request_of r)
decided (Err why) = Err why

abbrev pub found_query : Option code_query.Query → Option Query
found_query None = None
found_query (Some q) = Some (query_of q)

abbrev pub found_directory : Option code_operation.DirectoryOperation → Option DirectoryOperation
found_directory None = None
found_directory (Some d) = Some (directory_operation_of d)
