-- The question of a call to the two programs, or why it is refused (RFC 5531, section 9; RFC 1813,
-- section 3.3 and appendix I).
use Rattle.std.specs.Prelude.{ℕ, ◌==◌, if◌then◌else◌, List, Option, Some, None, Result, Ok, Err}
use Rattle.journal_rpc.specs.declared.replies.CallRefused.{CallRefused}
use Rattle.journal_rpc.specs.declared.replies.CallRefused.TheVariants.{RpcMismatch, ProgramUnavailable, ProgramMismatch, GarbageArguments}
use Rattle.journal_rpc.specs.Calls.{Asked, OtherVersion, Procedure}
use Rattle.journal_nfs3_wire.specs.Arguments.{Operation, operation_of}
use Rattle.journal_nfs3_wire.specs.Calls.{called}
use Rattle.journal_nfs3_wire.specs.Procedures.{procedure_of}
use Rattle.journal_nfs3_wire.specs.declared.query.Query as code_query
use Rattle.journal_nfs3_wire.specs.declared.query.QueryProcedure.{QueryProcedure}
use Rattle.journal_nfs3_wire.specs.Queries.{query_procedure_of, Query, query_of, query_arguments}
use Rattle.journal_nfs3_wire.specs.Whole.{whole}
use Rattle.journal_mount3.specs.declared.arguments.Requested as code_requested
use Rattle.journal_mount3.specs.declared.arguments.Requested.TheVariants as code_requests
use Rattle.journal_mount_wire.specs.Arguments.{MountCall, mount_call_of}
use Rattle.journal_mount_wire.specs.Requests.{mount_requested}

-- The question: one of the nine procedures, or another of the programs'
pub data Requested : Type 0 where
  nine : Operation → Requested
  query : Query → Requested
  mount : MountCall → Requested

abbrev pub refusable : {T : Type 0} → (T → Requested) → Option T → Result Requested CallRefused
refusable as_request None = Err GarbageArguments
refusable as_request (Some x) = Ok (as_request x)

abbrev pub asks_nine : Result Operation CallRefused → Result Requested CallRefused
asks_nine (Ok operation) = Ok (nine operation)
asks_nine (Err why) = Err why

-- NFS: a procedure that only tells of the files, or else what journal_nfs3 makes of the number
abbrev pub asks_query : Option QueryProcedure → ℕ → List ℕ → Result Requested CallRefused
asks_query (Some procedure) number arguments = refusable query (whole (query_arguments procedure) arguments)
asks_query None number arguments = asks_nine (called (procedure_of number) arguments)

abbrev pub asks_files : ℕ → List ℕ → Result Requested CallRefused
asks_files number arguments = asks_query (query_procedure_of number) number arguments

-- MOUNT: what journal_mount_wire makes of the number
abbrev pub asks_mount_call : Result MountCall CallRefused → Result Requested CallRefused
asks_mount_call (Ok call) = Ok (mount call)
asks_mount_call (Err why) = Err why

abbrev pub asks_mount : ℕ → List ℕ → Result Requested CallRefused
asks_mount number arguments = asks_mount_call (mount_requested number arguments)

-- The program is looked at first, and then its version, which is 3 of each
abbrev pub asks : Asked → Result Requested CallRefused
asks OtherVersion = Err RpcMismatch
asks (Procedure program version procedure arguments) =
    if program == 100005 then (if version == 3 then asks_mount procedure arguments else Err (ProgramMismatch 3))
    else if program == 100003 then (if version == 3 then asks_files procedure arguments else Err (ProgramMismatch 3))
    else Err ProgramUnavailable

-- what the code's answers stand for
abbrev pub request_of : code_requested.Requested → Requested
request_of (code_requests.Nine operation) = nine (operation_of operation)
request_of (code_requests.Query q) = query (query_of q)
request_of (code_requests.Mount c) = mount (mount_call_of c)

abbrev pub decided : Result code_requested.Requested CallRefused → Result Requested CallRefused
decided (Ok requested) = Ok (request_of requested)
decided (Err why) = Err why

abbrev pub found_query : Option code_query.Query → Option Query
found_query None = None
found_query (Some q) = Some (query_of q)
