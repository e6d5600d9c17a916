-- The meaning of the code's calls, whatever memory they are lent.
use Rattle.std.specs.Prelude.{◌≡◌, ◌≢◌, ◌==◌, ℕ, if◌then◌else◌, List, Option, Some, None, Result, Ok, Err}
use Rattle.journal_rpc.specs.Calls.{Beginning, Auth, Target, Message, Asked, OtherVersion, Procedure, message}
use Rattle.journal_rpc.specs.declared.calls.Beginning as code_beginning
use Rattle.journal_rpc.specs.declared.calls.Auth as code_auth
use Rattle.journal_rpc.specs.declared.calls.Target as code_target
use Rattle.journal_rpc.specs.declared.calls.Call as code_call
use Rattle.journal_rpc.specs.declared.calls.Asked as code_asked
use Rattle.journal_rpc.specs.declared.calls.Asked.TheVariants as asks
use Rattle.journal_rpc.specs.declared.calls.Request as code_request
use Rattle.journal_rpc.specs.declared.replies.CallRefused.{CallRefused}
use Rattle.journal_rpc.specs.declared.replies.CallRefused.TheVariants.{RpcMismatch, ProgramUnavailable, ProgramMismatch, ProcedureUnavailable, GarbageArguments}

abbrev pub beginning_of : code_beginning.Beginning → Beginning
beginning_of b = record { xid = b.xid; rpc_version = b.rpc_version }

abbrev pub auth_of : code_auth.Auth → Auth
auth_of a = record { flavor = a.flavor; body = a.body.now }

abbrev pub target_of : code_target.Target → Target
target_of t = record { program = t.program; version = t.version; procedure = t.procedure; credential = auth_of t.credential; verifier = auth_of t.verifier }

-- the request of the code's call, in these words
abbrev pub asked_of : code_asked.Asked → Asked
asked_of asks.OtherVersion = OtherVersion
asked_of (asks.Procedure program version procedure arguments) = Procedure program version procedure arguments.now

abbrev pub message_of : code_call.Call → Message
message_of c = record { xid = c.xid; credential = auth_of c.credential; asked = asked_of c.asked }

-- the answer of reading bytes as a call
abbrev pub ReadsCall : List ℕ → Option code_call.Call → Type 0
ReadsCall bytes None = message bytes ≡ None
ReadsCall bytes (Some call) = message bytes ≡ Some (message_of call)

-- The request of a call to a program served in one version: a procedure's number and its arguments,
-- or why it is refused. The first that holds is answered
abbrev pub routed : ℕ → ℕ → Asked → Result (ℕ × List ℕ) CallRefused
routed program version OtherVersion = Err RpcMismatch
routed program version (Procedure asked_program asked_version procedure arguments) =
    if asked_program == program then (if asked_version == version then Ok (procedure, arguments) else Err (ProgramMismatch version)) else Err ProgramUnavailable

-- the code's request, in these words
abbrev pub request_of : Result code_request.Request CallRefused → Result (ℕ × List ℕ) CallRefused
request_of (Ok request) = Ok (request.procedure, request.arguments.now)
request_of (Err why) = Err why

-- The same by what is answered
abbrev pub Routes : ℕ → ℕ → Asked → Result code_request.Request CallRefused → Type 0
Routes program version asked (Ok request) = asked ≡ Procedure program version request.procedure request.arguments.now
Routes program version asked (Err RpcMismatch) = asked ≡ OtherVersion
Routes program version asked (Err ProgramUnavailable) =
    (other other_version procedure : ℕ) × (arguments : List ℕ) × (asked ≡ Procedure other other_version procedure arguments) × (other ≢ program)
Routes program version asked (Err (ProgramMismatch served)) =
    (other procedure : ℕ) × (arguments : List ℕ) × (asked ≡ Procedure program other procedure arguments) × (other ≢ version) × (served ≡ version)
Routes program version asked (Err ProcedureUnavailable) = ⊥
Routes program version asked (Err GarbageArguments) = ⊥
