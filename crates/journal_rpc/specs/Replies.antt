-- Replies (RFC 5531, section 9), each as a record of one fragment (section 11).
use Rattle.std.specs.Prelude.{ℕ, true, List, [], ◌∷◌, ◌++◌, Result, Ok, Err}
use Rattle.std.specs.List.{flat_map}
use Rattle.journal_xdr.specs.Basic.{word}
use Rattle.journal_rpc.specs.Markings.{record_marking}
use Rattle.journal_rpc.specs.Cuts.{fragment}
use Rattle.journal_rpc.specs.declared.protocol.AcceptStatus.{AcceptStatus}
use Rattle.journal_rpc.specs.declared.protocol.AcceptStatus.TheVariants as status
use Rattle.journal_rpc.specs.declared.replies.CallRefused.{CallRefused}
use Rattle.journal_rpc.specs.declared.replies.CallRefused.TheVariants.{RpcMismatch, ProgramUnavailable, ProgramMismatch, ProcedureUnavailable, GarbageArguments}

-- integers one after another
abbrev pub words : List ℕ → List ℕ
words numbers = flat_map (λ n. word.spelling n) numbers

-- a record of one fragment
abbrev pub one_fragment : List ℕ → List ℕ
one_fragment body = fragment record_marking true body

-- The words after the number of a call that is accepted: the message type 1, a reply; 0, accepted;
-- a verifier of flavor 0 with 0 bytes; and the result of the call
abbrev pub accepted : ℕ → List ℕ
accepted status = 1 ∷ 0 ∷ 0 ∷ 0 ∷ status ∷ []

abbrev pub accept_number : AcceptStatus → ℕ
accept_number status.Success = 0
accept_number status.ProgramUnavailable = 1
accept_number status.ProgramMismatch = 2
accept_number status.ProcedureUnavailable = 3
accept_number status.GarbageArguments = 4

-- The words after the number of a call that is refused. Denied is 1, its cause here 0, and the
-- versions of RPC are from 2 to 2
abbrev pub why : CallRefused → List ℕ
why RpcMismatch = 1 ∷ 1 ∷ 0 ∷ 2 ∷ 2 ∷ []
why ProgramUnavailable = accepted 1
why (ProgramMismatch version) = accepted 2 ++ version ∷ version ∷ []
why ProcedureUnavailable = accepted 3
why GarbageArguments = accepted 4

-- The reply that denies a call for its credential, without its record's header: denied is 1, for
-- its authentication 1, because the credential cannot be read 1
abbrev pub denial : ℕ → List ℕ
denial xid = words (xid ∷ 1 ∷ 1 ∷ 1 ∷ 1 ∷ [])

-- the words before the results of a call that is accepted and ran
abbrev pub success : ℕ → List ℕ
success xid = words (xid ∷ accepted 0)

-- the reply, without its record's header
abbrev pub reply : {R : Type 0} → (R → List ℕ) → ℕ → Result R CallRefused → List ℕ
reply spelling xid (Ok results) = success xid ++ spelling results
reply spelling xid (Err refusal) = words (xid ∷ why refusal)
