-- Which reply belongs to a call (RFC 5531, section 9; RFC 1813, section 3.3).
use Rattle.std.specs.Prelude.{ℕ, ◌≡◌, Bool, true, false, List, ◌++◌, Option, Some, None, Result, Ok, Err, IfSome}
use Rattle.journal_world.specs.Histories.{Entry}
use Rattle.journal_history.specs.Tokens.{SessionState, CommitPlace}
use Rattle.journal_inode.specs.declared.node.Time.{Time}
use Rattle.journal_inode.specs.declared.version.FormatVersion.{FormatVersion}
use Rattle.journal_rpc.specs.declared.replies.CallRefused.{CallRefused}
use Rattle.journal_rpc.specs.Replies.{one_fragment, reply}
use Rattle.journal_file_types.specs.declared.pending_wait.PendingWait.{PendingWait}
use Rattle.journal_file_types.specs.declared.pending_wait.PendingWait.TheVariants.{Nothing, Wait}
use Rattle.journal_nfs3_wire.specs.declared.procedure.Procedure.{Procedure}
use Rattle.journal_nfs3_wire.specs.declared.procedure.Procedure.TheVariants as procedure
use Rattle.journal_nfs3.specs.declared.pending.ReplyWait.{ReplyWait}
use Rattle.journal_nfs3_wire.specs.Arguments.{Operation, Null, GetAttributes, SetAttributes, Lookup, Read, Write, Create, Remove, Commit}
use Rattle.journal_nfs3_wire.specs.declared.results.FormatResults.{FormatResults}
use Rattle.journal_nfs3_wire.specs.Results.{Results, results_text, procedure_of_results, IsResult}
use Rattle.journal_nfs3_wire.specs.Profile.{results_of}
use Rattle.journal_nfs3.specs.Served.{Standing, marked, awaiting, HasNoWait, ServesAs}

abbrev pub procedure_for : Operation → Procedure
procedure_for Null = procedure.Null
procedure_for (GetAttributes h) = procedure.GetAttributes
procedure_for (SetAttributes h a guard) = procedure.SetAttributes
procedure_for (Lookup e) = procedure.Lookup
procedure_for (Read h offset count) = procedure.Read
procedure_for (Write h offset count how bytes) = procedure.Write
procedure_for (Create e how) = procedure.Create
procedure_for (Remove e) = procedure.Remove
procedure_for (Commit h offset count) = procedure.Commit

-- The outcome of a call, and how far it is: why it is refused, and then it does nothing; or the
-- results of its operation, which is done
abbrev pub ServesCall : FormatVersion → Standing → List ℕ → Time → Result Operation CallRefused → SessionState → Result Results CallRefused → SessionState → Type 0
ServesCall version standing verifier now (Err why) old outcome new = (outcome ≡ Err why) × (new ≡ old) × HasNoWait standing
ServesCall version standing verifier now (Ok operation) old outcome new =
    (r : Results) × (outcome ≡ Ok r) × ServesAs version standing verifier now operation old r new × (procedure_of_results r ≡ procedure_for operation) × IsResult r

-- a reply as it is sent: a record of one fragment
abbrev pub sent : ℕ → Result Results CallRefused → List ℕ
sent xid outcome = one_fragment (reply results_text xid outcome)

-- The text is the reply to a call with this number, which asks this, the session has seen that
-- then, and so far is the reply
pub record AnswersAs (version : FormatVersion) (standing : Standing) (verifier : List ℕ) (now : Time) (xid : ℕ) (asked : Result Operation CallRefused) (old new : SessionState) (text : List ℕ) : Type 0 where
  pub outcome : Result Results CallRefused
  pub comes : ServesCall version standing verifier now asked old outcome new
  pub is_sent : text ≡ sent xid outcome

-- the same of a reply that has waited: a mark in the history that the session then has seen covers
-- it
abbrev pub Answers : FormatVersion → List ℕ → Time → ℕ → Result Operation CallRefused → SessionState → SessionState → List ℕ → Type 0
Answers version verifier now xid asked old new text = AnswersAs version (marked new.seen) verifier now xid asked old new text

-- ---- replies that are not waited for

-- the pending wait before the reply may be sent
abbrev pub pending_wait_for : Option (ReplyWait CommitPlace) → PendingWait CommitPlace
pending_wait_for None = Nothing
pending_wait_for (Some awaited) = Wait awaited.receipt

-- the call is of this procedure
abbrev pub IsCallOf : Procedure → Result Operation CallRefused → Type 0
IsCallOf p (Ok operation) = p ≡ procedure_for operation
IsCallOf p (Err why) = ⊥

-- The reply to a call that is committed was written after what was written before, and its pending
-- wait
pub record AnswersNoWait (version : FormatVersion) (verifier : List ℕ) (now : Time) (xid : ℕ) (asked : Result Operation CallRefused) (old new : SessionState) (wrote writes : List ℕ) (wait : Option (ReplyWait CommitPlace)) : Type 0 where
  pub text : List ℕ
  pub written : writes ≡ wrote ++ text
  pub answers : AnswersAs version (awaiting (pending_wait_for wait)) verifier now xid asked old new text
  pub procedure : IfSome wait (λ awaited. IsCallOf awaited.procedure asked)

-- the procedures that set times
abbrev pub sets_times : Option Procedure → Bool
sets_times (Some procedure.SetAttributes) = true
sets_times (Some procedure.Write) = true
sets_times (Some procedure.Create) = true
sets_times other = false

-- the reply to a call depends on no moment: that to a call which names none of these does not
abbrev pub IsTimeless : Result Operation CallRefused → Type 0
IsTimeless asked =
    (version : FormatVersion) (standing : Standing) (verifier : List ℕ) (one other : Time) (xid : ℕ) (old new : SessionState) (text : List ℕ)
    → AnswersAs version standing verifier one xid asked old new text → AnswersAs version standing verifier other xid asked old new text

-- The text may replace a reply with a pending wait, to a call with this number and of this
-- procedure: it says that it is not known to be stable
abbrev pub TakesPlace : ℕ → Procedure → List ℕ → Type 0
TakesPlace xid procedure text =
    (version : FormatVersion) (verifier : List ℕ) (now : Time) (asked : Result Operation CallRefused) (old new : SessionState) (receipt : CommitPlace) (soon : List ℕ) (history : List Entry)
    → IsCallOf procedure asked → AnswersAs version (awaiting (Wait receipt)) verifier now xid asked old new soon → AnswersAs version (marked history) verifier now xid asked old new text

-- the meaning of the code's outcome
abbrev pub outcome_seen : Result FormatResults CallRefused → Result Results CallRefused
outcome_seen (Ok r) = Ok (results_of r.version r.results)
outcome_seen (Err why) = Err why

-- the pending wait of a reply, with its procedure
abbrev pub awaited_of : {P : Type 0} → Result Results CallRefused → PendingWait P → Option (ReplyWait P)
awaited_of (Ok r) (Wait receipt) = Some (record { procedure = procedure_of_results r; receipt = receipt })
awaited_of outcome wait = None
