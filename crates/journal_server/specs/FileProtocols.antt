-- The answers of a protocol over files, whatever the protocol.
use Rattle.std.specs.Prelude.{◌≡◌, ◌≤◌, ℕ, List, Option, Some, None}
use mathlib.Core.List.{IsPrefix}
use Rattle.journal_world.specs.Histories.{Entry, floor}
use Rattle.journal_history.specs.Tokens.{SessionState, CommitPlace}
use Rattle.journal_inode.specs.declared.node.Time.{Time}
use Rattle.journal_rpc.specs.Markings.{record_marking}
use Rattle.journal_rpc.specs.Calls.{Message, message}
use Rattle.journal_file_types.specs.declared.pending_wait.PendingWait.{PendingWait}
use Rattle.journal_file_types.specs.declared.pending_wait.PendingWait.TheVariants.{Wait}
use Rattle.journal_filestore.specs.Done.{IsWaitOver}
use Rattle.journal_nfs3_wire.specs.declared.procedure.Procedure.{Procedure}
use Rattle.journal_nfs3.specs.declared.pending.ReplyWait.{ReplyWait}
use Rattle.journal_nfs3_wire.specs.Calls.{asks}
use Rattle.journal_nfs3.specs.Served.{Standing, marked, awaiting}
use Rattle.journal_nfs3.specs.Answers.{IsCallOf}
use Rattle.journal_server.specs.declared.file_protocol.AwaitedCall.{AwaitedCall}
use Rattle.journal_protocol.specs.declared.held_reply.HeldWait.{HeldWait}
use Rattle.journal_protocol.specs.Protocols.{Answering, Service, Replacing}

-- Which text is the reply to a call at a moment, from what the session had seen to what it has seen
-- then, and how far the reply is
abbrev pub FileAnswering : Type 1
FileAnswering = Standing → Time → Message → SessionState → SessionState → List ℕ → Type 0

-- the same of a reply that a mark of the history covers, where it has to be stable
abbrev pub told_by : FileAnswering → Answering Message
told_by answers history = answers (marked history)

-- Its records are those of remote procedure calls, and no reply ends a connection
abbrev pub service_by : FileAnswering → Service Message
service_by answers = record { marking = record_marking; reads = message; answers = told_by answers; does = told_by answers; stops = λ text. ⊥ }

-- the call is of this procedure of the nine
abbrev pub IsAwaitedCall : Procedure → Message → Type 0
IsAwaitedCall procedure call = IsCallOf procedure (asks call.asked)

-- the reply to a call at one moment is its reply at another one
abbrev pub IsAlsoAt : FileAnswering → Message → Time → Time → Type 0
IsAlsoAt answers call one other = (standing : Standing) (old new : SessionState) (text : List ℕ) → answers standing one call old new text → answers standing other call old new text

-- the reply to a call depends on no moment
abbrev pub IsTimeless : FileAnswering → Message → Type 0
IsTimeless answers call = (one other : Time) → IsAlsoAt answers call one other

-- The text may take the place of a reply to a call with this number and of this procedure that
-- waits: it says that it is not known to be stable
abbrev pub StandsInFor : FileAnswering → ℕ → Procedure → List ℕ → Type 0
StandsInFor answers xid procedure text =
    (now : Time) (call : Message) (old new : SessionState) (receipt : CommitPlace) (soon : List ℕ) (history : List Entry)
    → call.xid ≡ xid → IsAwaitedCall procedure call → answers (awaiting (Wait receipt)) now call old new soon → answers (marked history) now call old new text

-- the same by what is remembered of the call
abbrev pub replaced_by : FileAnswering → Replacing AwaitedCall
replaced_by answers call text = StandsInFor answers call.xid call.procedure text

-- the wait of a reply to a call with this number, with what is remembered of the call
abbrev pub held_wait : {R : Type 0} → ℕ → Option (ReplyWait R) → Option (HeldWait AwaitedCall R)
held_wait xid None = None
held_wait xid (Some wait) = Some (record { call = record { xid = xid; procedure = wait.procedure }; receipt = wait.receipt })

-- The laws of the replies of each protocol over files
pub record IsFileLawful (answers : FileAnswering) : Type 0 where
  -- the session has seen all that it had seen
  pub grows : (standing : Standing) (now : Time) (call : Message) (old new : SessionState) (text : List ℕ) → answers standing now call old new text → IsPrefix old.seen new.seen
  -- a reply that waits is the call's reply once a mark covers its receipt
  pub paid : (now : Time) (call : Message) (old new then : SessionState) (wait : PendingWait CommitPlace) (text : List ℕ) → answers (awaiting wait) now call old new text → IsWaitOver wait then → answers (marked then.seen) now call old new text
  -- and stays so in each history that has greater marks
  pub stays : (now : Time) (call : Message) (old new : SessionState) (history longer : List Entry) (text : List ℕ) → answers (marked history) now call old new text → floor history ≤ floor longer → answers (marked longer) now call old new text
  -- of each call that waits some text says that it is not known to be stable
  pub refusable : (xid : ℕ) (procedure : Procedure) → (text : List ℕ) × StandsInFor answers xid procedure text
