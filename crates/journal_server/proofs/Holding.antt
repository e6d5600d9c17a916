-- A reply of a protocol over files, as one that is held.
use Rattle.std.proofs.Common.{ℕ, false, List, Option, Some, None, refl}
use Rattle.std.specs.Prelude.{IfSome}
use Rattle.std.proofs.lemmas.Bool.{false≢true}
use Rattle.journal_world.specs.Histories.{Entry, floor}
use Rattle.journal_history.specs.Tokens.{SessionState, CommitPlace}
use Rattle.journal_inode.specs.declared.node.Time.{Time}
use Rattle.journal_rpc.specs.Calls.{Message}
use Rattle.journal_filestore.specs.Done.{IsWaitOver}
use Rattle.journal_nfs3.specs.declared.pending.ReplyWait.{ReplyWait}
use Rattle.journal_nfs3.specs.Served.{awaiting}
use Rattle.journal_nfs3.specs.Answers.{pending_wait_for}
use Rattle.journal_protocol.specs.Protocols.{IsPaid, IsHeldReply}
use Rattle.journal_server.specs.FileProtocols.{FileAnswering, IsFileLawful, IsAwaitedCall, told_by, service_by, replaced_by, held_wait}

-- how many commits are to be stable
abbrev pub commits_of : CommitPlace → ℕ
commits_of receipt = receipt.count

module _ (answers : FileAnswering) (laws : IsFileLawful answers) (moment : Time) (call : Message) (old new : SessionState) (owed : Option (ReplyWait CommitPlace)) (text : List ℕ)
    (done : answers (awaiting (pending_wait_for owed)) moment call old new text) (awaited : IfSome owed (λ wait. IsAwaitedCall wait.procedure call)) where
  abbrev stable : List Entry → SessionState
  stable history = record { number = 0; mine = history; seen = history }

  paid_so : (history : List Entry) (wait : Option (ReplyWait CommitPlace)) → IsPaid commits_of (floor history) (held_wait call.xid wait) → IsWaitOver (pending_wait_for wait) (stable history)
  paid_so history None p = tt
  paid_so history (Some wait) p = p

  placed : (wait : Option (ReplyWait CommitPlace)) → answers (awaiting (pending_wait_for wait)) moment call old new text → IfSome wait (λ w. IsAwaitedCall w.procedure call)
      → IfSome (held_wait call.xid wait) (λ w. (history : List Entry) (other : List ℕ) → replaced_by answers w.call other → told_by answers history moment call old new other)
  placed None d a = tt
  placed (Some wait) d a = λ history other place. place moment call old new wait.receipt text history refl a d

  pub holds_file : IsHeldReply (service_by answers) (replaced_by answers) commits_of moment call old new (record { wait = held_wait call.xid owed; ends = false }) text
  holds_file = record {
    paid = λ history p. laws.paid moment call old new (stable history) (pending_wait_for owed) text done (paid_so history owed p);
    replaced = placed owed done awaited;
    ends = λ never. absurd (false≢true never);
  }
