-- Replies that are kept, for copies of their calls.
use Rattle.std.specs.Prelude.{ℕ, ◌≡◌, Bool, true, false, List, Option, Some, None, Ok, Err}
use mathlib.Core.List.{IsPrefix}
use Rattle.journal_world.specs.Histories.{Entry}
use Rattle.journal_history.specs.Tokens.{SessionState, CommitPlace}
use Rattle.journal_rpc.specs.Calls.{Message, message}
use Rattle.journal_tree.specs.declared.caller.Caller.{Caller}
use Rattle.journal_tree.specs.declared.time.Time.{Time}
use Rattle.journal_tree.specs.Op.{Call, Reply}
use Rattle.journal_treefs.specs.Calls.{IsCommittedCall}
use Rattle.journal_nfs3_wire.specs.declared.results.NfsError.{NfsError}
use Rattle.journal_nfs3_wire.specs.declared.results.NfsError.TheVariants.{Io, ServerFault, Jukebox}
use Rattle.journal_treewire.specs.Calls.{call_on}
use Rattle.journal_treewire.specs.Requests.{Requested}
use Rattle.journal_treewire.specs.Results.{Results, Changed, Made, Renamed}
use Rattle.journal_treeserver.specs.declared.awaited.Owed.{Owed}
use Rattle.journal_treeserver.specs.declared.client.ClientAddress.{ClientAddress}
use Rattle.journal_treeserver.specs.Again.{is_done_once}
use Rattle.journal_treeserver.specs.Asking.{files, asks}
use Rattle.journal_treeserver.specs.Answers.{Served, told, told_results, asked_of, outcome_text}
use Rattle.journal_treeserver.specs.Forms.{how_of}

-- The bytes of a record are a call under this number, which asks a caller's request
pub record IsSent (squash : Bool) (record_bytes : List ℕ) (xid : ℕ) (caller : Caller) (asked : Requested) : Type 0 where
  pub sent : Message
  pub reads : message record_bytes ≡ Some sent
  pub number : sent.xid ≡ xid
  pub asks_so : asks squash sent ≡ files caller asked

-- The bytes of a record are a call under this number, which asks a caller's request that is to be
-- done once, of a tree that may be changed. Its client has an address
pub record IsSentOnce (S : Served) (record_bytes : List ℕ) (xid : ℕ) (caller : Caller) (asked : Requested) : Type 0 where
  pub sent : Message
  pub reads : message record_bytes ≡ Some sent
  pub number : sent.xid ≡ xid
  pub asks_so : asks S.squash sent ≡ files caller asked
  pub once : is_done_once asked ≡ true
  pub writable : S.read_only ≡ false
  pub client : ClientAddress
  pub has_client : S.client ≡ Some client

-- A call is committed with this reply, and its commit is in this history
pub record IsDoneIn (S : Served) (caller : Caller) (call : Call) (reply : Reply) (history : List Entry) : Type 0 where
  pub moment : Time
  pub before : SessionState
  pub after : SessionState
  pub receipt : CommitPlace
  pub committed : IsCommittedCall S.cut call caller moment before after reply receipt
  pub stands : IsPrefix after.seen history

-- The text is the reply to the call that the bytes of a record are: it was done, and its commit is
-- in this history
pub record IsKept (S : Served) (record_bytes text : List ℕ) (history : List Entry) : Type 0 where
  pub xid : ℕ
  pub caller : Caller
  pub asked : Requested
  pub sent : IsSentOnce S record_bytes xid caller asked
  pub call : Call
  pub is_call : call_on S.disk asked ≡ Ok (Some call)
  pub reply : Reply
  pub done : IsDoneIn S caller (asked_of S.read_only call) reply history
  pub is_text : text ≡ outcome_text S.disk xid (told (told_results S.disk S.verifier (how_of asked) (asked_of S.read_only call) reply))

-- A reply that is kept, as contracts see it: how the tree was served, to whom, the bytes of the
-- call's record, the reply, and a history that has the call's commit
pub record KeptReply : Type 0 where
  pub served : Served
  pub bytes : List ℕ
  pub reply : List ℕ
  pub front : List Entry

-- ---- which replies are kept

-- why results of a call that is to be done once are a refusal's
abbrev pub refusal_in : Results → Option NfsError
refusal_in (Changed (Err r)) = Some r.0
refusal_in (Made (Err r)) = Some r.0
refusal_in (Renamed (Err r)) = Some r.0
refusal_in other = None

-- a tree refuses so, and no journal
abbrev pub is_of_tree : Option NfsError → Bool
is_of_tree None = false
is_of_tree (Some Jukebox) = false
is_of_tree (Some Io) = false
is_of_tree (Some ServerFault) = false
is_of_tree (Some other) = true

-- Results with this wait are those of a call that was done: they wait for its commit, or the tree
-- refused it
abbrev pub are_of_done : {P : Type 0} → Option (Owed P) → Results → Bool
are_of_done (Some owed) r = true
are_of_done None r = is_of_tree (refusal_in r)
