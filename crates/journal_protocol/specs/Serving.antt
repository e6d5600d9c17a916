-- A connection on its way, at a pause, and at its end.
use Rattle.std.specs.Prelude.{◌≡◌, ◌≢◌, ℕ, Bool, true, IsTrue, List, [], ◌++◌, length, Option, Some, None, ◌⊎◌}
use Rattle.std.specs.Io.KnownBytes.{Consumes, Appends, IsAtEnd}
use mathlib.Core.List.{IsPrefix}
use Rattle.journal_rpc.specs.declared.part.Part.TheVariants.{TooLong}
use Rattle.journal_rpc.specs.Stream.{Stream, fresh, after, IsBetween}
use Rattle.journal_world.specs.Histories.{is_fenced}
use Rattle.journal_history.specs.Tokens.{SessionState}
use Rattle.journal_inode.specs.declared.node.Time.{Time}
use Rattle.journal_protocol.specs.declared.connection.End.{End}
use Rattle.journal_protocol.specs.declared.connection.End.TheVariants as ends
use Rattle.journal_protocol.specs.declared.connection.Progress.{Progress}
use Rattle.journal_protocol.specs.declared.connection.Progress.TheVariants.{Paused, Ended}
use Rattle.journal_protocol.specs.declared.replying.Outcome.{Outcome}
use Rattle.journal_protocol.specs.declared.replying.Outcome.TheVariants as outcome
use Rattle.journal_protocol.specs.Protocols.{Service}
use Rattle.journal_protocol.specs.Output.{IsReplyBy, AllReplies, records_of, Talk, talk, going, IsTold}
use Rattle.journal_protocol.specs.Connections.{IsBefore}
use Rattle.journal_protocol.specs.Sending.{GrowsBy, StartsBad}

-- Where a connection began: what the reader had, what the writer held, what its session had seen,
-- and how many records were counted
pub record Start : Type 0 where
  pub from : Option (List ℕ)
  pub held : Option (List ℕ)
  pub session : SessionState
  pub count : ℕ

abbrev pub starts : Option (List ℕ) → Option (List ℕ) → SessionState → ℕ → Start
starts from held session count = record { from = from; held = held; session = session; count = count }

-- A connection so far. The reader gave an input, and some bytes that are not looked at yet. The
-- records of the input are those that were answered, in order, and those that wait. The replies
-- were written, and counted, and what of them is to be stable is marked in what the session has
-- seen now
pub record SoFar {C : Type 0} (s : Service C) (tells : Time → Type 0) (start : Start) (left holds : Option (List ℕ)) (pending : List ℕ) (waiting : Stream) (now : Talk) (counted : ℕ) : Type 0 where
  pub input : List ℕ
  pub text : List ℕ
  pub read : Consumes start.from left (input ++ pending)
  pub wrote : Appends start.held holds text
  pub answered : List (List ℕ)
  pub replied : AllReplies s.reads (IsTold s tells now.session.seen) answered (going start.session) now text
  pub is : after (fresh s.marking) input ≡ record waiting { records = answered ++ waiting.records }
  pub counts : GrowsBy start.count (length answered) counted

-- One that pauses: all that was read is records, each was a call, and was answered
abbrev pub Pauses : {C : Type 0} → Service C → (Time → Type 0) → Start → Option (List ℕ) → Option (List ℕ) → SessionState → ℕ → Type 0
Pauses s tells start left holds now counted = SoFar s tells start left holds [] (fresh s.marking) (going now) counted

-- Where each end comes: the reader is at its end, and after the last record nothing has come, or
-- less than a record; the next record is no call, or too long; or a reply ended the connection
abbrev pub IsLast : {C : Type 0} → Service C → End → Option (List ℕ) → List ℕ → Stream → Bool → Type 0
IsLast s ends.EndOfInput left pending waiting over = IsAtEnd left × (pending ≡ []) × (waiting.records ≡ []) × IsBetween waiting
IsLast s ends.Truncated left pending waiting over = IsAtEnd left × (pending ≡ []) × (waiting.records ≡ []) × (IsBetween waiting → ⊥) × (waiting.part ≢ TooLong)
IsLast s ends.BadRecord left pending waiting over = ((waiting.records ≡ []) × (waiting.part ≡ TooLong)) ⊎ StartsBad s.reads waiting.records
IsLast s ends.Stopped left pending waiting over = over ≡ true

-- One that has ended
pub record Finished {C : Type 0} (s : Service C) (tells : Time → Type 0) (start : Start) (left holds : Option (List ℕ)) (end : End) (now : SessionState) (counted : ℕ) : Type 0 where
  pub pending : List ℕ
  pub waiting : Stream
  pub over : Bool
  pub so_far : SoFar s tells start left holds pending waiting (talk now over) counted
  pub last : IsLast s end left pending waiting over

-- One that was given up. A front of the records of what was read was done, and a front of the
-- replies was written
pub record GivenUp {C : Type 0} (s : Service C) (tells : Time → Type 0) (start : Start) (left holds : Option (List ℕ)) (now : SessionState) : Type 0 where
  pub input : List ℕ
  pub text : List ℕ
  pub read : Consumes start.from left input
  pub wrote : Appends start.held holds text
  pub answered : List (List ℕ)
  pub others : List (List ℕ)
  pub front : records_of s.marking input ≡ answered ++ others
  pub whole : List ℕ
  pub replied : AllReplies s.reads (IsReplyBy s.does tells now.seen) answered start.session now whole
  pub written : IsPrefix text whole

-- the answering of records, or of a piece, comes to this
abbrev pub ComesTo : {C : Type 0} → Service C → (Time → Type 0) → Outcome → Start → Option (List ℕ) → Option (List ℕ) → List ℕ → Stream → SessionState → ℕ → Type 0
ComesTo s tells outcome.GoesOn start left holds pending waiting now counted = SoFar s tells start left holds pending waiting (going now) counted
ComesTo s tells outcome.Bad start left holds pending waiting now counted = Finished s tells start left holds ends.BadRecord now counted
ComesTo s tells outcome.Ended start left holds pending waiting now counted = Finished s tells start left holds ends.Stopped now counted

-- which end it is where nothing is left to read
abbrev pub Closes : End → Stream → Type 0
Closes ends.EndOfInput waiting = IsBetween waiting
Closes ends.Truncated waiting = IsBetween waiting → ⊥
Closes ends.BadRecord waiting = ⊥
Closes ends.Stopped waiting = ⊥

-- it was served to an end, or to a pause
abbrev pub ServesTo : {C : Type 0} → Service C → (Time → Type 0) → Option End → Start → Option (List ℕ) → Option (List ℕ) → SessionState → ℕ → Type 0
ServesTo s tells None start left holds now counted = Pauses s tells start left holds now counted
ServesTo s tells (Some end) start left holds now counted = Finished s tells start left holds end now counted

-- ---- of a session that has only seen more since its last reply

-- how far a connection was served
abbrev pub Progresses : {C : Type 0} → Service C → (Time → Type 0) → Progress → Start → Option (List ℕ) → Option (List ℕ) → SessionState → ℕ → Type 0
Progresses s tells Paused start left holds now counted = Pauses s tells start left holds now counted
Progresses s tells (Ended served) start left holds now counted = IsBefore now (λ last. Finished s tells start left holds served.end last served.answered)

-- it was given up: its last call may have been done without a reply that was sent
abbrev pub Fails : {C : Type 0} → Service C → (Time → Type 0) → Start → Option (List ℕ) → Option (List ℕ) → SessionState → Type 0
Fails s tells start left holds now = IsBefore now (λ last. GivenUp s tells start left holds last)

-- where it has ended, and its session is said to be fenced, it is
abbrev pub IsFencedAsTold : Progress → SessionState → Type 0
IsFencedAsTold Paused session = Unit {0}
IsFencedAsTold (Ended served) session = IsTrue served.fenced → is_fenced session.number session.seen ≡ true
