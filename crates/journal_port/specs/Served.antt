-- The records of a connection, and their answers.
use Rattle.std.specs.Prelude.{ℕ, ◌≡◌, ◌⊎◌, ⊤, true, false, IsTrue, Option, None, Some, Result, Ok, Err, List, []}
use Rattle.std.specs.Io.KnownBytes.{Appends}
use Rattle.journal_world.specs.Addresses.{Shape}
use Rattle.journal_world.specs.Histories.{Entry}
use Rattle.journal_history.specs.Tokens.{SessionState}
use Rattle.journal_inode.specs.declared.node.Time.{Time}
use Rattle.journal_rpc.specs.Markings.{whole_records}
use Rattle.journal_records.specs.declared.fault.ReadFault.{ReadFault}
use Rattle.journal_records.specs.declared.fault.ReadFault.TheVariants as fault
use Rattle.journal_records.specs.declared.limits.TheConstants.{RECORD_BYTES}
use Rattle.journal_records.specs.declared.refused.Refused as refused
use Rattle.journal_records.specs.declared.refused.Refused.TheVariants.{NoMemory, UnknownOperation, Malformed, TooLong}
use Rattle.journal_records.specs.declared.request.Request.{Request}
use Rattle.journal_records.specs.declared.answer.Answer.{Answer}
use Rattle.journal_records.specs.declared.answer.Answer.TheVariants.{Committed, Refused, Stopping, Unsure}
use Rattle.journal_records.specs.Answers.{answer, told_of}
use Rattle.journal_records.specs.Frames.{framed, IsRecordOf, FitsRecord}
use Rattle.journal_records.specs.Readings.{ReadsRequest}
use Rattle.journal_protocol.specs.declared.connection.End.{End}
use Rattle.journal_protocol.specs.declared.connection.End.TheVariants.{BadRecord}
use Rattle.journal_protocol.specs.declared.connection.Progress.{Progress}
use Rattle.journal_protocol.specs.declared.connection.Progress.TheVariants.{Ended}
use Rattle.journal_protocol.specs.declared.held_reply.HeldWait.{HeldWait}
use Rattle.journal_protocol.specs.declared.held_reply.HeldReply.{HeldReply}
use Rattle.journal_protocol.specs.Protocols.{Answering, Service, Replacing}
use Rattle.journal_protocol.specs.Connections.{IsBefore}
use Rattle.journal_protocol.specs.Sending.{AppendsFront}
use Rattle.journal_protocol.specs.Serving.{Start, Progresses, Finished, Fails}
use Rattle.journal_port.specs.declared.protocol.AwaitedCommits.{AwaitedCommits}
use Rattle.journal_port.specs.declared.protocol.UnsureAnswer.{UnsureAnswer}
use Rattle.journal_port.specs.Answers.{Offer, IsAnswerTo}

-- ---- records and their answers

-- why a record that is no request is refused
abbrev pub refused_for : ReadFault → refused.Refused
refused_for fault.NoMemory = NoMemory
refused_for fault.UnknownOperation = UnknownOperation
refused_for fault.Malformed = Malformed

-- What is owed to what a record reads as. One that is no request changes nothing
abbrev pub IsFoundAnswer : Shape → Offer → List Entry → Result Request ReadFault → SessionState → SessionState → Answer → Type 0
IsFoundAnswer layout offer marks (Ok request) old new told = IsAnswerTo layout offer marks request old new told
IsFoundAnswer layout offer marks (Err why) old new told = (new ≡ old) × (told ≡ Refused (refused_for why))

-- What a record is owed, by its bytes
abbrev pub IsReplyTo : Shape → Offer → List Entry → List ℕ → SessionState → SessionState → Answer → Type 0
IsReplyTo layout offer marks bytes old new told = (found : Result Request ReadFault) × ReadsRequest bytes found × IsFoundAnswer layout offer marks found old new told

-- ---- the answers, as those of a protocol

-- an answer's record, as a stream has it
abbrev pub IsText : Answer → List ℕ → Type 0
IsText told text = IsRecordOf answer (told_of told) text

-- the text is the record of a record's answer by the marks of a history
abbrev pub Answers : Shape → Offer → Answering (List ℕ)
Answers layout offer marks moment bytes old new text = (told : Answer) × IsReplyTo layout offer marks bytes old new told × IsText told text

-- the same of an answer that no record can hold
abbrev pub Does : Shape → Offer → Answering (List ℕ)
Does layout offer marks moment bytes old new text = (told : Answer) × IsReplyTo layout offer marks bytes old new told × (text ≡ framed (answer.spelling (told_of told)))

-- Each record is after its length, and is answered. The answer that the service ends is the last
abbrev pub service : Shape → Offer → Service (List ℕ)
service layout offer = record { marking = whole_records RECORD_BYTES; reads = λ bytes. Some bytes; answers = Answers layout offer; does = Does layout offer; stops = IsText Stopping }

-- of a commit that is not known to be stable, that it is not known to be
abbrev pub replaces : Replacing UnsureAnswer
replaces awaited text = text ≡ framed (answer.spelling (told_of (Unsure awaited.place awaited.commits)))

-- A commit that is to wait is held so: its record as one that is known to be stable, and its place
-- and count for the record of one that is not, which a record can hold
pub record HoldsCommit (place count : ℕ) (soon : HeldReply UnsureAnswer AwaitedCommits) (text : List ℕ) (wait : HeldWait UnsureAnswer AwaitedCommits) : Type 0 where
  pub waits : soon.wait ≡ Some wait
  pub held : IsText (Committed place count) text
  pub replaced : wait.call ≡ record { place = place; commits = count }
  pub fits : FitsRecord answer (told_of (Unsure place count))
  pub enough : wait.receipt.commits ≡ count
  pub goes_on : soon.ends ≡ false

-- any other answer is held so: its record, which ends the connection only where it says so
pub record HoldsAnswer (told : Answer) (soon : HeldReply UnsureAnswer AwaitedCommits) (text : List ℕ) : Type 0 where
  pub free : soon.wait ≡ None
  pub held : IsText told text
  pub ends : IsTrue soon.ends → told ≡ Stopping

-- what is held for an answer, with this text
abbrev pub IsHeldFor : Answer → HeldReply UnsureAnswer AwaitedCommits → List ℕ → Type 0
IsHeldFor (Unsure place count) soon text = (wait : HeldWait UnsureAnswer AwaitedCommits) × HoldsCommit place count soon text wait
IsHeldFor told soon text = HoldsAnswer told soon text

-- ---- a connection

-- no answer has a moment
abbrev pub always : Time → Type 0
always moment = ⊤

-- the answer to a record that is too long, as a stream has it
abbrev pub long_text : List ℕ
long_text = framed (answer.spelling (told_of (Refused TooLong)))

-- the text after the answers, where the next record is too long
abbrev pub text_at : End → List ℕ
text_at BadRecord = long_text
text_at other = []

abbrev pub text_after : Progress → List ℕ
text_after (Ended served) = text_at served.end
text_after other = []

-- It was served so far, and then that was written
abbrev pub Serves : Service (List ℕ) → Progress → Start → Option (List ℕ) → Option (List ℕ) → SessionState → ℕ → Type 0
Serves s progress start left holds now counted = (half : Option (List ℕ)) × Progresses s always progress start left half now counted × Appends half holds (text_after progress)

-- It was given up, among its answers or in the one to a record that is too long
abbrev pub Breaks : Service (List ℕ) → Start → Option (List ℕ) → Option (List ℕ) → SessionState → Type 0
Breaks s start left holds now =
    Fails s always start left holds now
    ⊎ ((half : Option (List ℕ)) × (counted : ℕ) × IsBefore now (λ last. Finished s always start left half BadRecord last counted) × AppendsFront half holds long_text)
