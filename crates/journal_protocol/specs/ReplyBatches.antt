-- Replies that are held back, and what is told of them.
use Rattle.std.specs.Prelude.{◌≡◌, ◌≢◌, ◌≤◌, ℕ, ◌+◌, Bool, true, false, List, [], ◌∷◌, ◌++◌, length, drop, Option, Some, None, ◌⊎◌}
use Rattle.std.specs.Io.KnownBytes.{Appends}
use Rattle.journal_world.specs.Histories.{Entry, floor}
use Rattle.journal_history.specs.Tokens.{SessionState}
use Rattle.journal_inode.specs.declared.node.Time.{Time}
use Rattle.journal_protocol.specs.Protocols.{Service, Replacing, IsNoWaitReply}
use Rattle.journal_protocol.specs.declared.held_reply.HeldWait.{HeldWait}
use Rattle.journal_protocol.specs.declared.held_reply.HeldReply.{HeldReply}
use Rattle.journal_protocol.specs.declared.reply_batch.BatchWait.{BatchWait}
use Rattle.journal_protocol.specs.declared.reply_batch.BatchEntry.{BatchEntry}
use Rattle.journal_protocol.specs.declared.reply_batch.ReplyBatch.{ReplyBatch}
use Rattle.journal_rpc.specs.declared.part.Part.{Part}
use Rattle.journal_rpc.specs.declared.part.Part.TheVariants.{TooLong}
use Rattle.journal_rpc.specs.Stream.{Stream, after}
use Rattle.journal_protocol.specs.declared.replying.Outcome.{Outcome}
use Rattle.journal_protocol.specs.declared.replying.Outcome.TheVariants.{GoesOn, Bad, Ended}
use Rattle.journal_protocol.specs.Output.{Talk}
use Rattle.journal_protocol.specs.Sending.{AppendsFront, GrowsBy}

-- ---- what is held

-- what is known of a reply that is owed a wait
abbrev pub wait_of : {A R : Type 0} → (R → ℕ) → Option (HeldWait A R) → Option (BatchWait A)
wait_of commits None = None
wait_of commits (Some wait) = Some (record { call = wait.call; commits = commits wait.receipt })

-- what is known of a reply
abbrev pub held_of : {A R : Type 0} → (R → ℕ) → HeldReply A R → List ℕ → BatchEntry A
held_of commits soon text = record { length = length text; wait = wait_of commits soon.wait }

-- how far the talk is, and what is known of the replies that are held from there on
pub record Doing (A : Type 0) : Type 0 where
  pub talk : Talk
  pub behind : List (BatchEntry A)

abbrev pub doing : {A : Type 0} → Talk → List (BatchEntry A) → Doing A
doing talk behind = record { talk = talk; behind = behind }

-- The text is the reply to the call as it is held, what is known of it is the first that is left,
-- and the talk is over where the reply ends it
pub record IsHeld {C A R : Type 0} (s : Service C) (replaces : Replacing A) (commits : R → ℕ) (tells : Time → Type 0) (call : C) (old new : Doing A) (text : List ℕ) : Type 0 where
  pub goes : old.talk.over ≡ false
  pub soon : HeldReply A R
  pub done : IsNoWaitReply s replaces commits tells call old.talk.session new.talk.session soon text
  pub ends : new.talk.over ≡ soon.ends
  pub known : old.behind ≡ held_of commits soon text ∷ new.behind

-- A record's call was done, its reply was written after those that were held, and it was counted
pub record IsAdded {C A R : Type 0} (s : Service C) (replaces : Replacing A) (commits : R → ℕ) (tells : Time → Type 0) (over : Bool) (bytes : List ℕ) (old new : SessionState) (before now : ReplyBatch A R) (count counted : ℕ) : Type 0 where
  pub call : C
  pub reads : s.reads bytes ≡ Some call
  pub soon : HeldReply A R
  pub text : List ℕ
  pub done : IsNoWaitReply s replaces commits tells call old new soon text
  pub ends : over ≡ soon.ends
  pub written : now.bytes ≡ before.bytes ++ text
  pub known : now.replies.items ≡ before.replies.items ++ held_of commits soon text ∷ []
  pub counts : GrowsBy count 1 counted

-- nothing was done, held or counted
pub record IsIdle {A R : Type 0} (old new : SessionState) (before now : ReplyBatch A R) (count counted : ℕ) : Type 0 where
  pub session : new ≡ old
  pub written : now.bytes ≡ before.bytes
  pub known : now.replies.items ≡ before.replies.items
  pub counts : counted ≡ count

-- a record was answered so: one that is no call is bad, and after the last one it goes on no more
abbrev pub HeldOne : {C A R : Type 0} → Service C → Replacing A → (R → ℕ) → (Time → Type 0) → Outcome → List ℕ → SessionState → SessionState → ReplyBatch A R → ReplyBatch A R → ℕ → ℕ → Type 0
HeldOne s replaces commits tells GoesOn bytes old new before now count counted = IsAdded s replaces commits tells false bytes old new before now count counted
HeldOne s replaces commits tells Bad bytes old new before now count counted = (s.reads bytes ≡ None) × IsIdle old new before now count counted
HeldOne s replaces commits tells Ended bytes old new before now count counted = IsAdded s replaces commits tells true bytes old new before now count counted

-- of these records, one at most, each was; where there is none it goes on, or one is too long
abbrev pub HeldEach : {C A R : Type 0} → Service C → Replacing A → (R → ℕ) → (Time → Type 0) → Outcome → List (List ℕ) → Part → SessionState → SessionState → ReplyBatch A R → ReplyBatch A R → ℕ → ℕ → Type 0
HeldEach s replaces commits tells GoesOn [] part old new before now count counted = IsIdle old new before now count counted
HeldEach s replaces commits tells Bad [] part old new before now count counted = (part ≡ TooLong) × IsIdle old new before now count counted
HeldEach s replaces commits tells Ended [] part old new before now count counted = ⊥
HeldEach s replaces commits tells outcome (bytes ∷ []) part old new before now count counted = HeldOne s replaces commits tells outcome bytes old new before now count counted
HeldEach s replaces commits tells outcome (bytes ∷ other ∷ more) part old new before now count counted = ⊥

-- a front of a piece was taken, and each record that came with it was answered so
pub record HeldNext {C A R : Type 0} (s : Service C) (replaces : Replacing A) (commits : R → ℕ) (tells : Time → Type 0) (outcome : Outcome) (piece rest : List ℕ) (waiting left : Stream) (old new : SessionState) (before now : ReplyBatch A R) (count counted : ℕ) : Type 0 where
  pub taken : List ℕ
  pub front : piece ≡ taken ++ rest
  pub came : List (List ℕ)
  pub comes : after waiting taken ≡ record left { records = came }
  pub held : HeldEach s replaces commits tells outcome came left.part old new before now count counted

-- how many bytes some replies have
abbrev pub total : {A : Type 0} → List (BatchEntry A) → ℕ
total [] = 0
total (h ∷ hs) = h.length + total hs

-- none of them is owed a wait
abbrev pub AreFree : {A : Type 0} → List (BatchEntry A) → Type 0
AreFree [] = Unit {0}
AreFree (h ∷ hs) = (h.wait ≡ None) × AreFree hs

-- so many stable commits are enough for a reply
abbrev pub IsCovered : {A : Type 0} → ℕ → Option (BatchWait A) → Type 0
IsCovered n None = Unit {0}
IsCovered n (Some wait) = wait.commits ≤ n

-- and for all of these
abbrev pub AreCovered : {A : Type 0} → ℕ → List (BatchEntry A) → Type 0
AreCovered n [] = Unit {0}
AreCovered n (h ∷ hs) = IsCovered n h.wait × AreCovered n hs

-- what is waited for is enough for all of these, and there are some just where something is
abbrev pub AreWaitedFor : {A R : Type 0} → (R → ℕ) → Option R → List (BatchEntry A) → Type 0
AreWaitedFor commits None hs = hs ≡ []
AreWaitedFor commits (Some receipt) hs = (hs ≢ []) × AreCovered (commits receipt) hs

-- The bytes are those of the replies. Those in front are owed nothing, and the receipt that is
-- waited for covers the others
pub record IsInOrder {A R : Type 0} (commits : R → ℕ) (h : ReplyBatch A R) : Type 0 where
  pub front : List (BatchEntry A)
  pub others : List (BatchEntry A)
  pub is : h.replies.items ≡ front ++ others
  pub fits : total h.replies.items ≡ length h.bytes
  pub is_free : AreFree front
  pub free : h.free ≡ total front
  pub waited : AreWaitedFor commits h.latest others

-- ---- what is told

-- A reply is told as it is held where nothing is owed for it, or where a mark of the history covers
-- it; and else by a text that takes its place
abbrev pub SettlesOne : {A : Type 0} → Replacing A → List Entry → Option (BatchWait A) → List ℕ → List ℕ → Type 0
SettlesOne replaces history None reply text = text ≡ reply
SettlesOne replaces history (Some wait) reply text = ((wait.commits ≤ floor history) × (text ≡ reply)) ⊎ replaces wait.call text

-- the first of the replies is told so, and the others go on from there
abbrev pub SettlesThen : {A : Type 0} → Replacing A → List Entry → BatchEntry A → List ℕ → List ℕ → (List ℕ → List ℕ → Type 0) → Type 0
SettlesThen replaces history h bytes text goes_on =
    (reply : List ℕ) × (more : List ℕ) × (told : List ℕ) × (rest : List ℕ)
    × (bytes ≡ reply ++ more) × (length reply ≡ h.length) × SettlesOne replaces history h.wait reply told × goes_on more rest × (text ≡ told ++ rest)

-- The text is what is told of these replies, which are held as these bytes
abbrev pub Settles : {A : Type 0} → Replacing A → List Entry → List (BatchEntry A) → List ℕ → List ℕ → Type 0
Settles replaces history [] bytes text = (bytes ≡ []) × (text ≡ [])
Settles replaces history (h ∷ hs) bytes text = SettlesThen replaces history h bytes text (λ more rest. Settles replaces history hs more rest)

-- what is told of the replies that are held was sent
pub record SendsSettled {A R : Type 0} (replaces : Replacing A) (history : List Entry) (h : ReplyBatch A R) (held holds : Option (List ℕ)) : Type 0 where
  pub text : List ℕ
  pub settles : Settles replaces history h.replies.items h.bytes text
  pub sent : Appends held holds text

-- a front of it was
pub record SendsInPart {A R : Type 0} (replaces : Replacing A) (history : List Entry) (h : ReplyBatch A R) (held holds : Option (List ℕ)) : Type 0 where
  pub text : List ℕ
  pub settles : Settles replaces history h.replies.items h.bytes text
  pub sent : AppendsFront held holds text

-- what is told of those behind the first was sent
pub record SendsBehind {A R : Type 0} (replaces : Replacing A) (history : List Entry) (h : ReplyBatch A R) (held holds : Option (List ℕ)) : Type 0 where
  pub text : List ℕ
  pub settles : Settles replaces history h.replies.items h.bytes text
  pub sent : Appends held holds (drop h.free text)

-- a front of it was
pub record SendsBehindInPart {A R : Type 0} (replaces : Replacing A) (history : List Entry) (h : ReplyBatch A R) (held holds : Option (List ℕ)) : Type 0 where
  pub text : List ℕ
  pub settles : Settles replaces history h.replies.items h.bytes text
  pub sent : AppendsFront held holds (drop h.free text)
