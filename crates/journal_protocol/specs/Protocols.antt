-- The answers of a protocol, whatever the protocol and its store.
use Rattle.std.specs.Prelude.{◌≡◌, ◌≤◌, ℕ, IsTrue, List, ◌++◌, Option, Some, None, IfSome}
use mathlib.Core.List.{IsPrefix}
use Rattle.journal_rpc.specs.declared.marking.Marking.{Marking}
use Rattle.journal_world.specs.Histories.{Entry, floor}
use Rattle.journal_history.specs.Tokens.{SessionState}
use Rattle.journal_inode.specs.declared.node.Time.{Time}
use Rattle.journal_protocol.specs.declared.held_reply.HeldWait.{HeldWait}
use Rattle.journal_protocol.specs.declared.held_reply.HeldReply.{HeldReply}

-- Which text is the reply to a call at a moment, by the marks of a history, from what the session
-- had seen to what it has seen then
abbrev pub Answering : Type 0 → Type 1
Answering C = List Entry → Time → C → SessionState → SessionState → List ℕ → Type 0

-- A protocol's records: how they are marked, which are calls, which text is the reply to a call,
-- what a call does whose reply was lost, and which replies end the connection
pub record Service (C : Type 0) : Type 1 where
  pub marking : Marking
  pub reads : List ℕ → Option C
  pub answers : Answering C
  pub does : Answering C
  pub stops : List ℕ → Type 0

-- Which text is sent in place of a reply that waits, by what is remembered of its call: it says
-- that the reply is not known to be stable
abbrev pub Replacing : Type 0 → Type 1
Replacing A = A → List ℕ → Type 0

-- n stable commits are enough for a reply with this wait
abbrev pub IsPaid : {A R : Type 0} → (R → ℕ) → ℕ → Option (HeldWait A R) → Type 0
IsPaid commits n None = Unit {0}
IsPaid commits n (Some wait) = commits wait.receipt ≤ n

-- The text is a reply to a call that is done up to its commit
pub record IsHeldReply {C A R : Type 0} (s : Service C) (replaces : Replacing A) (commits : R → ℕ) (moment : Time) (call : C) (old new : SessionState) (soon : HeldReply A R) (text : List ℕ) : Type 0 where
  -- it is the call's reply by the marks of each history whose mark covers what it waits for
  pub paid : (history : List Entry) → IsPaid commits (floor history) soon.wait → s.answers history moment call old new text
  -- and by any marks, that which is sent in its place
  pub replaced : IfSome soon.wait (λ wait. (history : List Entry) (other : List ℕ) → replaces wait.call other → s.answers history moment call old new other)
  -- one that ends the connection has no wait
  pub ends : IsTrue soon.ends → (soon.wait ≡ None) × s.stops text

-- the same at some moment that the clock may tell
pub record IsNoWaitReply {C A R : Type 0} (s : Service C) (replaces : Replacing A) (commits : R → ℕ) (tells : Time → Type 0) (call : C) (old new : SessionState) (soon : HeldReply A R) (text : List ℕ) : Type 0 where
  pub moment : Time
  pub told : tells moment
  pub held : IsHeldReply s replaces commits moment call old new soon text

-- A record was answered so, and the reply was written after what was written before, or it is no
-- call, which changes nothing
abbrev pub IsAnswered : {C A R : Type 0} → Service C → Replacing A → (R → ℕ) → (Time → Type 0) → List ℕ → SessionState → SessionState → List ℕ → List ℕ → Option (HeldReply A R) → Type 0
IsAnswered s replaces commits tells bytes old new wrote writes None = (s.reads bytes ≡ None) × (new ≡ old) × (writes ≡ wrote)
IsAnswered {C} s replaces commits tells bytes old new wrote writes (Some soon) =
    (call : C) × (text : List ℕ) × (s.reads bytes ≡ Some call) × (writes ≡ wrote ++ text) × IsNoWaitReply s replaces commits tells call old new soon text

-- A record's call was done at some moment of the clock, by each history with some text as its
-- reply, and it was lost
abbrev pub IsLost : {C : Type 0} → Service C → (Time → Type 0) → List ℕ → SessionState → SessionState → Type 0
IsLost {C} s tells bytes old new = (call : C) × (moment : Time) × (s.reads bytes ≡ Some call) × tells moment × ((history : List Entry) → (reply : List ℕ) × s.does history moment call old new reply)

-- The laws of the replies of each protocol, and of those that were lost
pub record IsLawful {C : Type 0} (s : Service C) : Type 0 where
  -- the session has seen all that it had seen
  pub grows : (history : List Entry) (now : Time) (call : C) (old new : SessionState) (text : List ℕ) → s.does history now call old new text → IsPrefix old.seen new.seen
  -- a reply stays the call's in each history that has greater marks
  pub stays : (now : Time) (call : C) (old new : SessionState) (history longer : List Entry) (text : List ℕ) → s.answers history now call old new text → floor history ≤ floor longer → s.answers longer now call old new text
  -- what is answered is done
  pub done : (history : List Entry) (now : Time) (call : C) (old new : SessionState) (text : List ℕ) → s.answers history now call old new text → s.does history now call old new text

-- of each call that waits some text says that it is not known to be stable
abbrev pub IsRefusable : {A : Type 0} → Replacing A → Type 0
IsRefusable {A} replaces = (call : A) → (text : List ℕ) × replaces call text
