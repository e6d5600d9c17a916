-- Which text belongs to the records of a connection: the replies to its calls, in order.
use Rattle.std.specs.Prelude.{◌≡◌, ◌≢◌, ℕ, ◌+◌, Bool, false, IsTrue, List, [], ◌∷◌, ◌++◌, Option, Some, None}
use Rattle.journal_rpc.specs.declared.marking.Marking.{Marking}
use Rattle.journal_rpc.specs.Stream.{fresh, after}
use Rattle.journal_world.specs.Histories.{Entry}
use Rattle.journal_history.specs.Tokens.{SessionState, OnlyExtends}
use Rattle.journal_inode.specs.declared.node.Time.{Time}
use Rattle.journal_protocol.specs.Protocols.{Answering, Service}

-- The text is the reply to the call at some moment that the clock may tell. What of it is to be
-- stable is marked in the history. The session has then seen what the call came to, or more
pub record IsReplyBy {C : Type 0} (replies : Answering C) (tells : Time → Type 0) (history : List Entry) (call : C) (old new : SessionState) (text : List ℕ) : Type 0 where
  pub moment : Time
  pub told : tells moment
  pub done : SessionState
  pub answers : replies history moment call old done text
  pub later : OnlyExtends done new

-- the complete records of some bytes, however they were cut into pieces
abbrev pub records_of : Marking → List ℕ → List (List ℕ)
records_of m input = (after (fresh m) input).records

-- A call has a reply at the front of the text, which leads from one state to another, and the rest
-- of the text goes on from there
abbrev pub IsRepliedThen : {C S : Type 0} → (C → S → S → List ℕ → Type 0) → C → S → List ℕ → (S → List ℕ → Type 0) → Type 0
IsRepliedThen {S = S} answers call old text goes_on = (mid : S) × (reply : List ℕ) × (more : List ℕ) × answers call old mid reply × goes_on mid more × (text ≡ reply ++ more)

-- a record that is a call is replied; from one that is none on, nothing is
abbrev pub IsRepliedUnlessBad : {C S : Type 0} → (C → S → S → List ℕ → Type 0) → Option C → S → S → List ℕ → (S → List ℕ → Type 0) → Type 0
IsRepliedUnlessBad answers None old new text goes_on = (new ≡ old) × (text ≡ [])
IsRepliedUnlessBad answers (Some call) old new text goes_on = IsRepliedThen answers call old text goes_on

-- The replies to these records, in order, up to the first that is no call, by how a record reads
abbrev pub RepliesUpToBad : {C S : Type 0} → (List ℕ → Option C) → (C → S → S → List ℕ → Type 0) → List (List ℕ) → S → S → List ℕ → Type 0
RepliesUpToBad reads answers [] old new text = (new ≡ old) × (text ≡ [])
RepliesUpToBad reads answers (r ∷ rs) old new text = IsRepliedUnlessBad answers (reads r) old new text (λ mid more. RepliesUpToBad reads answers rs mid new more)

-- Each of these records is a call, and these are the replies
abbrev pub AllReplies : {C S : Type 0} → (List ℕ → Option C) → (C → S → S → List ℕ → Type 0) → List (List ℕ) → S → S → List ℕ → Type 0
AllReplies reads answers [] old new text = (new ≡ old) × (text ≡ [])
AllReplies {C} reads answers (r ∷ rs) old new text =
    (call : C) × (reads r ≡ Some call) × IsRepliedThen answers call old text (λ mid more. AllReplies reads answers rs mid new more)

-- each of these is a call
abbrev pub AllCalls : {C : Type 0} → (List ℕ → Option C) → List (List ℕ) → Type 0
AllCalls reads [] = Unit {0}
AllCalls reads (r ∷ rs) = (reads r ≢ None) × AllCalls reads rs

-- one more where it is a call, and none from here on where it is none
abbrev pub counted : {C : Type 0} → Option C → ℕ → ℕ
counted None n = 0
counted (Some call) n = n + 1

-- How many of these are answered: those before the first that is no call
abbrev pub answered_of : {C : Type 0} → (List ℕ → Option C) → List (List ℕ) → ℕ
answered_of reads [] = 0
answered_of reads (r ∷ rs) = counted (reads r) (answered_of reads rs)

-- ---- a connection that a reply may end

-- what the session has seen, and whether a reply has ended the connection
pub record Talk : Type 0 where
  pub session : SessionState
  pub over : Bool

abbrev pub talk : SessionState → Bool → Talk
talk session over = record { session = session; over = over }

-- it goes on
abbrev pub going : SessionState → Talk
going session = talk session false

-- The text is the call's reply, and the connection went on. It is over with the reply only where
-- the service says that such a reply ends it
pub record IsTold {C : Type 0} (s : Service C) (tells : Time → Type 0) (history : List Entry) (call : C) (old new : Talk) (text : List ℕ) : Type 0 where
  pub goes : old.over ≡ false
  pub reply : IsReplyBy s.answers tells history call old.session new.session text
  pub ends : IsTrue new.over → s.stops text
