-- What a connection gave and got, and when it ends, where no reply ends it.
use Rattle.std.specs.Prelude.{◌≡◌, ◌≢◌, ℕ, List, ◌∷◌, ◌++◌, Option, None, ◌⊎◌}
use Rattle.std.specs.Io.KnownBytes.{Consumes, Appends, IsAtEnd}
use mathlib.Core.List.{IsPrefix}
use Rattle.journal_history.specs.Tokens.{SessionState, OnlyExtends}
use Rattle.journal_rpc.specs.declared.marking.Marking.{Marking}
use Rattle.journal_rpc.specs.declared.part.Part.TheVariants.{TooLong}
use Rattle.journal_rpc.specs.Stream.{Stream, fresh, after, IsBetween}
use Rattle.journal_protocol.specs.declared.connection.End.{End}
use Rattle.journal_protocol.specs.declared.connection.End.TheVariants.{EndOfInput, Truncated, BadRecord, Stopped}
use Rattle.journal_protocol.specs.Output.{AllReplies, AllCalls, records_of}

-- The reader gave the input, the writer got the text, and this holds of the two. From a reader and
-- to a writer that tell their bytes, they can be no others
abbrev pub Exchanges : Option (List ℕ) → Option (List ℕ) → Option (List ℕ) → Option (List ℕ) → (List ℕ → List ℕ → Type 0) → Type 0
Exchanges from left held holds so = (input : List ℕ) × (text : List ℕ) × Consumes from left input × Appends held holds text × so input text

-- This held of the session, which has only seen more since
abbrev pub IsBefore : SessionState → (SessionState → Type 0) → Type 0
IsBefore now so = (last : SessionState) × OnlyExtends last now × so last

-- a header took a record above the limit, or some complete record is no call
abbrev pub HasBadRecord : {C : Type 0} → (List ℕ → Option C) → Stream → Type 0
HasBadRecord reads s = (s.part ≡ TooLong) ⊎ ((front : List (List ℕ)) × (bad : List ℕ) × (behind : List (List ℕ)) × (s.records ≡ front ++ bad ∷ behind) × (reads bad ≡ None))

-- Where each end comes, after some input: the reader is at its end and each record is a call, with
-- nothing after them or a record that is begun; or there is a bad record
abbrev pub IsEnd : {C : Type 0} → Marking → (List ℕ → Option C) → End → List ℕ → Option (List ℕ) → Type 0
IsEnd m reads EndOfInput input left = IsAtEnd left × AllCalls reads (records_of m input) × IsBetween (after (fresh m) input)
IsEnd m reads Truncated input left = IsAtEnd left × AllCalls reads (records_of m input) × (IsBetween (after (fresh m) input) → ⊥) × ((after (fresh m) input).part ≢ TooLong)
IsEnd m reads BadRecord input left = HasBadRecord reads (after (fresh m) input)
IsEnd m reads Stopped input left = ⊥

-- The text is a beginning of the replies to a front of the records, which lead from one state to
-- the other
pub record IsBeginning {C S : Type 0} (reads : List ℕ → Option C) (answers : C → S → S → List ℕ → Type 0) (records : List (List ℕ)) (old new : S) (text : List ℕ) : Type 0 where
  pub answered : List (List ℕ)
  pub others : List (List ℕ)
  pub front : records ≡ answered ++ others
  pub whole : List ℕ
  pub replied : AllReplies reads answers answered old new whole
  pub written : IsPrefix text whole
