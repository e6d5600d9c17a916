-- Records that are answered in a turn, and bytes that are sent.
use Rattle.std.specs.Prelude.{◌≡◌, ℕ, ◌+◌, ◌<◌, ◌^◌, Bool, true, false, List, [], ◌∷◌, ◌++◌, length, Option, Some, None, ◌⊎◌}
use Rattle.std.specs.Io.KnownBytes.{Appends}
use Rattle.journal_rpc.specs.declared.part.Part.TheVariants.{TooLong}
use Rattle.journal_rpc.specs.Stream.{Stream, after}
use Rattle.journal_rpc.specs.declared.part.Part.{Part}
use Rattle.journal_protocol.specs.declared.replying.Outcome.{Outcome}
use Rattle.journal_protocol.specs.declared.replying.Outcome.TheVariants.{GoesOn, Bad, Ended}
use Rattle.journal_protocol.specs.Output.{AllReplies}

-- known bytes grow by a front of these
pub record AppendsFront (old new : Option (List ℕ)) (bytes : List ℕ) : Type 0 where
  pub front : List ℕ
  pub rest : List ℕ
  pub is : bytes ≡ front ++ rest
  pub appends : Appends old new front

-- a count grew by so many, where it can
abbrev pub GrowsBy : ℕ → ℕ → ℕ → Type 0
GrowsBy old n new = old + n < 2 ^ 64 → new ≡ old + n

-- the first of these is no call
abbrev pub StartsBad : {C : Type 0} → (List ℕ → Option C) → List (List ℕ) → Type 0
StartsBad reads records = (bad : List ℕ) × (more : List (List ℕ)) × (records ≡ bad ∷ more) × (reads bad ≡ None)

-- How the answering of a piece's records ends, by what was left of those that came: a bad record is
-- taken, and not answered
abbrev pub IsEnding : {C : Type 0} → (List ℕ → Option C) → Outcome → List (List ℕ) → Part → Type 0
IsEnding reads GoesOn left part = left ≡ []
IsEnding reads Bad left part = ((left ≡ []) × (part ≡ TooLong)) ⊎ StartsBad reads left
IsEnding reads Ended left part = left ≡ []

-- a reply ended the connection
abbrev pub is_over : Outcome → Bool
is_over Ended = true
is_over other = false

-- A front of a piece was taken. Of the records that came with it those in front were answered, and
-- the others were left
pub record Turned {C S : Type 0} (reads : List ℕ → Option C) (answers : C → S → S → List ℕ → Type 0) (outcome : Outcome) (piece rest : List ℕ) (old new : Stream) (before now : S) (text : List ℕ) (count counted : ℕ) : Type 0 where
  pub taken : List ℕ
  pub front : piece ≡ taken ++ rest
  pub answered : List (List ℕ)
  pub left : List (List ℕ)
  pub comes : after old taken ≡ record new { records = answered ++ left }
  pub replied : AllReplies reads answers answered before now text
  pub counts : GrowsBy count (length answered) counted
  pub ending : IsEnding reads outcome left new.part

-- memory was refused for a reply, or after it: of the records that come with a piece a front was
-- answered
pub record Lost {C S : Type 0} (reads : List ℕ → Option C) (answers : C → S → S → List ℕ → Type 0) (piece : List ℕ) (old : Stream) (before now : S) : Type 0 where
  pub text : List ℕ
  pub answered : List (List ℕ)
  pub left : List (List ℕ)
  pub records : (after old piece).records ≡ answered ++ left
  pub replied : AllReplies reads answers answered before now text

-- the same of one record: it was answered, or it was not
abbrev pub LostOne : {C S : Type 0} → (List ℕ → Option C) → (C → S → S → List ℕ → Type 0) → List ℕ → S → S → Type 0
LostOne {C} reads answers bytes before now = (now ≡ before) ⊎ ((call : C) × (text : List ℕ) × (reads bytes ≡ Some call) × answers call before now text)
