-- Values that are spelled by the whole of some bytes.
use Rattle.std.specs.Prelude.{◌≡◌, ℕ, List, [], ◌∷◌, Option, Some, None}
use Rattle.journal_xdr.specs.Items.{Item}

-- the value that was read, if nothing is left after it
abbrev pub alone : {T : Type 0} → Option (T × List ℕ) → Option T
alone None = None
alone (Some x) = unless_more x.0 x.1
  where
    unless_more : {T : Type 0} → T → List ℕ → Option T
    unless_more v [] = Some v
    unless_more v (b ∷ bytes) = None

-- the value that the bytes spell, if they spell one
abbrev pub whole : {T : Type 0} → Item T → List ℕ → Option T
whole item bytes = alone (item.reading bytes)

-- The bytes are the value's spelling, and nothing else
pub record IsSpelling {T : Type 0} (item : Item T) (bytes : List ℕ) (value : T) : Type 0 where
  pub has : item.Has value
  pub is : bytes ≡ item.spelling value
