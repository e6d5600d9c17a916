-- Records on a stream, byte by byte, by their marking.
use Rattle.std.specs.Prelude.{◌≡◌, ℕ, ◌+◌, ◌-◌, ◌==◌, ◌<◌, nat_lt, nat_le, Bool, true, false, if◌then◌else◌, List, [], ◌∷◌, ◌++◌, length, take, Result, Ok, Err}
use Rattle.std.specs.Int.{w32, from_be_bytes}
use Rattle.journal_rpc.specs.declared.marking.Marking.{Marking}
use Rattle.journal_rpc.specs.declared.part.Part.{Part}
use Rattle.journal_rpc.specs.declared.part.Part.TheVariants.{Start, First, Second, Third, Body, TooLong}

-- The part of a stream that has come: its marking, the complete records that are not yet taken, the
-- bytes of the begun record, and the next part
pub record Stream : Type 0 where
  pub marking : Marking
  pub records : List (List ℕ)
  pub begun : List ℕ
  pub part : Part

-- the most complete records that wait
abbrev pub waiting_limit : ℕ
waiting_limit = 1

-- a stream of which nothing has come
abbrev pub fresh : Marking → Stream
fresh m = record { marking = m; records = []; begun = []; part = Start }

-- a fragment is at its end
abbrev pub stream_ended : Marking → List (List ℕ) → List ℕ → Bool → Stream
stream_ended m records begun true = record { marking = m; records = records ++ begun ∷ []; begun = []; part = Start }
stream_ended m records begun false = record { marking = m; records = records; begun = begun; part = Start }

-- a fragment of this many bytes begins
abbrev pub begins : Marking → List (List ℕ) → List ℕ → Bool → ℕ → Stream
begins m records begun last size =
    if nat_lt m.most_bytes (length begun + size) then record { marking = m; records = records; begun = begun; part = TooLong }
    else (if size == 0 then stream_ended m records begun last else record { marking = m; records = records; begun = begun; part = Body last size })

-- the length of a header's fragment, where it is the last or not
abbrev pub size_of : Marking → Bool → ℕ → ℕ
size_of m true header = header - m.last
size_of m false header = header

-- a header: it marks the last fragment, and gives the length
abbrev pub stream_opened : Marking → List (List ℕ) → List ℕ → ℕ → Stream
stream_opened m records begun header = begins m records begun (nat_le m.last header) (size_of m (nat_le m.last header) header)

-- a byte comes
abbrev pub byte_came : Marking → List (List ℕ) → List ℕ → Part → ℕ → Stream
byte_came m records begun Start b = record { marking = m; records = records; begun = begun; part = First b }
byte_came m records begun (First x) b = record { marking = m; records = records; begun = begun; part = Second x b }
byte_came m records begun (Second x y) b = record { marking = m; records = records; begun = begun; part = Third x y b }
byte_came m records begun (Third x y z) b = stream_opened m records begun (from_be_bytes w32 (x ∷ y ∷ z ∷ b ∷ []))
byte_came m records begun (Body last left) b =
    if left == 1 then stream_ended m records (begun ++ b ∷ []) last else record { marking = m; records = records; begun = begun ++ b ∷ []; part = Body last (left - 1) }
byte_came m records begun TooLong b = record { marking = m; records = records; begun = begun; part = TooLong }

-- the stream after some bytes
unfoldable pub after : Stream → List ℕ → Stream
after s [] = s
after s (b ∷ bs) = after (byte_came s.marking s.records s.begun s.part b) bs

-- the taken part of a piece: a front, or all if a record was too long
abbrev pub front_taken : {E : Type 0} → Result ℕ E → List ℕ → List ℕ
front_taken (Ok taken) piece = take taken piece
front_taken (Err why) piece = piece

-- The new stream has all that the old one had, and perhaps more: the record that was begun has
-- grown, or it is complete with what came of it
pub data ExtendsStream (old new : Stream) : Type 0 where
  Grown : (extra : List ℕ) → new.marking ≡ old.marking → new.records ≡ old.records → new.begun ≡ old.begun ++ extra → ExtendsStream old new
  Completed : (extra : List ℕ) → (more : List (List ℕ)) → new.marking ≡ old.marking → new.records ≡ old.records ++ (old.begun ++ extra) ∷ more → ExtendsStream old new

-- nothing has come of the next record
pub record IsBetween (s : Stream) : Type 0 where
  pub begun : s.begun ≡ []
  pub part : s.part ≡ Start

-- The bytes begin with a whole record, and these come after it: with the bytes in front of them the
-- stream has that record more, and nothing else has come
pub record IsSplit (s : Stream) (bytes lent rest : List ℕ) : Type 0 where
  pub taken : List ℕ
  pub is : bytes ≡ taken ++ rest
  pub some : 0 < length taken
  pub comes : after s taken ≡ record s { records = s.records ++ lent ∷ [] }
