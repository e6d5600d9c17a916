-- Records as they are spelled on a stream, cut into fragments (RFC 5531, section 11).
use Rattle.std.specs.Prelude.{◌≡◌, ℕ, ◌+◌, ◌^◌, ◌<◌, ◌≤◌, nat_le, Bool, true, false, if◌then◌else◌, List, [], ◌∷◌, ◌++◌, length, map}
use Rattle.std.specs.List.{flat_map, AllByRecursion}
use Rattle.journal_xdr.specs.Basic.{word}
use Rattle.journal_rpc.specs.declared.marking.Marking.{Marking}
use Rattle.journal_rpc.specs.declared.part.Part.{Part}
use Rattle.journal_rpc.specs.declared.part.Part.TheVariants.{Start, First, Second, Third, Body, TooLong}
use Rattle.journal_rpc.specs.Stream.{Stream, size_of}

-- a fragment's header
abbrev pub header : Marking → Bool → ℕ → ℕ
header m last size = (if last then m.last else 0) + size

-- a fragment: its header, and its bytes
abbrev pub fragment : Marking → Bool → List ℕ → List ℕ
fragment m last bytes = word.spelling (header m last (length bytes)) ++ bytes

-- a fragment of this length is the last, or short enough to be marked as another
abbrev pub IsMarked : Marking → Bool → ℕ → Type 0
IsMarked m true size = Unit {0}
IsMarked m false size = size < m.last

-- A record cut into fragments: those before the last, and the last
pub record Cut : Type 0 where
  pub before : List (List ℕ)
  pub last : List ℕ

-- the bytes of several fragments
abbrev pub together : List (List ℕ) → List ℕ
together fragments = flat_map (λ f. f) fragments

-- how fragments that are not the last are spelled
abbrev pub spelled : Marking → List (List ℕ) → List ℕ
spelled m fragments = flat_map (fragment m false) fragments

-- each can be marked so
abbrev pub AreInner : Marking → List (List ℕ) → Type 0
AreInner m fragments = AllByRecursion (λ f. IsMarked m false (length f)) fragments

-- the record's bytes, and its spelling
abbrev pub record_of : Cut → List ℕ
record_of c = together c.before ++ c.last

abbrev pub cut_text : Marking → Cut → List ℕ
cut_text m c = spelled m c.before ++ fragment m true c.last

abbrev pub IsRecord : Marking → Cut → Type 0
IsRecord m c = (length (record_of c) ≤ m.most_bytes) × AreInner m c.before

-- The begun record: front are the bytes of its whole fragments, begun those that have come in all,
-- and tail is the rest after the spellings of the whole ones. It is nothing, less than a header, a
-- header with less than its fragment's bytes, or a header that goes above the limit
abbrev pub IsBegun : Marking → Part → List ℕ → List ℕ → List ℕ → Type 0
IsBegun m Start front begun tail = (begun ≡ front) × (tail ≡ [])
IsBegun m (First a) front begun tail = (begun ≡ front) × (tail ≡ a ∷ []) × (a < 256)
IsBegun m (Second a b) front begun tail = (begun ≡ front) × (tail ≡ a ∷ b ∷ []) × (a < 256) × (b < 256)
IsBegun m (Third a b c) front begun tail = (begun ≡ front) × (tail ≡ a ∷ b ∷ c ∷ []) × (a < 256) × (b < 256) × (c < 256)
IsBegun m (Body last left) front begun tail =
    (got : List ℕ) × (begun ≡ front ++ got) × (tail ≡ word.spelling (header m last (length got + left)) ++ got) × (0 < left) × (length front + (length got + left) ≤ m.most_bytes)
    × IsMarked m last (length got + left)
IsBegun m TooLong front begun tail =
    (head : ℕ) × (more : List ℕ) × (begun ≡ front) × (tail ≡ word.spelling head ++ more) × (head < 2 ^ 32) × (m.most_bytes < length front + size_of m (nat_le m.last head) head)

-- The bytes are these records, each in some cutting, and then what has come of the next: some whole
-- fragments of it, and less than another or a header that takes it above the limit
pub record SpellsStream (bytes : List ℕ) (s : Stream) : Type 0 where
  pub cuts : List Cut
  pub before : List (List ℕ)
  pub tail : List ℕ
  pub is : bytes ≡ flat_map (cut_text s.marking) cuts ++ (spelled s.marking before ++ tail)
  pub each : AllByRecursion (IsRecord s.marking) cuts
  pub records : s.records ≡ map record_of cuts
  pub fits : length (together before) ≤ s.marking.most_bytes
  pub inner : AreInner s.marking before
  pub rest : IsBegun s.marking s.part (together before) s.begun tail
