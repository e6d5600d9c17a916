-- Maps from addresses to values, and the transactions on them.
use Rattle.std.specs.Prelude.{ℕ, ◌≡◌, ◌<◌, ◌+◌, Bool, false, ◌&&◌, if◌then◌else◌, IsTrue, List, [], ◌∷◌, ◌++◌, Option, Some, None, unwrap_or, All}
use Rattle.std.specs.Int.{bit_at}
use Rattle.std.specs.List.{list_all}
use Rattle.journal_world.specs.declared.address.Addr.{Addr}
use Rattle.journal_world.specs.declared.address.Kind.{Kind}
use Rattle.journal_world.specs.Addresses.{Value, Shape, kind_of, is_valid, is_value_of, is_same, zeros_of}

-- an address and a value of it
abbrev pub Pair : Type 0
Pair = Addr × Value

-- The objects of a disk of a layout: those that the pairs name have their values, and all others
-- are zeros
pub record Map : Type 0 where
  pub layout : Shape
  pub pairs : List Pair

-- the value that the first pair of an address gives it
abbrev pub value_among : List Pair → Addr → Option Value
value_among [] a = None
value_among (p ∷ ps) a = if is_same a p.0 then Some p.1 else value_among ps a

-- the pairs give each address the same value
abbrev pub SamePairs : List Pair → List Pair → Type 0
SamePairs ps qs = (a : Addr) → value_among ps a ≡ value_among qs a

abbrev pub zeros_at : Option Kind → Value
zeros_at None = []
zeros_at (Some kind) = zeros_of kind

-- the value that a map gives an address: that of its first pair, else the zeros of its kind
abbrev pub value_at : Map → Addr → Value
value_at m a = unwrap_or (value_among m.pairs a) (zeros_at (kind_of m.layout a.block))

-- the bits at 64 offsets in a row, from the address on, are those of the number, the lowest first
abbrev pub AreBitsFrom : Map → Addr → ℕ → Type 0
AreBitsFrom m a bits =
    (i : ℕ) → i < 64 → value_at m (record { block = a.block; off = a.off + i }) ≡ bit_at bits i ∷ []

-- Two maps that give each valid address the same value are the same map
pub record SameMap (m n : Map) : Type 0 where
  pub layout : m.layout ≡ n.layout
  pub values : (a : Addr) → IsTrue (is_valid m.layout a) → value_at m a ≡ value_at n a

-- the value is one of this kind; where there is no kind, none is
abbrev pub is_value_at : Option Kind → Value → Bool
is_value_at None v = false
is_value_at (Some kind) v = is_value_of kind v

-- the address is valid, and the value is of its kind
abbrev pub is_object : Shape → Pair → Bool
is_object layout p = is_valid layout p.0 && is_value_at (kind_of layout p.0.block) p.1

abbrev pub are_objects : Shape → List Pair → Bool
are_objects layout ps = list_all (is_object layout) ps

-- The reads and the writes of a transaction, with its session and the number of that session's
-- earlier ones
pub record Transaction : Type 0 where
  pub session : ℕ
  pub number : ℕ
  pub reads : List Pair
  pub writes : List Pair

-- each pair is what the map gives
abbrev pub Agrees : Map → List Pair → Type 0
Agrees m reads = All (λ p. value_at m p.0 ≡ p.1) reads

-- A transaction that may be committed where the map is m: it reads and writes objects of the map's
-- disk, and what it read agrees with the map
pub record IsLegalAt (m : Map) (t : Transaction) : Type 0 where
  pub reads : IsTrue (are_objects m.layout t.reads)
  pub writes : IsTrue (are_objects m.layout t.writes)
  pub agrees : Agrees m t.reads

-- a map overwritten by pairs, the first of an address before others
abbrev pub overwritten : Map → List Pair → Map
overwritten m pairs = record { layout = m.layout; pairs = pairs ++ m.pairs }

-- the map after the transaction
abbrev pub apply : Transaction → Map → Map
apply t m = overwritten m t.writes
