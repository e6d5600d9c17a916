-- What a transaction's reads hold.
use Rattle.std.specs.Prelude.{◌≡◌, List, Some, All}
use Rattle.journal_world.specs.declared.address.Addr.{Addr}
use Rattle.journal_world.specs.Addresses.{Value}
use Rattle.journal_world.specs.Maps.{Pair, value_among}

-- each of the pairs has the value that the reads give its address
abbrev pub AreRead : List Pair → List Pair → Type 0
AreRead reads pairs = All (λ p. value_among reads p.0 ≡ Some p.1) pairs

-- the later reads give each address that was read the value that it had
abbrev pub KeepsReads : List Pair → List Pair → Type 0
KeepsReads earlier later = (a : Addr) (v : Value) → value_among earlier a ≡ Some v → value_among later a ≡ Some v
