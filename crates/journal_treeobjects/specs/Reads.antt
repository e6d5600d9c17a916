-- The reads of a transaction, and the objects that were found by them.
use Rattle.std.specs.Prelude.{ℕ, ◌≡◌, ◌<◌, ◌⊎◌, List, Some}
use Rattle.std.specs.List.{Contains}
use Rattle.journal_world.specs.declared.address.Addr.{Addr}
use Rattle.journal_world.specs.Addresses.{Value}
use Rattle.journal_world.specs.Maps.{Pair, value_among}
use Rattle.journal_treestore.specs.declared.place.Cut.{Cut}
use Rattle.journal_treestore.specs.Places.{addr_of}
use Rattle.journal_treestore.specs.Places.Object.{inode_of}

-- each object that was found was read
abbrev pub IsAmong : List Pair → List Pair → Type 0
IsAmong found reads = (a : Addr) (v : Value) → value_among found a ≡ Some v → value_among reads a ≡ Some v

-- but for these addresses the reads are as before
abbrev pub ReadsOnly : List Addr → List Pair → List Pair → Type 0
ReadsOnly addrs old new = (a : Addr) → (value_among new a ≡ value_among old a) ⊎ Contains addrs a

-- The address of the inode of one of these numbers, which the disk has
pub record IsInodeOf (c : Cut) (numbers : List ℕ) (a : Addr) : Type 0 where
  pub number : ℕ
  pub asked : Contains numbers number
  pub inside : number < c.numbers
  pub at : a ≡ addr_of c (inode_of number)
