-- Objects that are read ahead: their effect on a transaction, and on what was found before.
use Rattle.std.specs.Prelude.{ℕ, ◌≡◌, ◌⊎◌, IsTrue, List, [], ◌∷◌, length, All, Contains, Some, None}
use mathlib.Core.List.{IsPrefix}
use Rattle.journal_world.specs.declared.address.Addr.{Addr}
use Rattle.journal_world.specs.Addresses.{Value, slot_of, Shape}
use Rattle.journal_world.specs.Maps.{Pair, SamePairs, value_among, is_object, are_objects}
use Rattle.journal_object.specs.Objects.{size_at}
use Rattle.journal_twophase.specs.declared.prefetch.Wanted.{Wanted}
use Rattle.journal_twophase.specs.Transactions.{TxnState, holds}

-- the pairs before others, the last of them first: a later pair of an address takes the place of
-- an earlier one
abbrev pub onto : List Pair → List Pair → List Pair
onto [] before = before
onto (p ∷ ps) before = onto ps (p ∷ before)

-- what was found was read
abbrev pub IsAmong : List Pair → List Pair → Type 0
IsAmong found reads = (a : Addr) (v : Value) → value_among found a ≡ Some v → value_among reads a ≡ Some v

-- more was read of these addresses alone
abbrev pub ReadsOnly : List Addr → List Pair → List Pair → Type 0
ReadsOnly addrs old new = (a : Addr) → (value_among new a ≡ value_among old a) ⊎ Contains addrs a

-- nothing more was read of an address that has a value by these pairs
abbrev pub PassesOver : List Pair → List Pair → List Pair → Type 0
PassesOver ps old new = (a : Addr) (v : Value) → value_among ps a ≡ Some v → value_among new a ≡ value_among old a

-- An address that is read ahead: it is asked for, was not found before, and has no overwrite
pub record IsNew (addrs : List Addr) (before writes : List Pair) (a : Addr) : Type 0 where
  pub asked : Contains addrs a
  pub absent : value_among before a ≡ None
  pub unwritten : value_among writes a ≡ None

-- There is room for what is wanted, and its slot is held
pub record IsReady (layout : Shape) (held : List ℕ) (w : Wanted) : Type 0 where
  pub size : length w.room.items ≡ size_at layout w.addr
  pub slot : IsTrue (holds held (slot_of layout w.addr))

-- the address is one of those that are wanted
abbrev pub IsWanted : List Wanted → Addr → Type 0
IsWanted [] a = ⊥
IsWanted (w ∷ ws) a = (w.addr ≡ a) ⊎ IsWanted ws a

-- Slots of these addresses were taken, and none was given up
pub record HoldsMore (layout : Shape) (addrs : List Addr) (old new : List ℕ) : Type 0 where
  pub before : (slot : ℕ) → IsTrue (holds old slot) → IsTrue (holds new slot)
  pub asked : (slot : ℕ) → IsTrue (holds new slot) → IsTrue (holds old slot) ⊎ ((a : Addr) × Contains addrs a × (slot_of layout a ≡ slot))

-- It remembers objects, one after another
pub record LearnsAll (layout : Shape) (old : TxnState) (ps : List Pair) (new : TxnState) : Type 0 where
  pub reads : SamePairs new.reads (onto ps old.reads)
  pub objects : All (λ p. IsTrue (is_object layout p)) ps
  pub later : IsPrefix old.seen new.seen
  pub others : new ≡ record old { reads = new.reads; seen = new.seen }

-- Such objects are added to what was found before, but for those for which memory is refused
pub record AddsAll (before ps after : List Pair) : Type 0 where
  pub found : IsAmong after (onto ps before)
  pub kept : IsAmong before after
  pub objects : (layout : Shape) → IsTrue (are_objects layout before) → All (λ p. IsTrue (is_object layout p)) ps → IsTrue (are_objects layout after)
