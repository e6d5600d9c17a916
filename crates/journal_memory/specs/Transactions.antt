-- An open transaction as contracts see it, and the invariant of its type.
use Rattle.std.specs.Prelude.{◌≡◌, ◌≢◌, IsTrue, List, [], ◌∷◌, All}
use Rattle.journal_world.specs.declared.address.Addr.{Addr}
use Rattle.journal_world.specs.Addresses.{Value, slot_of, Shape}
use Rattle.journal_world.specs.Maps.{Map, Pair, value_at, SamePairs, Agrees, is_object, are_objects}
use Rattle.journal_world.specs.Histories.{Entry, opened, is_trusted, latest, touched}

-- Its reads and overwrites, and a history at whose end the map gives all that it read
pub record TransactionState : Type 0 where
  pub reads : List Pair
  pub writes : List Pair
  pub seen : List Entry

-- the one that has done nothing yet, begun where this was seen of the history
abbrev pub begun : List Entry → TransactionState
begun seen = record { reads = []; writes = []; seen = seen }

-- no slot was touched since, under which the transaction read
abbrev pub AreUnmoved : Shape → List Entry → TransactionState → Type 0
AreUnmoved layout history t = All (λ p. touched layout history (slot_of layout p.0) ≡ touched layout t.seen (slot_of layout p.0)) t.reads

-- The invariant of a transaction, on a disk of a layout: its pairs are objects, and its reads agree
-- with the map at the end of the history that it has seen
pub record IsTransaction (layout : Shape) (t : TransactionState) : Type 0 where
  pub begun : t.seen ≢ []
  pub on_disk : (opened t.seen).layout ≡ layout
  pub reads : IsTrue (are_objects layout t.reads)
  pub writes : IsTrue (are_objects layout t.writes)
  pub agrees : IsTrue (is_trusted t.seen) → Agrees (latest t.seen) t.reads

-- The read is remembered, as it is at the end of the history
pub record Remembers (old : TransactionState) (a : Addr) (v : Value) (history : List Entry) (new : TransactionState) : Type 0 where
  pub reads : SamePairs new.reads ((a, v) ∷ old.reads)
  pub objects : (layout : Shape) → IsTrue (are_objects layout old.reads) → IsTrue (is_object layout (a, v)) → IsTrue (are_objects layout new.reads)
  pub agrees : (m : Map) → Agrees m old.reads → value_at m a ≡ v → Agrees m new.reads
  pub others : new ≡ record old { reads = new.reads; seen = history }

-- The result of a read: an address, and the history at whose end its value was looked up
pub record ReadResultState : Type 0 where
  pub addr : Addr
  pub seen : List Entry

-- The address is overwritten
pub record Overwrites (old : TransactionState) (a : Addr) (v : Value) (new : TransactionState) : Type 0 where
  pub writes : SamePairs new.writes ((a, v) ∷ old.writes)
  pub objects : (layout : Shape) → IsTrue (are_objects layout old.writes) → IsTrue (is_object layout (a, v)) → IsTrue (are_objects layout new.writes)
  pub others : new ≡ record old { writes = new.writes }
