-- Which writes can be prepared, why others are refused, and what it is to be prepared.
use Rattle.std.specs.Prelude.{ℕ, ◌≡◌, ◌<◌, ◌≤◌, ◌+◌, ◌^◌, ◌==◌, ◌||◌, Bool, false, IsTrue, if◌then◌else◌, List, [], ◌∷◌, length}
use Rattle.std.specs.List.{list_all, AllByRecursion}
use Rattle.journal_world.specs.declared.refusal.Refusal.{Refusal}
use Rattle.journal_world.specs.declared.refusal.Refusal.TheVariants.{BadAddress, BadSize, TooLarge, DeviceFailed, Worn, Full}
use Rattle.journal_world.specs.Addresses.{Shape, is_valid}
use Rattle.journal_world.specs.Maps.{Pair, SameMap, are_objects, overwritten, Map}
use Rattle.journal_block.specs.declared.update.Update.{Update}
use Rattle.journal_block.specs.Updates.{updates_block, with_updates, Content}
use Rattle.journal_tail.specs.Maps.{map_of}
use Rattle.journal_tail.specs.declared.limits.TheConstants.{MAX_TAIL, MAX_UPDATES}

-- The base of overwrites: the layout, the blocks' content with all updates, the tail, and the
-- position after it
pub record Base : Type 0 where
  pub layout : Shape
  pub content : Content
  pub tail : List Update
  pub next : ℕ

-- the map that its blocks make
abbrev pub map_in : Base → Map
map_in b = map_of b.layout b.content

-- one of the writes is in block b
abbrev pub writes_block : List Pair → ℕ → Bool
writes_block [] b = false
writes_block (p ∷ later) b = p.0.block == b || writes_block later b

-- how many distinct blocks the writes are in
abbrev pub written_blocks : List Pair → ℕ
written_blocks [] = 0
written_blocks (p ∷ later) = (if writes_block later p.0.block then 0 else 1) + written_blocks later

-- how many of these are not in the tail
abbrev pub fresh_among : List Update → List Pair → ℕ
fresh_among tail [] = 0
fresh_among tail (p ∷ later) =
    (if writes_block later p.0.block || updates_block tail p.0.block then 0 else 1) + fresh_among tail later

-- how many more places the writes take in the tail
abbrev pub fresh_blocks : Base → List Pair → ℕ
fresh_blocks b writes = fresh_among b.tail writes

-- each write's address is valid
abbrev pub are_valid : Shape → List Pair → Bool
are_valid layout writes = list_all (λ p. is_valid layout p.0) writes

-- each write is in a block below n
abbrev pub AreBelow : ℕ → List Pair → Type 0
AreBelow n writes = AllByRecursion (λ p. p.0.block < n) writes

-- Nothing but memory and the device can refuse the writes
pub record CanPrepare (b : Base) (writes : List Pair) : Type 0 where
  pub objects : IsTrue (are_objects b.layout writes)
  pub few : written_blocks writes ≤ MAX_UPDATES
  pub small : b.next + fresh_blocks b writes < 2 ^ 62
  pub tail : length b.tail + fresh_blocks b writes ≤ MAX_TAIL

-- Why writes are refused before memory and the device are asked: the first of these that holds
abbrev pub IsWriteRefusal : Bool → Base → List Pair → Refusal Unit → Type 0
IsWriteRefusal faulted b writes (DeviceFailed cause) = IsTrue faulted
IsWriteRefusal faulted b writes BadAddress = (faulted ≡ false) × (are_valid b.layout writes ≡ false)
IsWriteRefusal faulted b writes BadSize = (faulted ≡ false) × IsTrue (are_valid b.layout writes) × (are_objects b.layout writes ≡ false)
IsWriteRefusal faulted b writes TooLarge = (faulted ≡ false) × IsTrue (are_objects b.layout writes) × (MAX_UPDATES < written_blocks writes)
IsWriteRefusal faulted b writes (Worn cause) =
    (faulted ≡ false) × IsTrue (are_objects b.layout writes) × (written_blocks writes ≤ MAX_UPDATES) × (2 ^ 62 ≤ b.next + fresh_blocks b writes)
IsWriteRefusal faulted b writes (Full cause) =
    (faulted ≡ false) × IsTrue (are_objects b.layout writes) × (written_blocks writes ≤ MAX_UPDATES)
    × (b.next + fresh_blocks b writes < 2 ^ 62) × (MAX_TAIL < length b.tail + fresh_blocks b writes)
IsWriteRefusal faulted b writes other = ⊥

-- The prepared updates overwrite the map by the writes, if the fetched blocks are the blocks'
-- content
pub record IsPrepared (honest : Bool) (b : Base) (prepared : List Update) (writes : List Pair) : Type 0 where
  pub map : IsTrue honest → SameMap (map_of b.layout (with_updates b.content prepared)) (overwritten (map_in b) writes)
  -- it has one update for each block that is written, and no other
  pub named : (n : ℕ) → updates_block prepared n ≡ writes_block writes n
  pub number : length prepared ≡ written_blocks writes
