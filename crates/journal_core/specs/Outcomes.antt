-- The answers of events, and the meaning of each answer for the history.
use Rattle.std.specs.Prelude.{ℕ, ◌≡◌, ◌==◌, ◌≤◌, true, false, Bool, IsTrue, List, [], ◌∷◌, ◌++◌, Option, Some, None}
use Rattle.journal_world.specs.declared.address.Addr.{Addr}
use Rattle.journal_world.specs.Addresses.{Value}
use Rattle.journal_world.specs.Maps.{Map, Transaction, SameMap, value_at}
use Rattle.journal_world.specs.Histories.{Entry, opened, latest, at, count, floor, Follows, IsTrueTo}
use Rattle.journal_world.specs.Histories.Entry.{opening, commit, stable, fence}
use Rattle.journal_block.specs.Block.{Bytes}
use Rattle.journal_disk.specs.Disks.{Past, DiskState, IsSettled}
use Rattle.journal_disk.specs.Images.{IsImage}
use Rattle.journal_disk.specs.Moments.{Extends}
use Rattle.journal_memory.specs.declared.bit_scan.BitScan.{BitScan}
use Rattle.journal_memory.specs.Bits.{found_bits}
use Rattle.journal_parts.specs.Cores.{Leaves}

-- The answer of an event. It is a value, the numbers of bits, a commit, a mark, a fence, that the
-- first n commits are marked, or an image of the disk. It is nothing, where nothing is asked or it
-- is refused. Or the mount ended by a crash, or the next one began
pub data Answer : Type 0 where
  nothing : Answer
  value : Addr → Value → Answer
  scanned : BitScan → List ℕ → Answer
  committed : Transaction → Answer
  marked : ℕ → Answer
  fenced : ℕ → Answer
  waited : ℕ → Answer
  imaged : List Bytes → Answer
  crashed : Answer
  reopened : Answer

-- One entry more, which may follow and is true to the rule, so that a legal history stays legal
abbrev pub AddsEntry : (Map → Type 0) → List Entry → Entry → List Entry → Type 0
AddsEntry rule old e new = Follows old e × IsTrueTo rule old e × (new ≡ old ++ e ∷ [])

-- The meaning of an answer for the history. A value is that of its last map, and the bits that were
-- asked for are those of this map. A commit, a mark or a fence is one entry more. The first n
-- commits are marked. An image opens as the map after some commits, no fewer than the greatest
-- mark. A crash leaves such a map, and the next history begins with it
abbrev pub Tells : (Map → Type 0) → List Entry → Answer → List Entry → Type 0
Tells rule old nothing new = new ≡ old
Tells rule old (value a v) new = (v ≡ value_at (latest old) a) × (new ≡ old)
Tells rule old (scanned s bits) new = (bits ≡ found_bits (latest old) s) × (new ≡ old)
Tells rule old (committed t) new = AddsEntry rule old (commit t) new
Tells rule old (marked n) new = AddsEntry rule old (stable n) new
Tells rule old (fenced s) new = AddsEntry rule old (fence s) new
Tells rule old (waited n) new = (n ≤ floor old) × (new ≡ old)
Tells rule old (imaged image) new = Leaves old image × (new ≡ old)
Tells rule old crashed new = (n : ℕ) × (floor old ≤ n) × (n ≤ count old) × ((m : Map) × SameMap m (at old n) × (new ≡ opening m true ∷ []))
Tells rule old reopened new = (m : Map) × SameMap m (opened old) × (new ≡ opening m true ∷ [])

-- the same of answers one after the other
abbrev pub TellsAll : (Map → Type 0) → List Entry → List Answer → List Entry → Type 0
TellsAll rule old [] new = new ≡ old
TellsAll rule old (answer ∷ answers) new = (mid : List Entry) × Tells rule old answer mid × TellsAll rule mid answers new

-- an actor holds a slot
abbrev pub is_actor : Option ℕ → ℕ → Bool
is_actor None actor = false
is_actor (Some holder) actor = holder == actor

-- The image was left at a moment from the old past to the new one
pub record IsLeftBetween (old new : Past) (image : List Bytes) : Type 0 where
  pub moment : Past
  pub since : Extends old moment
  pub until : Extends moment new
  pub is_image : IsImage moment image

-- A disk as a crash left it: nothing is pending, and it holds the image
pub record HoldsImage (disk : DiskState) (image : List Bytes) : Type 0 where
  pub honest : IsTrue disk.honest
  pub settled : IsSettled disk.past
  pub is_image : IsImage disk.past image
