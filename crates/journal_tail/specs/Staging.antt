-- The invariant while writes are stored in updates of their blocks, from the last write on.
use Rattle.std.specs.Prelude.{ℕ, ◌≡◌, ◌⊎◌, ◌≤◌, true, IsTrue, List, [], ◌∷◌, length, Option, Some, None}
use Rattle.std.specs.List.{AllByRecursion}
use Rattle.journal_world.specs.declared.address.Addr.{Addr}
use Rattle.journal_world.specs.declared.address.Kind.TheVariants.{Block}
use Rattle.journal_world.specs.Addresses.{Shape, kind_of, is_value_of}
use Rattle.journal_world.specs.Maps.{Pair, are_objects, overwritten}
use Rattle.journal_block.specs.declared.update.Update.{Update}
use Rattle.journal_block.specs.Block.{Bytes}
use Rattle.journal_block.specs.Updates.{Content, updated, updates_block, with_updates}
use Rattle.journal_memlog.specs.Logs.{HasDistinctBlocks, fresh_count}
use Rattle.journal_tail.specs.Homes.{AreHomes}
use Rattle.journal_tail.specs.declared.limits.TheConstants.{MAX_UPDATES}
use Rattle.journal_tail.specs.Maps.{HasObjects}
use Rattle.journal_tail.specs.Writes.{Base, map_in, writes_block, written_blocks, fresh_among}

-- block b is above none of the writes'
abbrev pub IsAboveNone : ℕ → List Pair → Type 0
IsAboveNone b writes = AllByRecursion (λ q. b ≤ q.0.block) writes

-- the block of the first write, and of the first update
abbrev pub first_block : List Pair → Option ℕ
first_block [] = None
first_block (p ∷ later) = Some p.0.block

abbrev pub first_update : List Update → Option ℕ
first_update [] = None
first_update (u ∷ later) = Some u.block

-- the bytes of the first update, and the updates with others in it
abbrev pub first_bytes : List Update → Bytes
first_bytes [] = []
first_bytes (u ∷ later) = u.bytes

abbrev pub with_first : List Update → Bytes → List Update
with_first [] bytes = []
with_first (u ∷ later) bytes = record u { bytes = bytes } ∷ later

-- There is one update for each block that is written, on a disk of n blocks, over this tail
pub record CoversBlocks (n : ℕ) (tail : List Update) (writes : List Pair) (updates : List Update) : Type 0 where
  pub homes : AreHomes n updates
  pub distinct : HasDistinctBlocks updates
  pub first : first_update updates ≡ first_block writes
  pub named : (b : ℕ) → updates_block updates b ≡ writes_block writes b
  pub number : length updates ≡ written_blocks writes
  pub fresh : fresh_count tail updates ≡ fresh_among tail writes

-- These writes are stored
pub record IsStaged (b : Base) (writes : List Pair) (updates : List Update) : Type 0 where
  pub blocks : CoversBlocks b.layout.blocks b.tail writes updates
  pub objects : HasObjects (with_updates b.content updates) (overwritten (map_in b) writes)

-- Each written block in the tail has the bytes of a block
abbrev pub StandsWhole : List Update → List Pair → Type 0
StandsWhole tail writes =
    (b : ℕ) → writes_block writes b ≡ true → updates_block tail b ≡ true → IsTrue (is_value_of Block (updated tail b []))

-- On a disk of this layout: the writes are objects, no more than a commit may have blocks, and all
-- of their blocks are in the tail
pub record AreInTail (layout : Shape) (tail : List Update) (writes : List Pair) : Type 0 where
  pub objects : IsTrue (are_objects layout writes)
  pub few : length writes ≤ MAX_UPDATES
  pub stand : (b : ℕ) → writes_block writes b ≡ true → updates_block tail b ≡ true
  pub whole : StandsWhole tail writes

-- In blocks that have the objects of the stored writes, the address's block is the first update,
-- unless all of it is to be overwritten
pub record IsOpenIn (b : Base) (writes : List Pair) (a : Addr) (updates : List Update) : Type 0 where
  pub content : Content
  pub objects : HasObjects content (overwritten (map_in b) writes)
  pub here : (kind_of b.layout a.block ≡ Some Block) ⊎ (first_bytes updates ≡ content a.block)
  pub others : (c : ℕ) → (c ≡ a.block → ⊥) → with_updates b.content updates c ≡ content c

-- These writes are stored, and one of the address may be next
pub record IsOpen (b : Base) (writes : List Pair) (a : Addr) (updates : List Update) : Type 0 where
  pub blocks : CoversBlocks b.layout.blocks b.tail ((a, []) ∷ writes) updates
  pub bytes : IsOpenIn b writes a updates
