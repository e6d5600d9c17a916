-- A tail's objects as contracts see them: memory's knowledge of a block and of an address, from its
-- updates and the fetched blocks.
use Rattle.std.specs.Prelude.{ℕ, ◌≡◌, ◌⊎◌, Bool, true, false, not, ◌&&◌, IsTrue, if◌then◌else◌, List, [], ◌∷◌, ◌++◌, Option, Some, None}
use Rattle.journal_world.specs.declared.address.Addr.{Addr}
use Rattle.journal_world.specs.declared.address.Kind.{Kind}
use Rattle.journal_world.specs.declared.address.Kind.TheVariants.{Block}
use Rattle.journal_world.specs.declared.refusal.Refusal.{Refusal}
use Rattle.journal_world.specs.declared.refusal.Refusal.TheVariants.{NoMemory}
use Rattle.journal_world.specs.Addresses.{Value, Shape, kind_of, is_valid, is_same}
use Rattle.journal_world.specs.Maps.{Pair, are_objects}
use Rattle.journal_block.specs.declared.update.Update.{Update}
use Rattle.journal_block.specs.Updates.{updated, with_updates, updates_block}
use Rattle.journal_memlog.specs.Logs.{next_position, tail_of}
use Rattle.journal_tail.specs.Homes.{AreHomes}
use Rattle.journal_tail.specs.Tails.{TailState, TakesUpdates, known_blocks}
use Rattle.journal_tail.specs.Maps.{object_or_zeros}
use Rattle.journal_tail.specs.Writes.{Base, writes_block, CanPrepare, IsWriteRefusal}
use Rattle.journal_tail.specs.Applying.{all_updates}
use Rattle.journal_tail.specs.declared.prepare.Preparation.{Preparation}
use Rattle.journal_tail.specs.declared.prepare.Preparation.TheVariants.{Ready, Missing}

-- the number of blocks of the disk
abbrev pub blocks_of : TailState → ℕ
blocks_of t = t.log.blocks

-- All updates of which memory knows: each fetched block as one that came before, then the copies of
-- home blocks, and then those of the tail
abbrev pub known_updates : List Update → TailState → List Update
known_updates fetched t = fetched ++ known_blocks t

-- On a disk of a layout: the object that the last update of its block has at the address, or
-- nothing where no update is of it
abbrev pub known_object : Shape → List Update → Addr → Option Value
known_object layout updates a =
    if updates_block updates a.block then Some (object_or_zeros layout (updated updates a.block []) a) else None

-- memory's knowledge of an address, with these blocks fetched
abbrev pub known_at : Shape → List Update → TailState → Addr → Option Value
known_at layout fetched t a = known_object layout (known_updates fetched t) a

-- The base of overwriting, with these blocks fetched. A block that memory does not know has no
-- bytes
abbrev pub tail_base : Shape → List Update → TailState → Base
tail_base layout fetched t = record {
  layout = layout;
  content = with_updates (λ b. []) (known_updates fetched t);
  tail = tail_of t.log;
  next = next_position t.log;
}

-- A block of this kind is one object, so that a write of it needs nothing of its content
abbrev pub is_one_object : Option Kind → Bool
is_one_object (Some Block) = true
is_one_object other = false

-- a write of block b needs the block's other objects, and no update has them
abbrev pub is_missing : Shape → List Update → ℕ → Bool
is_missing layout known b = not (is_one_object (kind_of layout b)) && not (updates_block known b)

-- the blocks that have to be fetched before the writes can be prepared: each once, in the order of
-- the writes
abbrev pub missing_blocks : Shape → List Update → List Pair → List ℕ
missing_blocks layout known [] = []
missing_blocks layout known (p ∷ later) =
    if is_missing layout known p.0.block && not (writes_block later p.0.block) then p.0.block ∷ missing_blocks layout known later
    else missing_blocks layout known later

-- No block has to be fetched for the writes
abbrev pub HasBlocks : Shape → List Update → List Pair → Type 0
HasBlocks layout known writes = (b : ℕ) → writes_block writes b ≡ true → is_missing layout known b ≡ false

-- the value of an address after the writes: that of the first write of it, or if none is of it, its
-- value before
abbrev pub after_writes : List Pair → Option Value → Addr → Option Value
after_writes [] before a = before
after_writes (p ∷ later) before a = if is_same a p.0 then Some p.1 else after_writes later before a

-- With the prepared updates after those that memory knows, each address has the value that the
-- writes give it
pub record OverwritesKnown (layout : Shape) (known prepared : List Update) (writes : List Pair) : Type 0 where
  pub values : (a : Addr) → IsTrue (is_valid layout a)
      → known_object layout (known ++ prepared) a ≡ after_writes writes (known_object layout known a) a

-- one update of each written block, where these are prepared for those that are not in the tail
abbrev pub updates_with : Shape → TailState → List Pair → List Update → List Update
updates_with layout t writes prepared = all_updates layout t.log writes prepared

-- The prepared updates can be applied here with the writes, without memory and without a refusal
pub record TakesPrepared (layout : Shape) (t : TailState) (writes : List Pair) (prepared : List Update) : Type 0 where
  pub objects : IsTrue (are_objects layout writes)
  pub homes : AreHomes (blocks_of t) (updates_with layout t writes prepared)
  pub room : TakesUpdates t.log (updates_with layout t writes prepared)

-- Why writes are not prepared: the first of the refusals that need no memory, or memory alone is
-- refused
abbrev pub IsTailWriteRefusal : Base → List Pair → Refusal Unit → Type 0
IsTailWriteRefusal b writes refusal = IsWriteRefusal false b writes refusal ⊎ (CanPrepare b writes × (refusal ≡ NoMemory))

-- the tail with other room in memory
abbrev pub with_tail_room : TailState → ℕ → TailState
with_tail_room t room = record t { log = record t.log { room = room } }

-- of an answer: the condition where the writes are prepared
abbrev pub IfReady : (List Update → Type 0) → Preparation → Type 0
IfReady holds (Ready prepared) = holds prepared
IfReady holds (Missing blocks) = Unit {0}

-- of an answer: the condition where blocks have to be fetched first
abbrev pub IfMissing : (List ℕ → Type 0) → Preparation → Type 0
IfMissing holds (Ready prepared) = Unit {0}
IfMissing holds (Missing blocks) = holds blocks.items
