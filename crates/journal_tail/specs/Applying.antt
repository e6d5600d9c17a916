-- A tail after writes are applied: the blocks in it are overwritten there, and the others are
-- appended.
use Rattle.std.specs.Prelude.{ℕ, ◌==◌, ◌&&◌, not, if◌then◌else◌, List, [], ◌∷◌, ◌++◌, map}
use Rattle.journal_world.specs.Addresses.{Shape}
use Rattle.journal_world.specs.Maps.{Pair}
use Rattle.journal_block.specs.declared.update.Update.{Update}
use Rattle.journal_block.specs.Block.{Bytes}
use Rattle.journal_block.specs.Updates.{updated, updates_block}
use Rattle.journal_memlog.specs.Logs.{LogState, head_of, tail_of}
use Rattle.journal_object.specs.Objects.{with_object_at}
use Rattle.journal_tail.specs.Writes.{writes_block}

-- On a disk of a layout: the content of block b once the writes in it are stored. Of two of one
-- address the first counts
abbrev pub stored_in : Shape → List Pair → ℕ → Bytes → Bytes
stored_in layout [] b bytes = bytes
stored_in layout (p ∷ later) b bytes =
    if p.0.block == b then with_object_at layout (stored_in layout later b bytes) p.0 p.1 else stored_in layout later b bytes

-- an update with the writes stored in its block
abbrev pub stored_update : Shape → List Pair → Update → Update
stored_update layout writes u = record u { bytes = stored_in layout writes u.block u.bytes }

-- the log with the writes stored in the blocks of its tail
abbrev pub stored_log : Shape → List Pair → LogState → LogState
stored_log layout writes log = record log { updates = head_of log ++ map (stored_update layout writes) (tail_of log) }

-- the writes in blocks that are not in the tail
abbrev pub fresh_writes : List Update → List Pair → List Pair
fresh_writes tail [] = []
fresh_writes tail (p ∷ later) =
    if updates_block tail p.0.block then fresh_writes tail later else p ∷ fresh_writes tail later

-- the written blocks in the tail: each once, in the order of the writes
abbrev pub standing_blocks : List Update → List Pair → List ℕ
standing_blocks tail [] = []
standing_blocks tail (p ∷ later) =
    if updates_block tail p.0.block && not (writes_block later p.0.block) then p.0.block ∷ standing_blocks tail later
    else standing_blocks tail later

-- an update of a block of the tail: its content there, with the writes stored
abbrev pub standing_update : Shape → List Update → List Pair → ℕ → Update
standing_update layout tail writes b = record { block = b; bytes = stored_in layout writes b (updated tail b []) }

-- one of each of these blocks
abbrev pub standing_updates : Shape → List Update → List Pair → List Update
standing_updates layout tail writes = map (standing_update layout tail writes) (standing_blocks tail writes)

-- one update of each written block: those of the blocks in the tail, and these of the others
abbrev pub all_updates : Shape → LogState → List Pair → List Update → List Update
all_updates layout log writes fresh = standing_updates layout (tail_of log) writes ++ fresh
