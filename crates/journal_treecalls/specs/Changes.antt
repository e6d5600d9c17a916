-- Entries that are put at places of blocks, several at once.
use Rattle.std.specs.Prelude.{ℕ, ◌≡◌, ◌<◌, ◌+◌, ◌==◌, ◌||◌, Bool, false, if◌then◌else◌, List, [], ◌∷◌, Option, Some, None}
use Rattle.journal_treestore.specs.declared.entry.Entry.{Entry}
use Rattle.journal_treestore.specs.Entries.{with_entry, no_entry}
use Rattle.journal_treestore.specs.Positions.{Position, with_put, with_blocks}
use Rattle.journal_treestore.specs.Views.{View}
use Rattle.journal_treecalls.specs.declared.changes.PlacedEntry.{PlacedEntry}
use Rattle.journal_treecalls.specs.Disks.{Write, written}

-- the disk after them, one after the other
abbrev pub with_changes : View → List (Option PlacedEntry) → View
with_changes V [] = V
with_changes V (None ∷ cs) = with_changes V cs
with_changes V (Some c ∷ cs) = with_changes (with_put V c.block c.at c.entry) cs

-- The place lies in its block
abbrev pub IsInside : Option PlacedEntry → Type 0
IsInside None = Unit {0}
IsInside (Some c) = c.at < 512

abbrev pub AreInside : List (Option PlacedEntry) → Type 0
AreInside [] = Unit {0}
AreInside (c ∷ cs) = IsInside c × AreInside cs

-- ── block by block ──

-- whether a change is in a block
abbrev pub is_of : Option PlacedEntry → ℕ → Bool
is_of None b = false
is_of (Some c) b = c.block == b

abbrev pub is_in : List (Option PlacedEntry) → ℕ → Bool
is_in [] b = false
is_in (c ∷ cs) b = is_of c b || is_in cs b

-- the block of a change, if none of the others is in it
abbrev pub last_block : Option PlacedEntry → List (Option PlacedEntry) → Option ℕ
last_block None cs = None
last_block (Some c) cs = if is_in cs c.block then None else Some c.block

-- the bytes of a block with a change, and with all
abbrev pub changed_by : Option PlacedEntry → ℕ → List ℕ → List ℕ
changed_by None b v = v
changed_by (Some c) b v = if c.block == b then with_entry v c.at c.entry else v

abbrev pub changed_block : List (Option PlacedEntry) → ℕ → List ℕ → List ℕ
changed_block [] b v = v
changed_block (c ∷ cs) b v = changed_block cs b (changed_by c b v)

-- in how many blocks the changes are
abbrev pub count_of : Option ℕ → ℕ
count_of None = 0
count_of (Some b) = 1

abbrev pub block_count : List (Option PlacedEntry) → ℕ
block_count [] = 0
block_count (c ∷ cs) = count_of (last_block c cs) + block_count cs

-- the disk with all changes of some blocks
abbrev pub with_some : View → List (Option PlacedEntry) → List (Option PlacedEntry) → View
with_some V cs some = with_blocks V (λ b. if is_in some b then changed_block cs b (V.block b) else V.block b)

pub record PutsBlocks (old new : View → Type 0) (ws : List Write) (cs some : List (Option PlacedEntry)) : Type 0 where
  pub same : (V : View) → new V → old V
  pub view : (V : View) → new V → written ws V ≡ with_some V cs some

-- The entries are put at their places
pub record PutsChanges (old new : View → Type 0) (ws : List Write) (cs : List (Option PlacedEntry)) : Type 0 where
  pub same : (V : View) → new V → old V
  pub view : (V : View) → new V → written ws V ≡ with_changes V cs
