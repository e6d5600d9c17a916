-- Bytes of a file, as they are read from its blocks.
use Rattle.std.specs.Prelude.{ℕ, ◌≡◌, ◌≢◌, ◌<◌, ◌≤◌, ◌+◌, ◌-◌, ◌*◌, ◌/◌, ◌%◌, Bool, false, not, ◌&&◌, ◌⊎◌, min, nat_le, nat_lt, List, [], length, get_or}
use Rattle.journal_tree.specs.declared.limits.TheConstants.{MOST_BYTES, MOST_FILE_BLOCKS}
use Rattle.journal_treestore.specs.declared.inode.TheConstants.{DIRECT_BLOCKS, INDEX_NUMBERS}
use Rattle.journal_treestore.specs.declared.inode.Head.{Head}
use Rattle.journal_treestore.specs.Bytes.{word_at}
use Rattle.journal_treestore.specs.Views.{View, held_of, index_block, block_at, bytes_in}
use Rattle.journal_treecalls.specs.declared.fetch.Span.{Span}

-- The block that an inode of these fields has at a place, and its index blocks: its name says
-- nothing of them
abbrev pub file_blocks : View → Head → ℕ → ℕ
file_blocks V h = block_at V (held_of h [])

abbrev pub file_index : View → Head → ℕ → ℕ
file_index V h = index_block V (held_of h [])

-- number k of a block of numbers with these bytes
abbrev pub number_at : List ℕ → ℕ → ℕ
number_at v k = word_at v (4 * k)

-- the first of the blocks whose numbers lie in index block i
abbrev pub leaf_begin : ℕ → ℕ
leaf_begin i = DIRECT_BLOCKS + INDEX_NUMBERS * i

-- the block in which a byte lies, and how many a file may have before a byte
abbrev pub first_block : ℕ → ℕ
first_block from = min (from / 4096) MOST_FILE_BLOCKS

abbrev pub last_block : ℕ → ℕ
last_block to = (min to MOST_BYTES + 4095) / 4096

-- the same of index blocks
abbrev pub first_leaf : ℕ → ℕ
first_leaf from = (first_block from - DIRECT_BLOCKS) / INDEX_NUMBERS

abbrev pub last_leaf : ℕ → ℕ
last_leaf to = (last_block to - DIRECT_BLOCKS + 1023) / INDEX_NUMBERS

-- All bytes are zero
abbrev pub IsBlank : List ℕ → Type 0
IsBlank bytes = (k : ℕ) → get_or bytes k 0 ≡ 0

-- whether block j of a file has bytes from one to before another
abbrev pub is_in : ℕ → ℕ → ℕ → Bool
is_in from to j = nat_lt (4096 * j) to && nat_lt from (4096 * (j + 1))

-- whether all its bytes are in a span
abbrev pub is_whole : Span → ℕ → Bool
is_whole span j = nat_le span.from (4096 * j) && nat_le (4096 * (j + 1)) span.to

abbrev pub is_needed : Span → ℕ → ℕ → ℕ → Bool
is_needed but from to j = is_in from to j && not (is_whole but j)

-- The bytes of block j of a file that are among those from an offset on were put, and the others
-- stay
pub record Fills (v : List ℕ) (j offset : ℕ) (old new : List ℕ) : Type 0 where
  pub long : length new ≡ length old
  pub here : (k : ℕ) → k < length old → (offset + k) / 4096 ≡ j → get_or new k 0 ≡ get_or v ((offset + k) % 4096) 0
  pub others : (k : ℕ) → k < length old → (offset + k) / 4096 ≢ j → get_or new k 0 ≡ get_or old k 0

-- So were those of block b where they were zero, if the block does not lie in a span as a whole
pub record FillsBlock (V : View) (b : ℕ) (whole : Bool) (j offset : ℕ) (old new : List ℕ) : Type 0 where
  pub long : length new ≡ length old
  pub here : (k : ℕ) → k < length old → (offset + k) / 4096 ≡ j → whole ≡ false → get_or old k 0 ≡ 0 → get_or new k 0 ≡ get_or (bytes_in V b) ((offset + k) % 4096) 0
  pub others : (k : ℕ) → k < length old → (offset + k) / 4096 ≢ j → get_or new k 0 ≡ get_or old k 0

-- So were those of the blocks from one place to before another
pub record FillsBlocks (V : View) (blocks : ℕ → ℕ) (but : Span) (from to offset : ℕ) (old new : List ℕ) : Type 0 where
  pub long : length new ≡ length old
  pub here : (k : ℕ) → k < length old → from ≤ (offset + k) / 4096 → (offset + k) / 4096 < to → is_whole but ((offset + k) / 4096) ≡ false → get_or old k 0 ≡ 0
      → get_or new k 0 ≡ get_or (bytes_in V (blocks ((offset + k) / 4096))) ((offset + k) % 4096) 0
  pub others : (k : ℕ) → k < length old → ((offset + k) / 4096 < from) ⊎ (to ≤ (offset + k) / 4096) → get_or new k 0 ≡ get_or old k 0

-- So were those of the first blocks
pub record IsFetched (V : View) (blocks : ℕ → ℕ) (but : Span) (offset j : ℕ) (bytes : List ℕ) : Type 0 where
  pub done : (k : ℕ) → k < length bytes → (offset + k) / 4096 < j → is_whole but ((offset + k) / 4096) ≡ false
      → get_or bytes k 0 ≡ get_or (bytes_in V (blocks ((offset + k) / 4096))) ((offset + k) % 4096) 0
  pub rest : (k : ℕ) → k < length bytes → j ≤ (offset + k) / 4096 → get_or bytes k 0 ≡ 0
