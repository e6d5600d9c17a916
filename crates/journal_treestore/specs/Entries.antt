-- The entries of a directory, 512 of 8 bytes in each of its blocks.
use Rattle.std.specs.Prelude.{ℕ, ◌≡◌, ◌<◌, ◌≤◌, ◌+◌, ◌*◌, ◌%◌, Bool, true, false, not, ◌==◌, ◌&&◌, List, [], ◌∷◌, ◌++◌, Option, Some, None, bit_xor}
use Rattle.std.specs.Int.{w32, to_le_bytes}
use Rattle.journal_treestore.specs.declared.entry.TheConstants.{PLACES}
use Rattle.journal_treestore.specs.declared.entry.Entry.{Entry}
use Rattle.journal_treestore.specs.Bytes.{with_piece, word_at}

-- the tag of a name, below 2^32: FNV-1a of 32 bits
abbrev pub tag_from : ℕ → List ℕ → ℕ
tag_from tag [] = tag
tag_from tag (byte ∷ bytes) = tag_from (bit_xor tag byte * 16777619 % 4294967296) bytes

abbrev pub tag_of : List ℕ → ℕ
tag_of name = tag_from 2166136261 name

abbrev pub no_entry : Entry
no_entry = record { number = 0; tag = 0 }

-- number and tag, little-endian
abbrev pub entry_bytes : Entry → List ℕ
entry_bytes e = to_le_bytes w32 e.number ++ to_le_bytes w32 e.tag

-- the entry at a place of a block
abbrev pub entry_from : List ℕ → ℕ → Entry
entry_from v at = record { number = word_at v (8 * at); tag = word_at v (8 * at + 4) }

-- the block with an entry put at a place
abbrev pub with_entry : List ℕ → ℕ → Entry → List ℕ
with_entry v at e = with_piece v (8 * at) (entry_bytes e)

-- whether the entry at a place is one, and has the tag
abbrev pub is_tagged : List ℕ → ℕ → ℕ → Bool
is_tagged v tag at = not ((entry_from v at).number == 0) && (entry_from v at).tag == tag

-- No entry from a place up to another has the tag
abbrev pub HasNoneUpTo : List ℕ → ℕ → ℕ → ℕ → Type 0
HasNoneUpTo v tag from to = (at : ℕ) → from ≤ at → at < to → is_tagged v tag at ≡ false

-- The first entry from a place on that has the tag
abbrev pub IsFirstTag : List ℕ → ℕ → ℕ → Option ℕ → Type 0
IsFirstTag v tag from None = HasNoneUpTo v tag from PLACES
IsFirstTag v tag from (Some at) = (from ≤ at) × (at < PLACES) × (is_tagged v tag at ≡ true) × HasNoneUpTo v tag from at
