-- The description of a disk with a tree, and its block.
use Rattle.std.specs.Prelude.{ℕ, ◌≡◌, List, [], ◌∷◌, ◌++◌, All, replicate}
use Rattle.std.specs.Int.{w64, to_le_bytes}
use Rattle.journal_treestore.specs.declared.description.Description.{Description}
use Rattle.journal_treestore.specs.Bytes.{long_at}

-- what a description begins with, "GJNLDSK1"
abbrev pub MAGIC : List ℕ
MAGIC = 71 ∷ 74 ∷ 78 ∷ 76 ∷ 68 ∷ 83 ∷ 75 ∷ 49 ∷ []

-- the bytes of a description that are not always zero: the name of the format, its version 3, how
-- many blocks the disk had when it was made, how many inodes it has, and its own 8 bytes,
-- little-endian
unfoldable pub description_front : Description → List ℕ
description_front d = MAGIC ++ to_le_bytes w64 3 ++ to_le_bytes w64 d.blocks ++ to_le_bytes w64 d.numbers ++ to_le_bytes w64 d.disk

-- the whole block
unfoldable pub description_bytes : Description → List ℕ
description_bytes d = description_front d ++ replicate 4056 0

-- the numbers in a block
abbrev pub description_from : List ℕ → Description
description_from v = record { blocks = long_at v 16; numbers = long_at v 24; disk = long_at v 32 }

-- All bytes are zero
abbrev pub AllZero : List ℕ → Type 0
AllZero bytes = All (λ b. b ≡ 0) bytes
