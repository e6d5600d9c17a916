-- Numbers in bytes, little-endian.
use Rattle.std.specs.Prelude.{ℕ, ◌+◌, List, ◌++◌, length, take, drop, slice_range}
use Rattle.std.specs.Int.{w16, w32, w64, from_le_bytes}

-- a piece over the bytes from a place on
abbrev pub with_piece : List ℕ → ℕ → List ℕ → List ℕ
with_piece bytes at piece = take at bytes ++ piece ++ drop (at + length piece) bytes

-- the numbers of 2, of 4 and of 8 bytes from a place on
unfoldable pub half_at : List ℕ → ℕ → ℕ
half_at v at = from_le_bytes w16 (slice_range v at (at + 2))

unfoldable pub word_at : List ℕ → ℕ → ℕ
word_at v at = from_le_bytes w32 (slice_range v at (at + 4))

unfoldable pub long_at : List ℕ → ℕ → ℕ
long_at v at = from_le_bytes w64 (slice_range v at (at + 8))
