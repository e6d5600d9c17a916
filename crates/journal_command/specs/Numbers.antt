-- Texts of numbers.
use Rattle.std.specs.Prelude.{ℕ, Bool, ◌&&◌, ◌||◌, ◌==◌, nat_lt, List, length, slice_index}

-- the text begins with `+`, or with `0` before others
abbrev pub is_padded : List ℕ → Bool
is_padded text = slice_index text 0 == 43 || (slice_index text 0 == 48 && nat_lt 1 (length text))
