-- The lines of an input.
use Rattle.std.specs.Prelude.{ℕ, ◌+◌, ◌≡◌, ◌≢◌, ◌<◌, ◌==◌, if◌then◌else◌, Bool, true, false, List, [], ◌∷◌, ◌++◌, length, take, Option, Some, IfSome}
use Rattle.std.specs.List.{AllByRecursion}
use Rattle.std.specs.Io.BufRead.{drop_through}
use Rattle.std.specs.Io.KnownBytes.{Consumes, IsAtEnd}
use Rattle.journal_command.specs.declared.line.Piece.{Piece}
use Rattle.journal_command.specs.declared.line.Piece.TheVariants as pieces

-- The bytes that are left of an input, where they are known, and the line that was read last, of
-- which no more bytes are kept than show that it is too long
pub record LinesState : Type 0 where
  pub left : Option (List ℕ)
  pub line : List ℕ

-- the bytes before the first newline, or all
abbrev pub first_line : List ℕ → List ℕ
first_line [] = []
first_line (x ∷ xs) = if x == 10 then [] else x ∷ first_line xs

-- the kept part of a line
unfoldable pub kept : List ℕ → List ℕ
kept line = take 20001 line

-- The line is the first of the input, which goes on after its newline
pub record TakesLine (xs taken : List ℕ) (rest : Option (List ℕ)) : Type 0 where
  pub some : 0 < length xs
  pub line : taken ≡ kept (first_line xs)
  pub left : rest ≡ Some (drop_through 10 xs)

-- The next line was read, or there was none
abbrev pub Advances : LinesState → LinesState → Bool → Type 0
Advances old new true = IfSome old.left (λ xs. TakesLine xs new.line new.left)
Advances old new false = IfSome old.left (λ xs. (xs ≡ []) × (new.left ≡ Some []))

abbrev pub NoBreak : List ℕ → Type 0
NoBreak bytes = AllByRecursion (λ b. b ≢ 10) bytes

-- More bytes of the line were taken, and all of these of the input
pub record TakesBytes (bytes all : List ℕ) (old new : LinesState) : Type 0 where
  pub unbroken : NoBreak bytes
  pub line : new.line ≡ kept (old.line ++ bytes)
  pub left : Consumes old.left new.left all

-- the shown part of an input begins with this many bytes of the line, and goes on in this way
abbrev pub ShowsPiece : List ℕ → ℕ → Piece → Type 0
ShowsPiece shown n pieces.Part = (0 < n) × (n ≡ length shown) × NoBreak shown
ShowsPiece shown n pieces.Whole = (take (n + 1) shown ≡ take n shown ++ 10 ∷ []) × NoBreak (take n shown)
ShowsPiece shown n pieces.End = (n ≡ 0) × (shown ≡ [])

-- A piece of the line was taken: at least one byte where it goes on, and its newline where that was
-- met; or the input ended
abbrev pub TakesPiece : LinesState → LinesState → Piece → Type 0
TakesPiece old new pieces.Part = (bytes : List ℕ) × (0 < length bytes) × TakesBytes bytes bytes old new
TakesPiece old new pieces.Whole = (bytes : List ℕ) × TakesBytes bytes (bytes ++ 10 ∷ []) old new
TakesPiece old new pieces.End = TakesBytes [] [] old new × IsAtEnd old.left
