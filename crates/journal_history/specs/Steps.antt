-- The invariant of the book's two words and its history, and the result of each of the four steps.
use Rattle.std.specs.Prelude.{ℕ, ◌≡◌, ◌≤◌, ◌==◌, true, List, [], ◌∷◌, ◌++◌, length, MatchBool}
use Rattle.logbook.specs.Pages.{Cell, Step, View, Book, Named}
use Rattle.journal_world.specs.Maps.{Map}
use Rattle.journal_world.specs.Histories.{Entry, floor}
use Rattle.journal_history.specs.Soundness.{IsSound}

-- HEAD is the length of the history, which is sound; FLOOR is at most its greatest mark
pub record IsLawful (rule : Map → Type 0) (cells : List Cell) (history : List Entry) : Type 0 where
  pub published : ℕ
  pub words : cells ≡ (length history, true) ∷ (published, true) ∷ []
  pub marked : published ≤ floor history
  pub sound : IsSound rule history

abbrev pub head_word : Book → Named
head_word book = record { tracked = true; key = 0; book = book }

abbrev pub floor_word : Book → Named
floor_word book = record { tracked = true; key = 1; book = book }

-- A book's words, with a token that has seen nothing of it
pub record IsBook (book : Book) (head floor : Named) (seen : List Entry) : Type 0 where
  pub head_is : head ≡ head_word book
  pub floor_is : floor ≡ floor_word book
  pub empty : seen ≡ []

-- A front of a journal's book: it has the book itself, a token of it that has seen a sound history,
-- and that history's length
pub record IsFront (rule : Map → Type 0) (journal book seen_of : Book) (seen : List Entry) (len : ℕ) : Type 0 where
  pub book_is : book ≡ journal
  pub token_is : seen_of ≡ journal
  pub counted : len ≡ length seen
  pub sound : IsSound rule seen

-- the history so far was seen, and its length found
abbrev pub LoadsHead : (Map → Type 0) → Step Entry → View Entry ℕ → ℕ → View Entry ℕ → Type 0
LoadsHead rule step before found after = (found ≡ length after.0) × IsSound rule after.0

-- the entry was added to all that had been seen; or the history was longer, and was seen
abbrev pub ExchangesHead : (Map → Type 0) → Step Entry → View Entry ℕ → ℕ → View Entry ℕ → Type 0
ExchangesHead rule step before found after =
    MatchBool (found == step.old)
    ((after.0 ≡ before.0 ++ step.ask ∷ []) × (length before.0 ≡ step.old) × IsSound rule after.0)
    ((found ≡ length after.0) × IsSound rule after.0)

-- the history so far was seen, and a number found that is at most its greatest mark
abbrev pub LoadsFloor : (Map → Type 0) → Step Entry → View Entry ℕ → ℕ → View Entry ℕ → Type 0
LoadsFloor rule step before found after = (found ≤ floor after.0) × IsSound rule after.0

-- the history so far was seen
abbrev pub ExchangesFloor : (Map → Type 0) → Step Entry → View Entry ℕ → ℕ → View Entry ℕ → Type 0
ExchangesFloor rule step before found after = IsSound rule after.0
