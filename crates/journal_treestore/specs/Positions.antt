-- Where entries are put: one at a position of a directory's block, or one at each of two.
use Rattle.std.specs.Prelude.{ℕ, ◌≡◌, ◌≢◌, ◌<◌, ◌+◌, ◌*◌, List, Option, Some, None}
use Rattle.journal_treestore.specs.declared.entry.TheConstants.{PLACES}
use Rattle.journal_treestore.specs.declared.entry.Entry.{Entry}
use Rattle.journal_treestore.specs.Entries.{with_entry}
use Rattle.journal_treestore.specs.Views.{Held, View, with_block, directory_block}

-- Entry q of block j of a directory, which is block b of the disk
pub record Position : Type 0 where
  pub j : ℕ
  pub q : ℕ
  pub b : ℕ

abbrev pub place_at : Position → ℕ
place_at p = PLACES * p.j + p.q

-- The directory has the block
pub record IsPosition (V : View) (h : Held) (p : Position) : Type 0 where
  pub is : directory_block V h p.j ≡ p.b
  pub some : p.b ≢ 0
  pub low : p.q < PLACES

-- an entry is put at a place of a block
abbrev pub with_put : View → ℕ → ℕ → Entry → View
with_put V b at e = with_block V b (with_entry (V.block b) at e)

-- other blocks, and all else as it is
abbrev pub with_blocks : View → (ℕ → List ℕ) → View
with_blocks V blocks = record { numbers = V.numbers; first_data = V.first_data; data_blocks = V.data_blocks; inode = V.inode; owner = V.owner; block = blocks }

-- an entry is put at a position, and at another too, if there is one
abbrev pub puts_blocks : View → Position → Option Position → Entry → ℕ → List ℕ
puts_blocks V p None e = (with_put V p.b p.q e).block
puts_blocks V p (Some more) e = (with_put (with_put V p.b p.q e) more.b more.q e).block

abbrev pub with_puts : View → Position → Option Position → Entry → View
with_puts V p more e = with_blocks V (puts_blocks V p more e)
