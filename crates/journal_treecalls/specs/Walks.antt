-- The entries of a directory come onto a page, from a place on.
use Rattle.std.specs.Prelude.{ℕ, zero, suc, ◌≡◌, ◌≢◌, List, [], ◌++◌, Some}
use Rattle.journal_treestore.specs.declared.entry.Entry.{Entry}
use Rattle.journal_treestore.specs.declared.inode.Head.{Head}
use Rattle.journal_treestore.specs.Views.{View}
use Rattle.journal_treestore.specs.Sound.{IsSoundView}
use Rattle.journal_tree.specs.Listing.{Item}
use Rattle.journal_treecalls.specs.declared.lines.Line.{Line}
use Rattle.journal_treecalls.specs.declared.lines.Page.{Page}
use Rattle.journal_treecalls.specs.declared.seats.BlockNumbers.{BlockNumbers}
use Rattle.journal_treecalls.specs.Targets.{told_of}
use Rattle.journal_treecalls.specs.Seats.{number_of}
use Rattle.journal_treecalls.specs.Lines.{IsLine, Shows, item_by, item_from, items_in}

abbrev pub IsNodeLine : Line → ℕ → ℕ → Head → List ℕ → Type 0
IsNodeLine l cookie n h name = IsLine l cookie n name h.generation (Some (told_of n h))

-- of the first blocks of a directory, by their numbers
unfoldable pub all_items : View → ℕ → (ℕ → ℕ) → ℕ → List Item
all_items V begin number zero = []
all_items V begin number (suc j) = all_items V begin number j ++ items_in V begin (number j) j 512

abbrev pub ShowsEntry : View → ℕ → ℕ → Page → Page → Type 0
ShowsEntry V place n old new = IsSoundView V → Shows V old new (item_by (V.inode n) place n)

abbrev pub ShowsPlace : View → ℕ → ℕ → Entry → Page → Page → Type 0
ShowsPlace V begin place e old new = IsSoundView V → Shows V old new (item_from V begin place e)

abbrev pub ShowsBytes : View → ℕ → List ℕ → ℕ → ℕ → Page → Page → Type 0
ShowsBytes V begin v j at old new = IsSoundView V → (b : ℕ) → b ≢ 0 → V.block b ≡ v → Shows V old new (items_in V begin b j at)

abbrev pub ShowsBlock : View → ℕ → ℕ → ℕ → Page → Page → Type 0
ShowsBlock V begin b j old new = IsSoundView V → Shows V old new (items_in V begin b j 512)

abbrev pub ShowsBlocks : View → ℕ → BlockNumbers → ℕ → Page → Page → Type 0
ShowsBlocks V begin b j old new = IsSoundView V → Shows V old new (all_items V begin (number_of b) j)
