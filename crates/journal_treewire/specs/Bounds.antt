-- How many bytes and lines the answers of a tree have.
use Rattle.std.specs.Prelude.{ℕ, ◌≤◌, ◌*◌, min, length, Ok}
use Rattle.journal_tree.specs.declared.caller.Caller.{Caller}
use Rattle.journal_tree.specs.declared.limits.TheConstants.{MOST_LINK, TRANSFER_BYTES}
use Rattle.journal_tree.specs.declared.reply.Handle.{Handle}
use Rattle.journal_tree.specs.declared.time.Time.{Time}
use Rattle.journal_tree.specs.Contents.{Portion}
use Rattle.journal_tree.specs.Fit.{HasFit}
use Rattle.journal_tree.specs.Listing.{Listed, ListedPlus}
use Rattle.journal_tree.specs.Names.{LinkText}
use Rattle.journal_tree.specs.Op.{Op, readlink, read, readdir, readdirplus, link_read, bytes_read, listed, listed_plus}
use Rattle.journal_tree.specs.Trees.{Tree}

-- READ answers at most as many bytes as are asked for, and at most `TRANSFER_BYTES`
abbrev pub PartsAreShort : Type 0
PartsAreShort = (h : Handle) (offset count : ℕ) (c : Caller) (now : Time) (T T2 : Tree) (p : Portion) → Op (read h offset count) c now T (bytes_read (Ok p)) T2 → length p.bytes ≤ min count TRANSFER_BYTES

-- READLINK answers at most `MOST_LINK` bytes of a tree whose nodes are within their bounds, as
-- those of a disk are
abbrev pub TextsAreShort : Type 0
TextsAreShort = (h : Handle) (c : Caller) (now : Time) (T T2 : Tree) (l : LinkText) → HasFit T → Op (readlink h) c now T (link_read (Ok l)) T2 → length l.text ≤ MOST_LINK

-- READDIR answers at most a line for each 24 bytes that are asked for
abbrev pub ListingsAreFew : Type 0
ListingsAreFew = (h : Handle) (cookie most : ℕ) (c : Caller) (now : Time) (T T2 : Tree) (l : Listed) → Op (readdir h cookie most) c now T (listed (Ok l)) T2 → 24 * length l.page.items ≤ most

-- and so does READDIRPLUS
abbrev pub PlusListingsAreFew : Type 0
PlusListingsAreFew =
    (h : Handle) (cookie names most : ℕ) (c : Caller) (now : Time) (T T2 : Tree) (l : ListedPlus) → Op (readdirplus h cookie names most) c now T (listed_plus (Ok l)) T2 → 24 * length l.page.items ≤ most
