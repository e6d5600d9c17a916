-- How long the results of listings are.
use Rattle.std.specs.Prelude.{ℕ, ◌≤◌, length, flat_map, map, Ok}
use Rattle.journal_xdr.specs.Lists.{link_text}
use Rattle.journal_tree.specs.declared.caller.Caller.{Caller}
use Rattle.journal_tree.specs.declared.reply.Handle.{Handle}
use Rattle.journal_tree.specs.declared.time.Time.{Time}
use Rattle.journal_tree.specs.Listing.{FRAME_BYTES, Listed, ListedPlus}
use Rattle.journal_tree.specs.Op.{Op, readdir, readdirplus, listed, listed_plus}
use Rattle.journal_tree.specs.Trees.{Tree}
use Rattle.journal_nfs3_wire.specs.QueryResults.{entry, page_results}
use Rattle.journal_treewire.specs.Profile.{entry_of, list_of, list_plus_of}
use Rattle.journal_treewire.specs.Results.{entry_plus}

-- The results of READDIR have at most as many bytes after their status as are asked for, if these
-- are enough for a listing without lines
abbrev pub ListingsFit : Type 0
ListingsFit =
    (disk : ℕ) (h : Handle) (cookie most : ℕ) (c : Caller) (now : Time) (T T2 : Tree) (l : Listed) → FRAME_BYTES ≤ most → Op (readdir h cookie most) c now T (listed (Ok l)) T2
    → length ((page_results entry).spelling (list_of disk l)) ≤ most

-- and those of READDIRPLUS
abbrev pub PlusListingsFit : Type 0
PlusListingsFit =
    (disk : ℕ) (h : Handle) (cookie names most : ℕ) (c : Caller) (now : Time) (T T2 : Tree) (l : ListedPlus) → FRAME_BYTES ≤ most → Op (readdirplus h cookie names most) c now T (listed_plus (Ok l)) T2
    → length ((page_results entry_plus).spelling (list_plus_of disk l)) ≤ most

-- The lines of READDIRPLUS, with their numbers, names and cookies alone, have at most as many bytes
-- as are asked for of these
abbrev pub PlusNamesFit : Type 0
PlusNamesFit =
    (h : Handle) (cookie names most : ℕ) (c : Caller) (now : Time) (T T2 : Tree) (l : ListedPlus) → Op (readdirplus h cookie names most) c now T (listed_plus (Ok l)) T2
    → length (flat_map (link_text entry.spelling) (map entry_of l.page.items)) ≤ names
