use Rattle.std.proofs.Common.{◌≡◌, ◌+◌}
use Rattle.std.specs.Prelude.{IsTrue}
use Rattle.journal_treeobjects.specs.Maps.{view_of}
use Rattle.journal_treerule.specs.Directories.{AreBelow, IsListed, HasEntriesAt}
use Rattle.journal_treerule.proofs.entries.list_entries.Given as goal

-- the entries before this one are listed
abbrev pub invariant-loop-at : goal.invariant-loop-at
invariant-loop-at g l = record {
  same_map : g.O.ObjectReader.map l.reader ≡ g.O.ObjectReader.map l.fn.reader;
  same_trust : g.O.ObjectReader.trusted l.reader ≡ g.O.ObjectReader.trusted l.fn.reader;
  stays_failed : IsTrue (g.O.ObjectReader.failed l.fn.reader) → IsTrue (g.O.ObjectReader.failed l.reader);
  lists : IsTrue (g.O.ObjectReader.trusted l.fn.reader) → HasEntriesAt (view_of l.cut (g.O.ObjectReader.map l.fn.reader)) l.first.directory l.first.place l.entries
      → IsListed (view_of l.cut (g.O.ObjectReader.map l.fn.reader)) l.first.directory l.first.place l.fn.children → IsListed (view_of l.cut (g.O.ObjectReader.map l.fn.reader)) l.first.directory (l.first.place + l.at) l.children;
  in_range : AreBelow l.cut.numbers l.fn.children.list.items → AreBelow l.cut.numbers l.children.list.items;
}
