use Rattle.std.proofs.Common.{◌≡◌, ◌*◌, ◌+◌}
use Rattle.std.specs.Prelude.{IsTrue}
use Rattle.journal_treeobjects.specs.Maps.{view_of}
use Rattle.journal_treerule.specs.Directories.{AreBelow, IsListed, HasLevelsIn}
use Rattle.journal_treerule.proofs.directory.list_numbered.Given as goal

-- the entries of the blocks before this one are listed
abbrev pub invariant-loop-k : goal.invariant-loop-k
invariant-loop-k g l = record {
  same_map : g.O.ObjectReader.map l.reader ≡ g.O.ObjectReader.map l.fn.reader;
  same_trust : g.O.ObjectReader.trusted l.reader ≡ g.O.ObjectReader.trusted l.fn.reader;
  stays_failed : IsTrue (g.O.ObjectReader.failed l.fn.reader) → IsTrue (g.O.ObjectReader.failed l.reader);
  lists : IsTrue (g.O.ObjectReader.trusted l.fn.reader) → HasLevelsIn (view_of l.cut (g.O.ObjectReader.map l.fn.reader)) l.directory l.numbers
      → IsListed (view_of l.cut (g.O.ObjectReader.map l.fn.reader)) l.directory 24576 l.fn.children → IsListed (view_of l.cut (g.O.ObjectReader.map l.fn.reader)) l.directory (24576 + 512 * l.k) l.children;
  in_range : AreBelow l.cut.numbers l.fn.children.list.items → AreBelow l.cut.numbers l.children.list.items;
}
