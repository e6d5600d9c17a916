use Rattle.std.proofs.Common.{◌≡◌, ◌*◌, ◌+◌}
use Rattle.std.specs.Prelude.{IsTrue}
use Rattle.journal_treeobjects.specs.Maps.{view_of}
use Rattle.journal_treerule.specs.Directories.{AreBelow, IsListed, HasFirstBlocks}
use Rattle.journal_treerule.proofs.directory.list_first.Given as goal

-- the entries of the blocks before this one are listed
abbrev pub invariant-loop-j : goal.invariant-loop-j
invariant-loop-j g l = record {
  same_map : g.O.ObjectReader.map l.reader ≡ g.O.ObjectReader.map l.fn.reader;
  same_trust : g.O.ObjectReader.trusted l.reader ≡ g.O.ObjectReader.trusted l.fn.reader;
  stays_failed : IsTrue (g.O.ObjectReader.failed l.fn.reader) → IsTrue (g.O.ObjectReader.failed l.reader);
  lists : IsTrue (g.O.ObjectReader.trusted l.fn.reader) → HasFirstBlocks (view_of l.cut (g.O.ObjectReader.map l.fn.reader)) l.directory l.blocks
      → IsListed (view_of l.cut (g.O.ObjectReader.map l.fn.reader)) l.directory 0 l.fn.children → IsListed (view_of l.cut (g.O.ObjectReader.map l.fn.reader)) l.directory (0 + 512 * l.j) l.children;
  in_range : AreBelow l.cut.numbers l.fn.children.list.items → AreBelow l.cut.numbers l.children.list.items;
}
