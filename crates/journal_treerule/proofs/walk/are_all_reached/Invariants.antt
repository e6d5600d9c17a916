use Rattle.std.proofs.Common.{◌≡◌, length}
use Rattle.std.specs.Prelude.{IsTrue}
use Rattle.journal_treeobjects.specs.Maps.{view_of}
use Rattle.journal_treerule.specs.Parts.{AreInodesRight, AreInUse}
use Rattle.journal_treerule.specs.Walks.{IsQueueBelow, IsWalked}
use Rattle.journal_treerule.proofs.walk.are_all_reached.Given as goal

-- so many directories of the queue were read
abbrev pub invariant-loop-done : goal.invariant-loop-done
invariant-loop-done g l = record {
  same_map : g.O.ObjectReader.map l.reader ≡ g.O.ObjectReader.map l.fn.reader;
  same_trust : g.O.ObjectReader.trusted l.reader ≡ g.O.ObjectReader.trusted l.fn.reader;
  stays_failed : IsTrue (g.O.ObjectReader.failed l.fn.reader) → IsTrue (g.O.ObjectReader.failed l.reader);
  long : length l.walk.waiting.items ≡ l.cut.numbers;
  below : IsQueueBelow l.cut.numbers l.walk.queue.items;
  walked : IsTrue (g.O.ObjectReader.trusted l.fn.reader) → AreInodesRight (view_of l.cut (g.O.ObjectReader.map l.fn.reader)) l.cut.numbers
      → AreInUse (view_of l.cut (g.O.ObjectReader.map l.fn.reader)) l.cut.numbers l.fn.waiting.items
      → IsWalked (view_of l.cut (g.O.ObjectReader.map l.fn.reader)) l.walk.waiting.items l.walk.queue.items l.done;
}
