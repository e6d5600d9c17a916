use Rattle.std.proofs.Common.{◌≡◌, List, None, IsTrue, All}
use Rattle.std.specs.Vec.Iter.{into_iter_items}
use Rattle.journal_world.specs.Addresses.{Shape}
use Rattle.journal_world.specs.Maps.{Pair, value_among, is_object, are_objects}
use Rattle.journal_twophase.specs.Prefetches.{onto, IsAmong}
use Rattle.journal_twophase.proofs.prefetch.add_all.Given as goal

-- where the rest leads from what is found now, all lead there from what was found before
abbrev pub invariant-loop-pair : goal.invariant-loop-pair
invariant-loop-pair l = record {
  found : (after : List Pair) → IsAmong after (onto (into_iter_items l.pair-iterator) l.found) → IsAmong after (onto l.fn.read.items l.fn.found);
  kept : IsAmong l.fn.found l.found;
  absent : All (λ p. value_among l.fn.found p.0 ≡ None) (into_iter_items l.pair-iterator);
  objects : (layout : Shape) → IsTrue (are_objects layout l.fn.found) → All (λ p. IsTrue (is_object layout p)) l.fn.read.items
      → IsTrue (are_objects layout l.found) × All (λ p. IsTrue (is_object layout p)) (into_iter_items l.pair-iterator);
}
