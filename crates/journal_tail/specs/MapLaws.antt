-- Laws of every map of blocks.
use Rattle.std.proofs.Common.{◌≡◌, Bool, true, false, cond, IsTrue, List, [], ◌∷◌, refl}
use Rattle.std.specs.List.{list_all, filter}
use Rattle.std.proofs.lemmas.Bool.{and_from}
use Rattle.journal_world.specs.Addresses.{Shape}
use Rattle.journal_world.specs.Maps.{Pair, is_object, are_objects}
use Rattle.journal_block.specs.Updates.{Content}
use Rattle.journal_object.specs.Objects.{map_of_blocks}
use Rattle.journal_tail.specs.Maps.{map_of}

all_kept : (test : Pair → Bool) (ps : List Pair) → list_all test (filter test ps) ≡ true
all_kept test [] = refl
all_kept test (p ∷ ps) = by (test p) refl (all_kept test ps)
  where
    by : (kept : Bool) → test p ≡ kept → list_all test (filter test ps) ≡ true → list_all test (cond kept (p ∷ filter test ps) (filter test ps)) ≡ true
    by true is rest = and_from (test p) (list_all test (filter test ps)) is rest
    by false is rest = rest

-- it has the disk's layout
pub map_of-layout : (layout : Shape) (content : Content) → (map_of layout content).layout ≡ layout
unfolding map_of
map_of-layout layout content = refl

-- and its pairs are objects, so that each value is of its address's kind
pub map_of-objects : (layout : Shape) (content : Content) → IsTrue (are_objects (map_of layout content).layout (map_of layout content).pairs)
unfolding map_of
map_of-objects layout content = all_kept (is_object layout) (map_of_blocks layout content).pairs
