use Rattle.std.proofs.Common.{rules, IsTrue}
use Rattle.journal_world.specs.declared.layout.TheConstants.{MAX_LAYOUT_BLOCKS}
use Rattle.journal_world.specs.Files.{shape}
use Rattle.journal_world.specs.Maps.{are_objects}
use Rattle.journal_tail.proofs.Counting.{are_below_most}
use Rattle.journal_tail.proofs.tail.Tail.check.Goals as goal

pub count_blocks-places-requires : goal.count_blocks-places-requires
count_blocks-places-requires c =
    let objects : IsTrue (are_objects (shape c.args.layout.now) c.args.writes.now) = search rules in
    are_below_most (shape c.args.layout.now) MAX_LAYOUT_BLOCKS c.args.layout.now.in_range.1 c.args.writes.now objects
