use Rattle.std.proofs.Common.{sym, ◌∙◌, ap, length}
use Rattle.std.specs.Prelude.{IfOk}
use Rattle.journal_treeobjects.specs.Maps.{view_of}
use Rattle.journal_treerule.specs.Directories.{HasLevelsAt, ListsMore}
use Rattle.journal_treerule.proofs.Scanning.{at-before}
use Rattle.journal_treerule.proofs.ListingScans.{levels-none, levels-elsewhere, levels-at}
use Rattle.journal_treerule.proofs.directory.list_levels.Goals as goal

pub read_block-requires-clause-first : goal.read_block-requires-clause-first
read_block-requires-clause-first g c = (c.is_data.ensures.0 c.if-not-is_data.false).0

pub read_block-requires-clause-last : goal.read_block-requires-clause-last
read_block-requires-clause-last g c = (c.is_data.ensures.0 c.if-not-is_data.false).1

pub returns-then-index-eq0-clause-lists : goal.returns-then-index-eq0-clause-lists
returns-then-index-eq0-clause-lists g c = λ trusted has. c.list_index.ensures.lists trusted (levels-none (view_of c.args.cut (g.O.ObjectReader.map c.args.reader.now)) c.args.directory c.args.index c.if-index-eq0.true has)

pub returns-then-not-is_data-clause-lists : goal.returns-then-not-is_data-clause-lists
returns-then-not-is_data-clause-lists g c = λ trusted has.
    levels-elsewhere c.args.cut (g.O.ObjectReader.map c.args.reader.now) c.args.directory c.args.index c.args.children.now c.args.children.now c.is_data.result c.requires.cut c.is_data.ensures c.if-not-is_data.true c.if-index-eq0.false has.there

pub returns-clause-lists : goal.returns-clause-lists
returns-clause-lists g c = λ trusted has.
    at-before (λ m. HasLevelsAt (view_of c.args.cut m) c.args.directory c.number_at-block.result
    → IfOk c.list_index-2.result (ListsMore (view_of c.args.cut m) c.args.directory 24576 198656 c.args.children.now c.list_index-2.new.children)) _ _ _ _
    c.read_block.ensures.same_map c.read_block.ensures.same_trust c.list_index-2.ensures.lists trusted
    (levels-at (view_of c.args.cut (g.O.ObjectReader.map c.args.reader.now)) c.args.directory c.args.index c.number_at-block.result c.bytes.result.now c.if-index-eq0.false (c.in_ok-numbers.ensures.block trusted ∙ sym c.bytes.ensures) c.number_at-block.ensures has)
