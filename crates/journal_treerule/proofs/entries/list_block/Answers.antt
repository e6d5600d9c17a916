use Rattle.std.proofs.Common.{◌+◌, sym, ◌∙◌, ap, length}
use Rattle.std.specs.Prelude.{IfOk}
use Rattle.journal_treeobjects.specs.Maps.{view_of}
use Rattle.journal_treerule.specs.Directories.{HasEntriesAt, ListsMore}
use Rattle.journal_treerule.proofs.Scanning.{at-before}
use Rattle.journal_treerule.proofs.EntryBlocks.{block-entries}
use Rattle.journal_treerule.proofs.ListingScans.{block-blank, block-elsewhere}
use Rattle.journal_treerule.proofs.entries.list_block.Goals as goal

pub read_block-requires-clause-first : goal.read_block-requires-clause-first
read_block-requires-clause-first g c = (c.is_data.ensures.0 c.if-not-is_data.false).0

pub read_block-requires-clause-last : goal.read_block-requires-clause-last
read_block-requires-clause-last g c = (c.is_data.ensures.0 c.if-not-is_data.false).1

pub list_entries-requires-clause-whole : goal.list_entries-requires-clause-whole
list_entries-requires-clause-whole g c = ap length c.bytes.ensures ∙ c.in_ok-entries.ensures.length

pub returns-then-block-eq0-clause-lists : goal.returns-then-block-eq0-clause-lists
returns-then-block-eq0-clause-lists g c = λ trusted has. block-blank (view_of c.args.cut (g.O.ObjectReader.map c.args.reader.now)) c.args.first.directory c.args.first.place c.args.block c.args.children.now c.if-block-eq0.true has

pub returns-then-not-is_data-clause-lists : goal.returns-then-not-is_data-clause-lists
returns-then-not-is_data-clause-lists g c = λ trusted has.
    block-elsewhere c.args.cut (g.O.ObjectReader.map c.args.reader.now) c.args.first.directory c.args.first.place c.args.block c.args.children.now c.args.children.now c.is_data.result c.requires.cut c.is_data.ensures c.if-not-is_data.true c.if-block-eq0.false has

pub returns-clause-lists : goal.returns-clause-lists
returns-clause-lists g c = λ trusted has.
    at-before (λ m. HasEntriesAt (view_of c.args.cut m) c.args.first.directory c.args.first.place c.bytes.result.now
    → IfOk c.list_entries.result (ListsMore (view_of c.args.cut m) c.args.first.directory c.args.first.place (c.args.first.place + 512) c.args.children.now c.list_entries.new.children)) _ _ _ _
    c.read_block.ensures.same_map c.read_block.ensures.same_trust c.list_entries.ensures.lists trusted
    (block-entries (view_of c.args.cut (g.O.ObjectReader.map c.args.reader.now)) c.args.first.directory c.args.first.place c.args.block c.bytes.result.now c.if-block-eq0.false (c.in_ok-entries.ensures.block trusted ∙ sym c.bytes.ensures) has)
