use Rattle.std.proofs.Common.{◌∙◌, ap, length}
use Rattle.journal_treestore.specs.Inodes.{name_from}
use Rattle.journal_treestore.specs.Views.{held_of}
use Rattle.journal_treeobjects.specs.Maps.{view_of}
use Rattle.journal_treerule.proofs.Disks.{inode-beyond}
use Rattle.journal_treerule.proofs.Scanning.{not-below, seen-free, seen-used}
use Rattle.journal_treerule.proofs.ListingScans.{named-none, named-free, named-elsewhere, named-here}
use Rattle.journal_treerule.proofs.entries.named_node.Goals as goal

pub read_inode-requires-clause-inside : goal.read_inode-requires-clause-inside
read_inode-requires-clause-inside g c = c.is_number.ensures.0 c.if-not-is_number.false

pub read-requires : goal.read-requires
read-requires g c = ap length c.bytes-bytes.ensures ∙ c.in_ok-inode.ensures.length

pub returns-then-not-is_number-clause-node : goal.returns-then-not-is_number-clause-node
returns-then-not-is_number-clause-node g c = λ trusted. named-none (view_of c.args.cut (g.O.ObjectReader.map c.args.reader.now)) c.args.at c.args.entry (inode-beyond c.args.cut (g.O.ObjectReader.map c.args.reader.now) c.args.entry.number (not-below c.args.entry.number c.args.cut.numbers c.is_number.result c.is_number.ensures c.if-not-is_number.true))

pub returns-in-Free-clause-node : goal.returns-in-Free-clause-node
returns-in-Free-clause-node g c = λ trusted. named-free (view_of c.args.cut (g.O.ObjectReader.map c.args.reader.now)) c.args.at c.args.entry _ (c.in_ok-inode.ensures.inode trusted ∙ seen-free c.in_ok-inode.inode c.bytes-bytes.result.now c.read.result _ c.bytes-bytes.ensures c.read.ensures.read c.in-Free.is)

pub returns-then-not-hangs_at-clause-node : goal.returns-then-not-hangs_at-clause-node
returns-then-not-hangs_at-clause-node g c = λ trusted. named-elsewhere (view_of c.args.cut (g.O.ObjectReader.map c.args.reader.now)) c.args.at c.args.entry (held_of c.in-Used.head c.name_in.result.now) c.hangs_at.result (c.in_ok-inode.ensures.inode trusted ∙ seen-used c.in_ok-inode.inode c.bytes-bytes.result.now c.name_in.result.now c.read.result c.in-Used.head c.bytes-bytes.ensures c.read.ensures.read c.in-Used.is c.name_in.ensures.read) c.hangs_at.ensures c.if-not-hangs_at.true

pub returns-else-not-hangs_at-clause-node : goal.returns-else-not-hangs_at-clause-node
returns-else-not-hangs_at-clause-node g c = λ trusted.
    named-here (view_of c.args.cut (g.O.ObjectReader.map c.args.reader.now)) c.args.at c.args.entry c.in-Used.head c.name_in.result.now c.in_ok-inode.inode c.hangs_at.result c.is_directory.result (c.in_ok-inode.ensures.inode trusted ∙ seen-used c.in_ok-inode.inode c.bytes-bytes.result.now c.name_in.result.now c.read.result c.in-Used.head c.bytes-bytes.ensures c.read.ensures.read c.in-Used.is c.name_in.ensures.read)
    c.requires.some (c.name_in.ensures.read ∙ ap name_from c.bytes-bytes.ensures) c.hangs_at.ensures c.if-not-hangs_at.false c.is_directory.ensures
