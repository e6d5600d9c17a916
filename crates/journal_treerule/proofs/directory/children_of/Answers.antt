use Rattle.std.proofs.Common.{sym, ◌∙◌, rules, ap, length}
use Rattle.std.specs.Prelude.{IfOk, MatchOption}
use Rattle.journal_tree.specs.declared.limits.TheConstants.{MOST_PLACES}
use Rattle.journal_treestore.specs.Inodes.{name_from}
use Rattle.journal_treestore.specs.Views.{held_of}
use Rattle.journal_treeobjects.specs.Maps.{view_of}
use Rattle.journal_treerule.specs.Directories.{IsSoundDirectory, AreChildren, HasFirstBlocks, HasLevels}
use Rattle.journal_treerule.proofs.Scanning.{at-before, seen-free, shown-used}
use Rattle.journal_treerule.proofs.EntryBlocks.{has-first, has-levels, no-entries-free, no-entries-file, nothing-listed}
use Rattle.journal_treerule.proofs.directory.children_of.Goals as goal

pub read-requires : goal.read-requires
read-requires g c = ap length c.bytes-bytes.ensures ∙ c.in_ok-value.ensures.length

pub returns-in-Free-clause-sound : goal.returns-in-Free-clause-sound
returns-in-Free-clause-sound g c = λ trusted right.
    nothing-listed (view_of c.args.cut (g.O.ObjectReader.map c.args.reader.now)) c.args.number _ (search rules)
    (no-entries-free (view_of c.args.cut (g.O.ObjectReader.map c.args.reader.now)) c.args.number _ (c.in_ok-value.ensures.inode trusted ∙ seen-free c.in_ok-value.value c.bytes-bytes.result.now c.read.result _ c.bytes-bytes.ensures c.read.ensures.read c.in-Free.is))

pub returns-then-not-is_directory-clause-sound : goal.returns-then-not-is_directory-clause-sound
returns-then-not-is_directory-clause-sound g c = λ trusted right.
    nothing-listed (view_of c.args.cut (g.O.ObjectReader.map c.args.reader.now)) c.args.number _ (search rules)
    (no-entries-file (view_of c.args.cut (g.O.ObjectReader.map c.args.reader.now)) c.args.number (held_of c.in-Used.head (name_from c.in_ok-value.value)) (c.in_ok-value.ensures.inode trusted ∙ shown-used c.in_ok-value.value c.bytes-bytes.result.now c.read.result c.in-Used.head c.bytes-bytes.ensures c.read.ensures.read c.in-Used.is)
    (sym c.is_directory.ensures ∙ c.if-not-is_directory.true))

pub returns-clause-sound : goal.returns-clause-sound
returns-clause-sound g c = λ trusted right.
    at-before (λ m. HasFirstBlocks (view_of c.args.cut m) c.args.number c.in-Used.head.blocks → HasLevels (view_of c.args.cut m) c.args.number c.in-Used.head.index
    → IfOk c.children_in.result (λ found. MatchOption found (IsSoundDirectory (view_of c.args.cut m) c.args.number → ⊥) (λ children. IsSoundDirectory (view_of c.args.cut m) c.args.number × AreChildren (view_of c.args.cut m) c.args.number MOST_PLACES children.items))) _ _ _ _
    c.read_inode.ensures.same_map c.read_inode.ensures.same_trust c.children_in.ensures.sound trusted
    (has-first (view_of c.args.cut (g.O.ObjectReader.map c.args.reader.now)) c.args.number c.in-Used.head (name_from c.in_ok-value.value) (c.in_ok-value.ensures.inode trusted ∙ shown-used c.in_ok-value.value c.bytes-bytes.result.now c.read.result c.in-Used.head c.bytes-bytes.ensures c.read.ensures.read c.in-Used.is)
    (sym c.is_directory.ensures ∙ c.if-not-is_directory.false) (right c.args.number c.requires.inside))
    (has-levels (view_of c.args.cut (g.O.ObjectReader.map c.args.reader.now)) c.args.number c.in-Used.head (name_from c.in_ok-value.value) (c.in_ok-value.ensures.inode trusted ∙ shown-used c.in_ok-value.value c.bytes-bytes.result.now c.read.result c.in-Used.head c.bytes-bytes.ensures c.read.ensures.read c.in-Used.is)
    (sym c.is_directory.ensures ∙ c.if-not-is_directory.false) (right c.args.number c.requires.inside))
