use Rattle.std.proofs.Common.{◌∙◌, ◌<◌, ap, subst, rules, ◌≡◌, length}
use Rattle.std.specs.Prelude.{IfSome, MatchOption}
use Rattle.journal_treestore.specs.Inodes.{name_from}
use Rattle.journal_treestore.specs.Views.{homes}
use Rattle.journal_treeobjects.specs.Maps.{view_of}
use Rattle.journal_treerule.specs.declared.entries.NamedNode.{NamedNode}
use Rattle.journal_treerule.specs.Directories.{IsEntryIn, IsNamedBy}
use Rattle.journal_treerule.proofs.Scanning.{fails-test}
use Rattle.journal_treerule.proofs.ListingScans.{lists-blank, lists-stained, lists-loose, lists-second, lists-own, below-more}
use Rattle.journal_treerule.proofs.entries.list_entry.Goals as goal

pub named_node-requires-clause-some : goal.named_node-requires-clause-some
named_node-requires-clause-some g c = c.has_number.ensures.0 c.if-not-has_number.false

pub name_in-name-requires : goal.name_in-name-requires
name_in-name-requires g c = ap length c.bytes.ensures ∙ subst (λ o. IfSome o (λ (x : NamedNode). length x.inode ≡ 512)) c.in-Some.is c.in_ok-node.ensures.length

pub returns-then-is_blank-clause-lists : goal.returns-then-is_blank-clause-lists
returns-then-is_blank-clause-lists g c = λ trusted is. lists-blank (view_of c.args.cut (g.O.ObjectReader.map c.args.reader.now)) c.args.at c.args.entry c.args.children.now c.args.children.now is c.is_blank.result c.is_blank.ensures c.if-is_blank.true

pub returns-then-not-has_number-clause-lists : goal.returns-then-not-has_number-clause-lists
returns-then-not-has_number-clause-lists g c = λ trusted is. lists-stained (view_of c.args.cut (g.O.ObjectReader.map c.args.reader.now)) c.args.at c.args.entry c.args.children.now c.args.children.now is c.is_blank.result c.has_number.result c.is_blank.ensures c.if-is_blank.false c.has_number.ensures c.if-not-has_number.true

pub returns-in_default-clause-lists : goal.returns-in_default-clause-lists
returns-in_default-clause-lists g c = λ trusted is.
    lists-loose (view_of c.args.cut (g.O.ObjectReader.map c.args.reader.now)) c.args.at c.args.entry c.args.children.now c.args.children.now is (c.has_number.ensures.0 c.if-not-has_number.false)
    (subst (λ o. MatchOption o (IsEntryIn (homes (view_of c.args.cut (g.O.ObjectReader.map c.args.reader.now))) c.args.at.directory c.args.at.place c.args.entry → ⊥) (IsNamedBy (view_of c.args.cut (g.O.ObjectReader.map c.args.reader.now)) c.args.at c.args.entry)) c.in_default.is (c.in_ok-node.ensures.node trusted))

pub returns-then-not-is_at-clause-lists : goal.returns-then-not-is_at-clause-lists
returns-then-not-is_at-clause-lists g c = λ trusted is. lists-second (view_of c.args.cut (g.O.ObjectReader.map c.args.reader.now)) c.args.at c.args.entry c.args.children.now _ is c.in-Some.node (subst (λ o. MatchOption o (IsEntryIn (homes (view_of c.args.cut (g.O.ObjectReader.map c.args.reader.now))) c.args.at.directory c.args.at.place c.args.entry → ⊥) (IsNamedBy (view_of c.args.cut (g.O.ObjectReader.map c.args.reader.now)) c.args.at c.args.entry)) c.in-Some.is (c.in_ok-node.ensures.node trusted)) c.name_in-name.result.now (c.name_in-name.ensures.read ∙ ap name_from c.bytes.ensures)
    (fails-test c.is_at.result c.is_at.ensures c.if-not-is_at.true) c.in_ok-is_new.ensures.names (search rules) (search rules) (search rules) c.in_ok-is_new.is_new c.in_ok-is_new.ensures.added

pub returns-clause-lists : goal.returns-clause-lists
returns-clause-lists g c = λ trusted is. lists-own (view_of c.args.cut (g.O.ObjectReader.map c.args.reader.now)) c.args.at c.args.entry c.args.children.now _ is c.in-Some.node (subst (λ o. MatchOption o (IsEntryIn (homes (view_of c.args.cut (g.O.ObjectReader.map c.args.reader.now))) c.args.at.directory c.args.at.place c.args.entry → ⊥) (IsNamedBy (view_of c.args.cut (g.O.ObjectReader.map c.args.reader.now)) c.args.at c.args.entry)) c.in-Some.is (c.in_ok-node.ensures.node trusted)) c.name_in-name.result.now (c.name_in-name.ensures.read ∙ ap name_from c.bytes.ensures)
    (c.is_at.ensures.0 c.if-not-is_at.false) c.is_home_for-stands.result c.is_home_for-stands.ensures c.in_ok-is_new-2.ensures.names c.in_ok-is_new-2.ensures.seconds c.in_ok-is_new-2.is_new c.in_ok-is_new-2.ensures.added c.in_ok-is_new-2.ensures.list c.in_ok-is_new-2.ensures.needing

pub returns-clause-in_range : goal.returns-clause-in_range
returns-clause-in_range g c = λ below. below-more c.args.cut.numbers c.args.children.now.list.items _ c.in-Some.node.child c.in_ok-is_new-2.is_new below c.in_ok-is_new-2.ensures.list (subst (λ o. IfSome o (λ (x : NamedNode). x.child.number < c.args.cut.numbers)) c.in-Some.is c.in_ok-node.ensures.in_range)
