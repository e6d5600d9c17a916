use Rattle.std.proofs.Common.{◌∙◌, false, refl, ap}
use Rattle.journal_treeobjects.specs.Maps.{view_of}
use Rattle.journal_treerule.proofs.Listing.{listed-none}
use Rattle.journal_treerule.proofs.ListingScans.{first-fails, levels-fail, levels-listed, lists-all, lacks-second}
use Rattle.journal_world.specs.Maps.{Map}
use Rattle.journal_treerule.proofs.directory.children_in.Goals as goal

pub list_levels-requires-clause-layout : goal.list_levels-requires-clause-layout
list_levels-requires-clause-layout g c = ap (λ (m : Map). m.layout) c.list_first.ensures.same_map ∙ c.requires.layout

pub returns-then-not-is_sound-clause-sound : goal.returns-then-not-is_sound-clause-sound
returns-then-not-is_sound-clause-sound g c = λ trusted has levels.
    first-fails c.args.cut (g.O.ObjectReader.map c.args.reader.now) (g.O.ObjectReader.map c.args.reader.now) (g.O.ObjectReader.trusted c.args.reader.now) (g.O.ObjectReader.trusted c.args.reader.now) refl refl c.args.directory c.args.head.now.index c.args.head.now.blocks c.new-children.result _ c.new-children.result _ false c.in_ok-is_sound.ensures.lists
    (listed-none (view_of c.args.cut (g.O.ObjectReader.map c.args.reader.now)) c.args.directory c.new-children.result c.new-children.ensures.list c.new-children.ensures.names c.new-children.ensures.needing c.new-children.ensures.seconds) c.if-not-is_sound.true trusted has

pub returns-then-not-are_sound-clause-sound : goal.returns-then-not-are_sound-clause-sound
returns-then-not-are_sound-clause-sound g c = λ trusted has levels.
    levels-fail c.args.cut (g.O.ObjectReader.map c.args.reader.now) _ _ _ c.list_first.ensures.same_map c.list_first.ensures.same_trust c.args.directory c.args.head.now.index c.args.head.now.blocks c.new-children.result _ _ _ _ c.in_ok-is_sound.ensures.lists (listed-none (view_of c.args.cut (g.O.ObjectReader.map c.args.reader.now)) c.args.directory c.new-children.result c.new-children.ensures.list c.new-children.ensures.names c.new-children.ensures.needing c.new-children.ensures.seconds)
    c.if-not-is_sound.false c.in_ok-are_sound.ensures.lists c.if-not-are_sound.true trusted has levels

pub returns-then-not-have_seconds-clause-sound : goal.returns-then-not-have_seconds-clause-sound
returns-then-not-have_seconds-clause-sound g c = λ trusted has levels.
    lacks-second (view_of c.args.cut (g.O.ObjectReader.map c.args.reader.now)) c.args.directory _ (levels-listed c.args.cut (g.O.ObjectReader.map c.args.reader.now) _ _ _ c.list_first.ensures.same_map c.list_first.ensures.same_trust c.args.directory c.args.head.now.index c.args.head.now.blocks c.new-children.result _ _ _ _ c.in_ok-is_sound.ensures.lists (listed-none (view_of c.args.cut (g.O.ObjectReader.map c.args.reader.now)) c.args.directory c.new-children.result c.new-children.ensures.list c.new-children.ensures.names c.new-children.ensures.needing c.new-children.ensures.seconds)
    c.if-not-is_sound.false c.in_ok-are_sound.ensures.lists c.if-not-are_sound.false trusted has levels)
    c.are_within-have_seconds.result c.are_within-have_seconds.ensures c.if-not-have_seconds.true

pub returns-clause-sound : goal.returns-clause-sound
returns-clause-sound g c = λ trusted has levels.
    lists-all (view_of c.args.cut (g.O.ObjectReader.map c.args.reader.now)) c.args.directory _ (levels-listed c.args.cut (g.O.ObjectReader.map c.args.reader.now) _ _ _ c.list_first.ensures.same_map c.list_first.ensures.same_trust c.args.directory c.args.head.now.index c.args.head.now.blocks c.new-children.result _ _ _ _ c.in_ok-is_sound.ensures.lists (listed-none (view_of c.args.cut (g.O.ObjectReader.map c.args.reader.now)) c.args.directory c.new-children.result c.new-children.ensures.list c.new-children.ensures.names c.new-children.ensures.needing c.new-children.ensures.seconds)
    c.if-not-is_sound.false c.in_ok-are_sound.ensures.lists c.if-not-are_sound.false trusted has levels)
    c.are_within-have_seconds.result c.are_within-have_seconds.ensures c.if-not-have_seconds.false
