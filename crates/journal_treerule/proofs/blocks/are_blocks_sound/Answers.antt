use Rattle.std.proofs.Common.{ap, ◌∙◌}
use Rattle.std.specs.Prelude.{◌↔◌, ◌≢◌, IfOk, IsTrue}
use Rattle.std.proofs.lemmas.Result.{IfOk-weaker}
use Rattle.journal_world.specs.Maps.{Map}
use Rattle.journal_treeobjects.specs.Maps.{view_of}
use Rattle.journal_treerule.specs.Parts.{IsSoundIndex}
use Rattle.journal_treerule.proofs.Scanning.{at-before, first-fails, index-decides}
use Rattle.journal_treerule.proofs.blocks.are_blocks_sound.Goals as goal

pub returns-then-not-are_sound-clause-sound : goal.returns-then-not-are_sound-clause-sound
returns-then-not-are_sound-clause-sound g c = λ trusted. first-fails (view_of c.args.cut (g.O.ObjectReader.map c.args.reader.now)) c.args.number c.args.head.now.size c.args.head.now _ (c.in_ok-are_sound.ensures.sound trusted) c.if-not-are_sound.true

pub is_index_sound-requires-clause-layout : goal.is_index_sound-requires-clause-layout
is_index_sound-requires-clause-layout g c = ap (λ (m : Map). m.layout) c.are_first_blocks_sound.ensures.same_map ∙ c.requires.layout

pub returns-clause-sound : goal.returns-clause-sound
returns-clause-sound g c = λ trusted.
    IfOk-weaker c.is_index_sound.result _ _
    (λ b sound. index-decides (view_of c.args.cut (g.O.ObjectReader.map c.args.reader.now)) c.args.number c.args.head.now.size c.args.head.now b ((c.in_ok-are_sound.ensures.sound trusted).0 c.if-not-are_sound.false) sound)
    (at-before (λ m. IfOk c.is_index_sound.result (λ b. IsTrue b ↔ (c.args.head.now.index ≢ 0 → IsSoundIndex (view_of c.args.cut m) c.args.number c.args.head.now.size c.args.head.now.index)))
    _ _ _ _ c.are_first_blocks_sound.ensures.same_map c.are_first_blocks_sound.ensures.same_trust c.is_index_sound.ensures.sound trusted)
