use Rattle.std.proofs.Common.{◌≡◌, ap, ◌∙◌}
use Rattle.journal_world.specs.Maps.{Map}
use Rattle.journal_treeobjects.specs.Maps.{view_of}
use Rattle.journal_treerule.proofs.Scanning.{at-before, block-passes, block-fails}
use Rattle.journal_treerule.proofs.blocks.sound_block.Goals as goal

pub returns-then-not-is_sound-clause-sound : goal.returns-then-not-is_sound-clause-sound
returns-then-not-is_sound-clause-sound g c = λ trusted. block-fails c.args.cut (g.O.ObjectReader.map c.args.reader.now) c.args.size c.args.owner c.args.block c.requires.cut _ c.requires.some (c.in_ok-is_sound.ensures.sound trusted) c.if-not-is_sound.true

pub read_block-requires-clause-layout : goal.read_block-requires-clause-layout
read_block-requires-clause-layout g c = ap (λ (m : Map). m.layout) c.is_block_sound.ensures.same_map ∙ c.requires.layout

pub read_block-requires-clause-first : goal.read_block-requires-clause-first
read_block-requires-clause-first g c = (c.in_ok-is_sound.ensures.in_data c.if-not-is_sound.false c.requires.some).0

pub read_block-requires-clause-last : goal.read_block-requires-clause-last
read_block-requires-clause-last g c = (c.in_ok-is_sound.ensures.in_data c.if-not-is_sound.false c.requires.some).1

pub returns-clause-sound : goal.returns-clause-sound
returns-clause-sound g c = λ trusted. (
  block-passes c.args.cut (g.O.ObjectReader.map c.args.reader.now) c.args.size c.args.owner c.args.block c.requires.cut _ (c.in_ok-is_sound.ensures.sound trusted) c.if-not-is_sound.false c.requires.some,
  at-before (λ m. (view_of c.args.cut m).block c.args.block ≡ c.in_ok-value.value) _ _ _ _ c.is_block_sound.ensures.same_map c.is_block_sound.ensures.same_trust c.in_ok-value.ensures.block trusted,
)
