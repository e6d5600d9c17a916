use Rattle.std.proofs.Common.{arith, ap, ◌∙◌}
use Rattle.journal_world.specs.Maps.{Map}
use Rattle.journal_treerule.specs.Parts.{IsSoundIndexBlock}
use Rattle.journal_treerule.proofs.Scanning.{of-number, passed-more, passed-fails, passed-all}
use Rattle.journal_treerule.proofs.blocks.are_index_blocks_sound.Goals as goal

pub is_index_block_sound-requires-clause-layout : goal.is_index_block_sound-requires-clause-layout
is_index_block_sound-requires-clause-layout g c = ap (λ (m : Map). m.layout) c.loop-i.invariant.same_map ∙ c.requires.layout

pub returns-then-not-is_sound-clause-sound : goal.returns-then-not-is_sound-clause-sound
returns-then-not-is_sound-clause-sound g c = λ trusted. passed-fails _ _ _ _ _ _ _ _ c.loop-i.invariant _ (of-number (IsSoundIndexBlock _ _ _ _) _ _ _ _ c.number_at-block.ensures c.in_ok-is_sound.ensures.sound) 1024 (omega arith) c.if-not-is_sound.true trusted

pub loop-i-preserved : goal.loop-i-preserved
loop-i-preserved g c =
    passed-more _ _ _ _ _ _ _ _ c.loop-i.invariant _ (of-number (IsSoundIndexBlock _ _ _ _) _ _ _ _ c.number_at-block.ensures c.in_ok-is_sound.ensures.sound) _ _ _
    c.is_index_block_sound.ensures.same_map c.is_index_block_sound.ensures.same_trust c.is_index_block_sound.ensures.stays_failed c.if-not-is_sound.false

pub returns-clause-sound : goal.returns-clause-sound
returns-clause-sound g c = λ trusted. passed-all _ _ _ _ _ _ _ _ 1024 c.loop-i.invariant (omega arith) trusted
