use Rattle.std.proofs.Common.{arith, ap, ◌∙◌}
use Rattle.journal_world.specs.Maps.{Map}
use Rattle.journal_treerule.specs.Parts.{IsSoundBlock}
use Rattle.journal_treerule.proofs.Scanning.{of-number, passed-more, passed-fails, passed-all}
use Rattle.journal_treerule.proofs.blocks.are_numbers_sound.Goals as goal

pub is_block_sound-requires-clause-layout : goal.is_block_sound-requires-clause-layout
is_block_sound-requires-clause-layout g c = ap (λ (m : Map). m.layout) c.loop-k.invariant.same_map ∙ c.requires.layout

pub returns-then-not-is_sound-clause-sound : goal.returns-then-not-is_sound-clause-sound
returns-then-not-is_sound-clause-sound g c = λ trusted. passed-fails _ _ _ _ _ _ _ _ c.loop-k.invariant _ (of-number (IsSoundBlock _ _ _) _ _ _ _ c.number_at.ensures c.in_ok-is_sound.ensures.sound) 1024 (omega arith) c.if-not-is_sound.true trusted

pub loop-k-preserved : goal.loop-k-preserved
loop-k-preserved g c =
    passed-more _ _ _ _ _ _ _ _ c.loop-k.invariant _ (of-number (IsSoundBlock _ _ _) _ _ _ _ c.number_at.ensures c.in_ok-is_sound.ensures.sound) _ _ _
    c.is_block_sound.ensures.same_map c.is_block_sound.ensures.same_trust c.is_block_sound.ensures.stays_failed c.if-not-is_sound.false

pub returns-clause-sound : goal.returns-clause-sound
returns-clause-sound g c = λ trusted. passed-all _ _ _ _ _ _ _ _ 1024 c.loop-k.invariant (omega arith) trusted
