use Rattle.std.proofs.Common.{refl, sym, ◌∙◌}
use Rattle.journal_treestore.specs.Levels.IsBlockFor.{in_level}
use Rattle.journal_treestore.proofs.level.is_block_for.Goals as goal

pub returns-then-level_block-block : goal.returns-then-level_block-block
returns-then-level_block-block c = (λ _. in_level c.loop-level.level c.loop-level-test.true (sym c.if-level_block-block.true ∙ c.level_block.ensures), λ _. refl)
