use Rattle.std.proofs.Common.{◌∙◌}
use Rattle.journal_world.specs.Files.{shape}
use Rattle.journal_treerule.proofs.Cutting.{guessed-made, guessed-grown}
use Rattle.journal_treerule.proofs.cut.guess.Goals as goal

pub returns-then-base-clause-found : goal.returns-then-base-clause-found
returns-then-base-clause-found c = λ d cut whole is.
    c.new.ensures
    ∙ guessed-made (shape c.args.layout.now) d cut whole is c.region_first-base.result c.numbers_between-numbers.result c.region_first-inodes.result c.region_first-data.result
    c.region_first-inodes.ensures c.region_first-data.ensures c.numbers_between-numbers.ensures.is c.region_first-base.ensures c.if-base.true

pub returns-clause-found : goal.returns-clause-found
returns-clause-found c = λ d cut whole is.
    guessed-grown (shape c.args.layout.now) d cut whole is c.region_first-base.result c.region_first-blocks.result c.numbers_between-numbers.result c.region_first-inodes.result c.region_first-data.result
    c.region_first-inodes.ensures c.region_first-data.ensures c.numbers_between-numbers.ensures.is c.region_first-base.ensures c.if-base.false c.region_first-blocks.ensures
