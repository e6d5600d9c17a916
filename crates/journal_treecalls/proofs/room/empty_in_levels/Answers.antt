use Rattle.journal_treecalls.proofs.Rooming.{level-few}
use Rattle.journal_treecalls.proofs.room.empty_in_levels.Goals as goal

pub place_in-requires-clause-few : goal.place_in-requires-clause-few
place_in-requires-clause-few g c = level-few c.args.numbers.now c.args.tag c.loop-level.level c.level_number-which.result c.level_number-which.ensures c.loop-level-test.true
