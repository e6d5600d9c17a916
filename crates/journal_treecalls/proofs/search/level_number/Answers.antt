use Rattle.std.proofs.Common.{◌≡◌, ◌<◌, ◌≤◌, ◌+◌, ◌-◌, ◌*◌, length, arith}
use Rattle.journal_treestore.specs.Levels.{level_block}
use Rattle.journal_treestore.proofs.Leveling.{level-past, level-low}
use Rattle.journal_treecalls.proofs.search.level_number.Goals as goal

pub overflow_sub-j : goal.overflow_sub-j
overflow_sub-j c = let past = level-past c.args.tag c.args.level in let is = c.level_block-j.ensures in omega (arith, past, is)

pub number_at-requires : goal.number_at-requires
number_at-requires c =
    let low = level-low c.args.tag c.args.level c.requires.low in
    let is = c.level_block-j.ensures in
    let whole = c.requires.whole in
    omega (arith, low, is, whole)
