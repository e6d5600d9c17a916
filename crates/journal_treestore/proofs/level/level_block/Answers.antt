use Rattle.std.proofs.Common.{◌≡◌, ◌<◌, ◌+◌, ◌%◌, ap, subst, sym, arith, ◌∙◌}
use Rattle.journal_treestore.specs.Levels.{level_begin, level_block}
use Rattle.journal_treestore.proofs.Leveling.{width-some, level-low}
use Rattle.journal_treestore.proofs.level.level_block.Goals as goal

pub nonzero_rem-result : goal.nonzero_rem-result
nonzero_rem-result c = subst (λ n. 0 < n) (sym c.level_width.ensures) (width-some c.args.level)

pub overflow_add-result : goal.overflow_add-result
overflow_add-result c =
    let is : c.level_begin.result + c.from.result % c.level_width.result ≡ level_block c.args.tag c.args.level =
    ap (λ n. n + c.from.result % c.level_width.result) c.level_begin.ensures
    ∙ ap (λ n. level_begin c.args.level + n % c.level_width.result) c.from.ensures
    ∙ ap (λ n. level_begin c.args.level + c.args.tag % n) c.level_width.ensures in
    let low = level-low c.args.tag c.args.level c.requires in
    omega (arith, is, low)
