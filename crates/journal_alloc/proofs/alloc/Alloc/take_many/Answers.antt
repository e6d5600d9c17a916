use Rattle.std.proofs.Common.{◌≡◌, ◌+◌, ◌∙◌, arith}
use Rattle.journal_alloc.specs.Numbers.{free_count}
use Rattle.journal_alloc.proofs.Taking.{TakesMany-more, count_taken}
use Rattle.journal_alloc.proofs.alloc.Alloc.take_many.Goals as goal

pub loop-preserved : goal.loop-preserved
loop-preserved c =
    let fewer : free_count c.take_lowest.new.self + 1 ≡ free_count c.loop.self = count_taken _ _ _ c.take_lowest.ensures.lowest c.take_lowest.ensures.taken in (
      TakesMany-more _ _ _ _ _ _ _ _ c.loop.invariant.0 c.take_lowest.ensures.lowest c.take_lowest.ensures.taken c.push_reserved.ensures.items,
      omega (arith, fewer, c.loop.invariant.1),
      omega (arith, c.push_reserved.ensures.len, c.loop.invariant.2),
      c.push_reserved.ensures.capacity ∙ c.loop.invariant.3,
    )
