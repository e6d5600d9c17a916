use Rattle.std.proofs.Common.{◌+◌, ◌∷◌, ℕ, List, Some, not, sym, subst, ◌∙◌, arith}
use Rattle.std.specs.Iterator.Adapters.{rev_source}
use Rattle.std.proofs.lemmas.Bool.{false≢true}
use Rattle.journal_world.specs.declared.layout.TheConstants.{MAX_LAYOUT_BLOCKS}
use Rattle.journal_world.specs.Maps.{Pair}
use Rattle.journal_memlog.specs.Logs.{tail_of}
use Rattle.journal_tail.proofs.Counting.{IsCounted, bounded_le, one_at_most, counted_first, counted_more}
use Rattle.journal_tail.proofs.tail.Tail.count_blocks.Goals as goal

pub loop-addr-preserved-then-is_block : goal.loop-addr-preserved-then-is_block
loop-addr-preserved-then-is_block c =
    let done : List Pair = c.loop-addr.invariant.0 in
    let p : Pair = (c.in-Some.addr.now, c.in-Some.field-0-1.now) in (
      p ∷ done,
      counted_first (tail_of c.args.self.now.log) MAX_LAYOUT_BLOCKS c.args.writes.now (rev_source c.loop-addr.addr-iterator) (rev_source c.next.new.self) done p
          c.loop-addr.last c.loop-addr.blocks c.loop-addr.fresh
          c.iter.ensures.ascending c.in-Some.ensures.steps c.loop-addr.invariant.1 (c.is_block.ensures.0 c.if-is_block.true),
    )

pub loop-addr-preserved : goal.loop-addr-preserved
loop-addr-preserved c =
    let done : List Pair = c.loop-addr.invariant.0 in
    let p : Pair = (c.in-Some.addr.now, c.in-Some.field-0-1.now) in (
      p ∷ done,
      subst (λ (k : ℕ). IsCounted (tail_of c.args.self.now.log) MAX_LAYOUT_BLOCKS c.args.writes.now (rev_source c.next.new.self) (p ∷ done)
          (Some c.in-Some.addr.now.block) (c.loop-addr.blocks + 1) (c.loop-addr.fresh + k)) (sym c.from-fresh.ensures)
          (counted_more (tail_of c.args.self.now.log) MAX_LAYOUT_BLOCKS c.args.writes.now (rev_source c.loop-addr.addr-iterator) (rev_source c.next.new.self) done p
          c.loop-addr.last c.loop-addr.blocks c.loop-addr.fresh
          c.iter.ensures.ascending c.in-Some.ensures.steps c.loop-addr.invariant.1
          (λ is. false≢true (sym c.if-is_block.false ∙ c.is_block.ensures.1 is))
          c.is_in_tail.result c.is_in_tail.ensures),
    )

pub overflow_add-blocks : goal.overflow_add-blocks
overflow_add-blocks c = omega (arith, bounded_le MAX_LAYOUT_BLOCKS _ c.loop-addr.blocks c.loop-addr.invariant.1.bound)

pub overflow_add-fresh : goal.overflow_add-fresh
overflow_add-fresh c = omega (
  arith,
  c.from-fresh.ensures,
  one_at_most (not c.is_in_tail.result),
  c.loop-addr.invariant.1.fewer,
  bounded_le MAX_LAYOUT_BLOCKS _ c.loop-addr.blocks c.loop-addr.invariant.1.bound,
)
