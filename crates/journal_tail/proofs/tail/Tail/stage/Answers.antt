use Rattle.std.proofs.Common.{◌∷◌, [], sym, ap, ◌∙◌}
use Rattle.std.specs.Iterator.Adapters.{rev_source}
use Rattle.journal_world.specs.Files.{shape}
use Rattle.journal_world.specs.Maps.{Pair}
use Rattle.journal_tail.specs.ObjectTails.{known_updates, tail_base}
use Rattle.journal_tail.specs.Applying.{fresh_writes}
use Rattle.journal_memlog.specs.Logs.{tail_of}
use Rattle.journal_tail.proofs.TailStaging.{some_first, tail_below, tail_present, tail_staged_on, tail_passed, tail_staging_begins}
use Rattle.journal_tail.proofs.tail.Tail.stage.Goals as goal

pub loop-addr-init : goal.loop-addr-init
loop-addr-init c = (
  [],
  tail_staging_begins (shape c.args.layout.now) c.args.self.now c.args.fetched.now c.args.writes.now (rev_source c.into_iter-addr-iterator.result)
      c.new-updates.result
      (ap rev_source c.into_iter-addr-iterator.ensures.into_iter_gives ∙ c.rev-addr-items.ensures.source ∙ c.iter.ensures.pairs)
      c.new-updates.ensures c.requires.objects,
)

pub open_block-requires-clause-present : goal.open_block-requires-clause-present
open_block-requires-clause-present c =
    let p : Pair = (c.in-Some.addr.now, c.in-Some.value.now) in
    tail_present (tail_base (shape c.args.layout.now) c.args.fetched.now c.args.self.now) c.args.writes.now (rev_source c.loop-addr.addr-iterator) (rev_source c.next.new.self) c.loop-addr.invariant.0 p
    c.loop-addr.updates c.iter.ensures.ascending c.in-Some.ensures.steps c.loop-addr.invariant.1
    (known_updates c.args.fetched.now c.args.self.now) c.requires.present

pub store_first-requires-clause-some : goal.store_first-requires-clause-some
store_first-requires-clause-some c =
    let p : Pair = (c.in-Some.addr.now, c.in-Some.value.now) in
    let under = tail_below (tail_base (shape c.args.layout.now) c.args.fetched.now c.args.self.now) c.args.writes.now (rev_source c.loop-addr.addr-iterator) (rev_source c.next.new.self) c.loop-addr.invariant.0 p
    c.loop-addr.updates c.iter.ensures.ascending c.in-Some.ensures.steps c.loop-addr.invariant.1 in
    some_first c.open_block.new.updates c.in-Some.addr.now.block
    (c.in_ok-open_block.ensures.opened (fresh_writes (tail_of c.args.self.now.log) c.loop-addr.invariant.0) c.loop-addr.invariant.1.staged under.1 under.0).blocks.first

pub loop-addr-preserved : goal.loop-addr-preserved
loop-addr-preserved c =
    let p : Pair = (c.in-Some.addr.now, c.in-Some.value.now) in
    let under = tail_below (tail_base (shape c.args.layout.now) c.args.fetched.now c.args.self.now) c.args.writes.now (rev_source c.loop-addr.addr-iterator) (rev_source c.next.new.self) c.loop-addr.invariant.0 p
    c.loop-addr.updates c.iter.ensures.ascending c.in-Some.ensures.steps c.loop-addr.invariant.1 in (
      p ∷ c.loop-addr.invariant.0,
      tail_staged_on (tail_base (shape c.args.layout.now) c.args.fetched.now c.args.self.now) c.args.writes.now (rev_source c.loop-addr.addr-iterator) (rev_source c.next.new.self) c.loop-addr.invariant.0 p
          c.loop-addr.updates c.iter.ensures.ascending c.in-Some.ensures.steps c.loop-addr.invariant.1
          (sym c.has_tail_block.ensures.stands ∙ c.if-has_tail_block.false) c.open_block.new.updates c.store_first.new.self
          (c.in_ok-open_block.ensures.opened (fresh_writes (tail_of c.args.self.now.log) c.loop-addr.invariant.0) c.loop-addr.invariant.1.staged under.1 under.0)
          c.store_first.ensures.stored c.store_first.ensures.only,
    )

pub loop-addr-preserved-then-has_tail_block : goal.loop-addr-preserved-then-has_tail_block
loop-addr-preserved-then-has_tail_block c =
    let p : Pair = (c.in-Some.addr.now, c.in-Some.value.now) in (
      p ∷ c.loop-addr.invariant.0,
      tail_passed (tail_base (shape c.args.layout.now) c.args.fetched.now c.args.self.now) c.args.writes.now (rev_source c.loop-addr.addr-iterator) (rev_source c.next.new.self) c.loop-addr.invariant.0 p
          c.loop-addr.updates c.iter.ensures.ascending c.in-Some.ensures.steps c.loop-addr.invariant.1
          (sym c.has_tail_block.ensures.stands ∙ c.if-has_tail_block.true) (c.has_tail_block.ensures.value c.if-has_tail_block.true),
    )
