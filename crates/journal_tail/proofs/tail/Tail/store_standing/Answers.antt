use Rattle.std.proofs.Common.{◌∷◌, [], refl, ap, ◌∙◌}
use Rattle.std.specs.Iterator.Adapters.{rev_source}
use Rattle.journal_world.specs.Files.{shape}
use Rattle.journal_world.specs.Maps.{Pair}
use Rattle.journal_tail.proofs.InPlace.{storing_begins, storing_object, storing_more}
use Rattle.journal_tail.proofs.tail.Tail.store_standing.Goals as goal

pub loop-addr-init : goal.loop-addr-init
loop-addr-init c = (
  [],
  storing_begins (shape c.args.layout.now) c.args.self.now _ c.args.writes.now (rev_source c.into_iter-addr-iterator.result) refl
      (ap rev_source c.into_iter-addr-iterator.ensures.into_iter_gives ∙ c.rev-addr-items.ensures.source ∙ c.iter.ensures.pairs)
      c.requires,
)

pub store_in_tail-requires : goal.store_in_tail-requires
store_in_tail-requires c =
    let p : Pair = (c.in-Some.addr.now, c.in-Some.value.now) in
    storing_object (shape c.args.layout.now) c.args.self.now c.loop-addr.self c.args.writes.now (rev_source c.loop-addr.addr-iterator) (rev_source c.next.new.self) c.loop-addr.invariant.0 p
    c.in-Some.ensures.steps c.loop-addr.invariant.1

pub loop-addr-preserved : goal.loop-addr-preserved
loop-addr-preserved c =
    let p : Pair = (c.in-Some.addr.now, c.in-Some.value.now) in (
      p ∷ c.loop-addr.invariant.0,
      storing_more (shape c.args.layout.now) c.args.self.now c.loop-addr.self c.args.writes.now (rev_source c.loop-addr.addr-iterator) (rev_source c.next.new.self) c.loop-addr.invariant.0 p
          c.in-Some.ensures.steps c.loop-addr.invariant.1 c.bounds-bounds.ensures.sound
          c.store_in_tail.new.self c.store_in_tail.ensures,
    )
