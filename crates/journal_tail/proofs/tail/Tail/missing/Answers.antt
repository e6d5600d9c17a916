use Rattle.std.proofs.Common.{◌∷◌, sym, ◌∙◌}
use Rattle.std.specs.Iterator.Adapters.{rev_source}
use Rattle.std.proofs.lemmas.Bool.{false≢true}
use Rattle.journal_world.specs.Files.{shape}
use Rattle.journal_world.specs.Maps.{Pair}
use Rattle.journal_tail.specs.ObjectTails.{known_updates}
use Rattle.journal_tail.proofs.Missing.{listed_first, listed_missing}
use Rattle.journal_tail.proofs.tail.Tail.missing.Goals as goal

pub loop-addr-preserved-then-is_block : goal.loop-addr-preserved-then-is_block
loop-addr-preserved-then-is_block c =
    let p : Pair = (c.in-Some.addr.now, c.in-Some.field-0-1.now) in (
      p ∷ c.loop-addr.invariant.0,
      listed_first (shape c.args.layout.now) (known_updates c.args.fetched.now c.args.self.now) c.args.writes.now (rev_source c.loop-addr.addr-iterator) (rev_source c.next.new.self) c.loop-addr.invariant.0 p
          c.loop-addr.last c.loop-addr.blocks.items c.iter.ensures.ascending c.in-Some.ensures.steps c.loop-addr.invariant.1
          (c.is_block.ensures.0 c.if-is_block.true),
    )

pub loop-addr-preserved-in-Continue-1 : goal.loop-addr-preserved-in-Continue-1
loop-addr-preserved-in-Continue-1 c =
    let p : Pair = (c.in-Some.addr.now, c.in-Some.field-0-1.now) in (
      p ∷ c.loop-addr.invariant.0,
      listed_missing (shape c.args.layout.now) (known_updates c.args.fetched.now c.args.self.now) c.args.writes.now (rev_source c.loop-addr.addr-iterator) (rev_source c.next.new.self) c.loop-addr.invariant.0 p
          c.loop-addr.last c.loop-addr.blocks.items c.iter.ensures.ascending c.in-Some.ensures.steps c.loop-addr.invariant.1
          (λ is. false≢true (sym c.if-is_block.false ∙ c.is_block.ensures.1 is))
          (sym c.is_missing.ensures ∙ c.if-is_missing.true)
          c.push.new.self.items c.in_ok-push.ensures.items,
    )
