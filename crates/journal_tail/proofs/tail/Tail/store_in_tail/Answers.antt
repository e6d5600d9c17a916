use Rattle.std.proofs.Common.{rules, ◌≡◌, sym, ap}
use Rattle.journal_world.specs.Addresses.{Shape}
use Rattle.journal_world.specs.Files.{shape}
use Rattle.journal_memlog.specs.Logs.{LogState}
use Rattle.journal_object.specs.Objects.{with_object_at}
use Rattle.journal_tail.proofs.InPlace.{stored_there, stored_away}
use Rattle.journal_tail.proofs.tail.Tail.store_in_tail.Goals as goal

pub returns-in-Some : goal.returns-in-Some
returns-in-Some c =
    let t = c.args.self.now in
    ap (λ (l : LogState). record t { log = l })
    (stored_there n t.log c.place_in_tail.ensures.sound c.args.addr c.args.value.now c.in-Some.position c.in-Some.ensures.place
    c.tail_block-block.result.now c.store_valid.new.block c.tail_block-block.ensures.content
    stored)
  where
    n : Shape
    n = shape c.args.layout.now

    stored : c.store_valid.new.block ≡ with_object_at n c.tail_block-block.result.now c.args.addr c.args.value.now
    stored = search rules

pub returns-in_default : goal.returns-in_default
returns-in_default c =
    let t = c.args.self.now in
    ap (λ (l : LogState). record t { log = l }) (sym (stored_away (shape c.args.layout.now) t.log c.args.addr c.args.value.now (sym c.in_default.ensures.found)))
