use Rattle.std.proofs.Common.{IsTrue, IfOk, sym, subst, ◌∙◌}
use Rattle.journal_world.specs.Addresses.{Shape, is_valid}
use Rattle.journal_world.specs.Maps.{is_object}
use Rattle.journal_wal.specs.Wal.{blocks_now}
use Rattle.journal_tail.specs.MapLaws.{map_of-layout}
use Rattle.journal_objlog.proofs.Readings.{read_on, held_read, inside_read}
use Rattle.journal_objlog.proofs.rules.MapReaderObjectReader.read.Goals as goal

pub invariant_of-self : goal.invariant_of-self
invariant_of-self g c = (
  c.self.invariant.0,
  c.self.invariant.1,
  read_on g.O.Opening.log c.self.inside.objects.log c.read_block.new.self.log c.self.invariant.2 c.read_block.ensures.reads c.read_block.ensures.maps c.read_block.ensures.crash,
  held_read c.self.inside.objects.log c.read_block.new.self.log c.read_block.ensures.reads c.self.inside.kept.last.number c.self.inside.kept.last.block c.self.invariant.3,
  held_read c.self.inside.objects.log c.read_block.new.self.log c.read_block.ensures.reads c.self.inside.kept.earlier.number c.self.inside.kept.earlier.block c.self.invariant.4,
)

pub invariant_of-self-in-Some-Block : goal.invariant_of-self-in-Some-Block
invariant_of-self-in-Some-Block g c = (
  c.self.invariant.0,
  c.self.invariant.1,
  read_on g.O.Opening.log c.self.inside.objects.log c.read_block.new.self.log c.self.invariant.2 c.read_block.ensures.reads c.read_block.ensures.maps c.read_block.ensures.crash,
  held_read c.self.inside.objects.log c.read_block.new.self.log c.read_block.ensures.reads c.self.inside.kept.last.number c.self.inside.kept.last.block c.self.invariant.3,
  held_read c.self.inside.objects.log c.read_block.new.self.log c.read_block.ensures.reads c.self.inside.kept.earlier.number c.self.inside.kept.earlier.block c.self.invariant.4,
)

pub value_in-requires : goal.value_in-requires
value_in-requires g c =
    subst (λ (n : Shape). IsTrue (is_valid n c.args.addr)) (map_of-layout g.O.Opening.layout (blocks_now g.O.Opening.log) ∙ sym c.self.invariant.0) c.requires.valid

pub value_in-requires-2 : goal.value_in-requires-2
value_in-requires-2 g c =
    subst (λ (n : Shape). IsTrue (is_valid n c.args.addr)) (map_of-layout g.O.Opening.layout (blocks_now g.O.Opening.log) ∙ sym c.self.invariant.0) c.requires.valid

pub keep_block-requires-clause-inside : goal.keep_block-requires-clause-inside
keep_block-requires-clause-inside g c =
    inside_read g.O.Opening.layout g.O.Opening.log c.self.inside.objects.log c.self.invariant.1 c.self.invariant.2 c.args.addr
    (subst (λ (n : Shape). IsTrue (is_valid n c.args.addr)) (map_of-layout g.O.Opening.layout (blocks_now g.O.Opening.log)) c.requires.valid)

pub returns-in-Some-Block-clause-object : goal.returns-in-Some-Block-clause-object
returns-in-Some-Block-clause-object g c =
    subst (λ (n : Shape). IfOk c.value_in.result (λ value. IsTrue (is_object n (c.args.addr, value))))
    (c.self.invariant.0 ∙ sym (map_of-layout g.O.Opening.layout (blocks_now g.O.Opening.log))) c.value_in.ensures.object

pub returns-clause-object : goal.returns-clause-object
returns-clause-object g c =
    subst (λ (n : Shape). IfOk c.value_in-2.result (λ value. IsTrue (is_object n (c.args.addr, value))))
    (c.self.invariant.0 ∙ sym (map_of-layout g.O.Opening.layout (blocks_now g.O.Opening.log))) c.value_in-2.ensures.object
