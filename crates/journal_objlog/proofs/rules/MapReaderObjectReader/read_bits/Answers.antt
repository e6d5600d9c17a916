use Rattle.std.proofs.Common.{◌≡◌, Some, subst}
use Rattle.journal_world.specs.declared.address.Kind.TheVariants.{Bit}
use Rattle.journal_world.specs.Addresses.{Shape, kind_of}
use Rattle.journal_wal.specs.Wal.{blocks_now}
use Rattle.journal_tail.specs.MapLaws.{map_of-layout}
use Rattle.journal_objlog.proofs.Readings.{inside_bits, bits_read}
use Rattle.journal_objlog.proofs.rules.MapReaderObjectReader.read_bits.Goals as goal

pub keep_block-requires-clause-inside : goal.keep_block-requires-clause-inside
keep_block-requires-clause-inside g c =
    inside_bits g.O.Opening.layout g.O.Opening.log c.self.inside.objects.log c.self.invariant.1 c.self.invariant.2 c.args.addr
    (subst (λ (n : Shape). kind_of n c.args.addr.block ≡ Some Bit) (map_of-layout g.O.Opening.layout (blocks_now g.O.Opening.log)) c.requires.kind)
    c.requires.inside

pub returns-clause-bits : goal.returns-clause-bits
returns-clause-bits g c =
    bits_read g.O.Opening.layout g.O.Opening.log c.keep_block.new.objects.log c.self.invariant.1 c.keep_block.ensures.read c.args.addr
    (subst (λ (n : Shape). kind_of n c.args.addr.block ≡ Some Bit) (map_of-layout g.O.Opening.layout (blocks_now g.O.Opening.log)) c.requires.kind)
    c.requires.inside c.keep_block.new.kept.last.block c.bits_from.result c.bits_from.ensures c.in_ok-keep_block.ensures.block
