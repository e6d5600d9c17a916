use Rattle.std.proofs.Common.{◌≡◌, length, Some, IsTrue, refl, sym, subst, rules}
use Rattle.journal_world.specs.Addresses.{Shape, is_valid}
use Rattle.journal_world.specs.Files.{shape}
use Rattle.journal_world.specs.Maps.{value_at}
use Rattle.journal_world.specs.Histories.{latest}
use Rattle.journal_object.specs.Objects.{size_at}
use Rattle.journal_tail.specs.ObjectTails.{known_at, known_updates}
use Rattle.journal_memory.specs.Updates.{AreObjectsOf}
use Rattle.journal_memory.specs.Volatiles.{VolatileState}
use Rattle.journal_memory.proofs.Staying.{read_latest}
use Rattle.journal_memory.proofs.Stepping.{of_ok}
use Rattle.journal_memory.proofs.volatile.Volatile.read_verified.Goals as goal

pub read-requires : goal.read-requires
read-requires g c = record {
  size = subst (λ (s : Shape). IsTrue (is_valid s c.args.addr) → length c.args.into.now ≡ size_at s c.args.addr) (sym c.get-layout.ensures) c.requires.size;
}

pub returns-clause-value : goal.returns-clause-value
returns-clause-value g c = λ trusted yes.
    subst (λ (v : VolatileState). c.read.new.into ≡ value_at (latest v.ledger.history) c.args.addr) c.self.view_is
    (read_latest g.J.Naming.layout c.self.inside.ledger.history c.in_ok-blocks.blocks.now c.self.inside.tail c.args.addr c.read.new.into
    (subst (λ (v : VolatileState). AreObjectsOf g.J.Naming.layout (latest v.ledger.history) (known_updates c.in_ok-blocks.blocks.now v.tail)) (sym c.self.view_is) (c.in_ok-blocks.ensures.latest trusted))
    (subst (λ (s : Shape). IsTrue (is_valid s c.args.addr)) c.get-layout.ensures
    (of_ok (λ _. IsTrue (is_valid (shape c.get-layout.result.now) c.args.addr)) c.read.result c.in_ok-raise.field-0 c.in_ok-raise.field-0 c.in_ok-raise.ensures.only_ok refl c.read.ensures.valid))
    (subst (λ (s : Shape). known_at s c.in_ok-blocks.blocks.now c.self.inside.tail c.args.addr ≡ Some c.read.new.into) c.get-layout.ensures
    (of_ok (λ found. IsTrue found → known_at (shape c.get-layout.result.now) c.in_ok-blocks.blocks.now c.self.inside.tail c.args.addr ≡ Some c.read.new.into) c.read.result c.in_ok-raise.field-0 c.in_ok-raise.field-0
    c.in_ok-raise.ensures.only_ok refl c.read.ensures.found (search rules))))
