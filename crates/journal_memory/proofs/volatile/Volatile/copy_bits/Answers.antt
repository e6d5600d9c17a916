use Rattle.std.proofs.Common.{◌∙◌, sym, subst}
use Rattle.journal_world.specs.Histories.{latest}
use Rattle.journal_tail.specs.ObjectTails.{known_updates}
use Rattle.journal_memory.specs.Updates.{AreObjectsOf}
use Rattle.journal_memory.specs.Bits.{AreBitsOf}
use Rattle.journal_memory.specs.Volatiles.{VolatileState}
use Rattle.journal_memory.proofs.Scanning.{bits_known}
use Rattle.journal_memory.proofs.volatile.Volatile.copy_bits.Goals as goal

pub returns-clause-bits : goal.returns-clause-bits
returns-clause-bits g c = λ trusted found.
    subst (λ (v : VolatileState). AreBitsOf (latest v.ledger.history) c.args.scan.block c.copy_from.new.self) c.self.view_is
    (bits_known g.J.Naming.layout (latest c.self.inside.ledger.history) (known_updates c.in_ok-blocks.blocks.now c.self.inside.tail) c.args.scan c.copy_from.new.self
    c.requires.bits
    (subst (λ (v : VolatileState). AreObjectsOf g.J.Naming.layout (latest v.ledger.history) (known_updates c.in_ok-blocks.blocks.now v.tail)) (sym c.self.view_is)
    (c.in_ok-blocks.ensures.latest trusted))
    (sym c.in-Some.ensures.found) (c.in-Some.ensures.content ∙ sym c.copy_from.ensures.contents))
