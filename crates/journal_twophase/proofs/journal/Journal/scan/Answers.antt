use Rattle.std.proofs.Common.{◌∙◌}
use Rattle.journal_world.specs.Histories.{latest}
use Rattle.journal_memory.proofs.Scanning.{bits_found}
use Rattle.journal_twophase.proofs.journal.Journal.scan.Goals as goal

pub returns-clause-found : goal.returns-clause-found
returns-clause-found g c = λ trusted.
    c.in_ok-bits_in.ensures.bits
    ∙ bits_found (latest c.copy_bits.new.session.seen) c.args.scan c.copy_bits.new.into (c.in_ok-copy_bits.ensures.bits trusted)
