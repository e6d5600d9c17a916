use Rattle.std.proofs.Common.{sym, subst}
use Rattle.journal_memory.specs.Volatiles.{VolatileState}
use Rattle.journal_parts.specs.Pairs.{Tied}
use Rattle.journal_parts.proofs.Pairing.{tied_trim}
use Rattle.journal_parts.proofs.durable.Durable.trim_memory.Goals as goal

pub returns-clause-tied : goal.returns-clause-tied
returns-clause-tied g c = λ home tied.
    subst (λ (v : VolatileState). Tied v c.args.self.now) (sym c.trim.ensures.others)
    (tied_trim c.args.volatile.now c.args.self.now c.args.upto c.trim.new.self.tail c.trim.ensures.drops home tied)
