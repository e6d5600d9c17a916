use Rattle.std.proofs.Common.{List, sym, subst}
use Rattle.journal_lockmap.specs.Numbers.{HeldState}
use Rattle.journal_memory.specs.SlotCounts.{AgreeUpTo, AreUnder}
use Rattle.journal_twophase.proofs.locked_parts.LockedParts.read_or_fetch.Goals as goal

pub read_fetched-requires-clause-under : goal.read_fetched-requires-clause-under
read_fetched-requires-clause-under g c =
    subst (λ (l : List HeldState). AreUnder g.J.Naming.layout l c.args.transaction.now.seen c.args.transaction.now.reads) (sym c.read_in.ensures.held) c.requires.under

pub read_fetched-requires-clause-known : goal.read_fetched-requires-clause-known
read_fetched-requires-clause-known g c =
    subst (λ (l : List HeldState). AgreeUpTo g.J.Naming.layout c.args.transaction.now.seen c.args.known l) (sym c.read_in.ensures.held) c.requires.known
