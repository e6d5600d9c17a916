use Rattle.std.proofs.Common.{◌≡◌, List, rules, sym, subst}
use Rattle.journal_lockmap.specs.Numbers.{HeldState}
use Rattle.journal_memory.specs.SlotCounts.{AgreeUpTo, AreUnder}
use Rattle.journal_twophase.proofs.locked_parts.LockedParts.read_fetched.Goals as goal

pub read_with-requires-clause-under : goal.read_with-requires-clause-under
read_with-requires-clause-under g c =
    let same : c.loop.held ≡ c.args.held.now = search rules in
    subst (λ (l : List HeldState). AreUnder g.J.Naming.layout l c.args.transaction.now.seen c.args.transaction.now.reads) (sym same) c.requires.under

pub read_with-requires-clause-known : goal.read_with-requires-clause-known
read_with-requires-clause-known g c =
    let same : c.loop.held ≡ c.args.held.now = search rules in
    subst (λ (l : List HeldState). AgreeUpTo g.J.Naming.layout c.args.transaction.now.seen c.args.known l) (sym same) c.requires.known
