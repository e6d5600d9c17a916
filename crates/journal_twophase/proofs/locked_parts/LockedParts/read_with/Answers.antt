use Rattle.std.proofs.Common.{◌≡◌, ◌++◌, List, length, take, drop, Option, Ok, IfSome, ap, sym, subst, ◌∙◌}
use Rattle.journal_world.specs.Addresses.{Value}
use Rattle.journal_lockmap.specs.Numbers.{HeldState}
use Rattle.journal_memory.specs.SlotCounts.{AgreeUpTo, AreUnder}
use Rattle.journal_memory.specs.Transactions.{ReadResultState}
use Rattle.journal_twophase.specs.Transactions.{ReadsObject}
use Rattle.journal_twophase.proofs.Holding.{filled_back}
use Rattle.journal_twophase.proofs.Looking.{reads_object}
use Rattle.journal_twophase.proofs.locked_parts.LockedParts.read_with.Goals as goal

pub returns-in-Ok-Some-clause-read : goal.returns-in-Ok-Some-clause-read
returns-in-Ok-Some-clause-read g c =
    let bytes : Value = c.read.new.into in
    let back : take c.args.into.now.len (bytes ++ drop (length bytes) c.args.into.now.items) ≡ bytes =
    filled_back c.args.into.now.len bytes c.args.into.now.items (c.read.auto.into ∙ ap length c.deref_mut-3.ensures.value ∙ sym c.args.into.now.ok.0) c.args.into.now.ok.0 in
    subst (λ (v : Value). ReadsObject g.J.Naming.layout c.args.transaction.now c.args.addr c.read.new.held v c.in-Ok-Some.found) (sym back)
    (subst (λ (o : Option ReadResultState). IfSome o (ReadsObject g.J.Naming.layout c.args.transaction.now c.args.addr c.read.new.held bytes)) c.in-Ok-Some.field-0-is
    (reads_object g.J.Naming.layout _ c.read.new.self c.args.transaction.now c.args.addr _ c.read.new.held bytes (Ok c.in-Ok-Some.field-0)
    c.in-Ok-Some.ensures.event c.in-Ok-Some.ensures.agree))

pub read-requires-clause-under : goal.read-requires-clause-under
read-requires-clause-under g c =
    subst (λ (l : List HeldState). AreUnder g.J.Naming.layout l c.args.transaction.now.seen c.args.transaction.now.reads) (sym c.check_read.ensures.held) c.requires.under

pub read-requires-clause-known : goal.read-requires-clause-known
read-requires-clause-known g c =
    subst (λ (l : List HeldState). AgreeUpTo g.J.Naming.layout c.args.transaction.now.seen c.args.known l) (sym c.check_read.ensures.held) c.requires.known
