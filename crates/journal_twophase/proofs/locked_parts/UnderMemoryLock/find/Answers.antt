use Rattle.std.proofs.Common.{◌≡◌, ◌++◌, length, take, drop, IfSome, sym, subst, rules}
use Rattle.journal_world.specs.Addresses.{Value}
use Rattle.journal_twophase.specs.Transactions.{ReadsObject}
use Rattle.journal_twophase.proofs.Holding.{filled_back}
use Rattle.journal_twophase.proofs.Looking.{reads_object}
use Rattle.journal_twophase.proofs.Prefetching.{found_or_none}
use Rattle.journal_twophase.proofs.locked_parts.UnderMemoryLock.find.Goals as goal

pub returns-clause-read : goal.returns-clause-read
returns-clause-read g c =
    let bytes : Value = c.read-answer.new.into in
    let back : take c.args.into.now.len (bytes ++ drop (length bytes) c.args.into.now.items) ≡ bytes =
    filled_back c.args.into.now.len bytes c.args.into.now.items (search rules) c.args.into.now.ok.0 in
    subst (λ (v : Value). IfSome c.unwrap_or.result (ReadsObject g.J.Naming.layout c.args.transaction.now c.args.addr c.read-answer.new.held v)) (sym back)
    (found_or_none _ c.read-answer.result c.unwrap_or.result c.unwrap_or.ensures
    (reads_object g.J.Naming.layout _ c.read-answer.new.self c.args.transaction.now c.args.addr c.args.nothing.now c.read-answer.new.held bytes c.read-answer.result
    c.read-answer.ensures.event c.read-answer.ensures.agree))
