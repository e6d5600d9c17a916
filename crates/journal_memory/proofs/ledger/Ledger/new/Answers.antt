use Rattle.std.proofs.Common.{◌≡◌, ◌∙◌, length}
use Rattle.journal_memory.proofs.Counting.{ledger_begun}
use Rattle.journal_memory.proofs.ledger.Ledger.new.Goals as goal

pub invariant_of-result : goal.invariant_of-result
invariant_of-result g c =
    let entries : c.new-len.result ≡ length c.args.writer = c.new-len.ensures ∙ c.len.ensures.length in
    rw (c.new.ensures, c.new-2.ensures, c.new-3.ensures)
    (ledger_begun g.J.Naming.layout c.args.sessions c.args.slots (record { marked = c.new-len.result; cut = c.new-len.result }) c.args.writer c.requires.none c.requires.unmarked c.requires.unfenced c.requires.slots c.requires.sessions entries entries)
