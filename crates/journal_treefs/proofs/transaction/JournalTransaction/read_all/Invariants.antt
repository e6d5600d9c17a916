use Rattle.std.proofs.Common.{◌≡◌, []}
use Rattle.journal_treefs.proofs.transaction.JournalTransaction.read_all.Given as goal

abbrev pub invariant-loop-addr : goal.invariant-loop-addr
invariant-loop-addr g l = l.self.txn.writes ≡ []
