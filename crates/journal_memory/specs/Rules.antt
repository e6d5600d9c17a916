-- The condition of a commit on a history, so that the mount's rule holds of the map after it.
use Rattle.std.specs.Prelude.{IsTrue, List}
use Rattle.journal_world.specs.Maps.{Map, Agrees, overwritten}
use Rattle.journal_world.specs.Histories.{Entry, is_trusted, latest}
use Rattle.journal_memory.specs.Transactions.{TransactionState}

-- Where the history is trusted, the rule holds of the latest map once the transaction has
-- overwritten it
abbrev pub LeavesMapRule : (Map → Type 0) → List Entry → TransactionState → Type 0
LeavesMapRule rule history t = IsTrue (is_trusted history) → rule (overwritten (latest history) t.writes)

-- the same, if all that the transaction read is what that map gives
abbrev pub KeepsMapRule : (Map → Type 0) → List Entry → TransactionState → Type 0
KeepsMapRule rule history t = (IsTrue (is_trusted history) → Agrees (latest history) t.reads) → LeavesMapRule rule history t
