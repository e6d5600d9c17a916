-- A commit, and why one is refused.
use Rattle.std.specs.Prelude.{true, ◌≡◌, ◌<◌, ◌≤◌, IsTrue, List, length}
use mathlib.Core.List.{IsPrefix}
use Rattle.journal_world.specs.declared.refusal.Refusal.{Refusal}
use Rattle.journal_world.specs.declared.refusal.Refusal.TheVariants.{NoMemory, TooLarge, DeviceFailed, Stale, Stranger, Worn, Full, Closed, Fenced}
use Rattle.journal_world.specs.Addresses.{Shape}
use Rattle.journal_world.specs.Maps.{Map, Agrees}
use Rattle.journal_world.specs.Histories.{Entry, is_trusted, is_fenced, latest, commits_of}
use Rattle.journal_tail.specs.Writes.{written_blocks}
use Rattle.journal_history.specs.Tokens.{SessionState, CommitPlace, made, next_transaction, IsExact, Commits, IsReceiptFor}
use Rattle.journal_memory.specs.declared.refusal_number.RefusalNumber.TheVariants.{J6, J9, J10, J11, J12, J13}
use Rattle.journal_memory.specs.Causes.{CauseState, IsUnexplained, IsExplained}
use Rattle.journal_memory.specs.Transactions.{TransactionState}
use Rattle.journal_twophase.specs.declared.locked_parts.WhenFull.{WhenFull}
use Rattle.journal_twophase.specs.declared.locked_parts.WhenFull.TheVariants.{Wait, Refuse}
use Rattle.journal_twophase.specs.Journals.{IsKnown, IsShown}
use Rattle.journal_tail.specs.declared.limits.TheConstants.{MAX_UPDATES}

-- The transaction was committed as the session's next one, with exactly what it read and overwrote
pub record IsCommitted (rule : Map → Type 0) (layout : Shape) (began : List Entry) (t : TransactionState) (old new : SessionState) (place : CommitPlace) : Type 0 where
  -- the history that it found, which goes on from what was seen when the transaction began, and
  -- from what it saw last
  pub found : List Entry
  pub after_begin : IsPrefix began found
  pub after_reads : IsPrefix t.seen found
  -- where the opening was trusted, what it read is what the map gives there, and the mount's rule
  -- holds of that map
  pub agrees : IsTrue (is_trusted found) → Agrees (latest found) t.reads
  pub ruled : IsTrue (is_trusted found) → rule (latest found)
  pub on_disk : (latest found).layout ≡ layout
  -- it was added to that history, after all that the session had seen, and the session has seen it
  pub committed : Commits (next_transaction old t.reads t.writes) old new found new.seen
  pub exact : IsExact new
  pub known : IsKnown rule layout new.seen
  -- the receipt names its place
  pub receipt : IsReceiptFor (next_transaction old t.reads t.writes) new.seen (length found) place

-- The cause shows a history that has a commit under the session's number which the session did not
-- make
abbrev pub ShowsStrange : SessionState → CauseState → Type 0
ShowsStrange s cause = (history : List Entry) × IsExplained J10 history cause × (made s < length (commits_of s.number history))

-- J14: the session has then seen its fence, by which each later commit of it is refused
abbrev pub ShowsFence : SessionState → Refusal CauseState → Type 0
ShowsFence s Fenced = is_fenced s.number s.seen ≡ true
ShowsFence s other = Unit {0}

-- Why a transaction is not committed at once. `ShowsFence` is the case of J14
abbrev pub IsTryRefusal : TransactionState → SessionState → Refusal CauseState → Type 0
IsTryRefusal t s (Closed cause) = IsUnexplained J13 cause
IsTryRefusal t s (DeviceFailed cause) = IsUnexplained J6 cause
IsTryRefusal t s (Stale cause) = IsShown J9 cause
IsTryRefusal t s (Stranger cause) = ShowsStrange s cause
IsTryRefusal t s TooLarge = MAX_UPDATES < written_blocks t.writes
IsTryRefusal t s (Worn cause) = (written_blocks t.writes ≤ MAX_UPDATES) × IsUnexplained J11 cause
IsTryRefusal t s (Full cause) = (written_blocks t.writes ≤ MAX_UPDATES) × IsUnexplained J12 cause
IsTryRefusal t s NoMemory = Unit {0}
IsTryRefusal t s Fenced = Unit {0}
IsTryRefusal t s other = ⊥

-- why it is not committed, with time to wait for room
abbrev pub IsCommitRefusal : TransactionState → SessionState → Refusal CauseState → Type 0
IsCommitRefusal t s (Full cause) = ⊥
IsCommitRefusal t s other = IsTryRefusal t s other

-- it is refused for want of room in the log's tail, and waits for it
abbrev pub IsAwaited : {C : Type 0} → WhenFull → Refusal C → Type 0
IsAwaited Wait (Full cause) = Unit {0}
IsAwaited when other = ⊥

-- why it is not committed, by what it does where the log's tail has no room
abbrev pub IsRefusedWhenFull : WhenFull → TransactionState → SessionState → Refusal CauseState → Type 0
IsRefusedWhenFull Wait t s why = IsCommitRefusal t s why
IsRefusedWhenFull Refuse t s why = IsTryRefusal t s why
