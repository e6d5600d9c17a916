-- A commit in memory alone.
use Rattle.std.specs.Prelude.{ℕ, ◌≡◌, ◌≢◌, ◌<◌, ◌+◌, max, List, [], length, IsTrue, Result, All, IfOk, IfErr, OnOk, OnErr}
use Rattle.journal_world.specs.declared.refusal.Refusal.{Refusal}
use Rattle.journal_world.specs.Addresses.{Shape}
use Rattle.journal_world.specs.Maps.{Pair, Transaction, Agrees}
use Rattle.journal_world.specs.Histories.{is_trusted, latest}
use Rattle.journal_block.specs.declared.update.Update.{Update}
use Rattle.journal_block.specs.Updates.{updates_block}
use Rattle.journal_memlog.specs.Logs.{appended}
use Rattle.journal_tail.specs.Tails.{TailState}
use Rattle.journal_tail.specs.ObjectTails.{with_tail_room, known_updates, missing_blocks}
use Rattle.journal_tail.specs.Writes.{writes_block, written_blocks}
use Rattle.journal_history.specs.Tokens.{SessionState, CommitPlace, next_transaction as numbered, Commits, OnlyExtends, IsReceiptFor}
use Rattle.journal_memory.specs.declared.volatile_commit.CommitStep.{CommitStep}
use Rattle.journal_memory.specs.declared.volatile_commit.CommitStep.TheVariants.{Done, Missing}
use Rattle.journal_memory.specs.Causes.{CauseState}
use Rattle.journal_memory.specs.Fetches.{FetchedState}
use Rattle.journal_memory.specs.Ledgers.{ShowsLonger}
use Rattle.journal_memory.specs.Outsets.{CanCommit, IsCommitRefusal}
use Rattle.journal_memory.specs.Transactions.{TransactionState}
use Rattle.journal_memory.specs.Volatiles.{VolatileState, outset_of, usable}

-- One update of each block that is written was appended to the tail, and no other
pub record AppendsWrites (old new : TailState) (writes : List Pair) : Type 0 where
  pub updates : List Update
  pub named : (b : ℕ) → updates_block updates b ≡ writes_block writes b
  pub number : length updates ≡ written_blocks writes
  pub appends : new ≡ record old { log = record (appended old.log updates) { room = new.log.room } }

-- The session's transaction was committed, and nothing else was done
pub record IsCommitted (reads writes : List Pair) (session after : SessionState) (old new : VolatileState) : Type 0 where
  pub committed : Commits (numbered session reads writes) session after old.ledger.history new.ledger.history
  pub logs : AppendsWrites old.tail new.tail writes
  pub others : new ≡ record old {
    ledger = record old.ledger { history = new.ledger.history; next = max old.ledger.next (session.number + 1) };
    tail = new.tail;
  }

-- The transaction was added, and the updates that its writes make appended
pub record IsAdded (t : Transaction) (updates : List Update) (session after : SessionState) (old new : VolatileState) : Type 0 where
  pub committed : Commits t session after old.ledger.history new.ledger.history
  pub appends : new.tail ≡ record old.tail { log = appended old.tail.log updates }
  pub others : new ≡ record old {
    ledger = record old.ledger { history = new.ledger.history; next = max old.ledger.next (session.number + 1) };
    tail = new.tail;
  }

-- of an answer: the condition where the commit was made
abbrev pub IfDone : {A : Type 0} → (A → Type 0) → CommitStep A → Type 0
IfDone holds (Done value) = holds value
IfDone holds (Missing blocks) = Unit {0}

-- of an answer: the condition where blocks have to be fetched first
abbrev pub IfMissing : {A : Type 0} → (List ℕ → Type 0) → CommitStep A → Type 0
IfMissing holds (Done value) = Unit {0}
IfMissing holds (Missing blocks) = holds blocks.items

-- the volatile part with other room in memory
abbrev pub with_room : VolatileState → ℕ → VolatileState
with_room v room = record v { tail = with_tail_room v.tail room }

-- The effect of a commit in memory, by its answer. A commit that was made is in the history at the
-- receipt's place. If blocks are missing, these are named, and if it was refused, the reason is one
-- that holds. In both cases memory is as it was, but for its room, and the session has only seen
-- more
pub record DoesCommit (layout : Shape) (old : VolatileState) (session : SessionState) (t : TransactionState) (f : FetchedState) (answer : Result (CommitStep CommitPlace) (Refusal CauseState)) (new : VolatileState) (after : SessionState) : Type 0 where
  pub committed : IfOk answer (IfDone (λ place. IsCommitted t.reads t.writes session after old new))
  pub receipt : IfOk answer (IfDone (IsReceiptFor (numbered session t.reads t.writes) new.ledger.history (length old.ledger.history)))
  pub can : OnOk answer (CanCommit (outset_of old) session t)
  pub agrees : OnOk answer (IsTrue (is_trusted old.ledger.history) → Agrees (latest old.ledger.history) t.reads)
  pub missing : IfOk answer (IfMissing (λ blocks. blocks ≡ missing_blocks layout (known_updates (usable old f) old.tail) t.writes))
  pub below : IfOk answer (IfMissing (λ blocks. All (λ b. b < layout.blocks) blocks))
  pub some : IfOk answer (IfMissing (λ blocks. blocks ≢ []))
  pub waits : IfOk answer (IfMissing (λ blocks. (new ≡ with_room old new.tail.log.room) × OnlyExtends session after))
  pub refusal : IfErr answer (IsCommitRefusal (outset_of old) session t)
  pub same : OnErr answer (new ≡ with_room old new.tail.log.room)
  pub extends : OnErr answer (OnlyExtends session after)
  pub longer : IfErr answer (ShowsLonger old.ledger.history after)
