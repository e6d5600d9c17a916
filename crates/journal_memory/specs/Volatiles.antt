-- The core's volatile part as contracts see it, its own invariant, and the effects of its calls. No
-- device call is made for any of it.
use Rattle.std.specs.Prelude.{ℕ, ◌≡◌, ◌≢◌, ◌⊎◌, ◌<◌, ◌≤◌, ◌-◌, ◌^◌, nat_le, if◌then◌else◌, Bool, IsTrue, List, [], length, All}
use Rattle.journal_world.specs.declared.address.Addr.{Addr}
use Rattle.journal_world.specs.declared.refusal.Refusal.{Refusal}
use Rattle.journal_world.specs.declared.refusal.Refusal.TheVariants.{Stale}
use Rattle.journal_world.specs.Addresses.{Shape}
use Rattle.journal_world.specs.Histories.{Entry, opened, is_trusted, count, floor, latest}
use Rattle.journal_block.specs.declared.update.Update.{Update}
use Rattle.journal_memlog.specs.Logs.{next_position, tail_of}
use Rattle.journal_world.specs.declared.layout.TheConstants.{LOG_POSITIONS}
use Rattle.journal_tail.specs.Tails.{TailState, cut_points, known_blocks, updates_from}
use Rattle.journal_tail.specs.declared.tail.CutPoint.{CutPoint}
use Rattle.journal_tail.specs.ObjectTails.{blocks_of}
use Rattle.journal_history.specs.Soundness.{IsLonger}
use Rattle.journal_memory.specs.declared.refusal_number.RefusalNumber.TheVariants.{J9}
use Rattle.journal_memory.specs.Causes.{CauseState, IsExplained}
use Rattle.journal_memory.specs.Ledgers.{LedgerState}
use Rattle.journal_memory.specs.Transactions.{TransactionState}
use Rattle.journal_memory.specs.Updates.{HaveAllSince, AreObjectsOf}
use Rattle.journal_memory.specs.Outsets.{Outset, MayRead, IsCheckRefusal}
use Rattle.journal_memory.specs.Fetches.{FetchedState}

-- The state of the volatile part that contracts see
pub record VolatileState : Type 0 where
  -- the history, and who may go on
  pub ledger : LedgerState
  -- the updates in memory
  pub tail : TailState
  -- a device call failed, so that reads, commits and steps are refused until the disk is opened
  -- again
  pub faulted : Bool

-- the facts by which its reads and commits are judged
abbrev pub outset_of : VolatileState → Outset
outset_of v = record {
  closed = v.ledger.closed;
  faulted = v.faulted;
  history = v.ledger.history;
  tail = tail_of v.tail.log;
  next = next_position v.tail.log;
}

-- The facts of a cut: its position, and how many commits there were
pub record IsCutOf (v : VolatileState) (c : CutPoint) : Type 0 where
  pub above : v.tail.log.start ≤ c.end
  pub below : c.end ≤ v.tail.log.cut
  pub earlier : c.commits ≤ v.ledger.cut

-- The updates after each cut, the last one too, have each value that a commit after it changed
pub record HasUpdates (layout : Shape) (v : VolatileState) : Type 0 where
  pub since : All (λ c. HaveAllSince layout v.ledger.history c.commits (updates_from v.tail.log c.end)) (cut_points v.tail)
  pub since_last : HaveAllSince layout v.ledger.history v.ledger.cut (tail_of v.tail.log)

-- Its own invariant, on a disk of a layout. If the history is trusted it speaks of values: the
-- updates after a cut give an address the value that the map gives it after all commits, and no
-- commit after that cut changed the value of an address of which they have nothing. So a commit
-- that wrote the value that was there already may have no update
pub record IsVolatile (layout : Shape) (v : VolatileState) : Type 0 where
  pub size : blocks_of v.tail ≡ layout.blocks
  pub begun : v.ledger.history ≢ []
  pub on_disk : (opened v.ledger.history).layout ≡ layout
  pub made : v.ledger.cut ≤ count v.ledger.history
  pub cut_to_next : v.tail.log.cut ≤ next_position v.tail.log
  pub small : next_position v.tail.log < 2 ^ 62
  pub cuts : All (IsCutOf v) (cut_points v.tail)
  pub updates : IsTrue (is_trusted v.ledger.history) → HasUpdates layout v
  -- its knowledge of an address, by its updates or by a copy of its block alone, is the value that
  -- the latest map gives it
  pub known : IsTrue (is_trusted v.ledger.history) → AreObjectsOf layout (latest v.ledger.history) (known_blocks v.tail)

-- how many positions of the log have updates up to the last cut, where it starts at this one
abbrev pub used_positions : VolatileState → ℕ → ℕ
used_positions v start = v.tail.log.cut - start

-- The logger has nothing to do, as far as memory alone can know, where the log starts at this
-- position: the last cut is marked, and there is no tail and no commit after the mark, or there are
-- fewer free positions than the tail has blocks
pub record HasNothingToLog (v : VolatileState) (start : ℕ) : Type 0 where
  pub marked : v.ledger.cut ≤ floor v.ledger.history
  pub rest : ((tail_of v.tail.log ≡ []) × (count v.ledger.history ≤ floor v.ledger.history))
      ⊎ (LOG_POSITIONS - used_positions v start < length (tail_of v.tail.log))

-- Of the fetched blocks those that may be used: all, unless what commits wrote after them was
-- dropped from memory
abbrev pub usable : VolatileState → FetchedState → List Update
usable v f = if nat_le v.tail.trimmed f.commits then f.updates else []

-- why another part's front does not begin the history: it is the longer, as this cause has it
abbrev pub IsFrontRefusal : List Entry → List Entry → Refusal CauseState → Type 0
IsFrontRefusal history seen (Stale cause) = IsExplained J9 seen cause × IsLonger history seen
IsFrontRefusal history seen other = ⊥

-- why an object is not read: by what is known before the value is looked for, or else the fetch has
-- seen more of the history
abbrev pub IsReadRefusal : Shape → VolatileState → TransactionState → Addr → FetchedState → Refusal CauseState → Type 0
IsReadRefusal layout v t a f why =
    IsCheckRefusal layout (outset_of v) t a why ⊎ (MayRead layout (outset_of v) t a × IsFrontRefusal v.ledger.history f.front why)
