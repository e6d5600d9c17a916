-- The facts by which reads and commits are judged before they are done, and why they are refused.
-- No device call is made for any of it.
use Rattle.std.specs.Prelude.{ℕ, ◌≡◌, ◌⊎◌, ◌<◌, ◌≤◌, ◌+◌, ◌^◌, Bool, true, false, IsTrue, List, length}
use mathlib.Core.List.{IsPrefix}
use Rattle.journal_world.specs.declared.address.Addr.{Addr}
use Rattle.journal_world.specs.declared.refusal.Refusal.{Refusal}
use Rattle.journal_world.specs.declared.refusal.Refusal.TheVariants.{NoMemory, BadAddress, TooLarge, DeviceFailed, Stale, Stranger, Worn, Full, Closed, Fenced}
use Rattle.journal_world.specs.Addresses.{is_valid, Shape}
use Rattle.journal_world.specs.Maps.{Pair}
use Rattle.journal_world.specs.Histories.{Entry, opened, commits_of, is_fenced}
use Rattle.journal_block.specs.declared.update.Update.{Update}
use Rattle.journal_tail.specs.declared.limits.TheConstants.{MAX_TAIL, MAX_UPDATES}
use Rattle.journal_tail.specs.Writes.{written_blocks, fresh_among}
use Rattle.journal_history.specs.Tokens.{SessionState, made}
use Rattle.journal_memory.specs.declared.refusal_number.RefusalNumber.TheVariants.{J6, J11, J12, J13}
use Rattle.journal_memory.specs.Causes.{CauseState, IsUnexplained}
use Rattle.journal_memory.specs.Ledgers.{HasSeen, IsBehind, IsStale, IsUnknown, MeetsFence}
use Rattle.journal_memory.specs.Transactions.{TransactionState, AreUnmoved}

pub record Outset : Type 0 where
  -- it was stopped; a device call failed before
  pub closed : Bool
  pub faulted : Bool
  pub history : List Entry
  -- the blocks that commits wrote since the last cut, and the position after them
  pub tail : List Update
  pub next : ℕ

-- it was not stopped, and no device call failed
abbrev pub GoesOn : Outset → Type 0
GoesOn o = (o.closed ≡ false) × (o.faulted ≡ false)

-- why it goes on no more: it was stopped, or a device call failed before
abbrev pub IsEndRefusal : Outset → Refusal CauseState → Type 0
IsEndRefusal o (Closed cause) = IsUnexplained J13 cause × (o.closed ≡ true)
IsEndRefusal o (DeviceFailed cause) = IsUnexplained J6 cause × (o.closed ≡ false) × (o.faulted ≡ true)
IsEndRefusal o other = ⊥

-- Nothing that is known before the value is looked for refuses the read
pub record MayRead (layout : Shape) (o : Outset) (t : TransactionState) (a : Addr) : Type 0 where
  pub running : GoesOn o
  pub valid : IsTrue (is_valid layout a)
  pub later : IsPrefix t.seen o.history
  pub unmoved : AreUnmoved layout o.history t

-- why a read is refused by what is known then: the first of these that holds
abbrev pub IsCheckRefusal : Shape → Outset → TransactionState → Addr → Refusal CauseState → Type 0
IsCheckRefusal layout o t a BadAddress = GoesOn o × (is_valid layout a ≡ false)
IsCheckRefusal layout o t a (Stale cause) = GoesOn o × IsTrue (is_valid layout a) × IsBehind o.history t cause
IsCheckRefusal layout o t a other = IsEndRefusal o other

-- The history's length, the session's number or a position of the log would reach 2^62
abbrev pub IsWorn : Outset → SessionState → List Pair → Type 0
IsWorn o s writes = (2 ^ 62 ≤ length o.history + 1) ⊎ (2 ^ 62 ≤ s.number) ⊎ (2 ^ 62 ≤ o.next + fresh_among o.tail writes)

-- The tail has no room for the blocks that are not in it
abbrev pub IsFull : Outset → List Pair → Type 0
IsFull o writes = MAX_TAIL < length o.tail + fresh_among o.tail writes

-- Nothing that is known before the writes are looked at refuses the session's commit
pub record MayCommit (o : Outset) (s : SessionState) (t : TransactionState) : Type 0 where
  pub running : GoesOn o
  pub seen : HasSeen o.history s t
  pub own : length (commits_of s.number o.history) ≡ made s
  pub unmoved : AreUnmoved (opened o.history).layout o.history t
  pub unfenced : is_fenced s.number o.history ≡ false

-- Nothing but memory and the device can refuse the writes
pub record CanPrepare (o : Outset) (s : SessionState) (writes : List Pair) : Type 0 where
  pub few : written_blocks writes ≤ MAX_UPDATES
  pub unworn : IsWorn o s writes → ⊥
  pub room : IsFull o writes → ⊥

-- Nothing but memory and the device can refuse the commit
pub record CanCommit (o : Outset) (s : SessionState) (t : TransactionState) : Type 0 where
  pub may : MayCommit o s t
  pub writes : CanPrepare o s t.writes

-- why writes are not made ready: the first of these that holds, then J1
abbrev pub IsPreparingRefusal : Outset → SessionState → List Pair → Refusal CauseState → Type 0
IsPreparingRefusal o s writes TooLarge = MAX_UPDATES < written_blocks writes
IsPreparingRefusal o s writes (Worn cause) = (written_blocks writes ≤ MAX_UPDATES) × IsWorn o s writes × IsUnexplained J11 cause
IsPreparingRefusal o s writes (Full cause) = (written_blocks writes ≤ MAX_UPDATES) × (IsWorn o s writes → ⊥) × IsFull o writes × IsUnexplained J12 cause
IsPreparingRefusal o s writes NoMemory = CanPrepare o s writes
IsPreparingRefusal o s writes other = ⊥

-- why a commit is refused: the first of these that holds, then J1
abbrev pub IsCommitRefusal : Outset → SessionState → TransactionState → Refusal CauseState → Type 0
IsCommitRefusal o s t (Stale cause) = GoesOn o × IsStale o.history cause
IsCommitRefusal o s t (Stranger cause) = GoesOn o × HasSeen o.history s t × IsUnknown o.history s cause
IsCommitRefusal o s t Fenced = GoesOn o × MeetsFence o.history s t
IsCommitRefusal o s t TooLarge = MayCommit o s t × (MAX_UPDATES < written_blocks t.writes)
IsCommitRefusal o s t (Worn cause) = MayCommit o s t × (written_blocks t.writes ≤ MAX_UPDATES) × IsWorn o s t.writes × IsUnexplained J11 cause
IsCommitRefusal o s t (Full cause) = MayCommit o s t × (written_blocks t.writes ≤ MAX_UPDATES) × (IsWorn o s t.writes → ⊥)
    × IsFull o t.writes × IsUnexplained J12 cause
IsCommitRefusal o s t NoMemory = CanCommit o s t
IsCommitRefusal o s t other = IsEndRefusal o other
