-- A group that was cut elsewhere and is handed in whole.
use Rattle.std.specs.Prelude.{ℕ, ◌≡◌, ◌<◌, ◌≤◌, ◌+◌, ◌^◌, false, true, List, ◌++◌, length}
use Rattle.journal_world.specs.declared.refusal.Refusal.{Refusal}
use Rattle.journal_world.specs.declared.refusal.Refusal.TheVariants.{NoMemory, DeviceFailed, Worn}
use Rattle.journal_block.specs.declared.update.Update.{Update}
use Rattle.journal_block.specs.Updates.{with_updates}
use Rattle.journal_memlog.specs.Logs.{next_position}
use Rattle.journal_tail.specs.Homes.{SameBlocks}
use Rattle.journal_wal.specs.Wal.{WalState, size_of, blocks_now, blocks_cut, blocks_logged, log_steps, barriers_before, tail_length, free_positions}
use Rattle.journal_tail.specs.declared.limits.TheConstants.{MAX_TAIL}

-- There is a place for a group of this many blocks: none is in flight, it has a block, and the log
-- a position for each
pub record FitsGroup (w : WalState) (blocks : ℕ) : Type 0 where
  pub rest : log_steps w ≡ 0
  pub some : 0 < blocks
  pub fits : blocks ≤ free_positions w

-- Any group of this many blocks can be taken, without memory and without a refusal
pub record HasGroupRoom (w : WalState) (blocks : ℕ) : Type 0 where
  pub fine : w.ring.faulted ≡ false
  pub place : FitsGroup w blocks
  pub few : blocks ≤ MAX_TAIL
  pub room : blocks ≤ w.log.room
  pub small : next_position w.log + blocks < 2 ^ 62

-- The updates are the group in flight, and no tail is left. The logged updates stayed, and no
-- device call was made
pub record TakesGroup (old : WalState) (updates : List Update) (new : WalState) : Type 0 where
  pub disk : new.ring ≡ old.ring
  -- their positions are the next ones
  pub log : new.log ≡ record old.log { cut = next_position old.log + length updates; updates = old.log.updates ++ updates; room = new.log.room }
  pub steps : log_steps new ≡ length updates + barriers_before old.ring.sealed + 2
  pub tail : tail_length new ≡ 0
  pub now : SameBlocks (size_of old) (blocks_now new) (with_updates (blocks_now old) updates)
  pub cut : SameBlocks (size_of old) (blocks_cut new) (with_updates (blocks_now old) updates)
  pub logged : SameBlocks (size_of old) (blocks_logged new) (blocks_logged old)
  pub installing : new.installing ≡ old.installing

-- Why a group of this many blocks is refused: the first of these that holds
abbrev pub IsGroupRefusal : WalState → ℕ → Refusal Unit → Type 0
IsGroupRefusal w blocks (DeviceFailed cause) = w.ring.faulted ≡ true
IsGroupRefusal w blocks (Worn cause) = (w.ring.faulted ≡ false) × FitsGroup w blocks × (2 ^ 62 ≤ next_position w.log + blocks)
IsGroupRefusal w blocks NoMemory = (w.ring.faulted ≡ false) × FitsGroup w blocks × (next_position w.log + blocks < 2 ^ 62)
IsGroupRefusal w blocks other = ⊥
