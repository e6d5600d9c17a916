-- A call in the history, and why an attempt at one is undone.
use Rattle.std.specs.Prelude.{ℕ, ◌<◌, List, Option, Some, None}
use Rattle.journal_world.specs.declared.refusal.Refusal.{Refusal}
use Rattle.journal_world.specs.declared.refusal.Refusal.TheVariants.{NoMemory as NoMemoryRefusal, BadAddress}
use Rattle.journal_world.specs.Maps.{Map}
use Rattle.journal_world.specs.Histories.{Entry}
use Rattle.journal_tail.specs.declared.limits.TheConstants.{MAX_UPDATES}
use Rattle.journal_history.specs.Tokens.{SessionState, CommitPlace}
use Rattle.journal_memory.specs.Causes.{CauseState}
use Rattle.journal_attempts.specs.declared.fault.AttemptFault.{AttemptFault}
use Rattle.journal_attempts.specs.declared.fault.AttemptFault.TheVariants.{Held, Refused}
use Rattle.journal_attempts.specs.Commits.{IsCommitAt, IsCommitOf}
use Rattle.journal_attempts.specs.Refusals.{IsAttemptRefusal}
use Rattle.journal_tree.specs.declared.time.Time.{Time}
use Rattle.journal_tree.specs.declared.caller.Caller.{Caller}
use Rattle.journal_tree.specs.Op.{Call, Reply, Op}
use Rattle.journal_treestore.specs.declared.place.Cut.{Cut}
use Rattle.journal_treeobjects.specs.declared.fault.TreeFault.{TreeFault}
use Rattle.journal_treeobjects.specs.declared.fault.TreeFault.TheVariants.{NoObject, NoMemory, Transaction as GivenUp}
use Rattle.journal_treeobjects.specs.Maps.{tree_at, HasSoundTree}

-- A store as contracts see it: the history at the opening of its journal, and how its disk is cut
pub record StoreState : Type 0 where
  pub start : List Entry
  pub cut : Cut

-- The call leads from the tree of a map to the tree of another, with the reply
abbrev pub IsCallOn : Cut → Call → Caller → Time → Reply → Map → Map → Type 0
IsCallOn c call caller now reply m n = Op call caller now (tree_at c m) reply (tree_at c n)

-- The session has one more commit, which is at this place in the history that it has then seen.
-- Where the disk was honest and settled, it is the call, from the tree of the map before it to the
-- tree of the map after it, with the reply; and the tree is sound after each number of commits
abbrev pub IsMadeAt : (c : Cut) (call : Call) (caller : Caller) (now : Time) (old new : SessionState) (reply : Reply) (place : ℕ) → Type 0
IsMadeAt c call caller now old new reply place = IsCommitAt (HasSoundTree c) (IsCallOn c call caller now reply) old new place

-- The call is committed. The receipt is its commit's, and the session has no other commits
abbrev pub IsCommittedCall : (c : Cut) (call : Call) (caller : Caller) (now : Time) (old new : SessionState) (reply : Reply) (receipt : CommitPlace) → Type 0
IsCommittedCall c call caller now old new reply receipt = IsCommitOf (HasSoundTree c) (IsCallOn c call caller now reply) old new receipt

-- ── faults ──

-- a call was given up so, and its transaction may have refused
abbrev pub fault_of : {C : Type 0} → TreeFault → Option (AttemptFault C) → AttemptFault C
fault_of NoObject refused = Refused BadAddress
fault_of NoMemory refused = Refused NoMemoryRefusal
fault_of GivenUp (Some fault) = fault
fault_of GivenUp None = Refused NoMemoryRefusal

-- Why a call on a tree is refused that makes at most `most` writes: for the number of its blocks
-- only where these are more than a transaction has room for
abbrev pub IsTreeRefusal : ℕ → Refusal CauseState → Type 0
IsTreeRefusal most why = IsAttemptRefusal (MAX_UPDATES < most) why

-- Why an attempt at one is undone, or its commit refused
abbrev pub IsCallEnd : ℕ → AttemptFault CauseState → Type 0
IsCallEnd most (Held addr) = Unit {0}
IsCallEnd most (Refused why) = IsTreeRefusal most why
