-- Why the journal refuses an attempt.
use Rattle.std.proofs.Common.{◌≡◌, ◌<◌, true, false, IsTrue, sym, ◌∙◌}
use Rattle.journal_world.specs.declared.address.Addr.{Addr}
use Rattle.journal_world.specs.declared.refusal.Refusal.{Refusal}
use Rattle.journal_world.specs.declared.refusal.Refusal.TheVariants.{NoMemory, BadAddress, BadSize, TooLarge, Busy, DeviceFailed, Stale, Stranger, Worn, Closed, Fenced}
use Rattle.journal_world.specs.Addresses.{Value, Shape, kind_of, is_valid}
use Rattle.journal_world.specs.Maps.{is_value_at}
use Rattle.journal_tail.specs.declared.limits.TheConstants.{MAX_UPDATES}
use Rattle.journal_tail.specs.Writes.{written_blocks}
use Rattle.journal_history.specs.Tokens.{SessionState}
use Rattle.journal_memory.specs.Causes.{CauseState}
use Rattle.journal_memory.specs.Transactions.{TransactionState}
use Rattle.journal_twophase.specs.Transactions.{TxnState, IsReadRefusal, IsOverwriteRefusal}
use Rattle.journal_twophase.specs.Commits.{IsCommitRefusal}
use Rattle.journal_attempts.specs.Refusals.{IsAttemptRefusal, IsAttemptEnd, fault_at}

pub read-refused : (layout : Shape) (t : TxnState) (a : Addr) (why : Refusal CauseState) → IsReadRefusal layout t a why → IsAttemptEnd (fault_at a why)
read-refused layout t a NoMemory is = tt
read-refused layout t a BadAddress is = tt
read-refused layout t a Busy is = tt
read-refused layout t a (DeviceFailed cause) is = is
read-refused layout t a (Stale cause) is = (t.seen, is.1)
read-refused layout t a (Closed cause) is = is
read-refused layout t a other is = absurd is.1

-- where the value is of the address's kind
pub overwrite-refused : (layout : Shape) (t : TxnState) (a : Addr) (v : Value) (why : Refusal CauseState) → (IsTrue (is_valid layout a) → is_value_at (kind_of layout a.block) v ≡ true) → IsOverwriteRefusal layout t a v why
    → IsAttemptEnd (fault_at a why)
overwrite-refused layout t a v NoMemory kind is = tt
overwrite-refused layout t a v BadAddress kind is = tt
overwrite-refused layout t a v BadSize kind is = absurd (let same : true ≡ false = sym (kind is.0) ∙ is.1 in cc)
overwrite-refused layout t a v Busy kind is = tt
overwrite-refused layout t a v other kind is = absurd is.1

pub commit-refused : (large : Type 0) (t : TransactionState) (s : SessionState) (why : Refusal CauseState) → (MAX_UPDATES < written_blocks t.writes → large) → IsCommitRefusal t s why → IsAttemptRefusal large why
commit-refused large t s NoMemory few is = tt
commit-refused large t s TooLarge few is = few is
commit-refused large t s (Stranger cause) few strange = (strange.0, strange.1)
commit-refused large t s (Worn cause) few is = is.1
commit-refused large t s Fenced few is = tt
commit-refused large t s (DeviceFailed cause) few is = is
commit-refused large t s (Stale cause) few is = is
commit-refused large t s (Closed cause) few is = is
commit-refused large t s other few is = absurd is

-- what may be refused as too large for a further reason may be refused so
pub refused-more : (large larger : Type 0) (why : Refusal CauseState) → (large → larger) → IsAttemptRefusal large why → IsAttemptRefusal larger why
refused-more large larger TooLarge more is = more is
refused-more large larger other more is = is
