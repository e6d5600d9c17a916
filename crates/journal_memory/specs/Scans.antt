-- The facts by which a scan of a block's bits is judged before it is done, and why it is refused.
use Rattle.std.specs.Prelude.{◌≡◌, ◌⊎◌, false, IsTrue}
use mathlib.Core.List.{IsPrefix}
use Rattle.journal_world.specs.declared.refusal.Refusal.{Refusal}
use Rattle.journal_world.specs.declared.refusal.Refusal.TheVariants.{BadAddress, Stale}
use Rattle.journal_world.specs.Addresses.{Shape}
use Rattle.journal_history.specs.Tokens.{SessionState}
use Rattle.journal_memory.specs.declared.bit_scan.BitScan.{BitScan}
use Rattle.journal_memory.specs.Bits.{is_scan}
use Rattle.journal_memory.specs.Causes.{CauseState}
use Rattle.journal_memory.specs.Outsets.{Outset, GoesOn, IsEndRefusal}
use Rattle.journal_memory.specs.Fetches.{FetchedState}
use Rattle.journal_memory.specs.Volatiles.{VolatileState, IsFrontRefusal, outset_of}

-- Nothing that is known before the block is looked for refuses it
pub record MayScan (layout : Shape) (o : Outset) (session : SessionState) (s : BitScan) : Type 0 where
  pub running : GoesOn o
  pub bits : IsTrue (is_scan layout s)
  pub later : IsPrefix session.seen o.history

-- why it is refused by what is known then: the first of these that holds
abbrev pub IsScanCheckRefusal : Shape → Outset → SessionState → BitScan → Refusal CauseState → Type 0
IsScanCheckRefusal layout o session s BadAddress = GoesOn o × (is_scan layout s ≡ false)
IsScanCheckRefusal layout o session s (Stale cause) = GoesOn o × IsTrue (is_scan layout s) × IsFrontRefusal o.history session.seen (Stale cause)
IsScanCheckRefusal layout o session s other = IsEndRefusal o other

-- why it is refused: so, or else the fetch has seen more of the history
abbrev pub IsScanRefusal : Shape → VolatileState → SessionState → BitScan → FetchedState → Refusal CauseState → Type 0
IsScanRefusal layout v session s f why =
    IsScanCheckRefusal layout (outset_of v) session s why
    ⊎ (MayScan layout (outset_of v) session s × IsFrontRefusal v.ledger.history f.front why)
