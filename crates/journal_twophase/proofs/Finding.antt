-- What a hold that scans says to the caller, and why it is refused.
use Rattle.std.proofs.Common.{◌≡◌, ⊎_elim, ◌<◌, Bool, true, false, IsTrue, List, Result, Ok, Err, IfOk, IfErr, OnOk, refl, sym, subst}
use Rattle.std.proofs.lemmas.Bool.{false≢true}
use Rattle.journal_world.specs.declared.refusal.Refusal.{Refusal}
use Rattle.journal_world.specs.declared.refusal.Refusal.TheVariants.{NoMemory, BadAddress, BadSize, TooLarge, Busy, DeviceFailed, BadLog, BadSuper, Stale, Stranger, Worn, Full, Closed, Fenced}
use Rattle.journal_world.specs.Addresses.{Shape}
use Rattle.journal_world.specs.Histories.{Entry, is_trusted, latest}
use Rattle.journal_world.proofs.Prefixes.{IsPrefix-refl}
use Rattle.journal_block.specs.Block.{Bytes}
use Rattle.journal_object.proofs.MapOfBlocks.{valid_block}
use Rattle.journal_history.specs.Tokens.{SessionState, OnlyExtends}
use Rattle.journal_memory.specs.declared.bit_scan.BitScan.{BitScan}
use Rattle.journal_memory.specs.Causes.{CauseState}
use Rattle.journal_memory.specs.Fetches.{FetchedState}
use Rattle.journal_memory.specs.Outsets.{Outset}
use Rattle.journal_memory.specs.Bits.{AreBitsOf, is_scan}
use Rattle.journal_memory.specs.Scans.{MayScan, IsScanCheckRefusal, IsScanRefusal as IsHoldRefusal}
use Rattle.journal_memory.specs.Volatiles.{VolatileState, IsFrontRefusal, outset_of}
use Rattle.journal_memory.specs.VolatileHolds.{AnswersScan}
use Rattle.journal_memory.proofs.Scanning.{scan_address}
use Rattle.journal_twophase.specs.Journals.{IsScanRefusal}

-- why it is refused by what is known before
pub check_refused : (layout : Shape) (o : Outset) (session : SessionState) (s : BitScan) (why : Refusal CauseState) → IsScanCheckRefusal layout o session s why → IsScanRefusal layout s why
check_refused layout o session s BadAddress it = it.1
check_refused layout o session s (Stale cause) it = (it.1, (session.seen, it.2.0))
check_refused layout o session s (Closed cause) it = it.0
check_refused layout o session s (DeviceFailed cause) it = it.0
check_refused layout o session s NoMemory it = absurd it
check_refused layout o session s BadSize it = absurd it
check_refused layout o session s TooLarge it = absurd it
check_refused layout o session s Busy it = absurd it
check_refused layout o session s BadLog it = absurd it
check_refused layout o session s BadSuper it = absurd it
check_refused layout o session s (Stranger cause) it = absurd it
check_refused layout o session s (Worn cause) it = absurd it
check_refused layout o session s (Full cause) it = absurd it
check_refused layout o session s Fenced it = absurd it

-- and by what was fetched
front_refused : (layout : Shape) (s : BitScan) (history seen : List Entry) (why : Refusal CauseState) → IsTrue (is_scan layout s) → IsFrontRefusal history seen why → IsScanRefusal layout s why
front_refused layout s history seen (Stale cause) is it = (is, (seen, it.0))
front_refused layout s history seen BadAddress is it = absurd it
front_refused layout s history seen (Closed cause) is it = absurd it
front_refused layout s history seen (DeviceFailed cause) is it = absurd it
front_refused layout s history seen NoMemory is it = absurd it
front_refused layout s history seen BadSize is it = absurd it
front_refused layout s history seen TooLarge is it = absurd it
front_refused layout s history seen Busy is it = absurd it
front_refused layout s history seen BadLog is it = absurd it
front_refused layout s history seen BadSuper is it = absurd it
front_refused layout s history seen (Stranger cause) is it = absurd it
front_refused layout s history seen (Worn cause) is it = absurd it
front_refused layout s history seen (Full cause) is it = absurd it
front_refused layout s history seen Fenced is it = absurd it

hold_refused : (layout : Shape) (v : VolatileState) (session : SessionState) (s : BitScan) (f : FetchedState) (why : Refusal CauseState) → IsHoldRefusal layout v session s f why → IsScanRefusal layout s why
hold_refused layout v session s f why it = ⊎_elim
    (λ (check : IsScanCheckRefusal layout (outset_of v) session s why). check_refused layout (outset_of v) session s why check)
    (λ (front : MayScan layout (outset_of v) session s × IsFrontRefusal v.ledger.history f.front why). front_refused layout s v.ledger.history f.front why front.0.bits front.1)
    it

-- what a look tells that comes before
module _ (layout : Shape) (o : Outset) (session : SessionState) (s : BitScan) where
  pub checked_valid : (r : Result (Unit {0}) (Refusal CauseState)) → OnOk r (MayScan layout o session s) → OnOk r (IsTrue (is_scan layout s))
  checked_valid (Ok done) may = may.bits
  checked_valid (Err why) may = tt

  pub checked_refused : (r : Result (Unit {0}) (Refusal CauseState)) → OnOk r (MayScan layout o session s) → IfErr r (IsScanCheckRefusal layout o session s)
      → IfErr r (IsScanRefusal layout s)
  checked_refused (Ok done) may it = tt
  checked_refused (Err why) may it = check_refused layout o session s why it

-- the block of bits is one of the disk
pub block_below : (layout : Shape) (s : BitScan) → IsTrue (is_scan layout s) → s.block < layout.blocks
block_below layout s is = (valid_block layout (record { block = s.block; off = s.first }) (scan_address layout s is)).1

-- what one hold answers
module _ (layout : Shape) (v : VolatileState) (session after : SessionState) (s : BitScan) (f : FetchedState) (copy : Bytes) where
  pub scan_bits : (r : Result Bool (Refusal CauseState)) → AnswersScan layout v session s f r copy after
      → IsTrue (is_trusted after.seen) → IfOk r (λ found. IsTrue found → AreBitsOf (latest after.seen) s.block copy)
  scan_bits (Ok true) it = λ trusted found. subst (λ (h : List Entry). IsTrue (is_trusted h) → AreBitsOf (latest h) s.block copy) (sym it.shown) it.bits trusted
  scan_bits (Ok false) it = λ trusted found. absurd (false≢true found)
  scan_bits (Err why) it = λ trusted. tt

  pub scan_valid : (r : Result Bool (Refusal CauseState)) → AnswersScan layout v session s f r copy after → OnOk r (IsTrue (is_scan layout s))
  scan_valid (Ok true) it = it.may.bits
  scan_valid (Ok false) it = it.may.bits
  scan_valid (Err why) it = tt

  pub scan_below : (r : Result Bool (Refusal CauseState)) → AnswersScan layout v session s f r copy after → OnOk r (s.block < layout.blocks)
  scan_below (Ok true) it = block_below layout s it.may.bits
  scan_below (Ok false) it = block_below layout s it.may.bits
  scan_below (Err why) it = tt

  stays_seen : after ≡ session → OnlyExtends session after
  stays_seen same = subst (OnlyExtends session) (sym same) (record { number = refl; mine = refl; seen = IsPrefix-refl session.seen })

  pub scan_extends : (r : Result Bool (Refusal CauseState)) → AnswersScan layout v session s f r copy after → OnlyExtends session after
  scan_extends (Ok true) it = it.extends
  scan_extends (Ok false) it = stays_seen it.stays
  scan_extends (Err why) it = stays_seen it.stays

  pub scan_refused : (r : Result Bool (Refusal CauseState)) → AnswersScan layout v session s f r copy after → IfErr r (IsScanRefusal layout s)
  scan_refused (Ok true) it = tt
  scan_refused (Ok false) it = tt
  scan_refused (Err why) it = hold_refused layout v session s f why it.refusal
