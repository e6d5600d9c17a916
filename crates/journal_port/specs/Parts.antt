-- What the parts of a request do in an open transaction, and why they are given up.
use Rattle.std.specs.Prelude.{◌≡◌, ◌≢◌, false, IsTrue, List, ◌++◌, Some, None, Contains, All}
use mathlib.Core.List.{IsPrefix}
use Rattle.journal_world.specs.declared.refusal.Refusal.{Refusal}
use Rattle.journal_world.specs.declared.refusal.Refusal.TheVariants.{NoMemory, BadAddress, BadSize, DeviceFailed, Stale, Closed}
use Rattle.journal_world.specs.Addresses.{kind_of, is_valid, slot_of, Shape}
use Rattle.journal_world.specs.Maps.{Map, Pair, SamePairs, value_among, value_at, is_value_at}
use Rattle.journal_world.specs.Histories.{Entry, is_trusted, latest}
use Rattle.journal_memory.specs.declared.refusal_number.RefusalNumber.TheVariants.{J6, J9, J13}
use Rattle.journal_memory.specs.Causes.{CauseState, IsUnexplained}
use Rattle.journal_twophase.specs.Journals.{IsShown}
use Rattle.journal_twophase.specs.Transactions.{TxnState, holds_above}
use Rattle.journal_records.specs.declared.request.Action.TheVariants.{Compare, Write}
use Rattle.journal_records.specs.declared.request.Part.{Part}
use Rattle.journal_port.specs.declared.parts.PartFault.{PartFault}
use Rattle.journal_port.specs.declared.parts.PartFault.TheVariants.{Differs, Refused}
use Rattle.journal_port.specs.Requests.{compared, written}
use Rattle.journal_port.specs.Reads.{KeepsReads}

-- where the part compares, its value is the one that was read
abbrev pub IsRead : List Pair → Part → Type 0
IsRead reads p = p.action ≡ Compare → value_among reads p.addr ≡ Some p.value

-- The transaction did these parts, one after another. Where the opening was trusted, a value that
-- it has read stays what it has read, so that each part that compares has that value, also where
-- others compare its address
pub record Does (ps : List Part) (old new : TxnState) : Type 0 where
  pub reads : SamePairs new.reads (compared ps ++ old.reads)
  pub writes : SamePairs new.writes (written ps ++ old.writes)
  pub began : new.began ≡ old.began
  pub later : IsPrefix old.seen new.seen
  pub kept : IsTrue (is_trusted old.seen) → KeepsReads old.reads new.reads
  pub matched : IsTrue (is_trusted old.seen) → All (IsRead new.reads) ps

-- The part can be done without a slot below one that is held, and what it compares is not the
-- transaction's own
pub record IsReady (layout : Shape) (t : TxnState) (p : Part) : Type 0 where
  pub ascends : holds_above t.held (slot_of layout p.addr) ≡ false
  pub unwritten : p.action ≡ Compare → value_among t.writes p.addr ≡ None

-- where the part compares, the map gives its address its value
abbrev pub MatchesAt : Map → Part → Type 0
MatchesAt m p = p.action ≡ Compare → value_at m p.addr ≡ p.value

-- the part compares, and the map gives its address another value
abbrev pub DiffersAt : Map → Part → Type 0
DiffersAt m p = (p.action ≡ Compare) × (value_at m p.addr ≢ p.value)

-- why a part is refused. Never because another has its slot
abbrev pub IsPartRefusal : Shape → Part → Refusal CauseState → Type 0
IsPartRefusal layout p (Closed cause) = IsUnexplained J13 cause
IsPartRefusal layout p (DeviceFailed cause) = IsUnexplained J6 cause
IsPartRefusal layout p (Stale cause) = IsShown J9 cause
IsPartRefusal layout p BadAddress = is_valid layout p.addr ≡ false
IsPartRefusal layout p BadSize = (p.action ≡ Write) × IsTrue (is_valid layout p.addr) × (is_value_at (kind_of layout p.addr.block) p.value ≡ false)
IsPartRefusal layout p NoMemory = Unit {0}
IsPartRefusal layout p other = ⊥

-- why a part is given up, where the transaction has then seen this
abbrev pub IsPartFault : Shape → Part → List Entry → PartFault CauseState → Type 0
IsPartFault layout p seen Differs = IsTrue (is_trusted seen) → DiffersAt (latest seen) p
IsPartFault layout p seen (Refused why) = IsPartRefusal layout p why

-- why some are
abbrev pub IsPartsFault : Shape → List Part → List Entry → PartFault CauseState → Type 0
IsPartsFault layout ps seen fault = (p : Part) × Contains ps p × IsPartFault layout p seen fault
