-- What a request is owed as an answer.
use Rattle.std.specs.Prelude.{ℕ, ◌≡◌, ◌≢◌, ◌<◌, ◌≤◌, ◌⊎◌, ◌==◌, Bool, true, false, if◌then◌else◌, IsTrue, List, [], ◌∷◌, length, Contains, All}
use Rattle.std.specs.List.{zip, flat_map}
use Rattle.std.specs.List.Sorted.{IsNonDecreasingBy, IsPermutation}
use Rattle.journal_world.specs.declared.refusal.Refusal.{Refusal}
use Rattle.journal_world.specs.declared.refusal.Refusal.TheVariants.{NoMemory, BadAddress, BadSize, TooLarge, DeviceFailed, Stale, Stranger, Worn, Closed, Fenced}
use Rattle.journal_world.specs.declared.address.Addr.{Addr}
use Rattle.journal_world.specs.declared.layout.Region.{Region}
use Rattle.journal_world.specs.declared.layout.TheConstants.{UNUSED}
use Rattle.journal_world.specs.Addresses.{Value, is_valid, bits_of, Shape}
use Rattle.journal_world.specs.Maps.{Map, Pair, SamePairs, Agrees}
use Rattle.journal_world.specs.Histories.{Entry, is_trusted, is_fenced, latest, count, floor}
use Rattle.journal_tail.specs.declared.limits.TheConstants.{MAX_UPDATES}
use Rattle.journal_tail.specs.Writes.{written_blocks}
use Rattle.journal_history.specs.Tokens.{SessionState, CommitPlace, OnlyExtends}
use Rattle.journal_memory.specs.declared.refusal_number.RefusalNumber.TheVariants.{J6, J9, J11, J13}
use Rattle.journal_memory.specs.Causes.{CauseState, IsUnexplained}
use Rattle.journal_memory.specs.declared.bit_scan.BitScan.{BitScan}
use Rattle.journal_memory.specs.Bits.{found_bits, is_scan, AreInOrder}
use Rattle.journal_memory.specs.Transactions.{TransactionState}
use Rattle.journal_twophase.specs.Journals.{IsShown, IsScanRefusal}
use Rattle.journal_twophase.specs.Transactions.{TxnState, core_of}
use Rattle.journal_twophase.specs.Commits.{IsCommitted, IsCommitRefusal, ShowsFence, ShowsStrange}
use Rattle.journal_twophase.specs.Waits.{IsWaitRefusal}
use Rattle.journal_records.specs.declared.request.Part.{Part}
use Rattle.journal_records.specs.declared.request.Request.{Request}
use Rattle.journal_records.specs.declared.request.Request.TheVariants.{Hello, Commit, Read, Flush, Stat, Stop, Counters, Scan}
use Rattle.journal_records.specs.declared.greeting.ObjectRegion.{ObjectRegion}
use Rattle.journal_records.specs.declared.greeting.Opening.{Opening}
use Rattle.journal_records.specs.declared.answer.Counter.{Counter}
use Rattle.journal_records.specs.declared.refused.Refused as refused
use Rattle.journal_records.specs.declared.refused.Refused.TheVariants.{Conflict, OtherVersion, Forbidden, ReadOnly}
use Rattle.journal_records.specs.declared.refused.Refused.TheVariants as refusal
use Rattle.journal_records.specs.Statuses.{refused_as}
use Rattle.journal_port.specs.declared.respond.Terms.{Terms}
use Rattle.journal_port.specs.declared.parts.PartFault.{PartFault}
use Rattle.journal_port.specs.declared.parts.PartFault.TheVariants as fault
use Rattle.journal_records.specs.declared.answer.Answer.{Answer}
use Rattle.journal_records.specs.declared.answer.Answer.TheVariants.{Committed, Refused, Unsure, Values}
use Rattle.journal_records.specs.declared.answer.Answer.TheVariants as told
use Rattle.journal_port.specs.declared.rights.Rights.{Rights}
use Rattle.journal_port.specs.Requests.{compared, written, are_writing}
use Rattle.journal_port.specs.Parts.{MatchesAt, DiffersAt, IsPartRefusal}

-- the rule of a journal that any map meets
abbrev pub AnyMap : Map → Type 0
AnyMap m = Unit {0}

-- the journal refuses it, for such a reason
abbrev pub IsRefusedFor : (Refusal CauseState → Type 0) → refused.Refused → Type 0
IsRefusedFor for n = (why : Refusal CauseState) × (n ≡ refused_as why) × for why

-- ---- how a transaction ends

-- The transaction was committed. The two numbers are its place, and the commits up to there
pub record EndsAt (layout : Shape) (began : List Entry) (t : TransactionState) (old new : SessionState) (place count : ℕ) : Type 0 where
  pub receipt : CommitPlace
  pub committed : IsCommitted AnyMap layout began t old new receipt
  pub place_is : place ≡ receipt.place
  pub count_is : count ≡ receipt.count

-- it was not committed
abbrev pub IsEndRefused : TransactionState → SessionState → SessionState → refused.Refused → Type 0
IsEndRefused t old new n = OnlyExtends old new × ((why : Refusal CauseState) × (n ≡ refused_as why) × IsCommitRefusal t old why × ShowsFence new why)

-- what the end of a transaction is answered: one that is to wait is not known to be stable yet
abbrev pub IsEnd : Shape → TxnState → Bool → SessionState → SessionState → Answer → Type 0
IsEnd layout t waits old new (Committed place count) = (waits ≡ false) × EndsAt layout t.began (core_of t) old new place count
IsEnd layout t waits old new (Unsure place count) = IsTrue waits × EndsAt layout t.began (core_of t) old new place count
IsEnd layout t waits old new (Refused n) = IsEndRefused (core_of t) old new n
IsEnd layout t waits old new other = ⊥

-- what is answered where a part was given up
abbrev pub answer_of : {C : Type 0} → PartFault C → Answer
answer_of fault.Differs = Refused Conflict
answer_of (fault.Refused why) = Refused (refused_as why)

-- ---- a request to commit

-- The parts were committed by the session as one transaction: some time after all that it had seen
-- it has one more commit, whose reads are what the parts compare, and whose writes are what they
-- write. Where the opening was trusted, each part that compares has the value that the map gives
-- there
pub record CommitsParts (layout : Shape) (parts : List Part) (old new : SessionState) (place count : ℕ) : Type 0 where
  -- the session when the transaction began
  pub begun : SessionState
  pub began : OnlyExtends old begun
  pub transaction : TransactionState
  pub reads : SamePairs transaction.reads (compared parts)
  pub writes : SamePairs transaction.writes (written parts)
  pub ends : EndsAt layout begun.seen transaction begun new place count
  pub matches : IsTrue (is_trusted ends.committed.found) → All (MatchesAt (latest ends.committed.found)) parts

-- More blocks are written than a transaction may write
abbrev pub IsTooLarge : List Part → Type 0
IsTooLarge parts = (writes : List Pair) × SamePairs writes (written parts) × (MAX_UPDATES < written_blocks writes)

-- Why a request to commit is refused. Never because another has a slot, and never for room
abbrev pub IsRefusal : Shape → List Part → SessionState → SessionState → Refusal CauseState → Type 0
IsRefusal layout parts old new BadAddress = (p : Part) × Contains parts p × IsPartRefusal layout p BadAddress
IsRefusal layout parts old new BadSize = (p : Part) × Contains parts p × IsPartRefusal layout p BadSize
IsRefusal layout parts old new TooLarge = IsTooLarge parts
IsRefusal layout parts old new (Closed cause) = IsUnexplained J13 cause
IsRefusal layout parts old new (DeviceFailed cause) = IsUnexplained J6 cause
IsRefusal layout parts old new (Stale cause) = IsShown J9 cause
IsRefusal layout parts old new (Stranger cause) = ShowsStrange old cause
IsRefusal layout parts old new (Worn cause) = IsUnexplained J11 cause
IsRefusal layout parts old new Fenced = is_fenced new.number new.seen ≡ true
IsRefusal layout parts old new NoMemory = Unit {0}
IsRefusal layout parts old new other = ⊥

-- Some part compares another value than the map gives, at the end of what the session has then seen
abbrev pub IsConflict : List Part → SessionState → refused.Refused → Type 0
IsConflict parts new n = (n ≡ Conflict) × (IsTrue (is_trusted new.seen) → (p : Part) × Contains parts p × DiffersAt (latest new.seen) p)

-- What a request to commit these parts is owed. One that is to wait is told to be committed only
-- where a mark of this history covers it
abbrev pub IsCommitAnswer : Shape → List Part → Bool → List Entry → SessionState → SessionState → Answer → Type 0
IsCommitAnswer layout parts waits marks old new (Committed place count) = CommitsParts layout parts old new place count × (IsTrue waits → count ≤ floor marks)
IsCommitAnswer layout parts waits marks old new (Unsure place count) = IsTrue waits × CommitsParts layout parts old new place count
IsCommitAnswer layout parts waits marks old new (Refused n) = OnlyExtends old new × (IsConflict parts new n ⊎ IsRefusedFor (IsRefusal layout parts old new) n)
IsCommitAnswer layout parts waits marks old new other = ⊥

-- the parts write, and who asks may not
abbrev pub is_denied : Rights → List Part → Bool
is_denied rights parts = if rights.may_write then false else are_writing parts

-- What the request is owed by whether it is denied: then it is refused, and nothing was done
abbrev pub IsCommitReply : Shape → Bool → List Part → Bool → List Entry → SessionState → SessionState → Answer → Type 0
IsCommitReply layout true parts waits marks old new answer = (new ≡ old) × (answer ≡ Refused ReadOnly)
IsCommitReply layout false parts waits marks old new answer = IsCommitAnswer layout parts waits marks old new answer

-- ---- a request to read

-- why an address is not read. Never because another has its slot
abbrev pub IsAddrRefusal : Shape → Addr → Refusal CauseState → Type 0
IsAddrRefusal layout a (Closed cause) = IsUnexplained J13 cause
IsAddrRefusal layout a (DeviceFailed cause) = IsUnexplained J6 cause
IsAddrRefusal layout a (Stale cause) = IsShown J9 cause
IsAddrRefusal layout a BadAddress = is_valid layout a ≡ false
IsAddrRefusal layout a NoMemory = Unit {0}
IsAddrRefusal layout a other = ⊥

-- why a request to read is refused
abbrev pub IsReadRefusal : Shape → List Addr → Refusal CauseState → Type 0
IsReadRefusal layout addrs (Closed cause) = IsUnexplained J13 cause
IsReadRefusal layout addrs (DeviceFailed cause) = IsUnexplained J6 cause
IsReadRefusal layout addrs (Stale cause) = IsShown J9 cause
IsReadRefusal layout addrs BadAddress = (a : Addr) × Contains addrs a × (is_valid layout a ≡ false)
IsReadRefusal layout addrs NoMemory = Unit {0}
IsReadRefusal layout addrs other = ⊥

-- The values are what the map gives the addresses, each of them, at the end of what was seen
pub record ReadsValues (addrs : List Addr) (values : List Value) (seen : List Entry) : Type 0 where
  pub counted : length values ≡ length addrs
  pub agrees : IsTrue (is_trusted seen) → Agrees (latest seen) (zip addrs values)

-- What a request to read these addresses is owed
abbrev pub IsReadAnswer : Shape → List Addr → SessionState → SessionState → Answer → Type 0
IsReadAnswer layout addrs old new (Values values) = OnlyExtends old new × ReadsValues addrs values.items new.seen
IsReadAnswer layout addrs old new (Refused n) = OnlyExtends old new × IsRefusedFor (IsReadRefusal layout addrs) n
IsReadAnswer layout addrs old new other = ⊥

-- ---- other requests

-- what a connection may ask for, and what it is told of the opening: the number of the opening, and
-- which counters the program tells
pub record Offer : Type 1 where
  pub rights : Rights
  pub number : ℕ
  pub tells : List Counter → Type 0

abbrev pub offer : Terms → (List Counter → Type 0) → Offer
offer terms tells = record { rights = terms.rights; number = terms.number; tells = tells }

-- a region as a client is told it, where it is in use
abbrev pub told_region : Region → List ObjectRegion
told_region r = if r.first == UNUSED then [] else record { first = r.first; bits = bits_of r.kind } ∷ []

abbrev pub told_regions : List Region → List ObjectRegion
told_regions regions = flat_map told_region regions

-- The opening is that of a disk with this layout, and has this number
pub record TellsOpening (layout : Shape) (number : ℕ) (opening : Opening) : Type 0 where
  pub blocks : opening.blocks ≡ layout.blocks
  pub is_number : opening.number ≡ number
  pub slots : opening.slots ≡ layout.slots
  pub most_blocks : opening.most_blocks ≡ MAX_UPDATES
  pub regions : opening.regions.items ≡ told_regions layout.regions

-- What a hello in this version is owed: in version 1 the number of blocks, in version 2 the
-- opening, or that another version is asked for
abbrev pub IsHelloAnswer : Shape → ℕ → ℕ → SessionState → SessionState → Answer → Type 0
IsHelloAnswer layout number asked old new (told.Hello blocks) = (new ≡ old) × (asked ≡ 1) × (blocks ≡ layout.blocks)
IsHelloAnswer layout number asked old new (told.Opening opening) = (new ≡ old) × (asked ≡ 2) × TellsOpening layout number opening
IsHelloAnswer layout number asked old new (Refused n) = (new ≡ old) × (((asked ≢ 1) × (asked ≢ 2) × (n ≡ OtherVersion)) ⊎ ((asked ≡ 2) × (n ≡ refusal.NoMemory)))
IsHelloAnswer layout number asked old new other = ⊥

-- So many commits are stable, and among them all that the session had seen
abbrev pub IsFlushed : SessionState → SessionState → ℕ → Type 0
IsFlushed old new stable = OnlyExtends old new × (count old.seen ≤ stable) × (stable ≤ floor new.seen)

-- They are not known to be
abbrev pub IsNotFlushed : SessionState → SessionState → refused.Refused → Type 0
IsNotFlushed old new n = OnlyExtends old new × IsRefusedFor (IsWaitRefusal new) n

abbrev pub IsFlushAnswer : SessionState → SessionState → Answer → Type 0
IsFlushAnswer old new (told.Flushed stable) = IsFlushed old new stable
IsFlushAnswer old new (Refused n) = IsNotFlushed old new n
IsFlushAnswer old new other = ⊥

-- Of the commits so many at least are stable. How many there are is told as the journal counts them
abbrev pub IsStatAnswer : SessionState → SessionState → Answer → Type 0
IsStatAnswer old new (told.Stat commits stable) = OnlyExtends old new × (stable ≤ floor new.seen)
IsStatAnswer old new other = ⊥

-- The service ends once all that the session had seen is stable. A connection that may not end it
-- is refused
abbrev pub IsStopAnswer : Bool → SessionState → SessionState → Answer → Type 0
IsStopAnswer may_stop old new told.Stopping = IsTrue may_stop × ((stable : ℕ) × IsFlushed old new stable)
IsStopAnswer may_stop old new (Refused n) = ((may_stop ≡ false) × (n ≡ Forbidden) × (new ≡ old)) ⊎ (IsTrue may_stop × IsNotFlushed old new n)
IsStopAnswer may_stop old new other = ⊥

abbrev pub name_of : Counter → ℕ
name_of counter = counter.name

-- Just the counters that the program tells, by ascending names, or that memory is refused
abbrev pub IsCountersAnswer : (List Counter → Type 0) → SessionState → SessionState → Answer → Type 0
IsCountersAnswer tells old new (told.Counters counters) = (new ≡ old) × ((passed : List Counter) × tells passed × IsPermutation passed counters.items × IsNonDecreasingBy name_of counters.items)
IsCountersAnswer tells old new (Refused n) = (new ≡ old) × (n ≡ refusal.NoMemory)
IsCountersAnswer tells old new other = ⊥

-- The bits that the map has at the end of what was then seen, or why they are not found. They are
-- in order, and of a block of bits
abbrev pub IsScanAnswer : Shape → BitScan → SessionState → SessionState → Answer → Type 0
IsScanAnswer layout scan old new (told.Bits bits) = OnlyExtends old new × IsTrue (is_scan layout scan) × AreInOrder scan bits.items × (IsTrue (is_trusted new.seen) → bits.items ≡ found_bits (latest new.seen) scan)
IsScanAnswer layout scan old new (Refused n) = OnlyExtends old new × IsRefusedFor (IsScanRefusal layout scan) n
IsScanAnswer layout scan old new other = ⊥

abbrev pub scan_of : ℕ → ℕ → Bool → ℕ → BitScan
scan_of block first value most = record { block = block; first = first; value = value; most = most }

-- ---- any request

-- What a request is owed as its answer, which leads the session from what it had seen to what it
-- has then seen, by the marks of this history
abbrev pub IsAnswerTo : Shape → Offer → List Entry → Request → SessionState → SessionState → Answer → Type 0
IsAnswerTo layout offer marks (Hello version) old new answer = IsHelloAnswer layout offer.number version old new answer
IsAnswerTo layout offer marks (Commit parts waits) old new answer = IsCommitReply layout (is_denied offer.rights parts.items) parts.items waits marks old new answer
IsAnswerTo layout offer marks (Read addrs) old new answer = IsReadAnswer layout addrs.items old new answer
IsAnswerTo layout offer marks Flush old new answer = IsFlushAnswer old new answer
IsAnswerTo layout offer marks Stat old new answer = IsStatAnswer old new answer
IsAnswerTo layout offer marks Stop old new answer = IsStopAnswer offer.rights.may_stop old new answer
IsAnswerTo layout offer marks Counters old new answer = IsCountersAnswer offer.tells old new answer
IsAnswerTo layout offer marks (Scan block first value most) old new answer = IsScanAnswer layout (scan_of block first value most) old new answer
