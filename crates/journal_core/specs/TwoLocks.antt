-- Transactions of many actors, and the holds of two locks that threads make for them, in any order:
-- lists of events, and what they come to. A hold of one lock leaves the other's part as it is.
use Rattle.std.specs.Prelude.{ℕ, ◌≡◌, ◌≢◌, ◌⊎◌, ◌==◌, ◌≤◌, true, false, if◌then◌else◌, Bool, IsTrue, List, [], ◌∷◌, ◌++◌, All, Option, Some, None, Result, Ok, Err}
use mathlib.Core.List.{IsPrefix}
use Rattle.journal_world.specs.declared.address.Addr.{Addr}
use Rattle.journal_world.specs.declared.refusal.Refusal.{Refusal}
use Rattle.journal_world.specs.declared.refusal.Refusal.TheVariants.{Full}
use Rattle.journal_world.specs.Addresses.{Value, slot_of, Shape}
use Rattle.journal_world.specs.Maps.{Map, Pair, Transaction, Agrees, is_object}
use Rattle.journal_world.specs.Histories.{Entry, opened, latest, count, commits_of}
use Rattle.journal_world.specs.Histories.Entry.{opening, commit}
use Rattle.journal_block.specs.Block.{Bytes}
use Rattle.journal_disk.specs.Disks.{DiskState}
use Rattle.journal_disk.specs.Images.{IsImage}
use Rattle.journal_objlog.specs.Maps.{OpensAs}
use Rattle.journal_objlog.specs.ObjectLogs.{end_of}
use Rattle.journal_history.specs.Tokens.{SessionState, next_transaction, OnlyExtends}
use Rattle.journal_wal.specs.declared.step.GroupStep.{GroupStep}
use Rattle.journal_wal.specs.declared.step.InstallStep.{InstallStep}
use Rattle.journal_parts.specs.declared.step.LogStep.{LogStep}
use Rattle.journal_parts.specs.declared.step.LogStep.TheVariants.{Marked}
use Rattle.journal_memory.specs.Causes.{CauseState}
use Rattle.journal_parts.specs.CoreParts.{core_of}
use Rattle.journal_memory.specs.Transactions.{TransactionState, ReadResultState, begun, AreUnmoved, Remembers, Overwrites}
use Rattle.journal_memory.specs.Ledgers.{IsBehind, IsStrange}
use Rattle.journal_memory.specs.Fences.{AddsFence}
use Rattle.journal_parts.specs.Durables.{DurableState, Crashes, disk_of}
use Rattle.journal_memory.specs.Fetches.{FetchedState, IsBlockAfter}
use Rattle.journal_memory.specs.declared.bit_scan.BitScan.{BitScan}
use Rattle.journal_memory.specs.Bits.{bits_in}
use Rattle.journal_memory.specs.Volatiles.{VolatileState, IsFrontRefusal}
use Rattle.journal_parts.specs.Beginnings.{Begins}
use Rattle.journal_parts.specs.Holds.{IsBetween, AnswersFetch, AnswersGroupCall, AnswersHomeCall, MarksOrCuts, AnswersMarkOrCut, Trims, NotesFault, ShowsDisk, RefusesDisk}
use Rattle.journal_memory.specs.VolatileHolds.{FindsInMemory, AnswersRead, FindsBits, AnswersScan, CommitsInMemory, LacksBlocks, RefusesCommit, KeepsCopies, AnswersSession, FencesSession, AnswersFence, Stops, AnswersWait, AnswersFlush, AnswersShow}
use Rattle.journal_core.specs.Outcomes.{Answer, TellsAll, IsLeftBetween, HoldsImage, is_actor}
use Rattle.journal_core.specs.Outcomes.Answer.{nothing, value, scanned, committed, marked, fenced, waited, imaged, crashed, reopened}

-- An event. Of memory alone: an actor's transaction begins, with the session of a number, an object
-- is read, a session scans a block of bits, an actor's transaction is committed with the session of
-- a number, copies are kept of blocks that are at home, a session begins, one is fenced, all is
-- stopped, a session asks whether so many commits are marked, or whether all are that it has seen,
-- or is shown the history. Of the disk alone: blocks are fetched, the device call is made that is
-- due of the group in flight, the installer's next is. Of both: what is due where no device call
-- is, what is at home is dropped from memory up to a position, a fault is noted, a session takes an
-- image of the disk. Under no lock: slots are taken and given back, objects overwritten, and a
-- session sees more. A close gives the disk up: what is left of it is left as by a crash between
-- two calls
pub data Event : Type 0 where
  begins : (actor number : ℕ) → Event
  takes : ℕ → ℕ → Event
  gives_back : ℕ → ℕ → Event
  reads : ℕ → Addr → Event
  scans : (number : ℕ) → BitScan → Event
  overwrites : ℕ → Addr → Value → Event
  aborts : ℕ → Event
  commits : (actor number : ℕ) → Event
  copies : Event
  joins : Event
  sees : (number : ℕ) → Event
  fences : ℕ → Event
  stops : Event
  waits : (number n : ℕ) → Event
  flushes : (number : ℕ) → Event
  shows : (number : ℕ) → Event
  fetches : ℕ → List ℕ → Event
  logs : Event
  installs : Event
  marks_or_cuts : Event
  trims : ℕ → Event
  notes : Event
  images : (number : ℕ) → List Bytes → Event
  -- at a moment of a device call, or between two, and leaves this image
  crashes : List Bytes → Event
  opens : Event

-- what stands under the memory lock, and what under the disk's
pub record Parts : Type 0 where
  pub volatile : VolatileState
  pub durable : DurableState

abbrev pub history_of : Parts → List Entry
history_of p = p.volatile.ledger.history

-- A mount: its two parts, the session of each number, the transaction that each actor has open and
-- what the session had seen with which that began, the actor that holds each slot, and all that
-- each has fetched
pub record Mount : Type 0 where
  pub parts : Parts
  pub sessions : ℕ → Option SessionState
  pub transactions : ℕ → Option TransactionState
  pub began : ℕ → List Entry
  pub holders : ℕ → Option ℕ
  pub fetched : ℕ → List FetchedState

-- A mount, or a disk that waits to be opened by the layout that it had, as a crash left it
pub data Machine : Type 0 where
  up : Mount → Machine
  down : Shape → List Bytes → Machine

-- there is no session, and nobody has a transaction open, holds a slot, or has fetched a block
abbrev pub mounted : Parts → Machine
mounted parts = up (record {
  parts = parts;
  sessions = λ number. None;
  transactions = λ actor. None;
  began = λ actor. [];
  holders = λ slot. None;
  fetched = λ actor. [];
})

-- the actor holds the slot of the address
abbrev pub holds : Mount → ℕ → Addr → Bool
holds m actor a = is_actor (m.holders (slot_of (opened (history_of m.parts)).layout a)) actor

abbrev pub with_parts : Mount → VolatileState → DurableState → Mount
with_parts m volatile durable = record m { parts = record { volatile = volatile; durable = durable } }

-- one part has gone on
abbrev pub with_volatile : Mount → VolatileState → Mount
with_volatile m volatile = with_parts m volatile m.parts.durable

abbrev pub with_durable : Mount → DurableState → Mount
with_durable m durable = with_parts m m.parts.volatile durable

-- this is the session of the number
abbrev pub with_session : Mount → ℕ → SessionState → Mount
with_session m number session = record m { sessions = λ other. if other == number then Some session else m.sessions other }

-- the actor has this transaction open, or none
abbrev pub with_transaction : Mount → ℕ → Option TransactionState → Mount
with_transaction m actor draft = record m { transactions = λ other. if other == actor then draft else m.transactions other }

-- the actor's transaction has begun, with a session that had seen this
abbrev pub with_begun : Mount → ℕ → List Entry → Mount
with_begun m actor seen = record (with_transaction m actor (Some (begun seen))) { began = λ other. if other == actor then seen else m.began other }

-- the actor has the slot
abbrev pub with_slot : Mount → ℕ → ℕ → Mount
with_slot m actor slot = record m { holders = λ other. if other == slot then Some actor else m.holders other }

-- nobody has it
abbrev pub without_slot : Mount → ℕ → Mount
without_slot m slot = record m { holders = λ other. if other == slot then None else m.holders other }

-- the actor has these blocks too
abbrev pub with_fetched : Mount → ℕ → FetchedState → Mount
with_fetched m actor blocks = record m { fetched = λ other. if other == actor then blocks ∷ m.fetched other else m.fetched other }

-- the actor's transaction is ended, and all its slots are given up
abbrev pub ended : Mount → ℕ → Mount
ended m actor = record (with_transaction m actor None) { holders = λ slot. if is_actor (m.holders slot) actor then None else m.holders slot }

-- the layout of the mount's disk
abbrev pub layout_of : Mount → Shape
layout_of m = (opened (history_of m.parts)).layout

-- A mount begins, whose parts are apart from then on
pub record BeginsApart (rule : Map → Type 0) (layout : Shape) (disk : DiskState) (p : Parts) : Type 0 where
  pub begins : Begins rule layout disk (core_of p.volatile p.durable)
  pub between : IsBetween layout p.volatile p.durable

-- nothing is answered, and nothing changes
abbrev pub Ignores : Mount → Answer → Machine → Type 0
Ignores old answer new = (answer ≡ nothing) × (new ≡ up old)

-- a transaction begins after what its session has then seen of the history
abbrev pub BeginsTransaction : Mount → ℕ → ℕ → Option TransactionState → Option SessionState → Answer → Machine → Type 0
BeginsTransaction old actor number (Some draft) session answer new = Ignores old answer new
BeginsTransaction old actor number None None answer new = Ignores old answer new
BeginsTransaction old actor number None (Some session) answer new =
    (answer ≡ nothing) × ((after : SessionState) × OnlyExtends session after × IsPrefix after.seen (history_of old.parts)
    × (new ≡ up (with_begun (with_session old number after) actor after.seen)))

-- a session sees more of the history than it had
abbrev pub SeesMore : Mount → ℕ → Option SessionState → Answer → Machine → Type 0
SeesMore old number None answer new = Ignores old answer new
SeesMore old number (Some session) answer new =
    (answer ≡ nothing) × ((after : SessionState) × OnlyExtends session after × (new ≡ up (with_session old number after)))

-- a session that begins is that of its number
abbrev pub joined : Mount → Result SessionState (Refusal CauseState) → Mount
joined m (Ok session) = with_session m session.number session
joined m (Err why) = m

-- a slot is taken that nobody holds
abbrev pub TakesSlot : Mount → ℕ → ℕ → Option TransactionState → Option ℕ → Answer → Machine → Type 0
TakesSlot old actor slot None holder answer new = Ignores old answer new
TakesSlot old actor slot (Some draft) (Some holder) answer new = Ignores old answer new
TakesSlot old actor slot (Some draft) None answer new = (answer ≡ nothing) × (new ≡ up (with_slot old actor slot))

-- a slot is given back by itself, under which nothing is that the transaction read or overwrote
abbrev pub GivesBackSlot : Mount → ℕ → ℕ → Option TransactionState → Bool → Answer → Machine → Type 0
GivesBackSlot old actor slot None held answer new = Ignores old answer new
GivesBackSlot old actor slot (Some draft) false answer new = Ignores old answer new
GivesBackSlot old actor slot (Some draft) true answer new =
    (answer ≡ nothing)
    × All (λ (p : Pair). slot_of (layout_of old) p.0 ≢ slot) draft.reads
    × All (λ (p : Pair). slot_of (layout_of old) p.0 ≢ slot) draft.writes
    × (new ≡ up (without_slot old slot))

-- a read under its slot is answered in memory, and the answer is remembered; or it is refused, or
-- its block is to be fetched
abbrev pub ReadsUnderSlot : Mount → ℕ → Addr → Option TransactionState → Bool → Answer → Machine → Type 0
ReadsUnderSlot old actor a None held answer new = Ignores old answer new
ReadsUnderSlot old actor a (Some draft) false answer new = Ignores old answer new
ReadsUnderSlot old actor a (Some draft) true nothing new =
    (f : FetchedState) × ((r : Result (Option ReadResultState) (Refusal CauseState)) × ((x : Value) × ((w : VolatileState)
    × AnswersRead (layout_of old) old.parts.volatile draft a f r x w × (new ≡ up (with_volatile old w)))))
ReadsUnderSlot old actor a (Some draft) true (value b x) new =
    (b ≡ a) × ((found : ReadResultState) × ((w : VolatileState) × ((after : TransactionState)
    × FindsInMemory (layout_of old) old.parts.volatile draft a found x w × Remembers draft a x (history_of old.parts) after
    × (new ≡ up (with_transaction (with_volatile old w) actor (Some after))))))
ReadsUnderSlot old actor a (Some draft) true other new = ⊥

-- a block of bits is copied for a session, with no slot and for no transaction, and the bits of the
-- copy that are asked for are answered. Else nothing is answered, and either way all stays as it is
abbrev pub ScansBits : Mount → ℕ → BitScan → Option SessionState → Answer → Machine → Type 0
ScansBits old number s None answer new = Ignores old answer new
ScansBits old number s (Some session) nothing new =
    (after : SessionState) × ((f : FetchedState) × ((r : Result Bool (Refusal CauseState)) × ((copy : Bytes)
    × AnswersScan (layout_of old) old.parts.volatile session s f r copy after × (new ≡ up (with_session old number after)))))
ScansBits old number s (Some session) (scanned asked bits) new =
    (asked ≡ s) × ((after : SessionState) × ((copy : Bytes) × FindsBits (layout_of old) old.parts.volatile session s copy after
    × (bits ≡ bits_in copy s) × (new ≡ up (with_session old number after))))
ScansBits old number s (Some session) other new = ⊥

-- an object is remembered under its slot, or the overwrite is refused; no part is asked
abbrev pub OverwritesUnderSlot : Mount → ℕ → Pair → Option TransactionState → Bool → Answer → Machine → Type 0
OverwritesUnderSlot old actor p None held answer new = Ignores old answer new
OverwritesUnderSlot old actor p (Some draft) false answer new = Ignores old answer new
OverwritesUnderSlot old actor p (Some draft) true answer new =
    (answer ≡ nothing)
    × ((new ≡ up old)
    ⊎ (IsTrue (is_object (layout_of old) p)
    × ((after : TransactionState) × Overwrites draft p.0 p.1 after × (new ≡ up (with_transaction old actor (Some after))))))

-- the transaction is committed in memory as the session's next one, or refused, and ended either
-- way; or it goes on, since it waits for room in the log's tail, or since blocks are to be fetched
-- for it first. Where it is not committed the session may have seen more
abbrev pub Finishes : Mount → ℕ → ℕ → Option TransactionState → Option SessionState → Answer → Machine → Type 0
Finishes old actor number None session answer new = Ignores old answer new
Finishes old actor number (Some draft) None answer new = Ignores old answer new
Finishes old actor number (Some draft) (Some session) nothing new =
    (after : SessionState) × ((w : VolatileState) × OnlyExtends session after
    × (((why : Refusal CauseState) × RefusesCommit (layout_of old) old.parts.volatile session draft why w
    × (new ≡ up (ended (with_session (with_volatile old w) number after) actor)))
    ⊎ (((cause : CauseState) × RefusesCommit (layout_of old) old.parts.volatile session draft (Full cause) w
    × (new ≡ up (with_session (with_volatile old w) number after)))
    ⊎ ((f : FetchedState) × ((missing : List ℕ) × LacksBlocks (layout_of old) old.parts.volatile session draft f missing w
    × (new ≡ up (with_session (with_volatile old w) number after)))))))
Finishes old actor number (Some draft) (Some session) (committed t) new =
    (after : SessionState) × ((w : VolatileState) × (t ≡ next_transaction session draft.reads draft.writes)
    × CommitsInMemory (layout_of old) old.parts.volatile session draft w after
    × (new ≡ up (ended (with_session (with_volatile old w) number after) actor)))
Finishes old actor number (Some draft) (Some session) other new = ⊥

-- what was fetched is the actor's from then on
abbrev pub keeping : Mount → ℕ → Result FetchedState (Refusal CauseState) → Mount
keeping m actor (Ok fetched) = with_fetched m actor fetched
keeping m actor (Err why) = m

-- a fence that is added is answered by it. One that stands already, and a refusal, leave the
-- history
abbrev pub MakesFence : Mount → ℕ → Answer → Machine → Type 0
MakesFence old session nothing new =
    (r : Result (Unit {0}) (Refusal CauseState)) × ((w : VolatileState) × AnswersFence (layout_of old) session old.parts.volatile r w
    × (w.ledger.history ≡ history_of old.parts) × (new ≡ up (with_volatile old w)))
MakesFence old session (fenced s) new =
    (s ≡ session) × ((w : VolatileState) × AddsFence session old.parts.volatile.ledger w.ledger × FencesSession (layout_of old) session old.parts.volatile w
    × (new ≡ up (with_volatile old w)))
MakesFence old session other new = ⊥

-- what is due of both is done: a mark is answered by it, and any other leaves the history
abbrev pub MarksOrCutsBoth : Mount → Answer → Machine → Type 0
MarksOrCutsBoth old nothing new =
    (r : Result LogStep (Refusal CauseState)) × ((w : VolatileState) × ((e : DurableState) × AnswersMarkOrCut (layout_of old) old.parts.volatile old.parts.durable r w e
    × (w.ledger.history ≡ history_of old.parts) × (new ≡ up (with_parts old w e))))
MarksOrCutsBoth old (marked n) new =
    (w : VolatileState) × ((e : DurableState) × MarksOrCuts (layout_of old) old.parts.volatile old.parts.durable (Marked n) w e × (new ≡ up (with_parts old w e)))
MarksOrCutsBoth old other new = ⊥

-- a mark that stands is answered by how many commits it is of. Else nothing is answered, and either
-- way both parts stay as they are
abbrev pub WaitsFor : Mount → ℕ → ℕ → Option SessionState → Answer → Machine → Type 0
WaitsFor old number n None answer new = Ignores old answer new
WaitsFor old number n (Some session) nothing new =
    (after : SessionState) × ((r : Result Bool (Refusal CauseState)) × AnswersWait old.parts.volatile session n r after × (new ≡ up (with_session old number after)))
WaitsFor old number n (Some session) (waited k) new =
    (k ≡ n) × ((after : SessionState) × AnswersWait old.parts.volatile session n (Ok true) after × (new ≡ up (with_session old number after)))
WaitsFor old number n (Some session) other new = ⊥

-- the same of all commits that the session has seen
abbrev pub Flushes : Mount → ℕ → Option SessionState → Answer → Machine → Type 0
Flushes old number None answer new = Ignores old answer new
Flushes old number (Some session) nothing new =
    (after : SessionState) × ((r : Result Bool (Refusal CauseState)) × AnswersFlush old.parts.volatile session r after × (new ≡ up (with_session old number after)))
Flushes old number (Some session) (waited k) new =
    (k ≡ count session.seen) × ((after : SessionState) × AnswersFlush old.parts.volatile session (Ok true) after × (new ≡ up (with_session old number after)))
Flushes old number (Some session) other new = ⊥

-- a session is shown the history, or has seen more
abbrev pub ShowsHistory : Mount → ℕ → Option SessionState → Answer → Machine → Type 0
ShowsHistory old number None answer new = Ignores old answer new
ShowsHistory old number (Some session) answer new =
    (answer ≡ nothing) × ((after : SessionState) × ((r : Result (Unit {0}) (Refusal CauseState)) × AnswersShow old.parts.volatile session r after
    × (new ≡ up (with_session old number after))))

-- an image is taken of the disk that is lent under both, or the disk is not lent
abbrev pub TakesImage : Mount → ℕ → List Bytes → Option SessionState → Answer → Machine → Type 0
TakesImage old number image None answer new = Ignores old answer new
TakesImage old number image (Some session) nothing new =
    (after : SessionState) × ((why : Refusal CauseState) × RefusesDisk old.parts.volatile old.parts.durable session why after × (new ≡ up (with_session old number after)))
TakesImage old number image (Some session) (imaged other) new =
    (other ≡ image) × ((after : SessionState) × ShowsDisk old.parts.volatile old.parts.durable session after
    × IsImage (disk_of old.parts.durable).past image × (new ≡ up (with_session old number after)))
TakesImage old number image (Some session) other new = ⊥

-- The event may be answered so, and then leaves new. One that is not enabled changes nothing
abbrev pub HappensUp : Mount → Event → Answer → Machine → Type 0
HappensUp old (begins actor number) answer new = BeginsTransaction old actor number (old.transactions actor) (old.sessions number) answer new
HappensUp old (takes actor slot) answer new = TakesSlot old actor slot (old.transactions actor) (old.holders slot) answer new
HappensUp old (gives_back actor slot) answer new = GivesBackSlot old actor slot (old.transactions actor) (is_actor (old.holders slot) actor) answer new
HappensUp old (reads actor a) answer new = ReadsUnderSlot old actor a (old.transactions actor) (holds old actor a) answer new
HappensUp old (scans number s) answer new = ScansBits old number s (old.sessions number) answer new
HappensUp old (overwrites actor a v) answer new = OverwritesUnderSlot old actor (a, v) (old.transactions actor) (holds old actor a) answer new
HappensUp old (aborts actor) answer new = (answer ≡ nothing) × (new ≡ up (ended old actor))
HappensUp old (commits actor number) answer new = Finishes old actor number (old.transactions actor) (old.sessions number) answer new
HappensUp old copies answer new =
    (answer ≡ nothing) × ((w : VolatileState) × KeepsCopies (layout_of old) old.parts.volatile w × (new ≡ up (with_volatile old w)))
HappensUp old joins answer new =
    (answer ≡ nothing) × ((r : Result SessionState (Refusal CauseState)) × ((w : VolatileState) × AnswersSession old.parts.volatile r w
    × (new ≡ up (joined (with_volatile old w) r))))
HappensUp old (sees number) answer new = SeesMore old number (old.sessions number) answer new
HappensUp old (fences session) answer new = MakesFence old session answer new
HappensUp old stops answer new = (answer ≡ nothing) × ((w : VolatileState) × Stops old.parts.volatile w × (new ≡ up (with_volatile old w)))
HappensUp old (waits number n) answer new = WaitsFor old number n (old.sessions number) answer new
HappensUp old (flushes number) answer new = Flushes old number (old.sessions number) answer new
HappensUp old (shows number) answer new = ShowsHistory old number (old.sessions number) answer new
HappensUp old (fetches actor numbers) answer new =
    (answer ≡ nothing) × ((r : Result FetchedState (Refusal CauseState)) × ((e : DurableState) × AnswersFetch (layout_of old) old.parts.durable numbers r e
    × (new ≡ up (keeping (with_durable old e) actor r))))
HappensUp old logs answer new =
    (answer ≡ nothing) × ((r : Result GroupStep (Refusal CauseState)) × ((e : DurableState) × AnswersGroupCall (layout_of old) old.parts.durable r e
    × (new ≡ up (with_durable old e))))
HappensUp old installs answer new =
    (answer ≡ nothing) × ((r : Result InstallStep (Refusal CauseState)) × ((e : DurableState) × AnswersHomeCall (layout_of old) old.parts.durable r e
    × (new ≡ up (with_durable old e))))
HappensUp old marks_or_cuts answer new = MarksOrCutsBoth old answer new
HappensUp old (trims upto) answer new =
    (answer ≡ nothing) × ((w : VolatileState) × Trims (layout_of old) old.parts.volatile old.parts.durable upto w × (new ≡ up (with_volatile old w)))
HappensUp old notes answer new =
    (answer ≡ nothing) × ((w : VolatileState) × NotesFault old.parts.volatile old.parts.durable w × (new ≡ up (with_volatile old w)))
HappensUp old (images number image) answer new = TakesImage old number image (old.sessions number) answer new
HappensUp old (crashes image) answer new =
    (answer ≡ crashed) × ((e : DurableState) × Crashes old.parts.durable e
    × IsLeftBetween (disk_of old.parts.durable).past (disk_of e).past image × (new ≡ down (layout_of old) image))
HappensUp old opens answer new = Ignores old answer new

-- what waits is opened, or is refused and waits on
abbrev pub HappensDown : (Map → Type 0) → Shape → List Bytes → Event → Answer → Machine → Type 0
HappensDown rule layout image opens reopened new =
    (disk : DiskState) × HoldsImage disk image × ((parts : Parts) × BeginsApart rule layout disk parts × (new ≡ mounted parts))
HappensDown rule layout image event answer new = (answer ≡ nothing) × (new ≡ down layout image)

abbrev pub Happens : (Map → Type 0) → Machine → Event → Answer → Machine → Type 0
Happens rule (up old) event answer new = HappensUp old event answer new
Happens rule (down layout image) event answer new = HappensDown rule layout image event answer new

-- the same of a list of events and their answers
abbrev pub Run : (Map → Type 0) → Machine → List Event → List Answer → Machine → Type 0
Run rule old [] [] new = new ≡ old
Run rule old [] (answer ∷ answers) new = ⊥
Run rule old (event ∷ events) [] new = ⊥
Run rule old (event ∷ events) (answer ∷ answers) new =
    (mid : Machine) × Happens rule old event answer mid × Run rule mid events answers new

-- a run of one mount: no crash comes
abbrev pub RunUp : Mount → List Event → List Answer → Mount → Type 0
RunUp old [] [] new = new ≡ old
RunUp old [] (answer ∷ answers) new = ⊥
RunUp old (event ∷ events) [] new = ⊥
RunUp old (event ∷ events) (answer ∷ answers) new = (mid : Mount) × HappensUp old event answer (up mid) × RunUp mid events answers new

-- The history of a mount is its memory's. That of a disk that waits is the opening of the map that
-- it opens as by its layout
abbrev pub HasHistory : Machine → List Entry → Type 0
HasHistory (up m) history = history_of m.parts ≡ history
HasHistory (down layout image) history = (m : Map) × (m.layout ≡ layout) × OpensAs m image × (history ≡ opening m true ∷ [])

-- What an open transaction has read is what the map gives now, and no commit touched a slot under
-- which it read: neither a read nor its commit is refused for what others did
pub record IsUndisturbed (history : List Entry) (t : TransactionState) : Type 0 where
  pub later : IsPrefix t.seen history
  pub unmoved : AreUnmoved (opened history).layout history t
  pub agrees : Agrees (latest history) t.reads
  pub never_behind : (cause : CauseState) → IsBehind history t cause → ⊥

-- What was fetched, however long ago, is what the first commits of the history left: it goes from a
-- hold of one lock to a later hold of another. No hold is refused because the fetch had seen more
-- of the history
pub record StaysFetched (history : List Entry) (f : FetchedState) : Type 0 where
  pub begins : IsPrefix f.front history
  pub made : f.commits ≤ count history
  pub blocks : All (IsBlockAfter (opened history).layout history f.commits) f.updates
  pub never_longer : (why : Refusal CauseState) → IsFrontRefusal history f.front why → ⊥

-- The history's commits under a session's number are the session's own, so that none of its calls
-- is refused because of a stranger's
pub record HasOwnCommits (history : List Entry) (number : ℕ) (s : SessionState) : Type 0 where
  pub is : s.number ≡ number
  pub own : commits_of number history ≡ commits_of number s.mine
  pub never_strange : IsStrange history s → ⊥

-- A commit is one entry more and one more of its session's. It stands after all that the session
-- had seen with which its transaction began, and after all that its own session has seen, which has
-- then seen the commit
pub record StandsOnce (actor number : ℕ) (t : Transaction) (old new : Mount) : Type 0 where
  pub added : history_of new.parts ≡ history_of old.parts ++ commit t ∷ []
  pub once : commits_of number (history_of new.parts) ≡ commits_of number (history_of old.parts) ++ t ∷ []
  pub after_begin : IsPrefix (old.began actor) (history_of old.parts)
  pub after_seen : (s : SessionState) → old.sessions number ≡ Some s → IsPrefix s.seen (history_of old.parts)
  pub seen : (s : SessionState) → new.sessions number ≡ Some s → s.seen ≡ history_of new.parts

-- there is the session, and it has seen all that it had
abbrev pub HasSeenMore : SessionState → Option SessionState → Type 0
HasSeenMore old None = ⊥
HasSeenMore old (Some new) = (new.number ≡ old.number) × IsPrefix old.seen new.seen

-- The history and what each session has seen of it only grow
pub record Grows (old new : Mount) : Type 0 where
  pub history : IsPrefix (history_of old.parts) (history_of new.parts)
  pub sessions : (number : ℕ) (s : SessionState) → old.sessions number ≡ Some s → HasSeenMore s (new.sessions number)
