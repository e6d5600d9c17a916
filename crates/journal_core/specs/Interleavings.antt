-- Transactions of many actors, the logger's and the installer's steps, crashes and openings, in any
-- order: lists of events, and what they come to.
use Rattle.std.specs.Prelude.{ℕ, ◌≡◌, ◌⊎◌, ◌==◌, ◌≤◌, true, false, if◌then◌else◌, Bool, IsTrue, List, [], ◌∷◌, map, All, Option, Some, None, Result, Ok, Err}
use mathlib.Core.List.{IsPrefix}
use Rattle.journal_world.specs.declared.address.Addr.{Addr}
use Rattle.journal_world.specs.declared.refusal.Refusal.{Refusal}
use Rattle.journal_world.specs.Addresses.{Value, slot_of, Shape}
use Rattle.journal_world.specs.Maps.{Map, Pair, Agrees, value_at, is_object}
use Rattle.journal_world.specs.Histories.{Entry, opened, is_trusted, latest, at, count}
use Rattle.journal_world.specs.Histories.Entry.{opening, commit, fence}
use Rattle.journal_block.specs.declared.update.Update.{Update}
use Rattle.journal_block.specs.Block.{Bytes}
use Rattle.journal_disk.specs.Disks.{DiskState}
use Rattle.journal_objlog.specs.Maps.{OpensAs}
use Rattle.journal_history.specs.Tokens.{SessionState, CommitPlace, next_transaction}
use Rattle.journal_wal.specs.declared.step.InstallStep.{InstallStep}
use Rattle.journal_parts.specs.declared.step.LogStep.{LogStep}
use Rattle.journal_parts.specs.declared.step.LogStep.TheVariants.{Marked}
use Rattle.journal_memory.specs.Causes.{CauseState}
use Rattle.journal_parts.specs.CoreStates.{CoreState, Crashes, IsRunning, OnlyReads, disk_of}
use Rattle.journal_memory.specs.Transactions.{TransactionState, ReadResultState, begun, AreUnmoved, Remembers, Overwrites}
use Rattle.journal_core.specs.Steps.{LogAnswers, IsLogRefusal, InstallAnswers, IsInstallRefusal, MayRead, IsReadRefusal, BeginsSession, IsSessionRefusal, Stops, IsFetchRefusal}
use Rattle.journal_memory.specs.Ledgers.{IsBehind}
use Rattle.journal_memory.specs.Fetches.{FetchedState, IsFetched, IsBlockAfter}
use Rattle.journal_memory.specs.Volatiles.{IsFrontRefusal}
use Rattle.journal_core.specs.Commits.{IsCommitted, CanCommit, IsCommitRefusal}
use Rattle.journal_core.specs.FenceSteps.{AddsFence, AnswersFence}
use Rattle.journal_parts.specs.Beginnings.{Begins}
use Rattle.journal_core.specs.Outcomes.{Answer, IsLeftBetween, HoldsImage, is_actor}
use Rattle.journal_core.specs.Outcomes.Answer.{nothing, value, committed, marked, fenced, crashed, reopened}

-- An event. The first six are of one actor, and all of these but the first of the transaction that
-- it has open. A slot that it takes is held until the transaction is ended. An actor fetches blocks
-- of these numbers from the disk, and has them from then on, whatever steps come between. Then a
-- session is asked for, a session is fenced by its number, and the core is stopped. A step of the
-- logger is the next of: cut a group, put a log block, a barrier, put `end`, a barrier, a mark; one
-- of the installer the next of: put a home block, a barrier, put `start`, a barrier. A device call
-- of any of them may fail
pub data Event : Type 0 where
  begins : ℕ → Event
  takes : ℕ → ℕ → Event
  reads : ℕ → Addr → Event
  overwrites : ℕ → Addr → Value → Event
  aborts : ℕ → Event
  commits : ℕ → Event
  fetches : ℕ → List ℕ → Event
  joins : Event
  fences : ℕ → Event
  stops : Event
  logs : Event
  installs : Event
  -- at a moment of a call, or between two, and leaves this image
  crashes : List Bytes → Event
  opens : Event

-- A mount: its core, the transaction that each actor has open, the actor that holds each slot, and
-- all that each actor has fetched
pub record Mount : Type 0 where
  pub core : CoreState
  pub transactions : ℕ → Option TransactionState
  pub holders : ℕ → Option ℕ
  pub fetched : ℕ → List FetchedState

-- the actor holds the slot of the address
abbrev pub holds : Mount → ℕ → Addr → Bool
holds m actor a = is_actor (m.holders (slot_of (opened m.core.history).layout a)) actor

-- A mount, or a disk that waits to be opened by the layout that it had, as a crash left it
pub data Machine : Type 0 where
  up : Mount → Machine
  down : Shape → List Bytes → Machine

-- nobody has a transaction open, holds a slot, or has fetched a block
abbrev pub mounted : CoreState → Machine
mounted core = up (record { core = core; transactions = λ actor. None; holders = λ slot. None; fetched = λ actor. [] })

-- the core has gone on
abbrev pub with_core : Mount → CoreState → Mount
with_core m core = record m { core = core }

-- the actor has this transaction open, or none
abbrev pub with_transaction : Mount → ℕ → Option TransactionState → Mount
with_transaction m actor draft = record m { transactions = λ other. if other == actor then draft else m.transactions other }

-- the actor has the slot
abbrev pub with_slot : Mount → ℕ → ℕ → Mount
with_slot m actor slot = record m { holders = λ other. if other == slot then Some actor else m.holders other }

-- the actor has these blocks too
abbrev pub with_fetched : Mount → ℕ → FetchedState → Mount
with_fetched m actor blocks = record m { fetched = λ other. if other == actor then blocks ∷ m.fetched other else m.fetched other }

-- the actor's transaction is ended, and all its slots are given up
abbrev pub ended : Mount → ℕ → Mount
ended m actor = record (with_transaction m actor None) { holders = λ slot. if is_actor (m.holders slot) actor then None else m.holders slot }

-- The steps of the core, as events: each step's contract cites what it answers and leaves

-- A read was answered, on a disk of a layout
pub record FindsValue (layout : Shape) (old : CoreState) (t : TransactionState) (a : Addr) (v : Value) (new : CoreState) : Type 0 where
  pub may : MayRead layout old t a
  pub value : IsTrue (is_trusted old.history) → v ≡ value_at (latest old.history) a
  pub object : IsTrue (is_object layout (a, v))
  pub running : IsRunning new
  pub reads : OnlyReads old.objects new.objects
  pub others : new ≡ record old { objects = new.objects }
  pub crash : Crashes old new

-- A read was answered, and its transaction, which no one else has, remembers it
pub record ReadsValue (layout : Shape) (old : CoreState) (t : TransactionState) (a : Addr) (v : Value) (new : CoreState) (after : TransactionState) : Type 0 where
  pub finds : FindsValue layout old t a v new
  pub remembers : Remembers t a v old.history after

-- A read was refused
pub record RefusesRead (layout : Shape) (old : CoreState) (t : TransactionState) (a : Addr) (why : Refusal CauseState) (new : CoreState) : Type 0 where
  pub refusal : IsReadRefusal layout old t a new why
  pub reads : OnlyReads old.objects new.objects
  pub others : new ≡ record old { objects = new.objects }
  pub crash : Crashes old new

-- the answer, where the bytes read are these
abbrev pub AnswersRead : Shape → CoreState → TransactionState → Addr → Result ReadResultState (Refusal CauseState) → Value → CoreState → Type 0
AnswersRead layout old t a (Ok found) v new = FindsValue layout old t a v new
AnswersRead layout old t a (Err why) v new = RefusesRead layout old t a why new

-- the effect of a read that is answered by a refusal, or whose answer is not remembered: the core
-- refused the read, or found the value, or was not asked for want of memory to read into
abbrev pub IsUnread : Shape → CoreState → TransactionState → Addr → CoreState → Type 0
IsUnread layout old t a new =
    ((why : Refusal CauseState) × RefusesRead layout old t a why new)
    ⊎ ((v : Value) × FindsValue layout old t a v new)
    ⊎ (MayRead layout old t a × (new ≡ old))

-- The session's next transaction was committed, as it is
pub record CommitsTransaction (old : CoreState) (session : SessionState) (d : TransactionState) (new : CoreState) (after : SessionState) : Type 0 where
  pub can : CanCommit old session d
  pub committed : IsCommitted d.reads d.writes session after old new
  pub agrees : IsTrue (is_trusted old.history) → Agrees (latest old.history) d.reads
  pub running : IsRunning new
  pub crash : Crashes old new

-- A commit was refused
pub record RefusesCommit (old : CoreState) (session : SessionState) (d : TransactionState) (why : Refusal CauseState) (new : CoreState) : Type 0 where
  pub refusal : IsCommitRefusal old session d new why
  pub reads : OnlyReads old.objects new.objects
  pub others : new ≡ record old { objects = new.objects }
  pub crash : Crashes old new

-- the effect of a commit, or why it was refused
abbrev pub AnswersCommit : CoreState → SessionState → TransactionState → Result CommitPlace (Refusal CauseState) → CoreState → SessionState → Type 0
AnswersCommit old session d (Ok place) new after = CommitsTransaction old session d new after
AnswersCommit old session d (Err why) new after = RefusesCommit old session d why new

-- Blocks were read as they are logged, and nothing else was done: they are what the first commits
-- of a front of the history left
pub record FetchesBlocks (layout : Shape) (old : CoreState) (numbers : List ℕ) (f : FetchedState) (new : CoreState) : Type 0 where
  pub named : map (λ (u : Update). u.block) f.updates ≡ numbers
  pub begins : IsPrefix f.front old.history
  pub commits : f.commits ≡ old.logged
  pub objects : IsFetched layout f
  pub running : IsRunning new
  pub reads : OnlyReads old.objects new.objects
  pub others : new ≡ record old { objects = new.objects }
  pub crash : Crashes old new

-- A fetch was refused
pub record RefusesFetch (old : CoreState) (why : Refusal CauseState) (new : CoreState) : Type 0 where
  pub refusal : IsFetchRefusal old new why
  pub reads : OnlyReads old.objects new.objects
  pub others : new ≡ record old { objects = new.objects }
  pub crash : Crashes old new

abbrev pub AnswersFetch : Shape → CoreState → List ℕ → Result FetchedState (Refusal CauseState) → CoreState → Type 0
AnswersFetch layout old numbers (Ok fetched) new = FetchesBlocks layout old numbers fetched new
AnswersFetch layout old numbers (Err why) new = RefusesFetch old why new

-- The logger made a step
pub record LogsStep (old : CoreState) (step : LogStep) (new : CoreState) : Type 0 where
  pub did : LogAnswers old step new
  pub running : IsRunning old × IsRunning new
  pub crash : Crashes old new

-- The logger was refused a step
pub record RefusesLog (old : CoreState) (why : Refusal CauseState) (new : CoreState) : Type 0 where
  pub refusal : IsLogRefusal old new why
  pub crash : Crashes old new

-- the effect of a step of the logger, or why it was refused
abbrev pub AnswersLog : CoreState → Result LogStep (Refusal CauseState) → CoreState → Type 0
AnswersLog old (Ok step) new = LogsStep old step new
AnswersLog old (Err why) new = RefusesLog old why new

-- The installer made a step
pub record InstallsStep (old : CoreState) (step : InstallStep) (new : CoreState) : Type 0 where
  pub did : InstallAnswers old step new
  pub running : IsRunning old × IsRunning new
  pub crash : Crashes old new

-- The installer was refused a step
pub record RefusesInstall (old : CoreState) (why : Refusal CauseState) (new : CoreState) : Type 0 where
  pub refusal : IsInstallRefusal old new why
  pub crash : Crashes old new

-- the effect of a step of the installer, or why it was refused
abbrev pub AnswersInstall : CoreState → Result InstallStep (Refusal CauseState) → CoreState → Type 0
AnswersInstall old (Ok step) new = InstallsStep old step new
AnswersInstall old (Err why) new = RefusesInstall old why new

-- A session began
pub record Joins (old : CoreState) (session : SessionState) (new : CoreState) : Type 0 where
  pub begins : BeginsSession old session new
  pub crash : Crashes old new

-- A session was refused
pub record RefusesSession (old : CoreState) (why : Refusal CauseState) (new : CoreState) : Type 0 where
  pub refusal : IsSessionRefusal old why
  pub same : new ≡ old
  pub crash : Crashes old new

-- a session began, or why it was refused
abbrev pub AnswersSession : CoreState → Result SessionState (Refusal CauseState) → CoreState → Type 0
AnswersSession old (Ok session) new = Joins old session new
AnswersSession old (Err why) new = RefusesSession old why new

-- nothing is answered, and nothing changes
abbrev pub Ignores : Mount → Answer → Machine → Type 0
Ignores old answer new = (answer ≡ nothing) × (new ≡ up old)

-- a transaction begins after what its session has seen of the history
abbrev pub BeginsTransaction : Mount → ℕ → Option TransactionState → Answer → Machine → Type 0
BeginsTransaction old actor None answer new =
    (answer ≡ nothing) × ((seen : List Entry) × IsPrefix seen old.core.history × (new ≡ up (with_transaction old actor (Some (begun seen)))))
BeginsTransaction old actor (Some draft) answer new = Ignores old answer new

-- a slot is taken that nobody holds
abbrev pub TakesSlot : Mount → ℕ → ℕ → Option TransactionState → Option ℕ → Answer → Machine → Type 0
TakesSlot old actor slot None holder answer new = Ignores old answer new
TakesSlot old actor slot (Some draft) (Some holder) answer new = Ignores old answer new
TakesSlot old actor slot (Some draft) None answer new = (answer ≡ nothing) × (new ≡ up (with_slot old actor slot))

-- the layout of the mount's disk
abbrev pub layout_of : Mount → Shape
layout_of m = (opened m.core.history).layout

-- a read under its slot is answered by the core, and the answer is remembered; or it is refused
abbrev pub ReadsUnderSlot : Mount → ℕ → Addr → Option TransactionState → Bool → Answer → Machine → Type 0
ReadsUnderSlot old actor a None held answer new = Ignores old answer new
ReadsUnderSlot old actor a (Some draft) false answer new = Ignores old answer new
ReadsUnderSlot old actor a (Some draft) true nothing new =
    (core : CoreState) × IsUnread (layout_of old) old.core draft a core × (new ≡ up (with_core old core))
ReadsUnderSlot old actor a (Some draft) true (value b v) new =
    (b ≡ a) × ((core : CoreState) × ((after : TransactionState) × ReadsValue (layout_of old) old.core draft a v core after
    × (new ≡ up (with_transaction (with_core old core) actor (Some after)))))
ReadsUnderSlot old actor a (Some draft) true other new = ⊥

-- an object is remembered under its slot, or the overwrite is refused; the core is not asked
abbrev pub OverwritesUnderSlot : Mount → ℕ → Pair → Option TransactionState → Bool → Answer → Machine → Type 0
OverwritesUnderSlot old actor p None held answer new = Ignores old answer new
OverwritesUnderSlot old actor p (Some draft) false answer new = Ignores old answer new
OverwritesUnderSlot old actor p (Some draft) true answer new =
    (answer ≡ nothing)
    × ((new ≡ up old)
    ⊎ (IsTrue (is_object (layout_of old) p)
    × ((after : TransactionState) × Overwrites draft p.0 p.1 after × (new ≡ up (with_transaction old actor (Some after))))))

-- the transaction is committed by some session, as that session's next one, or refused; it is ended
-- either way
abbrev pub Finishes : Mount → ℕ → Option TransactionState → Answer → Machine → Type 0
Finishes old actor None answer new = Ignores old answer new
Finishes old actor (Some draft) nothing new =
    (session : SessionState) × ((why : Refusal CauseState) × ((core : CoreState) × RefusesCommit old.core session draft why core
    × (new ≡ up (ended (with_core old core) actor))))
Finishes old actor (Some draft) (committed t) new =
    (session : SessionState) × ((after : SessionState) × ((core : CoreState) × (t ≡ next_transaction session draft.reads draft.writes)
    × CommitsTransaction old.core session draft core after × (new ≡ up (ended (with_core old core) actor))))
Finishes old actor (Some draft) other new = ⊥

-- the fetched blocks are the actor's from then on
abbrev pub keeping : Mount → ℕ → Result FetchedState (Refusal CauseState) → Mount
keeping m actor (Ok fetched) = with_fetched m actor fetched
keeping m actor (Err why) = m

-- blocks are fetched, or that is refused
abbrev pub FetchesFor : Mount → ℕ → List ℕ → Answer → Machine → Type 0
FetchesFor old actor numbers answer new =
    (answer ≡ nothing) × ((result : Result FetchedState (Refusal CauseState)) × ((core : CoreState) × AnswersFetch (layout_of old) old.core numbers result core
    × (new ≡ up (keeping (with_core old core) actor result))))

-- a step of the logger that marks is answered by its mark, and any other leaves the history
abbrev pub MakesLogStep : Mount → Answer → Machine → Type 0
MakesLogStep old nothing new =
    (result : Result LogStep (Refusal CauseState)) × ((core : CoreState) × AnswersLog old.core result core
    × (core.history ≡ old.core.history) × (new ≡ up (with_core old core)))
MakesLogStep old (marked n) new =
    (core : CoreState) × LogsStep old.core (Marked n) core × (new ≡ up (with_core old core))
MakesLogStep old other new = ⊥

-- a fence that is added is answered by it. One that is there already, and a refusal, leave the
-- history
abbrev pub MakesFence : Mount → ℕ → Answer → Machine → Type 0
MakesFence old session nothing new =
    (result : Result (Unit {0}) (Refusal CauseState)) × ((core : CoreState) × AnswersFence session old.core result core
    × (core.history ≡ old.core.history) × (new ≡ up (with_core old core)))
MakesFence old session (fenced s) new =
    (s ≡ session) × ((core : CoreState) × AddsFence session old.core core × Crashes old.core core × (new ≡ up (with_core old core)))
MakesFence old session other new = ⊥

-- The event may be answered so, and then leaves new. One that is not enabled changes nothing
abbrev pub HappensUp : Mount → Event → Answer → Machine → Type 0
HappensUp old (begins actor) answer new = BeginsTransaction old actor (old.transactions actor) answer new
HappensUp old (takes actor slot) answer new = TakesSlot old actor slot (old.transactions actor) (old.holders slot) answer new
HappensUp old (reads actor a) answer new = ReadsUnderSlot old actor a (old.transactions actor) (holds old actor a) answer new
HappensUp old (overwrites actor a v) answer new = OverwritesUnderSlot old actor (a, v) (old.transactions actor) (holds old actor a) answer new
HappensUp old (aborts actor) answer new = (answer ≡ nothing) × (new ≡ up (ended old actor))
HappensUp old (commits actor) answer new = Finishes old actor (old.transactions actor) answer new
HappensUp old (fetches actor numbers) answer new = FetchesFor old actor numbers answer new
HappensUp old logs answer new = MakesLogStep old answer new
HappensUp old joins answer new =
    (answer ≡ nothing) × ((result : Result SessionState (Refusal CauseState)) × ((core : CoreState) × AnswersSession old.core result core
    × (new ≡ up (with_core old core))))
HappensUp old (fences session) answer new = MakesFence old session answer new
HappensUp old stops answer new = (answer ≡ nothing) × ((core : CoreState) × Stops old.core core × (new ≡ up (with_core old core)))
HappensUp old installs answer new =
    (answer ≡ nothing) × ((result : Result InstallStep (Refusal CauseState)) × ((core : CoreState) × AnswersInstall old.core result core
    × (new ≡ up (with_core old core))))
HappensUp old (crashes image) answer new =
    (answer ≡ crashed) × ((core : CoreState) × Crashes old.core core
    × IsLeftBetween (disk_of old.core).past (disk_of core).past image × (new ≡ down (layout_of old) image))
HappensUp old opens answer new = Ignores old answer new

-- the waiting disk is opened, or is refused and waits on
abbrev pub HappensDown : (Map → Type 0) → Shape → List Bytes → Event → Answer → Machine → Type 0
HappensDown rule layout image opens reopened new =
    (disk : DiskState) × HoldsImage disk image × ((core : CoreState) × Begins rule layout disk core × (new ≡ mounted core))
HappensDown rule layout image event answer new = (answer ≡ nothing) × (new ≡ down layout image)

abbrev pub Happens : (Map → Type 0) → Machine → Event → Answer → Machine → Type 0
Happens rule (up old) event answer new = HappensUp old event answer new
Happens rule (down layout image) event answer new = HappensDown rule layout image event answer new

-- the same of a list of events and their answers
abbrev pub Run : (Map → Type 0) → Machine → List Event → List Answer → Machine → Type 0
Run rule old [] [] new = new ≡ old
Run rule old [] (answer ∷ answers) new = ⊥
Run rule old (event ∷ events) [] new = ⊥
Run rule old (event ∷ events) (answer ∷ answers) new =
    (mid : Machine) × Happens rule old event answer mid × Run rule mid events answers new

-- The history of a mount is its core's. That of a disk that waits is the opening of the map that it
-- opens as by its layout
abbrev pub HasHistory : Machine → List Entry → Type 0
HasHistory (up m) history = m.core.history ≡ history
HasHistory (down layout image) history = (m : Map) × (m.layout ≡ layout) × OpensAs m image × (history ≡ opening m true ∷ [])

-- The map now gives all that an open transaction has read, and no commit touched a slot under which
-- it read: neither a read nor its commit is refused because of other transactions
pub record IsUndisturbed (c : CoreState) (t : TransactionState) : Type 0 where
  pub later : IsPrefix t.seen c.history
  pub unmoved : AreUnmoved (opened c.history).layout c.history t
  pub agrees : Agrees (latest c.history) t.reads
  pub never_behind : (cause : CauseState) → IsBehind c.history t cause → ⊥

-- The fetched blocks, however old, are as the first commits of the history left them, so that they
-- can be used in a later hold of another lock. No step is refused because the fetch had seen more
-- of the history
pub record StaysFetched (c : CoreState) (f : FetchedState) : Type 0 where
  pub begins : IsPrefix f.front c.history
  pub made : f.commits ≤ count c.history
  pub blocks : All (IsBlockAfter (opened c.history).layout c.history f.commits) f.updates
  pub never_longer : (why : Refusal CauseState) → IsFrontRefusal c.history f.front why → ⊥
