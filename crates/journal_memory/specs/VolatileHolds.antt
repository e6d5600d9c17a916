-- The holds of the memory lock alone, each as one event: its answer and its effect.
use Rattle.std.specs.Prelude.{ℕ, ◌≡◌, ◌<◌, ◌≤◌, ◌+◌, Bool, true, false, IsTrue, List, [], Option, Some, None, Result, Ok, Err}
use Rattle.journal_world.specs.declared.address.Addr.{Addr}
use Rattle.journal_world.specs.declared.refusal.Refusal.{Refusal}
use Rattle.journal_world.specs.Addresses.{Value, Shape}
use Rattle.journal_world.specs.Maps.{Agrees, value_at, is_object}
use Rattle.journal_world.specs.Histories.{is_trusted, latest, count, floor, commits_of, is_fenced}
use Rattle.journal_block.specs.Block.{Bytes}
use Rattle.journal_block.specs.Updates.{updates_block}
use Rattle.journal_tail.specs.ObjectTails.{known_at, known_updates, missing_blocks}
use Rattle.journal_history.specs.Tokens.{SessionState, CommitPlace, IsExact, OnlyExtends}
use Rattle.journal_memory.specs.declared.volatile_commit.CommitStep.{CommitStep}
use Rattle.journal_memory.specs.declared.volatile_commit.CommitStep.TheVariants.{Done, Missing}
use Rattle.journal_memory.specs.Causes.{CauseState}
use Rattle.journal_memory.specs.Transactions.{TransactionState, ReadResultState}
use Rattle.journal_memory.specs.Ledgers.{IsNumberRefusal, IsStaleRefusal}
use Rattle.journal_memory.specs.Fences.{SetsFence, IsFenceRefusal}
use Rattle.journal_memory.specs.Outsets.{MayRead, CanCommit, IsCommitRefusal, GoesOn}
use Rattle.journal_memory.specs.Waits.{IsWaitRefusal, IsFlushRefusal}
use Rattle.journal_memory.specs.Fetches.{FetchedState}
use Rattle.journal_memory.specs.Volatiles.{VolatileState, IsVolatile, IsReadRefusal, outset_of, usable}
use Rattle.journal_memory.specs.VolatileCommits.{IsCommitted, with_room}
use Rattle.journal_memory.specs.declared.bit_scan.BitScan.{BitScan}
use Rattle.journal_memory.specs.Bits.{AreBitsOf}
use Rattle.journal_memory.specs.Scans.{MayScan, IsScanRefusal}

-- An object was read in memory
pub record FindsInMemory (layout : Shape) (old : VolatileState) (t : TransactionState) (a : Addr) (answer : ReadResultState) (x : Value) (new : VolatileState) : Type 0 where
  pub may : MayRead layout (outset_of old) t a
  pub found : answer ≡ record { addr = a; seen = old.ledger.history }
  pub value : IsTrue (is_trusted old.ledger.history) → x ≡ value_at (latest old.ledger.history) a
  pub object : IsTrue (is_object layout (a, x))
  pub same : new ≡ old

-- or its block is to be fetched
pub record LacksBlock (layout : Shape) (old : VolatileState) (t : TransactionState) (a : Addr) (f : FetchedState) (new : VolatileState) : Type 0 where
  pub may : MayRead layout (outset_of old) t a
  pub lacks : known_at layout (usable old f) old.tail a ≡ None
  pub same : new ≡ old

-- or it was refused
pub record RefusesRead (layout : Shape) (old : VolatileState) (t : TransactionState) (a : Addr) (f : FetchedState) (why : Refusal CauseState) (new : VolatileState) : Type 0 where
  pub refusal : IsReadRefusal layout old t a f why
  pub same : new ≡ old

-- the answer, with the blocks that were fetched before, where the bytes read are these
abbrev pub AnswersRead : Shape → VolatileState → TransactionState → Addr → FetchedState → Result (Option ReadResultState) (Refusal CauseState) → Value → VolatileState → Type 0
AnswersRead layout old t a f (Ok (Some found)) x new = FindsInMemory layout old t a found x new
AnswersRead layout old t a f (Ok None) x new = LacksBlock layout old t a f new
AnswersRead layout old t a f (Err why) x new = RefusesRead layout old t a f why new

-- A block of bits was copied, and its session has then seen the whole history
pub record FindsBits (layout : Shape) (v : VolatileState) (session : SessionState) (s : BitScan) (copy : Bytes) (after : SessionState) : Type 0 where
  pub may : MayScan layout (outset_of v) session s
  pub bits : IsTrue (is_trusted v.ledger.history) → AreBitsOf (latest v.ledger.history) s.block copy
  pub shown : after.seen ≡ v.ledger.history
  pub extends : OnlyExtends session after

-- or it is to be fetched
pub record LacksBits (layout : Shape) (v : VolatileState) (session : SessionState) (s : BitScan) (f : FetchedState) (after : SessionState) : Type 0 where
  pub may : MayScan layout (outset_of v) session s
  pub lacks : updates_block (known_updates (usable v f) v.tail) s.block ≡ false
  pub stays : after ≡ session

-- or that was refused
pub record RefusesScan (layout : Shape) (v : VolatileState) (session : SessionState) (s : BitScan) (f : FetchedState) (why : Refusal CauseState) (after : SessionState) : Type 0 where
  pub refusal : IsScanRefusal layout v session s f why
  pub stays : after ≡ session

-- the answer, with the blocks that were fetched before, where these bytes were copied. The part
-- stays as it is
abbrev pub AnswersScan : Shape → VolatileState → SessionState → BitScan → FetchedState → Result Bool (Refusal CauseState) → Bytes → SessionState → Type 0
AnswersScan layout v session s f (Ok true) copy after = FindsBits layout v session s copy after
AnswersScan layout v session s f (Ok false) copy after = LacksBits layout v session s f after
AnswersScan layout v session s f (Err why) copy after = RefusesScan layout v session s f why after

-- The session's next transaction was committed in memory, as it is
pub record CommitsInMemory (layout : Shape) (old : VolatileState) (session : SessionState) (t : TransactionState) (new : VolatileState) (after : SessionState) : Type 0 where
  pub can : CanCommit (outset_of old) session t
  pub committed : IsCommitted t.reads t.writes session after old new
  pub agrees : IsTrue (is_trusted old.ledger.history) → Agrees (latest old.ledger.history) t.reads
  pub kept : IsVolatile layout new

-- or blocks are to be fetched for it
pub record LacksBlocks (layout : Shape) (old : VolatileState) (session : SessionState) (t : TransactionState) (f : FetchedState) (asked : List ℕ) (new : VolatileState) : Type 0 where
  pub can : CanCommit (outset_of old) session t
  pub missing : asked ≡ missing_blocks layout (known_updates (usable old f) old.tail) t.writes
  pub same : new ≡ with_room old new.tail.log.room
  pub kept : IsVolatile layout new

-- or it was refused
pub record RefusesCommit (layout : Shape) (old : VolatileState) (session : SessionState) (t : TransactionState) (why : Refusal CauseState) (new : VolatileState) : Type 0 where
  pub refusal : IsCommitRefusal (outset_of old) session t why
  pub same : new ≡ with_room old new.tail.log.room
  pub kept : IsVolatile layout new

abbrev pub AnswersCommit : Shape → VolatileState → SessionState → TransactionState → FetchedState → Result (CommitStep CommitPlace) (Refusal CauseState) → VolatileState → SessionState → Type 0
AnswersCommit layout old session t f (Ok (Done place)) new after = CommitsInMemory layout old session t new after
AnswersCommit layout old session t f (Ok (Missing missing)) new after = LacksBlocks layout old session t f missing.items new
AnswersCommit layout old session t f (Err why) new after = RefusesCommit layout old session t why new

-- There are other copies of blocks that are at home, and nothing else was done
pub record KeepsCopies (layout : Shape) (old new : VolatileState) : Type 0 where
  pub others : new ≡ record old { tail = record old.tail { cache = new.tail.cache } }
  pub kept : IsVolatile layout new

-- A session began
pub record BeginsSession (old : VolatileState) (session : SessionState) (new : VolatileState) : Type 0 where
  pub is : session ≡ record { number = old.ledger.next; mine = old.ledger.history; seen = old.ledger.history }
  pub fresh : commits_of old.ledger.next old.ledger.history ≡ []
  pub unfenced : is_fenced old.ledger.next old.ledger.history ≡ false
  pub others : new ≡ record old { ledger = record old.ledger { next = old.ledger.next + 1 } }

-- or was refused
pub record RefusesSession (old : VolatileState) (why : Refusal CauseState) (new : VolatileState) : Type 0 where
  pub refusal : IsNumberRefusal old.ledger.next why
  pub same : new ≡ old

abbrev pub AnswersSession : VolatileState → Result SessionState (Refusal CauseState) → VolatileState → Type 0
AnswersSession old (Ok session) new = BeginsSession old session new
AnswersSession old (Err why) new = RefusesSession old why new

-- A session is fenced, by one entry more, or by one that is there
pub record FencesSession (layout : Shape) (session : ℕ) (old new : VolatileState) : Type 0 where
  pub did : SetsFence session old.ledger new.ledger
  pub others : new ≡ record old { ledger = new.ledger }
  pub kept : IsVolatile layout new

-- or that was refused
pub record RefusesFence (session : ℕ) (old : VolatileState) (why : Refusal CauseState) (new : VolatileState) : Type 0 where
  pub refusal : IsFenceRefusal session (outset_of old) why
  pub same : new ≡ old

abbrev pub AnswersFence : Shape → ℕ → VolatileState → Result (Unit {0}) (Refusal CauseState) → VolatileState → Type 0
AnswersFence layout session old (Ok done) new = FencesSession layout session old new
AnswersFence layout session old (Err why) new = RefusesFence session old why new

-- It was stopped, and nothing else was done
abbrev pub Stops : VolatileState → VolatileState → Type 0
Stops old new = new ≡ record old { ledger = record old.ledger { closed = true } }

-- Marks: none of these holds changes a part

-- The session has then seen the whole history, and is exact
pub record SeesWhole (v : VolatileState) (session after : SessionState) : Type 0 where
  pub shown : after.seen ≡ v.ledger.history
  pub exact : IsExact after
  pub extends : OnlyExtends session after

-- The first n commits are not marked yet, and nothing ends the wait for them
pub record LacksMark (v : VolatileState) (n : ℕ) : Type 0 where
  pub unmarked : floor v.ledger.history < n
  pub goes_on : GoesOn (outset_of v)

-- true if the first n commits are marked
abbrev pub AnswersWait : VolatileState → SessionState → ℕ → Result Bool (Refusal CauseState) → SessionState → Type 0
AnswersWait v session n (Ok true) after = (n ≤ floor v.ledger.history) × SeesWhole v session after
AnswersWait v session n (Ok false) after = LacksMark v n × SeesWhole v session after
AnswersWait v session n (Err why) after = IsWaitRefusal (outset_of v) session n why × (after ≡ session)

-- true if all commits that the session has seen are marked
abbrev pub AnswersFlush : VolatileState → SessionState → Result Bool (Refusal CauseState) → SessionState → Type 0
AnswersFlush v session (Ok true) after = (count session.seen ≤ floor v.ledger.history) × SeesWhole v session after
AnswersFlush v session (Ok false) after = LacksMark v (count session.seen) × (after ≡ session)
AnswersFlush v session (Err why) after = IsFlushRefusal (outset_of v) session after why × OnlyExtends session after

-- a session is shown the whole history
abbrev pub AnswersShow : VolatileState → SessionState → Result (Unit {0}) (Refusal CauseState) → SessionState → Type 0
AnswersShow v session (Ok done) after = (after.seen ≡ v.ledger.history) × OnlyExtends session after
AnswersShow v session (Err why) after = IsStaleRefusal v.ledger.history why × OnlyExtends session after
