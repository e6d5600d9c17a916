-- The effect of a command on the client of an open journal, and its answer.
use Rattle.std.specs.Prelude.{ℕ, ◌≡◌, ◌⊎◌, ◌<◌, ◌≤◌, true, List, length, Option, Some, None, Result, Ok, Err, IsSome, MatchOption, unwrap_or}
use Rattle.std.specs.declared.ops.ControlFlow.{ControlFlow}
use Rattle.std.specs.declared.ops.ControlFlow.TheVariants.{Continue, Break}
use Rattle.journal_world.specs.declared.address.Addr.{Addr}
use Rattle.journal_world.specs.declared.refusal.Refusal.{Refusal}
use Rattle.journal_world.specs.declared.refusal.Refusal.TheVariants.{NoMemory}
use Rattle.journal_world.specs.Addresses.{Value, Shape}
use Rattle.journal_world.specs.Histories.{is_fenced}
use Rattle.journal_history.specs.Tokens.{SessionState, CommitPlace, OnlyExtends}
use Rattle.journal_memory.specs.Causes.{CauseState}
use Rattle.journal_twophase.specs.Journals.{IsFenceRefusal, IsLogRefusal, IsInstallRefusal}
use Rattle.journal_twophase.specs.Transactions.{TxnState, core_of, begun, holding, ReadsValue, Overwrites, IsReadRefusal, IsOverwriteRefusal}
use Rattle.journal_twophase.specs.Commits.{IsCommitted, ShowsFence, IsTryRefusal}
use Rattle.journal_command.specs.declared.command.Command.{Command}
use Rattle.journal_command.specs.declared.command.Command.TheVariants as commands
use Rattle.journal_script.specs.declared.answer.Answer.{Answer}
use Rattle.journal_script.specs.declared.answer.Answer.TheVariants as answers
use Rattle.journal_script.specs.declared.ending.Crash.{Crash}
use Rattle.journal_script.specs.declared.ending.Ending.TheVariants as endings
use Rattle.journal_script.specs.declared.steps.Actor.{Actor}
use Rattle.journal_script.specs.declared.steps.Actor.TheVariants as actors
use Rattle.journal_script.specs.Answers.{to_no_command, Refuses}
use Rattle.journal_script.specs.Endings.{IsChosen}
use Rattle.journal_command.specs.Commands.{LineSays}

-- The session, and the transaction that is open
pub record ClientState : Type 0 where
  pub session : SessionState
  pub txn : Option TxnState

-- the transaction that a line finds: the open one, or one that begins, after all that the session
-- has then seen
abbrev pub FindsTransaction : ClientState → TxnState → SessionState → Type 0
FindsTransaction old t session = MatchOption old.txn
    (OnlyExtends old.session session × (t ≡ begun session.seen))
    (λ found. (t ≡ found) × (session ≡ old.session))

-- The transaction overwrites the address
pub record PutsValue (layout : Shape) (old : ClientState) (a : Addr) (v : Value) (new : ClientState) : Type 0 where
  pub found : TxnState
  pub finds : FindsTransaction old found new.session
  pub left : TxnState
  pub is_open : new.txn ≡ Some left
  pub overwrites : Overwrites (holding layout found a) a v left

-- The transaction is told the value: its own overwrite, where there is one, else what the map gives
pub record Gets (layout : Shape) (old : ClientState) (a : Addr) (v : Value) (new : ClientState) : Type 0 where
  pub found : TxnState
  pub finds : FindsTransaction old found new.session
  pub left : TxnState
  pub is_open : new.txn ≡ Some left
  pub reads : ReadsValue (holding layout found a) a v left

-- The transaction is open, as it was
pub record KeepsOpen (old : ClientState) (why : TxnState → Type 0) (new : ClientState) : Type 0 where
  pub found : TxnState
  pub finds : FindsTransaction old found new.session
  pub is_open : new.txn ≡ Some found
  pub refused : why found

-- The transaction was committed, and the answer is the receipt's count
pub record CommitsAndEnds (layout : Shape) (t : TxnState) (old : ClientState) (n : ℕ) (new : ClientState) : Type 0 where
  pub receipt : CommitPlace
  pub committed : IsCommitted (λ m. Unit {0}) layout t.began (core_of t) old.session new.session receipt
  pub counted : n ≡ receipt.count
  pub ended : new.txn ≡ None

-- It was refused, and is ended
pub record RefusesAndEnds (t : TxnState) (old : ClientState) (why : Refusal CauseState) (new : ClientState) : Type 0 where
  pub refused : IsTryRefusal (core_of t) old.session why
  pub fenced : ShowsFence new.session why
  pub session : OnlyExtends old.session new.session
  pub ended : new.txn ≡ None

-- what a commit answers, and does to the open transaction
abbrev pub CommitsOpen : Shape → ClientState → Result Answer (Refusal CauseState) → ClientState → Type 0
CommitsOpen layout old (Ok (answers.Committed n)) new = MatchOption old.txn ⊥ (λ t. CommitsAndEnds layout t old n new)
CommitsOpen layout old (Ok answers.NoTransaction) new = (old.txn ≡ None) × (new ≡ old)
CommitsOpen layout old (Ok answer) new = ⊥
CommitsOpen layout old (Err why) new = MatchOption old.txn ⊥ (λ t. RefusesAndEnds t old why new)

-- The session's fence stands, and the session has seen it. A transaction that is open stays open
pub record FencesSession (old new : ClientState) : Type 0 where
  pub fenced : is_fenced new.session.number new.session.seen ≡ true
  pub session : OnlyExtends old.session new.session
  pub txn : new.txn ≡ old.txn

-- The fence was refused
pub record RefusesFence (old : ClientState) (why : Refusal CauseState) (new : ClientState) : Type 0 where
  pub refused : IsFenceRefusal why
  pub session : OnlyExtends old.session new.session
  pub txn : new.txn ≡ old.txn

-- what a fence answers
abbrev pub FencesOwn : ClientState → Result Answer (Refusal CauseState) → ClientState → Type 0
FencesOwn old (Ok answers.Done) new = FencesSession old new
FencesOwn old (Ok answer) new = ⊥
FencesOwn old (Err why) new = RefusesFence old why new

-- so many steps, at most, where a number stands there
abbrev pub most_of : Option ℕ → ℕ
most_of most = unwrap_or most 18446744073709551615

-- why a step is refused
abbrev pub IsStepRefusal : Actor → Refusal CauseState → Type 0
IsStepRefusal actors.Logger why = IsLogRefusal why
IsStepRefusal actors.Installer why = IsInstallRefusal why
IsStepRefusal actors.Waiter why = IsLogRefusal why ⊎ IsInstallRefusal why

-- why a command is refused that looks at no transaction
abbrev pub IsRefusal : Command → Refusal CauseState → Type 0
IsRefusal commands.Wait why = IsStepRefusal actors.Waiter why
IsRefusal (commands.Log most) why = IsStepRefusal actors.Logger why
IsRefusal (commands.Install most) why = IsStepRefusal actors.Installer why
IsRefusal commands.Pend why = why ≡ NoMemory
IsRefusal (commands.Disk block at len) why = why ≡ NoMemory
IsRefusal (commands.Down choice) why = why ≡ NoMemory
IsRefusal (commands.Crash choice) why = why ≡ NoMemory
IsRefusal (commands.Lose choice) why = why ≡ NoMemory
IsRefusal command why = ⊥

-- the answer is a refusal, which may come
abbrev pub IsRefused : (Refusal CauseState → Type 0) → Answer → Type 0
IsRefused may_come answer = (why : Refusal CauseState) × may_come why × Refuses why answer

-- what a command gives that is done and looks at no transaction, of a journal over a disk of a
-- layout
abbrev pub GivesAnswer : Shape → Command → Answer → Type 0
GivesAnswer layout commands.Wait (answers.Stable n) = Unit {0}
GivesAnswer layout (commands.Log most) (answers.Logged n) = n ≤ most_of most
GivesAnswer layout (commands.Install most) (answers.Installed n) = n ≤ most_of most
GivesAnswer layout commands.Stat (answers.Stat stat) = Unit {0}
GivesAnswer layout commands.Pend (answers.Pending pending) = Unit {0}
GivesAnswer layout (commands.Disk block at len) (answers.Value v) = (block < layout.blocks) × (length v ≡ len)
GivesAnswer layout (commands.Disk block at len) answers.BadLine = block < layout.blocks → ⊥
GivesAnswer layout (commands.Fail call) answers.Done = Unit {0}
GivesAnswer layout commands.Open answers.Up = Unit {0}
GivesAnswer layout commands.Mend answers.Up = Unit {0}
GivesAnswer layout (commands.Poke block at v) answers.Up = block < layout.blocks
GivesAnswer layout (commands.Poke block at v) answers.BadLine = block < layout.blocks → ⊥
GivesAnswer layout command answer = ⊥

-- The answer of a command, and the state after it, of a journal over a disk of a layout. `put` and
-- `get` begin a transaction where none is open, also where they are refused
abbrev pub Obeys : Shape → ClientState → Command → Answer → ClientState → Type 0
Obeys layout old (commands.Put a v) answers.Done new = PutsValue layout old a v.now new
Obeys layout old (commands.Put a v) answer new = KeepsOpen old (λ t. IsRefused (IsOverwriteRefusal layout t a v.now) answer) new
Obeys layout old (commands.Get a) (answers.Value v) new = Gets layout old a v new
Obeys layout old (commands.Get a) answer new = KeepsOpen old (λ t. IsRefused (IsReadRefusal layout t a) answer) new
Obeys layout old commands.Commit (answers.Committed n) new = MatchOption old.txn ⊥ (λ t. CommitsAndEnds layout t old n new)
Obeys layout old commands.Commit answers.NoTransaction new = (old.txn ≡ None) × (new ≡ old)
Obeys layout old commands.Commit answer new = MatchOption old.txn ⊥ (λ t. IsRefused (λ why. RefusesAndEnds t old why new) answer)
Obeys layout old commands.Abort answers.Done new = IsSome old.txn × (new ≡ record old { txn = None })
Obeys layout old commands.Abort answer new = (answer ≡ answers.NoTransaction) × (old.txn ≡ None) × (new ≡ old)
Obeys layout old commands.Fence answers.Done new = FencesSession old new
Obeys layout old commands.Fence answer new = IsRefused (λ why. RefusesFence old why new) answer
Obeys layout old command answer new = (GivesAnswer layout command answer ⊎ IsRefused (IsRefusal command) answer) × (new ≡ old)

-- The command is obeyed and answered, or ends the journal by the crash that it names
abbrev pub Replies : Shape → ClientState → Command → ControlFlow Crash Answer → ClientState → Type 0
Replies layout old command (Continue answer) new = Obeys layout old command answer new
Replies layout old (commands.Down choice) (Break crash) new = IsChosen choice crash.numbers.items × (crash.ending ≡ endings.Down) × (new ≡ old)
Replies layout old (commands.Crash choice) (Break crash) new = IsChosen choice crash.numbers.items × (crash.ending ≡ endings.Opens) × (new ≡ old)
Replies layout old (commands.Lose choice) (Break crash) new = IsChosen choice crash.numbers.items × (crash.ending ≡ endings.Loses) × (new ≡ old)
Replies layout old command (Break crash) new = ⊥

-- The line says a command, which is replied to so; or it says none, which changes nothing
abbrev pub AnswersLine : Shape → ClientState → List ℕ → ControlFlow Crash Answer → ClientState → Type 0
AnswersLine layout old line reply new =
    ((command : Command) × LineSays line command × Replies layout old command reply new)
    ⊎ (((command : Command) → LineSays line command → ⊥) × (reply ≡ Continue (to_no_command line)) × (new ≡ old))

-- what is answered goes on
abbrev pub FlowGoesOn : {C : Type 0} → Result Answer (Refusal C) → ControlFlow Crash Answer → Type 0
FlowGoesOn (Ok answer) flow = flow ≡ Continue answer
FlowGoesOn (Err why) flow = (answer : Answer) × Refuses why answer × (flow ≡ Continue answer)

-- a crash ends the journal, unless it is refused
abbrev pub EndsMount : {C : Type 0} → Result Crash (Refusal C) → ControlFlow Crash Answer → Type 0
EndsMount (Ok crash) flow = flow ≡ Break crash
EndsMount (Err why) flow = (answer : Answer) × Refuses why answer × (flow ≡ Continue answer)
