-- The core's ledger as contracts see it, its invariant, and why it refuses. No device call is made
-- for any of it.
use Rattle.std.specs.Prelude.{ℕ, ◌≡◌, ◌<◌, ◌≤◌, ◌+◌, ◌^◌, Bool, true, false, List, [], length}
use mathlib.Core.List.{IsPrefix}
use Rattle.journal_world.specs.declared.refusal.Refusal.{Refusal}
use Rattle.journal_world.specs.declared.refusal.Refusal.TheVariants.{NoMemory, Stale, Stranger, Worn, Fenced}
use Rattle.journal_world.specs.Addresses.{Shape}
use Rattle.journal_world.specs.Histories.{Entry, opened, commits_of, is_fenced}
use Rattle.journal_history.specs.Soundness.{IsLonger}
use Rattle.journal_history.specs.Tokens.{SessionState, made}
use Rattle.journal_memory.specs.declared.refusal_number.RefusalNumber.TheVariants.{J9, J10, J11}
use Rattle.journal_memory.specs.declared.marked_lengths.MarkedLengths.{MarkedLengths}
use Rattle.journal_memory.specs.Causes.{CauseState, IsUnexplained, IsExplained}
use Rattle.journal_memory.specs.declared.fenced_sessions.Run.{Run}
use Rattle.journal_memory.specs.MarkedLengths.{KeepsMarkedLengths}
use Rattle.journal_memory.specs.SlotCounts.{KeepsCounts}
use Rattle.journal_memory.specs.Transactions.{TransactionState, AreUnmoved}

pub record LedgerState : Type 0 where
  -- all entries of the mount's history
  pub history : List Entry
  -- how many commits there were at the last cut
  pub cut : ℕ
  -- the number of the next session
  pub next : ℕ
  -- it was stopped
  pub closed : Bool

-- Its invariant: it counts the commits of each session and slot, knows which sessions are fenced
-- and which fronts have only marked commits, and no session of a later number has committed or is
-- fenced
pub record IsLedger (layout : Shape) (fenced : List Run) (sessions slots : List ℕ) (lengths : MarkedLengths) (m : LedgerState) : Type 0 where
  pub counts : KeepsCounts layout fenced sessions slots m.history
  pub given : length sessions ≡ m.next
  pub fronts : KeepsMarkedLengths lengths m.history m.cut
  pub fresh : (s : ℕ) → m.next ≤ s → commits_of s m.history ≡ []
  pub unfenced : (s : ℕ) → m.next ≤ s → is_fenced s m.history ≡ false

-- The history is longer than the core's, and was seen
abbrev pub IsStale : List Entry → CauseState → Type 0
IsStale history cause = (longer : List Entry) × IsExplained J9 longer cause × IsLonger history longer

-- The history has a commit under the session's number that the session did not make
abbrev pub IsStrange : List Entry → SessionState → Type 0
IsStrange history s = made s < length (commits_of s.number history)

-- The transaction has seen more of the history than the core, as this cause has
abbrev pub IsBehind : List Entry → TransactionState → CauseState → Type 0
IsBehind history t cause = IsExplained J9 t.seen cause × IsLonger history t.seen

-- Neither the session nor the transaction has seen more of the history than the core
pub record HasSeen (history : List Entry) (s : SessionState) (t : TransactionState) : Type 0 where
  pub shown : IsPrefix s.seen history
  pub later : IsPrefix t.seen history

-- The history has a commit under the session's number that the session did not make, as this cause
-- has it
abbrev pub IsUnknown : List Entry → SessionState → CauseState → Type 0
IsUnknown history s cause = IsExplained J10 history cause × IsStrange history s

-- The session is fenced, and nothing that is looked at before refuses its commit
pub record MeetsFence (history : List Entry) (s : SessionState) (t : TransactionState) : Type 0 where
  pub seen : HasSeen history s t
  pub own : length (commits_of s.number history) ≡ made s
  pub unmoved : AreUnmoved (opened history).layout history t
  pub fenced : is_fenced s.number history ≡ true

-- J9 and J14 last: the session has then seen the longer history, or its fence, by which each later
-- commit of it is refused
abbrev pub ShowsLonger : List Entry → SessionState → Refusal CauseState → Type 0
ShowsLonger history after (Stale cause) = IsLonger history after.seen
ShowsLonger history after Fenced = is_fenced after.number after.seen ≡ true
ShowsLonger history after other = Unit {0}

-- why a session is not shown the history
abbrev pub IsStaleRefusal : List Entry → Refusal CauseState → Type 0
IsStaleRefusal history (Stale cause) = IsStale history cause
IsStaleRefusal history other = ⊥

-- why a session is not shown the history where it is to be exact then
abbrev pub IsStrayRefusal : List Entry → SessionState → Refusal CauseState → Type 0
IsStrayRefusal history s (Stale cause) = IsStale history cause
IsStrayRefusal history s (Stranger cause) = IsPrefix s.seen history × IsExplained J10 history cause × IsStrange history s
IsStrayRefusal history s other = ⊥

-- why there is no session of this number
abbrev pub IsNumberRefusal : ℕ → Refusal CauseState → Type 0
IsNumberRefusal next (Worn cause) = (2 ^ 62 ≤ next) × IsUnexplained J11 cause
IsNumberRefusal next other = ⊥

-- why a transaction may not read
abbrev pub IsCheckRefusal : List Entry → TransactionState → Refusal CauseState → Type 0
IsCheckRefusal history t (Stale cause) = IsBehind history t cause
IsCheckRefusal history t other = ⊥

-- why a session's commit is not admitted
abbrev pub IsAdmissionRefusal : List Entry → SessionState → TransactionState → Refusal CauseState → Type 0
IsAdmissionRefusal history s t (Stale cause) = IsStale history cause
IsAdmissionRefusal history s t (Stranger cause) = HasSeen history s t × IsUnknown history s cause
IsAdmissionRefusal history s t Fenced = MeetsFence history s t
IsAdmissionRefusal history s t other = ⊥

-- why what is ready is not added
abbrev pub IsAddingRefusal : List Entry → Refusal CauseState → Type 0
IsAddingRefusal history (Stale cause) = IsStale history cause
IsAddingRefusal history NoMemory = Unit {0}
IsAddingRefusal history other = ⊥

-- why a mark is refused
abbrev pub IsMarkRefusal : List Entry → Refusal CauseState → Type 0
IsMarkRefusal history (Worn cause) = (2 ^ 62 ≤ length history + 1) × IsUnexplained J11 cause
IsMarkRefusal history (Stale cause) = IsStale history cause
IsMarkRefusal history other = ⊥
