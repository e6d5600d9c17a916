-- What commits need, and what they leave.
use Rattle.std.proofs.Common.{Result, Ok, Err, OnOk, OnErr, ◌≡◌, ◌≢◌, ◌+◌, ◌==◌, ℕ, Bool, true, false, cond, List, [], ◌∷◌, ◌++◌, length, length-append, refl, sym, ap, subst, ◌∙◌}
use Rattle.std.specs.List.{filter}
use Rattle.std.proofs.lemmas.Bool.{eqb-true, eqb-false, ne_eqb}
use Rattle.std.proofs.lemmas.List.{append-nil}
use mathlib.Core.List.{IsPrefix}
use Rattle.journal_world.specs.Addresses.{Shape}
use Rattle.journal_world.specs.Maps.{Map, Pair, Transaction, Agrees, overwritten}
use Rattle.journal_world.specs.Histories.{Entry, opened, commits, commits_of, count, latest}
use Rattle.journal_world.specs.Histories.Entry.{commit, stable}
use Rattle.journal_world.proofs.Prefixes.{IsPrefix-trans}
use Rattle.journal_world.proofs.SessionCommits.{commits_of-append}
use Rattle.journal_world.proofs.LongerHistories.{commits_of-commit, after-layout, at-count}
use Rattle.journal_world.proofs.Marks.{commits-mark}
use Rattle.journal_history.specs.Tokens.{SessionState, OnlyExtends, Commits, next_transaction as numbered}
use Rattle.journal_history.specs.Soundness.{IsSound}
use Rattle.std.specs.Prelude.{slice_index}
use Rattle.journal_memory.specs.Sessions.{CountsOne, AreSessionCounts}
use Rattle.journal_memory.specs.Transactions.{TransactionState}
use Rattle.journal_world.specs.declared.refusal.Refusal.{Refusal}
use Rattle.journal_world.specs.declared.refusal.Refusal.TheVariants.{NoMemory, BadAddress, BadSize, TooLarge, Busy, DeviceFailed, BadLog, BadSuper, Stale, Stranger, Worn, Full, Closed, Fenced}
use Rattle.journal_memory.specs.Causes.{CauseState}
use Rattle.journal_memory.specs.Rules.{KeepsMapRule}
use Rattle.journal_memory.specs.Ledgers.{HasSeen, IsStaleRefusal, IsAdmissionRefusal}

-- another session has no more commits
pub commits_of-other : (history : List Entry) (t : Transaction) (s : ℕ) → t.session ≢ s
    → commits_of s (history ++ commit t ∷ []) ≡ commits_of s history
commits_of-other history t s other =
    commits_of-append s history (commit t ∷ [])
    ∙ ap (λ (b : Bool). commits_of s history ++ cond b (t ∷ []) []) (ne_eqb t.session s other)
    ∙ append-nil (commits_of s history)

-- a mark is no commit
pub per_session_mark : (counts : List ℕ) (history : List Entry) (n : ℕ) → AreSessionCounts counts history → AreSessionCounts counts (history ++ stable n ∷ [])
per_session_mark counts history n per_session s =
    per_session s ∙ sym (ap (λ (ts : List Transaction). length (filter (λ (t : Transaction). t.session == s) ts)) (commits-mark history n))

-- what a session has seen only grows, time and again
pub extends_on : (a b c : SessionState) → OnlyExtends a b → OnlyExtends b c → OnlyExtends a c
extends_on a b c first second = record {
  number = second.number ∙ first.number;
  mine = second.mine ∙ first.mine;
  seen = IsPrefix-trans a.seen b.seen c.seen first.seen second.seen;
}

-- where a session was shown all, it and the transaction had seen no more
pub has_seen : (history : List Entry) (t : TransactionState) (old first second shown : SessionState) → OnlyExtends old first → OnlyExtends first second
    → IsPrefix t.seen second.seen → OnlyExtends second shown → shown.seen ≡ history → HasSeen history old t
has_seen history t old first second shown one two read three whole = record {
  shown = subst (IsPrefix old.seen) whole (extends_on old first shown one (extends_on first second shown two three)).seen;
  later = subst (IsPrefix t.seen) whole (IsPrefix-trans t.seen second.seen shown.seen read three.seen);
}

-- who is not shown the history is not admitted
pub stale_admits : (history : List Entry) (s : SessionState) (t : TransactionState) (why : Refusal CauseState) → IsStaleRefusal history why → IsAdmissionRefusal history s t why
stale_admits history s t (Stale cause) stale = stale
stale_admits history s t NoMemory stale = absurd stale
stale_admits history s t BadAddress stale = absurd stale
stale_admits history s t BadSize stale = absurd stale
stale_admits history s t TooLarge stale = absurd stale
stale_admits history s t Busy stale = absurd stale
stale_admits history s t (DeviceFailed cause) stale = absurd stale
stale_admits history s t BadLog stale = absurd stale
stale_admits history s t BadSuper stale = absurd stale
stale_admits history s t (Stranger cause) stale = absurd stale
stale_admits history s t (Worn cause) stale = absurd stale
stale_admits history s t (Full cause) stale = absurd stale
stale_admits history s t (Closed cause) stale = absurd stale
stale_admits history s t Fenced stale = absurd stale

-- who keeps the rule on any map of the layout keeps it on the latest, which a sound history has by
-- the rule
pub keeps_rule : (layout : Shape) (rule : Map → Type 0) (history : List Entry) (t : TransactionState) → (opened history).layout ≡ layout → IsSound rule history
    → ((m : Map) → m.layout ≡ layout → rule m → Agrees m t.reads → rule (overwritten m t.writes)) → KeepsMapRule rule history t
keeps_rule layout rule history t on_disk sound keeps agrees trusted =
    keeps (latest history) (after-layout (opened history) (commits history) ∙ on_disk)
    (subst rule (at-count history) (sound.ruled trusted (count history))) (agrees trusted)

-- one more commit is counted
pub per_session_commit : (old new : List ℕ) (history later : List Entry) (t : Transaction) (session : ℕ) → later ≡ history ++ commit t ∷ []
    → session ≡ t.session → CountsOne session old new → AreSessionCounts old history → AreSessionCounts new later
per_session_commit old new history later t session added is counts per_session s = by (s == session) refl
  where
    own : s ≡ t.session → length (commits_of s later) ≡ length (commits_of s history) + 1
    own equal = subst (λ (n : ℕ). length (commits_of n later) ≡ length (commits_of n history) + 1) (sym equal)
        (ap (λ (h : List Entry). length (commits_of t.session h)) added
        ∙ ap length (commits_of-commit history t) ∙ length-append (commits_of t.session history) (t ∷ []))

    other : t.session ≢ s → length (commits_of s later) ≡ length (commits_of s history)
    other differs = ap (λ (h : List Entry). length (commits_of s h)) added ∙ ap length (commits_of-other history t s differs)

    by : (b : Bool) → (s == session) ≡ b → slice_index new s ≡ length (commits_of s later)
    by true equal =
        counts s ∙ ap (λ (b : Bool). cond b (slice_index old s + 1) (slice_index old s)) equal
        ∙ ap (λ (n : ℕ). n + 1) (per_session s) ∙ sym (own (eqb-true s session equal ∙ is))
    by false differs =
        counts s ∙ ap (λ (b : Bool). cond b (slice_index old s + 1) (slice_index old s)) differs
        ∙ per_session s ∙ sym (other (λ equal. eqb-false s session differs (sym equal ∙ sym is)))

-- a session that has seen more commits the same
pub commits_from : (reads writes : List Pair) (s seen after : SessionState) (before longer : List Entry) → OnlyExtends s seen
    → Commits (numbered seen reads writes) seen after before longer → Commits (numbered s reads writes) s after before longer
commits_from reads writes s seen after before longer extends was = record {
  added = was.added ∙ ap (λ (t : Transaction). before ++ commit t ∷ []) same;
  session = was.session ∙ ap (λ (n : ℕ). record { number = n; mine = longer; seen = longer }) extends.number;
  later = IsPrefix-trans s.seen seen.seen before extends.seen was.later;
  one_more = sym (ap (λ (n : ℕ). commits_of n longer) extends.number) ∙ was.one_more
      ∙ (λ i. commits_of (extends.number i) (extends.mine i) ++ same i ∷ []);
}
  where
    same : numbered seen reads writes ≡ numbered s reads writes
    same = (λ i. record { session = extends.number i; number = length (commits_of (extends.number i) (extends.mine i)); reads = reads; writes = writes })

-- a refused call only extends what was only extended before
pub err_extends : {T E : Type 0} (r : Result T E) (a b c : SessionState) → OnlyExtends a b → OnErr r (OnlyExtends b c) → OnErr r (OnlyExtends a c)
err_extends (Ok value) a b c first second = tt
err_extends (Err e) a b c first second = extends_on a b c first second

-- what follows of an answer
pub on_ok : {T E P Q : Type 0} (r : Result T E) → OnOk r P → (P → Q) → OnOk r Q
on_ok (Ok value) holds go = go holds
on_ok (Err e) holds go = tt

-- what holds anyway holds at a refusal
pub OnErr-any : {T E P : Type 0} (r : Result T E) → P → OnErr r P
OnErr-any (Ok value) holds = tt
OnErr-any (Err e) holds = holds
