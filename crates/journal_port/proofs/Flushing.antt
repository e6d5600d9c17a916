-- What is stable of what a session had seen.
use Rattle.std.proofs.Common.{ℕ, ◌≡◌, ◌≤◌, List, ◌++◌, length, ap, subst, arith, length-append}
use Rattle.std.proofs.lemmas.List.Elements.{filter_map-append}
use mathlib.Core.List.{IsPrefix}
use Rattle.journal_world.specs.Histories.{Entry, committed, commits, count, floor}
use Rattle.journal_history.specs.Tokens.{SessionState, StableCount, OnlyExtends}
use Rattle.journal_twophase.specs.Waits.{IsStable}
use Rattle.journal_port.specs.Answers.{IsFlushed}
use Rattle.journal_port.proofs.Ending.{OnlyExtends-trans}

-- a longer history has no fewer commits
count_append : (history more : List Entry) → count history ≤ count (history ++ more)
count_append history more = omega (arith, ap length (filter_map-append committed history more), length-append (commits history) (commits more))

count_prefix : (front history : List Entry) → IsPrefix front history → count front ≤ count history
count_prefix front history p = subst (λ (h : List Entry). count front ≤ count h) p.1 (count_append front p.0)

-- the session saw more, and then that all it had seen is stable
pub IsFlushed-noted : (old mid new : SessionState) (note : StableCount) (stable : ℕ) → OnlyExtends old mid → OnlyExtends mid new → IsStable (count mid.seen) note new → stable ≡ note.count → IsFlushed old new stable
IsFlushed-noted old mid new note stable first last is told = (
  OnlyExtends-trans old mid new first last,
  (let fewer : count old.seen ≤ count mid.seen = count_prefix old.seen mid.seen first.seen in
      let covers : count mid.seen ≤ note.count = is.covers in omega (arith, fewer, covers, told)),
  (let marked : note.count ≤ floor new.seen = is.marked in omega (arith, marked, told)),
)
