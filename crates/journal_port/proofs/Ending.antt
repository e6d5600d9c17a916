-- How a request to commit ends.
use Rattle.std.proofs.Common.{ℕ, ◌≡◌, ◌≢◌, ◌<◌, ◌⊎◌, inl, inr, Bool, IsTrue, List, [], ◌++◌, length, refl, sym, subst, ◌∙◌}
use Rattle.std.specs.List.{All, Contains}
use Rattle.std.specs.List.Sorted.{IsPermutation}
use Rattle.std.proofs.lemmas.Bool.{false≢true}
use Rattle.std.proofs.lemmas.List.{append-nil}
use Rattle.std.proofs.lemmas.List.Elements.{All-weaker}
use Rattle.std.proofs.lemmas.List.Sorted.{All-permutation, Contains-permutation, IsPermutation-sym}
use Rattle.journal_world.specs.Addresses.{Shape}
use Rattle.journal_world.proofs.Prefixes.{IsPrefix-refl, IsPrefix-trans}
use Rattle.journal_world.specs.declared.refusal.Refusal.{Refusal}
use Rattle.journal_world.specs.declared.refusal.Refusal.TheVariants.{NoMemory, BadAddress, BadSize, TooLarge, Busy, DeviceFailed, BadLog, BadSuper, Stale, Stranger, Worn, Full, Closed, Fenced}
use Rattle.journal_world.specs.Maps.{Pair, SamePairs}
use Rattle.journal_world.specs.Histories.{Entry, is_trusted, latest, commits_of}
use Rattle.journal_history.specs.Tokens.{SessionState, CommitPlace, OnlyExtends}
use Rattle.journal_memory.specs.declared.refusal_number.RefusalNumber.TheVariants.{J10}
use Rattle.journal_memory.specs.Causes.{CauseState, IsExplained}
use Rattle.journal_memory.specs.Transactions.{TransactionState}
use Rattle.journal_twophase.specs.Transactions.{TxnState, core_of, begun}
use Rattle.journal_twophase.specs.Commits.{IsCommitted, IsCommitRefusal, ShowsStrange, ShowsFence}
use Rattle.journal_records.specs.declared.request.Part.{Part}
use Rattle.journal_port.specs.declared.parts.PartFault.{PartFault}
use Rattle.journal_port.specs.declared.parts.PartFault.TheVariants as fault
use Rattle.journal_records.specs.declared.answer.Answer.{Answer}
use Rattle.journal_records.specs.declared.answer.Answer.TheVariants.{Committed, Refused, Unsure, Values, Hello, Opening, Flushed, Stat, Stopping, Counters, Bits}
use Rattle.journal_port.specs.Requests.{compared, written}
use Rattle.journal_port.specs.Parts.{Does, IsRead, MatchesAt, IsPartRefusal, IsPartsFault}
use Rattle.journal_port.specs.Answers.{AnyMap, EndsAt, IsEnd, CommitsParts, IsRefusal, IsRefusedFor, IsConflict, IsCommitAnswer, answer_of}
use Rattle.journal_port.proofs.Keeping.{trusted_before, agrees_at}

pub OnlyExtends-refl : (s : SessionState) → OnlyExtends s s
OnlyExtends-refl s = record { number = refl; mine = refl; seen = IsPrefix-refl s.seen }

pub OnlyExtends-trans : (a b c : SessionState) → OnlyExtends a b → OnlyExtends b c → OnlyExtends a c
OnlyExtends-trans a b c first second = record { number = second.number ∙ first.number; mine = second.mine ∙ first.mine; seen = IsPrefix-trans a.seen b.seen c.seen first.seen second.seen }

-- a commit that stands
pub EndsAt-made : (layout : Shape) (began : List Entry) (t : TransactionState) (old new : SessionState) (receipt : CommitPlace) (place count : ℕ)
    → IsCommitted AnyMap layout began t old new receipt → place ≡ receipt.place → count ≡ receipt.count → EndsAt layout began t old new place count
EndsAt-made layout began t old new receipt place count committed place_is count_is = record {
  receipt = receipt;
  committed = committed;
  place_is = place_is;
  count_is = count_is;
}

-- ---- why it is refused

pub refused_part : (layout : Shape) (parts : List Part) (old new : SessionState) (p : Part) (why : Refusal CauseState) → Contains parts p → IsPartRefusal layout p why → IsRefusal layout parts old new why
refused_part layout parts old new p NoMemory has is = tt
refused_part layout parts old new p BadAddress has is = (p, has, is)
refused_part layout parts old new p BadSize has is = (p, has, is)
refused_part layout parts old new p TooLarge has is = absurd is
refused_part layout parts old new p Busy has is = absurd is
refused_part layout parts old new p (DeviceFailed cause) has is = is
refused_part layout parts old new p BadLog has is = absurd is
refused_part layout parts old new p BadSuper has is = absurd is
refused_part layout parts old new p (Stale cause) has is = is
refused_part layout parts old new p (Stranger cause) has is = absurd is
refused_part layout parts old new p (Worn cause) has is = absurd is
refused_part layout parts old new p (Full cause) has is = absurd is
refused_part layout parts old new p (Closed cause) has is = is
refused_part layout parts old new p Fenced has is = absurd is

-- what a session did not make it did not make before it had seen more
strange_before : (old begun : SessionState) (cause : CauseState) → OnlyExtends old begun → ShowsStrange begun cause → ShowsStrange old cause
strange_before old begun cause extends strange =
    subst (λ n. (history : List Entry) × IsExplained J10 history cause × (length (commits_of n old.mine) < length (commits_of n history))) extends.number
    (subst (λ m. (history : List Entry) × IsExplained J10 history cause × (length (commits_of begun.number m) < length (commits_of begun.number history))) extends.mine strange)

pub refused_end : (layout : Shape) (parts : List Part) (old begun new : SessionState) (t : TransactionState) (why : Refusal CauseState) → OnlyExtends old begun → SamePairs t.writes (written parts)
    → IsCommitRefusal t begun why → ShowsFence new why → IsRefusal layout parts old new why
refused_end layout parts old begun new t NoMemory extends writes is fence = tt
refused_end layout parts old begun new t BadAddress extends writes is fence = absurd is
refused_end layout parts old begun new t BadSize extends writes is fence = absurd is
refused_end layout parts old begun new t TooLarge extends writes is fence = (t.writes, writes, is)
refused_end layout parts old begun new t Busy extends writes is fence = absurd is
refused_end layout parts old begun new t (DeviceFailed cause) extends writes is fence = is
refused_end layout parts old begun new t BadLog extends writes is fence = absurd is
refused_end layout parts old begun new t BadSuper extends writes is fence = absurd is
refused_end layout parts old begun new t (Stale cause) extends writes is fence = is
refused_end layout parts old begun new t (Stranger cause) extends writes is fence = strange_before old begun cause extends is
refused_end layout parts old begun new t (Worn cause) extends writes is fence = is.1
refused_end layout parts old begun new t (Full cause) extends writes is fence = absurd is
refused_end layout parts old begun new t (Closed cause) extends writes is fence = is
refused_end layout parts old begun new t Fenced extends writes is fence = fence

-- ---- from the transaction's end to the request's

nothing_behind : (ps qs : List Pair) → SamePairs ps (qs ++ []) → SamePairs ps qs
nothing_behind ps qs same = subst (SamePairs ps) (append-nil qs) same

-- what the parts compare is what the map gives where the transaction was committed
matched_there : (layout : Shape) (parts : List Part) (from new : SessionState) (t : TxnState) (place count : ℕ) → from.seen ≢ [] → Does parts (begun from.seen) t
    → (ends : EndsAt layout from.seen (core_of t) from new place count) → IsTrue (is_trusted ends.committed.found) → All (MatchesAt (latest ends.committed.found)) parts
matched_there layout parts from new t place count has_begun did ends trusted =
    let there = ends.committed.found in
    All-weaker (IsRead t.reads) (MatchesAt (latest there)) (λ p read compares. agrees_at (latest there) t.reads p.addr p.value (ends.committed.agrees trusted) (read compares)) parts
    (did.matched (trusted_before from.seen there has_begun ends.committed.after_begin trusted))

CommitsParts-ended : (layout : Shape) (parts : List Part) (old from new : SessionState) (t : TxnState) (place count : ℕ) → OnlyExtends old from → from.seen ≢ [] → Does parts (begun from.seen) t
    → EndsAt layout t.began (core_of t) from new place count → CommitsParts layout parts old new place count
CommitsParts-ended layout parts old from new t place count extends has_begun did ends = record {
  begun = from;
  began = extends;
  transaction = core_of t;
  reads = nothing_behind t.reads (compared parts) did.reads;
  writes = nothing_behind t.writes (written parts) did.writes;
  ends = subst (λ b. EndsAt layout b (core_of t) from new place count) did.began ends;
  matches = matched_there layout parts from new t place count has_begun did (subst (λ b. EndsAt layout b (core_of t) from new place count) did.began ends);
}

pub IsCommitAnswer-ended : (layout : Shape) (parts : List Part) (waits : Bool) (marks : List Entry) (old from new : SessionState) (t : TxnState) (answer : Answer) → OnlyExtends old from → from.seen ≢ [] → Does parts (begun from.seen) t
    → IsEnd layout t waits from new answer → IsCommitAnswer layout parts waits marks old new answer
IsCommitAnswer-ended layout parts waits marks old from new t (Committed place count) extends has_begun did ends = (CommitsParts-ended layout parts old from new t place count extends has_begun did ends.1, λ w. absurd (false≢true (sym ends.0 ∙ w)))
IsCommitAnswer-ended layout parts waits marks old from new t (Unsure place count) extends has_begun did ends = (ends.0, CommitsParts-ended layout parts old from new t place count extends has_begun did ends.1)
IsCommitAnswer-ended layout parts waits marks old from new t (Refused n) extends has_begun did ends = (
  OnlyExtends-trans old from new extends ends.0,
  inr (ends.1.0, ends.1.1, refused_end layout parts old from new (core_of t) ends.1.0 extends (nothing_behind t.writes (written parts) did.writes) ends.1.2 ends.1.3),
)
IsCommitAnswer-ended layout parts waits marks old from new t (Values values) extends has_begun did ends = absurd ends
IsCommitAnswer-ended layout parts waits marks old from new t (Hello size) extends has_begun did ends = absurd ends
IsCommitAnswer-ended layout parts waits marks old from new t (Flushed stable) extends has_begun did ends = absurd ends
IsCommitAnswer-ended layout parts waits marks old from new t (Stat commits stable) extends has_begun did ends = absurd ends
IsCommitAnswer-ended layout parts waits marks old from new t Stopping extends has_begun did ends = absurd ends
IsCommitAnswer-ended layout parts waits marks old from new t (Opening opening) extends has_begun did ends = absurd ends
IsCommitAnswer-ended layout parts waits marks old from new t (Counters counters) extends has_begun did ends = absurd ends
IsCommitAnswer-ended layout parts waits marks old from new t (Bits bits) extends has_begun did ends = absurd ends

-- a part was given up
pub IsCommitAnswer-fault : (layout : Shape) (parts : List Part) (waits : Bool) (marks : List Entry) (old new : SessionState) (fault : PartFault CauseState) → OnlyExtends old new → IsPartsFault layout parts new.seen fault
    → IsCommitAnswer layout parts waits marks old new (answer_of fault)
IsCommitAnswer-fault layout parts waits marks old new fault.Differs extends is = (extends, inl (refl, λ trusted. (is.0, is.1, is.2 trusted)))
IsCommitAnswer-fault layout parts waits marks old new (fault.Refused why) extends is = (extends, inr (why, refl, refused_part layout parts old new is.0 why is.1 is.2))

-- ---- the parts in another order

moved_back : (xs ys : List Part) (p : Part) → IsPermutation xs ys → Contains ys p → Contains xs p
moved_back xs ys p moved has = Contains-permutation ys xs p (IsPermutation-sym xs ys moved) has

refused_sorted : (layout : Shape) (xs ys : List Part) (old new : SessionState) (why : Refusal CauseState) → IsPermutation xs ys → SamePairs (written ys) (written xs) → IsRefusal layout ys old new why → IsRefusal layout xs old new why
refused_sorted layout xs ys old new NoMemory moved writes is = is
refused_sorted layout xs ys old new BadAddress moved writes is = (is.0, moved_back xs ys is.0 moved is.1, is.2)
refused_sorted layout xs ys old new BadSize moved writes is = (is.0, moved_back xs ys is.0 moved is.1, is.2)
refused_sorted layout xs ys old new TooLarge moved writes is = (is.0, (λ a. is.1 a ∙ writes a), is.2)
refused_sorted layout xs ys old new Busy moved writes is = is
refused_sorted layout xs ys old new (DeviceFailed cause) moved writes is = is
refused_sorted layout xs ys old new BadLog moved writes is = is
refused_sorted layout xs ys old new BadSuper moved writes is = is
refused_sorted layout xs ys old new (Stale cause) moved writes is = is
refused_sorted layout xs ys old new (Stranger cause) moved writes is = is
refused_sorted layout xs ys old new (Worn cause) moved writes is = is
refused_sorted layout xs ys old new (Full cause) moved writes is = is
refused_sorted layout xs ys old new (Closed cause) moved writes is = is
refused_sorted layout xs ys old new Fenced moved writes is = is

commits_sorted : (layout : Shape) (xs ys : List Part) (old new : SessionState) (place count : ℕ) → IsPermutation xs ys → SamePairs (compared ys) (compared xs) → SamePairs (written ys) (written xs)
    → CommitsParts layout ys old new place count → CommitsParts layout xs old new place count
commits_sorted layout xs ys old new place count moved reads writes made = record {
  begun = made.begun;
  began = made.began;
  transaction = made.transaction;
  reads = λ a. made.reads a ∙ reads a;
  writes = λ a. made.writes a ∙ writes a;
  ends = made.ends;
  matches = λ trusted. All-permutation (MatchesAt (latest made.ends.committed.found)) ys xs (IsPermutation-sym xs ys moved) (made.matches trusted);
}

pub IsCommitAnswer-sorted : (layout : Shape) (xs ys : List Part) (waits : Bool) (marks : List Entry) (old new : SessionState) (answer : Answer) → IsPermutation xs ys → SamePairs (compared ys) (compared xs) → SamePairs (written ys) (written xs)
    → IsCommitAnswer layout ys waits marks old new answer → IsCommitAnswer layout xs waits marks old new answer
IsCommitAnswer-sorted layout xs ys waits marks old new (Committed place count) moved reads writes is = (commits_sorted layout xs ys old new place count moved reads writes is.0, is.1)
IsCommitAnswer-sorted layout xs ys waits marks old new (Unsure place count) moved reads writes is = (is.0, commits_sorted layout xs ys old new place count moved reads writes is.1)
IsCommitAnswer-sorted layout xs ys waits marks old new (Refused n) moved reads writes is = (is.0, by is.1)
  where
    by : (IsConflict ys new n ⊎ IsRefusedFor (IsRefusal layout ys old new) n) → (IsConflict xs new n ⊎ IsRefusedFor (IsRefusal layout xs old new) n)
    by (inl conflict) = inl (conflict.0, λ trusted. let found = conflict.1 trusted in (found.0, moved_back xs ys found.0 moved found.1, found.2))
    by (inr why) = inr (why.0, why.1, refused_sorted layout xs ys old new why.0 moved writes why.2)
IsCommitAnswer-sorted layout xs ys waits marks old new (Values values) moved reads writes is = is
IsCommitAnswer-sorted layout xs ys waits marks old new (Hello size) moved reads writes is = is
IsCommitAnswer-sorted layout xs ys waits marks old new (Flushed stable) moved reads writes is = is
IsCommitAnswer-sorted layout xs ys waits marks old new (Stat commits stable) moved reads writes is = is
IsCommitAnswer-sorted layout xs ys waits marks old new Stopping moved reads writes is = is
IsCommitAnswer-sorted layout xs ys waits marks old new (Opening opening) moved reads writes is = is
IsCommitAnswer-sorted layout xs ys waits marks old new (Counters counters) moved reads writes is = is
IsCommitAnswer-sorted layout xs ys waits marks old new (Bits bits) moved reads writes is = is
