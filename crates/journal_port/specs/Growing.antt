-- A session has seen after an answer all that it had seen before it.
use Rattle.std.proofs.Common.{ℕ, ◌≡◌, Bool, true, false, inl, inr, Result, Ok, Err, List, sym, subst}
use mathlib.Core.List.{IsPrefix}
use Rattle.journal_world.specs.Addresses.{Shape}
use Rattle.journal_world.proofs.Prefixes.{IsPrefix-refl, IsPrefix-trans}
use Rattle.journal_world.specs.Histories.{Entry}
use Rattle.journal_history.specs.Tokens.{SessionState}
use Rattle.journal_records.specs.declared.fault.ReadFault.{ReadFault}
use Rattle.journal_records.specs.declared.request.Part.{Part}
use Rattle.journal_records.specs.declared.request.Request.{Request}
use Rattle.journal_records.specs.declared.request.Request.TheVariants as asked
use Rattle.journal_records.specs.declared.answer.Answer.{Answer}
use Rattle.journal_records.specs.declared.answer.Answer.TheVariants.{Committed, Refused, Unsure, Values, Hello, Opening, Flushed, Stat, Stopping, Counters, Bits}
use Rattle.journal_memory.specs.declared.bit_scan.BitScan.{BitScan}
use Rattle.journal_records.specs.declared.answer.Counter.{Counter}
use Rattle.journal_port.specs.Answers.{Offer, CommitsParts, IsCommitAnswer, IsCommitReply, is_denied, IsReadAnswer, IsHelloAnswer, IsFlushAnswer, IsStatAnswer, IsStopAnswer, IsCountersAnswer, IsScanAnswer, scan_of, IsAnswerTo}
use Rattle.journal_port.specs.Served.{IsFoundAnswer, IsReplyTo}

abbrev pub Grows : SessionState → SessionState → Type 0
Grows old new = IsPrefix old.seen new.seen

same_grows : (old new : SessionState) → new ≡ old → Grows old new
same_grows old new same = subst (λ (s : SessionState). Grows old s) (sym same) (IsPrefix-refl old.seen)

parts_grow : (layout : Shape) (parts : List Part) (old new : SessionState) (place count : ℕ) → CommitsParts layout parts old new place count → Grows old new
parts_grow layout parts old new place count made =
    let commits = made.ends.committed.committed in
    IsPrefix-trans old.seen made.begun.seen new.seen made.began.seen
    (IsPrefix-trans made.begun.seen made.ends.committed.found new.seen commits.later (_, sym commits.added))

commit_grows : (layout : Shape) (parts : List Part) (waits : Bool) (marks : List Entry) (old new : SessionState) (told : Answer) → IsCommitAnswer layout parts waits marks old new told → Grows old new
commit_grows layout parts waits marks old new (Committed place count) is = parts_grow layout parts old new place count is.0
commit_grows layout parts waits marks old new (Unsure place count) is = parts_grow layout parts old new place count is.1
commit_grows layout parts waits marks old new (Refused n) is = is.0.seen
commit_grows layout parts waits marks old new (Values values) is = absurd is
commit_grows layout parts waits marks old new (Hello size) is = absurd is
commit_grows layout parts waits marks old new (Flushed stable) is = absurd is
commit_grows layout parts waits marks old new (Stat commits stable) is = absurd is
commit_grows layout parts waits marks old new Stopping is = absurd is
commit_grows layout parts waits marks old new (Opening opening) is = absurd is
commit_grows layout parts waits marks old new (Counters counters) is = absurd is
commit_grows layout parts waits marks old new (Bits bits) is = absurd is

asked_grows : (layout : Shape) (denied : Bool) (parts : List Part) (waits : Bool) (marks : List Entry) (old new : SessionState) (told : Answer) → IsCommitReply layout denied parts waits marks old new told → Grows old new
asked_grows layout true parts waits marks old new told is = same_grows old new is.0
asked_grows layout false parts waits marks old new told is = commit_grows layout parts waits marks old new told is

hello_grows : (layout : Shape) (number version : ℕ) (old new : SessionState) (told : Answer) → IsHelloAnswer layout number version old new told → Grows old new
hello_grows layout number version old new (Hello size) is = same_grows old new is.0
hello_grows layout number version old new (Refused n) is = same_grows old new is.0
hello_grows layout number version old new (Committed place count) is = absurd is
hello_grows layout number version old new (Unsure place count) is = absurd is
hello_grows layout number version old new (Values values) is = absurd is
hello_grows layout number version old new (Flushed stable) is = absurd is
hello_grows layout number version old new (Stat commits stable) is = absurd is
hello_grows layout number version old new Stopping is = absurd is
hello_grows layout number version old new (Opening opening) is = same_grows old new is.0
hello_grows layout number version old new (Counters counters) is = absurd is
hello_grows layout number version old new (Bits bits) is = absurd is

read_grows : (layout : Shape) (addrs : _) (old new : SessionState) (told : Answer) → IsReadAnswer layout addrs old new told → Grows old new
read_grows layout addrs old new (Values values) is = is.0.seen
read_grows layout addrs old new (Refused n) is = is.0.seen
read_grows layout addrs old new (Committed place count) is = absurd is
read_grows layout addrs old new (Unsure place count) is = absurd is
read_grows layout addrs old new (Hello size) is = absurd is
read_grows layout addrs old new (Flushed stable) is = absurd is
read_grows layout addrs old new (Stat commits stable) is = absurd is
read_grows layout addrs old new Stopping is = absurd is
read_grows layout addrs old new (Opening opening) is = absurd is
read_grows layout addrs old new (Counters counters) is = absurd is
read_grows layout addrs old new (Bits bits) is = absurd is

flush_grows : (old new : SessionState) (told : Answer) → IsFlushAnswer old new told → Grows old new
flush_grows old new (Flushed stable) is = is.0.seen
flush_grows old new (Refused n) is = is.0.seen
flush_grows old new (Committed place count) is = absurd is
flush_grows old new (Unsure place count) is = absurd is
flush_grows old new (Hello size) is = absurd is
flush_grows old new (Values values) is = absurd is
flush_grows old new (Stat commits stable) is = absurd is
flush_grows old new Stopping is = absurd is
flush_grows old new (Opening opening) is = absurd is
flush_grows old new (Counters counters) is = absurd is
flush_grows old new (Bits bits) is = absurd is

stat_grows : (old new : SessionState) (told : Answer) → IsStatAnswer old new told → Grows old new
stat_grows old new (Stat commits stable) is = is.0.seen
stat_grows old new (Refused n) is = absurd is
stat_grows old new (Committed place count) is = absurd is
stat_grows old new (Unsure place count) is = absurd is
stat_grows old new (Hello size) is = absurd is
stat_grows old new (Values values) is = absurd is
stat_grows old new (Flushed stable) is = absurd is
stat_grows old new Stopping is = absurd is
stat_grows old new (Opening opening) is = absurd is
stat_grows old new (Counters counters) is = absurd is
stat_grows old new (Bits bits) is = absurd is

stop_grows : (may_stop : Bool) (old new : SessionState) (told : Answer) → IsStopAnswer may_stop old new told → Grows old new
stop_grows may_stop old new Stopping is = is.1.1.0.seen
stop_grows may_stop old new (Refused n) (inl forbidden) = same_grows old new forbidden.2
stop_grows may_stop old new (Refused n) (inr refused) = refused.1.0.seen
stop_grows may_stop old new (Committed place count) is = absurd is
stop_grows may_stop old new (Unsure place count) is = absurd is
stop_grows may_stop old new (Hello size) is = absurd is
stop_grows may_stop old new (Values values) is = absurd is
stop_grows may_stop old new (Flushed stable) is = absurd is
stop_grows may_stop old new (Stat commits stable) is = absurd is
stop_grows may_stop old new (Opening opening) is = absurd is
stop_grows may_stop old new (Counters counters) is = absurd is
stop_grows may_stop old new (Bits bits) is = absurd is

counters_grow : (tells : List Counter → Type 0) (old new : SessionState) (told : Answer) → IsCountersAnswer tells old new told → Grows old new
counters_grow tells old new (Counters counters) is = same_grows old new is.0
counters_grow tells old new (Refused n) is = same_grows old new is.0
counters_grow tells old new (Committed place count) is = absurd is
counters_grow tells old new (Unsure place count) is = absurd is
counters_grow tells old new (Hello size) is = absurd is
counters_grow tells old new (Opening opening) is = absurd is
counters_grow tells old new (Values values) is = absurd is
counters_grow tells old new (Flushed stable) is = absurd is
counters_grow tells old new (Stat commits stable) is = absurd is
counters_grow tells old new Stopping is = absurd is
counters_grow tells old new (Bits bits) is = absurd is

scan_grows : (layout : Shape) (scan : BitScan) (old new : SessionState) (told : Answer) → IsScanAnswer layout scan old new told → Grows old new
scan_grows layout scan old new (Bits bits) is = is.0.seen
scan_grows layout scan old new (Refused n) is = is.0.seen
scan_grows layout scan old new (Committed place count) is = absurd is
scan_grows layout scan old new (Unsure place count) is = absurd is
scan_grows layout scan old new (Hello size) is = absurd is
scan_grows layout scan old new (Opening opening) is = absurd is
scan_grows layout scan old new (Values values) is = absurd is
scan_grows layout scan old new (Flushed stable) is = absurd is
scan_grows layout scan old new (Stat commits stable) is = absurd is
scan_grows layout scan old new Stopping is = absurd is
scan_grows layout scan old new (Counters counters) is = absurd is

answer_grows : (layout : Shape) (offer : Offer) (marks : List Entry) (request : Request) (old new : SessionState) (told : Answer) → IsAnswerTo layout offer marks request old new told → Grows old new
answer_grows layout offer marks (asked.Hello version) old new told is = hello_grows layout offer.number version old new told is
answer_grows layout offer marks (asked.Commit parts waits) old new told is = asked_grows layout (is_denied offer.rights parts.items) parts.items waits marks old new told is
answer_grows layout offer marks (asked.Read addrs) old new told is = read_grows layout addrs.items old new told is
answer_grows layout offer marks asked.Flush old new told is = flush_grows old new told is
answer_grows layout offer marks asked.Stat old new told is = stat_grows old new told is
answer_grows layout offer marks asked.Stop old new told is = stop_grows offer.rights.may_stop old new told is
answer_grows layout offer marks asked.Counters old new told is = counters_grow offer.tells old new told is
answer_grows layout offer marks (asked.Scan block first value most) old new told is = scan_grows layout (scan_of block first value most) old new told is

found_grows : (layout : Shape) (offer : Offer) (marks : List Entry) (found : Result Request ReadFault) (old new : SessionState) (told : Answer) → IsFoundAnswer layout offer marks found old new told → Grows old new
found_grows layout offer marks (Ok request) old new told is = answer_grows layout offer marks request old new told is
found_grows layout offer marks (Err why) old new told is = same_grows old new is.0

pub reply_grows : (layout : Shape) (offer : Offer) (marks : List Entry) (bytes : List ℕ) (old new : SessionState) (told : Answer) → IsReplyTo layout offer marks bytes old new told → Grows old new
reply_grows layout offer marks bytes old new told is = found_grows layout offer marks is.0 old new told is.2
