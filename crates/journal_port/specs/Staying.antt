-- Answers by the marks of a history that has greater ones.
use Rattle.std.proofs.Common.{ℕ, ◌≤◌, Bool, true, false, Result, Ok, Err, List, IsTrue, arith}
use Rattle.journal_world.specs.Addresses.{Shape}
use Rattle.journal_world.specs.Histories.{Entry, floor}
use Rattle.journal_history.specs.Tokens.{SessionState}
use Rattle.journal_records.specs.declared.fault.ReadFault.{ReadFault}
use Rattle.journal_records.specs.declared.request.Part.{Part}
use Rattle.journal_records.specs.declared.request.Request.{Request}
use Rattle.journal_records.specs.declared.request.Request.TheVariants as asked
use Rattle.journal_records.specs.declared.answer.Answer.{Answer}
use Rattle.journal_records.specs.declared.answer.Answer.TheVariants.{Committed, Refused, Unsure, Values, Hello, Opening, Flushed, Stat, Stopping, Counters, Bits}
use Rattle.journal_port.specs.Answers.{Offer, IsCommitAnswer, IsCommitReply, is_denied, IsAnswerTo}
use Rattle.journal_port.specs.Served.{IsFoundAnswer, IsReplyTo}

commit_later : (layout : Shape) (parts : List Part) (waits : Bool) (marks later : List Entry) (old new : SessionState) (told : Answer) → floor marks ≤ floor later
    → IsCommitAnswer layout parts waits marks old new told → IsCommitAnswer layout parts waits later old new told
commit_later layout parts waits marks later old new (Committed place count) more is =
    (is.0, λ w. let stands : count ≤ floor marks = is.1 w in omega (arith, stands, more))
commit_later layout parts waits marks later old new (Unsure place count) more is = is
commit_later layout parts waits marks later old new (Refused n) more is = is
commit_later layout parts waits marks later old new (Values values) more is = is
commit_later layout parts waits marks later old new (Hello size) more is = is
commit_later layout parts waits marks later old new (Flushed stable) more is = is
commit_later layout parts waits marks later old new (Stat commits stable) more is = is
commit_later layout parts waits marks later old new Stopping more is = is
commit_later layout parts waits marks later old new (Opening opening) more is = is
commit_later layout parts waits marks later old new (Counters counters) more is = is
commit_later layout parts waits marks later old new (Bits bits) more is = is

asked_later : (layout : Shape) (denied : Bool) (parts : List Part) (waits : Bool) (marks later : List Entry) (old new : SessionState) (told : Answer) → floor marks ≤ floor later
    → IsCommitReply layout denied parts waits marks old new told → IsCommitReply layout denied parts waits later old new told
asked_later layout true parts waits marks later old new told more is = is
asked_later layout false parts waits marks later old new told more is = commit_later layout parts waits marks later old new told more is

pub answer_later : (layout : Shape) (offer : Offer) (marks later : List Entry) (request : Request) (old new : SessionState) (told : Answer) → floor marks ≤ floor later
    → IsAnswerTo layout offer marks request old new told → IsAnswerTo layout offer later request old new told
answer_later layout offer marks later (asked.Hello version) old new told more is = is
answer_later layout offer marks later (asked.Commit parts waits) old new told more is = asked_later layout (is_denied offer.rights parts.items) parts.items waits marks later old new told more is
answer_later layout offer marks later (asked.Read addrs) old new told more is = is
answer_later layout offer marks later asked.Flush old new told more is = is
answer_later layout offer marks later asked.Stat old new told more is = is
answer_later layout offer marks later asked.Stop old new told more is = is
answer_later layout offer marks later asked.Counters old new told more is = is
answer_later layout offer marks later (asked.Scan block first value most) old new told more is = is

pub found_later : (layout : Shape) (offer : Offer) (marks later : List Entry) (found : Result Request ReadFault) (old new : SessionState) (told : Answer) → floor marks ≤ floor later
    → IsFoundAnswer layout offer marks found old new told → IsFoundAnswer layout offer later found old new told
found_later layout offer marks later (Ok request) old new told more is = answer_later layout offer marks later request old new told more is
found_later layout offer marks later (Err why) old new told more is = is

pub reply_later : (layout : Shape) (offer : Offer) (marks later : List Entry) (bytes : List ℕ) (old new : SessionState) (told : Answer) → floor marks ≤ floor later → IsReplyTo layout offer marks bytes old new told → IsReplyTo layout offer later bytes old new told
reply_later layout offer marks later bytes old new told more is = (is.0, is.1, found_later layout offer marks later is.0 old new told more is.2)
