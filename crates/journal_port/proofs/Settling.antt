-- Answers that are held until their commits are stable.
use Rattle.std.proofs.Common.{ℕ, ◌≡◌, ◌≤◌, Bool, true, false, Option, Some, None, Result, Ok, Err, List, [], refl, sym, ap, subst, ◌∙◌, arith}
use Rattle.std.specs.Prelude.{IsTrue, IfSome}
use Rattle.std.proofs.lemmas.Bool.{false≢true}
use Rattle.journal_world.specs.Addresses.{Shape}
use Rattle.journal_world.specs.Histories.{Entry, floor}
use Rattle.journal_history.specs.Tokens.{SessionState}
use Rattle.journal_inode.specs.declared.node.Time.{Time}
use Rattle.journal_records.specs.declared.fault.ReadFault.{ReadFault}
use Rattle.journal_records.specs.declared.request.Request.{Request}
use Rattle.journal_records.specs.declared.request.Request.TheVariants as asked
use Rattle.journal_records.specs.declared.answer.Answer.{Answer}
use Rattle.journal_records.specs.declared.answer.Answer.TheVariants.{Committed, Refused, Unsure, Values, Hello, Opening, Flushed, Stat, Stopping, Counters, Bits}
use Rattle.journal_records.specs.declared.refused.Refused.TheVariants.{ReadOnly}
use Rattle.journal_records.specs.Answers.{answer, told_of}
use Rattle.journal_records.specs.Frames.{framed}
use Rattle.journal_protocol.specs.declared.held_reply.HeldWait.{HeldWait}
use Rattle.journal_protocol.specs.declared.held_reply.HeldReply.{HeldReply}
use Rattle.journal_protocol.specs.Protocols.{IsPaid, IsHeldReply}
use Rattle.journal_port.specs.declared.protocol.AwaitedCommits.{AwaitedCommits}
use Rattle.journal_port.specs.declared.protocol.UnsureAnswer.{UnsureAnswer}
use Rattle.journal_port.specs.Answers.{Offer, IsCommitReply, is_denied, IsHelloAnswer, IsCountersAnswer, IsScanAnswer, scan_of, IsAnswerTo}
use Rattle.journal_port.specs.Served.{refused_for, IsFoundAnswer, IsReplyTo, IsText, service, replaces, HoldsAnswer, IsHeldFor}
use Rattle.journal_port.specs.Staying.{reply_later}

-- A commit that is not known to be stable is answered so by any marks, and as committed by those
-- that cover it
abbrev Settles : (Answer → Type 0) → List Entry → ℕ → ℕ → Type 0
Settles is later place count = is (Unsure place count) × (count ≤ floor later → is (Committed place count))

unsure_is : (layout : Shape) (offer : Offer) (marks later : List Entry) (request : Request) (old new : SessionState) (place count : ℕ) → IsAnswerTo layout offer marks request old new (Unsure place count)
    → Settles (IsAnswerTo layout offer later request old new) later place count
unsure_is layout offer marks later (asked.Hello version) old new place count is = absurd is
unsure_is layout offer marks later (asked.Commit parts waits) old new place count is = of (is_denied offer.rights parts.items) is
  where
    of : (denied : Bool) → IsCommitReply layout denied parts.items waits marks old new (Unsure place count) → Settles (IsCommitReply layout denied parts.items waits later old new) later place count
    of true h = let e : Unsure place count ≡ Refused ReadOnly = h.1 in absurd cc
    of false h = (h, λ low. (h.1, λ w. low))
unsure_is layout offer marks later (asked.Read addrs) old new place count is = absurd is
unsure_is layout offer marks later asked.Flush old new place count is = absurd is
unsure_is layout offer marks later asked.Stat old new place count is = absurd is
unsure_is layout offer marks later asked.Stop old new place count is = absurd is
unsure_is layout offer marks later asked.Counters old new place count is = absurd is
unsure_is layout offer marks later (asked.Scan block first value most) old new place count is = absurd is

reply_settled : (layout : Shape) (offer : Offer) (marks later : List Entry) (bytes : List ℕ) (old new : SessionState) (place count : ℕ) → IsReplyTo layout offer marks bytes old new (Unsure place count)
    → Settles (IsReplyTo layout offer later bytes old new) later place count
reply_settled layout offer marks later bytes old new place count is =
    let s = of is.0 is.2 in
    ((is.0, is.1, s.0), λ low. (is.0, is.1, s.1 low))
  where
    of : (found : Result Request ReadFault) → IsFoundAnswer layout offer marks found old new (Unsure place count) → Settles (IsFoundAnswer layout offer later found old new) later place count
    of (Ok request) h = unsure_is layout offer marks later request old new place count h
    of (Err why) h = let e : Unsure place count ≡ Refused (refused_for why) = h.1 in absurd cc

-- by no marks, and so by any
pub by_any : (layout : Shape) (offer : Offer) (later : List Entry) (bytes : List ℕ) (old new : SessionState) (told : Answer) → IsReplyTo layout offer [] bytes old new told → IsReplyTo layout offer later bytes old new told
by_any layout offer later bytes old new told is = reply_later layout offer [] later bytes old new told (omega arith) is

-- ---- what is held

abbrev pub commits_of : AwaitedCommits → ℕ
commits_of awaited = awaited.commits

module _ (layout : Shape) (offer : Offer) (moment : Time) (bytes : List ℕ) (old new : SessionState) (soon : HeldReply UnsureAnswer AwaitedCommits) (text : List ℕ) where
  -- an answer that has no wait is the same by the marks of each history that has greater ones
  free : (told : Answer) → IsReplyTo layout offer [] bytes old new told → HoldsAnswer told soon text → IsHeldReply (service layout offer) replaces commits_of moment bytes old new soon text
  free told is h = record {
    paid = λ history p. (told, by_any layout offer history bytes old new told is, h.held);
    replaced = subst (λ (o : Option (HeldWait UnsureAnswer AwaitedCommits)). IfSome o (λ (wait : HeldWait UnsureAnswer AwaitedCommits). (history : List Entry) (other : List ℕ) → replaces wait.call other → (service layout offer).answers history moment bytes old new other)) (sym h.free) tt;
    ends = λ e. (h.free, subst (λ (a : Answer). IsText a text) (h.ends e) h.held);
  }

  pub holds_found : (told : Answer) → IsReplyTo layout offer [] bytes old new told → IsHeldFor told soon text → IsHeldReply (service layout offer) replaces commits_of moment bytes old new soon text
  holds_found (Unsure place count) is (wait, h) = record {
    paid = λ history p.
        let enough : wait.receipt.commits ≤ floor history = subst (IsPaid commits_of (floor history)) h.waits p in
        (Committed place count, (reply_settled layout offer [] history bytes old new place count is).1 (omega (arith, enough, h.enough)), h.held);
    replaced = subst (λ (o : Option (HeldWait UnsureAnswer AwaitedCommits)). IfSome o (λ (w : HeldWait UnsureAnswer AwaitedCommits). (history : List Entry) (other : List ℕ) → replaces w.call other → (service layout offer).answers history moment bytes old new other)) (sym h.waits)
        (λ history other same. (
          Unsure place count,
          (reply_settled layout offer [] history bytes old new place count is).0,
          record { fits = h.fits; text = same ∙ ap (λ (u : UnsureAnswer). framed (answer.spelling (told_of (Unsure u.place u.commits)))) h.replaced },
        ));
    ends = λ e. absurd (false≢true (sym h.goes_on ∙ e));
  }
  holds_found (Committed place count) is h = free (Committed place count) is h
  holds_found (Refused n) is h = free (Refused n) is h
  holds_found (Values values) is h = free (Values values) is h
  holds_found (Hello size) is h = free (Hello size) is h
  holds_found (Flushed stable) is h = free (Flushed stable) is h
  holds_found (Stat commits stable) is h = free (Stat commits stable) is h
  holds_found Stopping is h = free Stopping is h
  holds_found (Opening opening) is h = free (Opening opening) is h
  holds_found (Counters counters) is h = free (Counters counters) is h
  holds_found (Bits bits) is h = free (Bits bits) is h

-- ---- what some requests are

-- a hello is answered as one
pub is_hello : (layout : Shape) (offer : Offer) (marks : List Entry) (request : Request) (version : ℕ) (session : SessionState) (told : Answer) → request ≡ asked.Hello version
    → IsHelloAnswer layout offer.number version session session told → IsAnswerTo layout offer marks request session session told
is_hello layout offer marks request version session told is hello = subst (λ (r : Request). IsAnswerTo layout offer marks r session session told) (sym is) hello

-- counters are answered as such
pub is_counters : (layout : Shape) (offer : Offer) (marks : List Entry) (request : Request) (session : SessionState) (told : Answer) → request ≡ asked.Counters
    → IsCountersAnswer offer.tells session session told → IsAnswerTo layout offer marks request session session told
is_counters layout offer marks request session told is counters = subst (λ (r : Request). IsAnswerTo layout offer marks r session session told) (sym is) counters

-- a scan is answered as one
pub is_scan : (layout : Shape) (offer : Offer) (marks : List Entry) (request : Request) (block first : ℕ) (value : Bool) (most : ℕ) (old new : SessionState) (told : Answer)
    → request ≡ asked.Scan block first value most → IsScanAnswer layout (scan_of block first value most) old new told → IsAnswerTo layout offer marks request old new told
is_scan layout offer marks request block first value most old new told is found = subst (λ (r : Request). IsAnswerTo layout offer marks r old new told) (sym is) found
