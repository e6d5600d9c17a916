-- A reply that is given again.
use Rattle.std.proofs.Common.{◌≡◌, ℕ, ◌≤◌, ◌+◌, ◌++◌, Bool, true, false, List, Some, None, Ok, Err, length, take, drop, refl, sym, ap, subst, ◌∙◌, arith, append_assoc, length-append}
use Rattle.std.specs.Prelude.{◌&&◌}
use Rattle.std.proofs.lemmas.List.{take-append-drop}
use Rattle.std.proofs.lemmas.List.Elements.{filter_map-append}
use mathlib.Core.List.{IsPrefix}
use Rattle.journal_world.specs.Histories.{Entry, committed, commits, count, floor}
use Rattle.journal_history.specs.Tokens.{SessionState, StableCount, OnlyExtends, CommitPlace}
use Rattle.journal_twophase.specs.Waits.{IsStable}
use Rattle.journal_inode.specs.declared.node.Time.{Time as Moment}
use Rattle.journal_nfs3_wire.specs.declared.results.NfsError.{NfsError}
use Rattle.journal_nfs3_wire.specs.declared.results.NfsError.TheVariants.{ServerFault, ReadOnly}
use Rattle.journal_protocol.specs.declared.held_reply.HeldReply.{HeldReply}
use Rattle.journal_rpc.specs.Calls.{Message}
use Rattle.journal_tree.specs.declared.caller.Caller.{Caller}
use Rattle.journal_tree.specs.declared.time.Time.{Time}
use Rattle.journal_tree.specs.Op.{Call, Reply}
use Rattle.journal_treewire.specs.Calls.{Resolved, call_on}
use Rattle.journal_treewire.specs.Refusals.{refused_request}
use Rattle.journal_treewire.specs.Requests.{Requested}
use Rattle.journal_treewire.specs.Results.{Results, Null}
use Rattle.journal_treewire.specs.Values.{time_in}
use Rattle.journal_xdr.specs.ItemLaws.{some_is}
use Rattle.journal_treeserver.specs.declared.awaited.AwaitedCall.{AwaitedCall}
use Rattle.journal_treeserver.specs.Again.{WasCommitted}
use Rattle.journal_treeserver.specs.Asking.{Wanted, files, asks}
use Rattle.journal_treeserver.specs.Answers.{Served, marked, awaiting, told_results, IsWaitError, Comes, undone, repeated, repeated_unsure, changes, asked_of, ComesUnless, ComesTo, told, outcome_text, IsOutcome, Replies}
use Rattle.journal_treeserver.specs.CodeViews.{IsHeld}
use Rattle.journal_treeserver.specs.Forms.{how_of}
use Rattle.journal_treeserver.specs.Kept.{IsSentOnce, IsDoneIn, IsKept}
use Rattle.journal_treeserver.proofs.Doing.{unchanged}
use Rattle.journal_treeserver.proofs.Holding.{replies_over, loses}

-- ---- histories

pub prefix_trans : (a b c : List Entry) → IsPrefix a b → IsPrefix b c → IsPrefix a c
prefix_trans a b c p q = (p.0 ++ q.0, sym (append_assoc a p.0 q.0) ∙ ap (λ (h : List Entry). h ++ q.0) p.1 ∙ q.1)

pub extends_trans : (a b c : SessionState) → OnlyExtends a b → OnlyExtends b c → OnlyExtends a c
extends_trans a b c first second = record { number = second.number ∙ first.number; mine = second.mine ∙ first.mine; seen = prefix_trans a.seen b.seen c.seen first.seen second.seen }

-- a longer history has no fewer commits
count_append : (history more : List Entry) → count history ≤ count (history ++ more)
count_append history more = omega (arith, ap length (filter_map-append committed history more), length-append (commits history) (commits more))

pub count_prefix : (front history : List Entry) → IsPrefix front history → count front ≤ count history
count_prefix front history p = subst (λ (h : List Entry). count front ≤ count h) p.1 (count_append front p.0)

-- a note of all that a session had seen covers what it had seen before
pub covered_by : (front mid : List Entry) (note : StableCount) (new : SessionState) → IsPrefix front mid → IsStable (count mid) note new → count front ≤ floor new.seen
covered_by front mid note new stands is =
    let fewer : count front ≤ count mid = count_prefix front mid stands in
    let covers : count mid ≤ note.count = is.covers in
    let marked : note.count ≤ floor new.seen = is.marked in
    omega (arith, fewer, covers, marked)

count_take : (n : ℕ) (history : List Entry) → count (take n history) ≤ count history
count_take n history = count_prefix (take n history) history (drop n history, take-append-drop n history)

-- ---- a call that was done

module _ (S : Served) (caller : Caller) (call : Call) (reply : Reply) (history : List Entry) (is_done : IsDoneIn S caller call reply history) where
  was : (old new : SessionState) → OnlyExtends old new → IsPrefix history new.seen → WasCommitted S.cut call caller old new reply is_done.receipt
  was old new extends stands = record {
    moment = is_done.moment;
    before = is_done.before;
    after = is_done.after;
    committed = is_done.committed;
    stands = prefix_trans is_done.after.seen history new.seen is_done.stands stands;
    extends = extends;
  }

  is_stable : (n : ℕ) → count history ≤ n → is_done.receipt.count ≤ n
  is_stable n covered =
      let counted : is_done.receipt.count ≡ count (take (is_done.receipt.place + 1) is_done.after.seen) = is_done.committed.counted in
      let within : count (take (is_done.receipt.place + 1) is_done.after.seen) ≤ count is_done.after.seen = count_take (is_done.receipt.place + 1) is_done.after.seen in
      let further : count is_done.after.seen ≤ count history = count_prefix is_done.after.seen history is_done.stands in
      omega (arith, counted, within, further, covered)

-- ---- a copy of it

-- it reaches the call where the tree may be changed
reaches : (S : Served) (asked : Requested) (call : Call) (caller : Caller) (now : Time) (old new : SessionState) (results : Results) → S.read_only ≡ false → call_on S.disk asked ≡ Ok (Some call)
    → Comes S (awaiting None) asked (asked_of S.read_only call) caller now old new results → ComesTo S (awaiting None) asked caller now (call_on S.disk asked) old new results
reaches S asked call caller now old new results writable is comes =
    subst (λ (to : Resolved). ComesTo S (awaiting None) asked caller now to old new results) (sym is)
    (subst (λ (b : Bool). ComesUnless (b && changes call) S (awaiting None) asked (asked_of S.read_only call) caller now old new results) (sym writable) comes)

-- two requests of one record are one
same_caller : (a b : Caller) (asked other : Requested) → files a asked ≡ files b other → a ≡ b
same_caller a b asked other e = cc e

same_asked : (a b : Caller) (asked other : Requested) → files a asked ≡ files b other → asked ≡ other
same_asked a b asked other e = cc e

module _ (S : Served) (record_bytes : List ℕ) (a b : ℕ) (caller other : Caller) (asked wanted : Requested) (one : IsSentOnce S record_bytes a caller asked) (two : IsSentOnce S record_bytes b other wanted) where
  same_message : one.sent ≡ two.sent
  same_message = some_is one.sent two.sent (sym one.reads ∙ two.reads)

  same_number : a ≡ b
  same_number = sym one.number ∙ ap (λ (m : Message). m.xid) same_message ∙ two.number

  same_files : files caller asked ≡ files other wanted
  same_files = sym one.asks_so ∙ ap (asks S.squash) same_message ∙ two.asks_so

module _ (S : Served) (record_bytes text : List ℕ) (front : List Entry) (kept : IsKept S record_bytes text front) (now : Moment) (old new : SessionState) (extends : OnlyExtends old new) (stands : IsPrefix front new.seen) where
  again_call : Call
  again_call = asked_of S.read_only kept.call

  -- its results are those of the first
  repeats_own : count front ≤ floor new.seen → (text ≡ outcome_text S.disk kept.xid (told (told_results S.disk S.verifier (how_of kept.asked) (asked_of S.read_only kept.call) kept.reply)))
      × IsOutcome S (awaiting None) now (files kept.caller kept.asked) old new (told (told_results S.disk S.verifier (how_of kept.asked) (asked_of S.read_only kept.call) kept.reply))
  repeats_own covered = (
    kept.is_text,
    (
      told_results S.disk S.verifier (how_of kept.asked) (asked_of S.read_only kept.call) kept.reply,
      refl,
      reaches S kept.asked kept.call kept.caller (time_in now) old new _ kept.sent.writable kept.is_call
          (repeated kept.sent.client kept.reply kept.done.receipt kept.sent.has_client kept.sent.once
          (was S kept.caller (asked_of S.read_only kept.call) kept.reply front kept.done old new extends stands)
          (is_stable S kept.caller (asked_of S.read_only kept.call) kept.reply front kept.done (floor new.seen) covered) refl),
    ),
  )

  unsure_own : (why : NfsError) → IsWaitError why → IsOutcome S (awaiting None) now (files kept.caller kept.asked) old new (told (refused_request kept.asked why))
  unsure_own why is = (
    refused_request kept.asked why,
    refl,
    reaches S kept.asked kept.call kept.caller (time_in now) old new _ kept.sent.writable kept.is_call
        (repeated_unsure why kept.sent.client kept.reply kept.done.receipt is kept.sent.has_client kept.sent.once
        (was S kept.caller (asked_of S.read_only kept.call) kept.reply front kept.done old new extends stands) refl),
  )

  module _ (xid : ℕ) (caller : Caller) (asked : Requested) (sent : IsSentOnce S record_bytes xid caller asked) where
    -- so the text is the reply
    pub repeats : count front ≤ floor new.seen → Replies S (awaiting None) now xid (files caller asked) old new text
    repeats covered =
        let own = repeats_own covered in
        let numbered : text ≡ outcome_text S.disk xid (told (told_results S.disk S.verifier (how_of kept.asked) (asked_of S.read_only kept.call) kept.reply)) =
        own.0 ∙ ap (λ (x : ℕ). outcome_text S.disk x (told (told_results S.disk S.verifier (how_of kept.asked) (asked_of S.read_only kept.call) kept.reply)))
        (same_number S record_bytes kept.xid xid kept.caller caller kept.asked asked kept.sent sent) in
        subst (λ (w : Wanted). Replies S (awaiting None) now xid w old new text) (same_files S record_bytes kept.xid xid kept.caller caller kept.asked asked kept.sent sent)
        (record { outcome = told (told_results S.disk S.verifier (how_of kept.asked) (asked_of S.read_only kept.call) kept.reply); comes = own.1; is_sent = numbered })

    -- also where it was lost
    pub repeats_lost : count front ≤ floor new.seen → (history : List Entry) → (reply : List ℕ) × Replies S (marked history) now xid (files caller asked) old new reply
    repeats_lost covered history = (text, replies_over S history None tt now xid (files caller asked) old new text (repeats covered))

    -- and so is a refusal, where the first is not known to be stable
    pub unsure_outcome : (why : NfsError) → IsWaitError why → IsOutcome S (awaiting None) now (files caller asked) old new (told (refused_request asked why))
    unsure_outcome why is =
        let same = same_asked kept.caller caller kept.asked asked (same_files S record_bytes kept.xid xid kept.caller caller kept.asked asked kept.sent sent) in
        subst (λ (w : Wanted). IsOutcome S (awaiting None) now w old new (told (refused_request asked why))) (same_files S record_bytes kept.xid xid kept.caller caller kept.asked asked kept.sent sent)
        (subst (λ (r : Requested). IsOutcome S (awaiting None) now (files kept.caller kept.asked) old new (told (refused_request r why))) same (unsure_own why is))

    pub unsure_lost : (history : List Entry) → (reply : List ℕ) × Replies S (marked history) now xid (files caller asked) old new reply
    unsure_lost history = loses S None now xid (files caller asked) old new (told (refused_request asked ServerFault)) (unsure_outcome ServerFault tt) history

-- ---- a call that is not begun

module _ (S : Served) (asked : Requested) (caller : Caller) (now : Time) (old : SessionState) where
  nothing_done : (forbidden : Bool) (call : Call) → (results : Results) × ComesUnless forbidden S (awaiting None) asked call caller now old old results
  nothing_done true call = (refused_request asked ReadOnly, (refl, refl, refl))
  nothing_done false call = (refused_request asked ServerFault, undone ServerFault tt (unchanged old) refl)

  not_reached : (to : Resolved) → (results : Results) × ComesTo S (awaiting None) asked caller now to old old results
  not_reached (Ok None) = (Null, (refl, refl, refl))
  not_reached (Ok (Some call)) = nothing_done (S.read_only && changes call) (asked_of S.read_only call)
  not_reached (Err why) = (refused_request asked why, (refl, refl, refl))

pub not_begun_lost : (S : Served) (now : Moment) (xid : ℕ) (caller : Caller) (asked : Requested) (old : SessionState) (history : List Entry) → (reply : List ℕ) × Replies S (marked history) now xid (files caller asked) old old reply
not_begun_lost S now xid caller asked old history =
    let reached = not_reached S asked caller (time_in now) old (call_on S.disk asked) in
    loses S None now xid (files caller asked) old old (told reached.0) (reached.0, refl, reached.1) history

-- ---- how it is held

-- a reply for which nothing waits
pub held_again : (S : Served) (now : Moment) (xid : ℕ) (wanted : Wanted) (old new : SessionState) (text wrote writes : List ℕ) (soon : HeldReply AwaitedCall CommitPlace)
    → Replies S (awaiting None) now xid wanted old new text → writes ≡ wrote ++ text → soon ≡ record { wait = None; ends = false } → IsHeld S now xid wanted old new wrote writes soon
held_again S now xid wanted old new text wrote writes soon replies written none = record {
  wait = None;
  text = text;
  written = written;
  replies = replies;
  held = ap (λ (s : HeldReply AwaitedCall CommitPlace). s.wait) none;
  goes_on = ap (λ (s : HeldReply AwaitedCall CommitPlace). s.ends) none;
}
