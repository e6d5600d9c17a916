-- A record of a piece, and then the next one.
use Rattle.std.proofs.Common.{◌≡◌, ℕ, ◌+◌, ◌-◌, ◌^◌, ◌<◌, ◌≤◌, Bool, false, List, Option, Some, None, Result, Ok, Err, [], ◌∷◌, ◌++◌, length, take, drop, refl, sym, ap, subst, ◌∙◌, append_assoc, inl, inr, arith}
use Rattle.std.proofs.lemmas.List.{append-nil, take-append-drop}
use Rattle.std.specs.Prelude.{min, IfOk, ◌==◌}
use Rattle.std.proofs.lemmas.Bool.{false≢true}
use Rattle.journal_rpc.specs.Stream.{Stream, after, waiting_limit}
use Rattle.journal_rpc.proofs.Streams.{after-append, after_none}
use Rattle.journal_world.specs.Histories.{Entry}
use Rattle.journal_history.specs.Tokens.{SessionState}
use Rattle.journal_inode.specs.declared.node.Time.{Time}
use Rattle.journal_protocol.specs.declared.held_reply.HeldReply.{HeldReply}
use Rattle.journal_protocol.specs.declared.replying.Outcome.{Outcome}
use Rattle.journal_protocol.specs.declared.replying.Outcome.TheVariants.{GoesOn, Bad, Ended}
use Rattle.journal_protocol.specs.declared.reply_batch.BatchEntry.{BatchEntry}
use Rattle.journal_protocol.specs.declared.reply_batch.ReplyBatch.{ReplyBatch}
use Rattle.journal_protocol.specs.Protocols.{Service, Replacing, IsAnswered, IsLawful, IsRefusable}
use Rattle.journal_protocol.specs.Output.{IsReplyBy, AllReplies, talk, going}
use Rattle.journal_protocol.specs.ReplyBatches.{held_of, doing, IsHeld, IsAdded, IsIdle, HeldOne, HeldEach, HeldNext, total}
use Rattle.journal_protocol.specs.Sending.{GrowsBy, IsEnding, is_over, Turned, Lost, LostOne}
use Rattle.journal_protocol.proofs.Answering.{all_then}
use Rattle.journal_protocol.proofs.Behind.{behind, after_behind, first_records}
use Rattle.journal_protocol.proofs.Counting.{counts_more}
use Rattle.journal_protocol.proofs.Sends.{holds_one, holds_same, told_somehow, cut_behind}
use Rattle.journal_protocol.proofs.Settling.{none_of_none, replies_done}

-- a fact of an outcome that is known
pub if_ok : {T E P : Type 0} (r : Result T E) → P → IfOk r (λ x. P)
if_ok (Ok x) p = p
if_ok (Err e) p = tt

-- some bytes are left
pub some_left : (xs : List ℕ) (empty : Bool) → empty ≡ (length xs == 0) → empty ≡ false → 0 < length xs
some_left [] empty is none = absurd (false≢true (sym none ∙ is))
some_left (x ∷ xs) empty is none = omega arith

-- no other record waits after the one that is taken
pub none_behind : (fed left : Stream) (r : List ℕ) → fed ≡ record left { records = r ∷ left.records } → length fed.records ≤ waiting_limit → left.records ≡ []
none_behind fed left r is few = none_of_none left.records (omega (arith, few, ap (λ (t : Stream). length t.records) is))

-- a record came at the front of a piece, and its reply may be lost
pub lost_at : {C S : Type 0} (reads : List ℕ → Option C) (answers : C → S → S → List ℕ → Type 0) (piece taken rest : List ℕ) (waiting : Stream) (r : List ℕ) (more : List (List ℕ)) (before now : S) → piece ≡ taken ++ rest
    → (after waiting taken).records ≡ r ∷ more → LostOne reads answers r before now → Lost reads answers piece waiting before now
lost_at reads answers piece taken rest waiting r more before now front comes (inl same) = record { text = []; answered = []; left = (after waiting piece).records; records = refl; replied = (same, refl) }
lost_at reads answers piece taken rest waiting r more before now front comes (inr e) =
    let others = first_records (after waiting taken) rest in
    record {
      text = e.1;
      answered = r ∷ [];
      left = more ++ others.0;
      records = ap (λ (t : Stream). t.records) (ap (after waiting) front ∙ after-append waiting taken rest) ∙ others.1 ∙ ap (λ (rs : List (List ℕ)). rs ++ others.0) comes;
      replied = (e.0, e.2, (now, e.1, [], e.3, (refl, refl), sym (append-nil e.1)));
    }

module _ {C A R : Type 0} (s : Service C) (replaces : Replacing A) (commits : R → ℕ) (tells : Time → Type 0) where
  -- ---- a record

  -- one that is no call
  pub record_bad : (bytes : List ℕ) (old new : SessionState) (before now : ReplyBatch A R) (wrote : List ℕ) (count : ℕ) → IsAnswered {A = A} {R = R} s replaces commits tells bytes old new wrote now.bytes None
      → wrote ≡ before.bytes → now.replies.items ≡ before.replies.items → HeldOne s replaces commits tells Bad bytes old new before now count count
  record_bad bytes old new before now wrote count h room known = (h.0, record { session = h.1; written = h.2 ∙ room; known = known; counts = refl })

  -- one whose reply is held
  pub record_added : (over : Bool) (bytes : List ℕ) (old new : SessionState) (before now : ReplyBatch A R) (soon : HeldReply A R) (wrote writes : List ℕ) (n count counted : ℕ) → IsAnswered s replaces commits tells bytes old new wrote writes (Some soon) → n ≡ length wrote → wrote ≡ before.bytes
      → over ≡ soon.ends → now.bytes ≡ writes → now.replies.items ≡ before.replies.items ++ held_of commits soon (drop n writes) ∷ [] → counted ≡ min (count + 1) (2 ^ 64 - 1) → IsAdded s replaces commits tells over bytes old new before now count counted
  record_added over bytes old new before now soon wrote writes n count counted h long room ends written known grown = record {
    call = h.0;
    reads = h.2;
    soon = soon;
    text = h.1;
    done = h.4;
    ends = ends;
    written = written ∙ h.3 ∙ ap (λ (b : List ℕ). b ++ h.1) room;
    known = known ∙ ap (λ (b : List ℕ). before.replies.items ++ held_of commits soon b ∷ []) (cut_behind wrote h.1 writes n long h.3).2;
    counts = λ lt. omega (arith, grown, lt);
  }

  -- ---- the next record of a piece

  held_each : (o : Outcome) (bytes : List ℕ) (left : Stream) (old new : SessionState) (before now : ReplyBatch A R) (count counted : ℕ) → HeldOne s replaces commits tells o bytes old new before now count counted
      → HeldEach s replaces commits tells o (bytes ∷ []) left.part old new before now count counted
  held_each GoesOn bytes left old new before now count counted h = h
  held_each Bad bytes left old new before now count counted h = h
  held_each Ended bytes left old new before now count counted h = h

  -- one that a front of the piece completes
  pub next_fed : (o : Outcome) (piece rest : List ℕ) (k : ℕ) (waiting fed left : Stream) (r : List ℕ) (old new : SessionState) (before now : ReplyBatch A R) (count counted : ℕ) → rest ≡ drop k piece → fed ≡ after waiting (take k piece) → fed ≡ record left { records = r ∷ left.records } → left.records ≡ []
      → HeldOne s replaces commits tells o r old new before now count counted → HeldNext s replaces commits tells o piece rest waiting left old new before now count counted
  next_fed o piece rest k waiting fed left r old new before now count counted back came is none h = record {
    taken = take k piece;
    front = sym (take-append-drop k piece) ∙ ap (λ (t : List ℕ). take k piece ++ t) (sym back);
    came = r ∷ [];
    comes = sym came ∙ is ∙ ap (λ (rs : List (List ℕ)). record left { records = r ∷ rs }) none;
    held = held_each o r left old new before now count counted h;
  }

  -- ---- a turn

  -- nothing is answered yet
  pub turn_begins : (piece : List ℕ) (first : Stream) (session : SessionState) (batch : ReplyBatch A R) (count : ℕ) → first.records ≡ [] → batch.replies.items ≡ [] → batch.bytes ≡ []
      → Turned s.reads (IsHeld s replaces commits tells) GoesOn piece piece first first (doing (going session) batch.replies.items) (doing (going session) []) batch.bytes count count
  turn_begins piece first session batch count none replies bytes = record {
    taken = [];
    front = refl;
    answered = [];
    left = [];
    comes = after_none first [] refl ∙ ap (λ (rs : List (List ℕ)). record first { records = rs }) none;
    replied = (ap (λ (hs : List (BatchEntry A)). doing (going session) hs) (sym replies), bytes);
    counts = λ lt. omega arith;
    ending = refl;
  }

  module _ (piece half : List ℕ) (first waiting : Stream) (start middle : SessionState) (before : ReplyBatch A R) (count sofar : ℕ)
      (t : Turned s.reads (IsHeld s replaces commits tells) GoesOn piece half first waiting (doing (going start) before.replies.items) (doing (going middle) []) before.bytes count sofar) (none : waiting.records ≡ []) where
    same : record waiting { records = t.answered ++ t.left } ≡ behind t.answered waiting
    same = ap (λ (rs : List (List ℕ)). record waiting { records = t.answered ++ rs }) (t.ending ∙ sym none)

    further : (bytes : List ℕ) → after first (t.taken ++ bytes) ≡ behind t.answered (after waiting bytes)
    further bytes = after-append first t.taken bytes ∙ ap (λ (u : Stream). after u bytes) (t.comes ∙ same) ∙ after_behind t.answered waiting bytes

    -- the next record is answered after those before it
    module _ (taken rest : List ℕ) (left : Stream) (now : SessionState) (held : ReplyBatch A R) (counted : ℕ) (front : half ≡ taken ++ rest) where
      whole : piece ≡ (t.taken ++ taken) ++ rest
      whole = t.front ∙ ap (λ (b : List ℕ). t.taken ++ b) front ∙ sym (append_assoc t.taken taken rest)

      -- nothing of it is
      idle_kept : IsIdle middle now before held sofar counted
          → AllReplies s.reads (IsHeld s replaces commits tells) t.answered (doing (going start) held.replies.items) (doing (going now) []) held.bytes × GrowsBy count (length t.answered) counted
      idle_kept h = (
        holds_same s replaces commits tells t.answered start middle now before.replies.items held.replies.items before.bytes held.bytes h.session h.known h.written t.replied,
        subst (GrowsBy count (length t.answered)) (sym h.counts) t.counts,
      )

      -- it is
      added : (o : Outcome) (r : List ℕ) → after first (t.taken ++ taken) ≡ record left { records = t.answered ++ r ∷ [] } → IsAdded s replaces commits tells (is_over o) r middle now before held sofar counted → IsEnding s.reads o [] left.part
          → Turned s.reads (IsHeld s replaces commits tells) o piece rest first left (doing (going start) held.replies.items) (doing (talk now (is_over o)) []) held.bytes count counted
      added o r comes h ending = record {
        taken = t.taken ++ taken;
        front = whole;
        answered = t.answered ++ r ∷ [];
        left = [];
        comes = comes ∙ ap (λ (rs : List (List ℕ)). record left { records = rs }) (sym (append-nil (t.answered ++ r ∷ [])));
        replied = holds_one s replaces commits tells t.answered start before.replies.items before.bytes middle now t.replied r h.call h.soon h.text (is_over o) held.replies.items held.bytes h.reads h.done h.ends h.known h.written;
        counts = counts_more t.answered (r ∷ []) count sofar counted t.counts h.counts;
        ending = ending;
      }

      answered_next : (o : Outcome) (came : List (List ℕ)) → after first (t.taken ++ taken) ≡ record left { records = t.answered ++ came } → HeldEach s replaces commits tells o came left.part middle now before held sofar counted
          → Turned s.reads (IsHeld s replaces commits tells) o piece rest first left (doing (going start) held.replies.items) (doing (talk now (is_over o)) []) held.bytes count counted
      answered_next GoesOn [] comes h =
          let k = idle_kept h in
          record { taken = t.taken ++ taken; front = whole; answered = t.answered; left = []; comes = comes; replied = k.0; counts = k.1; ending = refl }
      answered_next Bad [] comes h =
          let k = idle_kept h.1 in
          record { taken = t.taken ++ taken; front = whole; answered = t.answered; left = []; comes = comes; replied = k.0; counts = k.1; ending = inl (refl, h.0) }
      answered_next Ended [] comes h = absurd h
      answered_next GoesOn (r ∷ []) comes h = added GoesOn r comes h refl
      answered_next Bad (r ∷ []) comes h =
          let k = idle_kept h.1 in
          record { taken = t.taken ++ taken; front = whole; answered = t.answered; left = r ∷ []; comes = comes; replied = k.0; counts = k.1; ending = inr (r, [], refl, h.0) }
      answered_next Ended (r ∷ []) comes h = added Ended r comes h refl
      answered_next GoesOn (r ∷ q ∷ rs) comes h = absurd h
      answered_next Bad (r ∷ q ∷ rs) comes h = absurd h
      answered_next Ended (r ∷ q ∷ rs) comes h = absurd h

    pub turn_next : (o other : Outcome) (rest : List ℕ) (left : Stream) (now : SessionState) (held : ReplyBatch A R) (counted : ℕ) → o ≡ other → HeldNext s replaces commits tells o half rest waiting left middle now before held sofar counted
        → Turned s.reads (IsHeld s replaces commits tells) other piece rest first left (doing (going start) held.replies.items) (doing (talk now (is_over other)) []) held.bytes count counted
    turn_next o other rest left now held counted is h =
        let n : HeldNext s replaces commits tells other half rest waiting left middle now before held sofar counted = subst (λ (x : Outcome). HeldNext s replaces commits tells x half rest waiting left middle now before held sofar counted) is h in
        answered_next n.taken rest left now held counted n.front other n.came (further n.taken ∙ ap (behind t.answered) n.comes) n.held

    -- or its reply is lost
    pub turn_lost : (laws : IsLawful s) (refusable : IsRefusable replaces) (history : List Entry) (now : SessionState) → total before.replies.items ≡ length before.bytes → Lost s.reads (IsReplyBy s.does tells history) half waiting middle now
        → Lost s.reads (IsReplyBy s.does tells history) piece first start now
    turn_lost laws refusable history now fits e =
        let all = told_somehow s replaces commits tells t.answered start before.replies.items before.bytes (going middle) t.replied refusable fits history in
        record {
          text = all.0 ++ e.text;
          answered = t.answered ++ e.answered;
          left = e.left;
          records = ap (λ (u : Stream). u.records) (ap (after first) t.front ∙ further half) ∙ ap (λ (rs : List (List ℕ)). t.answered ++ rs) e.records ∙ sym (append_assoc t.answered e.answered e.left);
          replied = all_then s.reads (IsReplyBy s.does tells history) t.answered e.answered start middle now all.0 e.text
              (replies_done s tells laws history t.answered (going start) (going middle) all.0 all.1) e.replied;
        }
