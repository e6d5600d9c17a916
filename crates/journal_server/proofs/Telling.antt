-- What is told of a connection whose replies none ends, a fact at a time.
use Rattle.std.proofs.Common.{◌≡◌, ◌≢◌, ℕ, ◌+◌, ◌<◌, ◌^◌, true, false, List, [], ◌∷◌, ◌++◌, Option, Some, None, ◌⊎◌, inl, inr, length, refl, sym, ap, subst, ◌∙◌, append_assoc, arith, Result, Ok, Err}
use Rattle.std.specs.Prelude.{IfOk, OnErr}
use Rattle.std.proofs.lemmas.Bool.{false≢true}
use Rattle.std.proofs.lemmas.List.{append-nil}
use Rattle.journal_world.specs.Histories.{Entry}
use Rattle.journal_history.specs.Tokens.{SessionState}
use Rattle.journal_inode.specs.declared.node.Time.{Time}
use Rattle.journal_rpc.specs.Stream.{Stream, fresh, after}
use Rattle.journal_rpc.proofs.Streams.{after-append, too_long_stays}
use Rattle.journal_protocol.specs.declared.connection.End.{End}
use Rattle.journal_protocol.specs.declared.connection.End.TheVariants.{EndOfInput, Truncated, BadRecord, Stopped}
use Rattle.journal_protocol.specs.Protocols.{Service}
use Rattle.journal_protocol.specs.Output.{IsReplyBy, IsRepliedUnlessBad, RepliesUpToBad, AllReplies, AllCalls, counted, answered_of, records_of, Talk, going, talk, IsTold}
use Rattle.journal_protocol.specs.Connections.{Exchanges, IsEnd, IsBeginning, IsBefore}
use Rattle.journal_protocol.specs.Sending.{StartsBad}
use Rattle.journal_protocol.specs.Serving.{starts, IsLast, Finished, Fails}
use Rattle.journal_protocol.proofs.Answering.{all_so}
use Rattle.journal_protocol.proofs.Behind.{behind, first_records}

-- what holds of a value holds of it in other words
pub if_ok : {T E : Type 0} (r : Result T E) (P Q : T → Type 0) → ((v : T) → P v → Q v) → IfOk r P → IfOk r Q
if_ok (Ok v) P Q so p = so v p
if_ok (Err e) P Q so p = p

pub on_err_so : {T E : Type 0} (r : Result T E) (P Q : Type 0) → (P → Q) → OnErr r P → OnErr r Q
on_err_so (Ok v) P Q so p = p
on_err_so (Err e) P Q so p = so p

-- ---- replies, and a record that is no call

module _ {C S : Type 0} (reads : List ℕ → Option C) (answers : C → S → S → List ℕ → Type 0) where
  -- the others are none, or the first of them is no call
  abbrev IsUpTo : List (List ℕ) → Type 0
  IsUpTo others = (others ≡ []) ⊎ StartsBad reads others

  stops : (others : List (List ℕ)) (now : S) → IsUpTo others → RepliesUpToBad reads answers others now now []
  stops others now (inl none) = subst (λ (rs : List (List ℕ)). RepliesUpToBad reads answers rs now now []) (sym none) (refl, refl)
  stops others now (inr (bad, more, is, no_call)) =
      subst (λ (rs : List (List ℕ)). RepliesUpToBad reads answers rs now now []) (sym is)
      (subst (λ (c : Option C). IsRepliedUnlessBad answers c now now [] (λ m t. RepliesUpToBad reads answers more m now t)) (sym no_call) (refl, refl))

  pub up_to : (rs others : List (List ℕ)) (old new : S) (text : List ℕ) → IsUpTo others → AllReplies reads answers rs old new text → RepliesUpToBad reads answers (rs ++ others) old new text
  up_to [] others old new text last h =
      subst (λ (s : S). RepliesUpToBad reads answers others s new text) h.0 (subst (λ (t : List ℕ). RepliesUpToBad reads answers others new new t) (sym h.1) (stops others new last))
  up_to (r ∷ rs) others old new text last h =
      let k = h.2 in
      subst (λ (c : Option C). IsRepliedUnlessBad answers c old new text (λ m t. RepliesUpToBad reads answers (rs ++ others) m new t)) (sym h.1) (k.0, k.1, k.2, k.3, up_to rs others k.0 new k.2 last k.4, k.5)

  -- all of them are calls
  pub calls_all : (rs : List (List ℕ)) (old new : S) (text : List ℕ) → AllReplies reads answers rs old new text → AllCalls reads rs
  calls_all [] old new text h = tt
  calls_all (r ∷ rs) old new text h = (some_not_none h.0 (reads r) h.1, calls_all rs h.2.0 new h.2.2 h.2.4)
    where
      some_not_none : (x : C) (o : Option C) → o ≡ Some x → o ≢ None
      some_not_none x o e n = absurd cc

  -- and they are counted
  pub counts_up_to : (rs others : List (List ℕ)) (old new : S) (text : List ℕ) → IsUpTo others → AllReplies reads answers rs old new text → answered_of reads (rs ++ others) ≡ length rs
  counts_up_to [] others old new text (inl none) h = ap (answered_of reads) none
  counts_up_to [] others old new text (inr (bad, more, is, no_call)) h = ap (answered_of reads) is ∙ ap (λ (c : Option C). counted c (answered_of reads more)) no_call
  counts_up_to (r ∷ rs) others old new text last h =
      let one : answered_of reads ((r ∷ rs) ++ others) ≡ answered_of reads (rs ++ others) + 1 = ap (λ (c : Option C). counted c (answered_of reads (rs ++ others))) h.1 in
      omega (arith, one, counts_up_to rs others h.2.0 new h.2.2 last h.2.4)

pub all_are_replies : {C S : Type 0} (reads : List ℕ → Option C) (answers : C → S → S → List ℕ → Type 0) (records : List (List ℕ)) (old new : S) (text : List ℕ) → AllReplies reads answers records old new text → RepliesUpToBad reads answers records old new text
all_are_replies reads answers records old new text h = subst (λ (rs : List (List ℕ)). RepliesUpToBad reads answers rs old new text) (append-nil records) (up_to reads answers records [] old new text (inl refl) h)

-- ---- a connection that ended

module _ {C : Type 0} (s : Service C) (tells : Time → Type 0) (never : (text : List ℕ) → s.stops text → ⊥) where
  -- no reply ends it
  goes_on : (history : List Entry) (rs : List (List ℕ)) (old new : Talk) (text : List ℕ) → AllReplies s.reads (IsTold s tells history) rs old new text → old.over ≡ false → new.over ≡ true → ⊥
  goes_on history [] old new text h before over = absurd (false≢true (sym before ∙ sym (ap (λ (t : Talk). t.over) h.0) ∙ over))
  goes_on history (r ∷ []) old new text h before over = let k = h.2 in never k.1 (k.3.ends (sym (ap (λ (t : Talk). t.over) k.4.0) ∙ over))
  goes_on history (r ∷ q ∷ rs) old new text h before over = let k = h.2 in goes_on history (q ∷ rs) k.0 new k.2 k.4 k.4.2.3.goes over

  module _ (from left held holds : Option (List ℕ)) (old : SessionState) (end : End) (last : SessionState) (n : ℕ) (h : Finished s tells (starts from held old 0) left holds end last n) where
    abbrev input : List ℕ
    input = h.so_far.input ++ h.pending

    abbrev answered : List (List ℕ)
    answered = h.so_far.answered

    came : after (fresh s.marking) input ≡ after (behind answered h.waiting) h.pending
    came = after-append (fresh s.marking) h.so_far.input h.pending ∙ ap (λ (t : Stream). after t h.pending) h.so_far.is

    quiet : h.pending ≡ [] → after (fresh s.marking) input ≡ behind answered h.waiting
    quiet none = ap (λ (p : List ℕ). after (fresh s.marking) (h.so_far.input ++ p)) none ∙ ap (after (fresh s.marking)) (append-nil h.so_far.input) ∙ h.so_far.is

    replied : AllReplies s.reads (IsReplyBy s.answers tells last.seen) answered old last h.so_far.text
    replied = all_so s.reads (IsTold s tells last.seen) (IsReplyBy s.answers tells last.seen) (λ (t : Talk). t.session) (λ call a b text k. k.reply) answered (going old) (talk last h.over) h.so_far.text h.so_far.replied

    -- what was not answered
    rest : (e : End) → IsLast s e left h.pending h.waiting h.over → (others : List (List ℕ)) × (records_of s.marking input ≡ answered ++ others) × IsUpTo s.reads (IsReplyBy s.answers tells last.seen) others
    rest EndOfInput l = (h.waiting.records, ap (λ (t : Stream). t.records) (quiet l.1), inl l.2)
    rest Truncated l = (h.waiting.records, ap (λ (t : Stream). t.records) (quiet l.1), inl l.2)
    rest BadRecord (inl l) = (h.waiting.records, ap (λ (t : Stream). t.records) (came ∙ sym (too_long_stays (behind answered h.waiting) h.pending l.1)), inl l.0)
    rest BadRecord (inr (bad, more, is, no_call)) =
        let later = first_records (behind answered h.waiting) h.pending in (
          h.waiting.records ++ later.0,
          ap (λ (t : Stream). t.records) came ∙ later.1 ∙ append_assoc answered h.waiting.records later.0,
          inr (bad, more ++ later.0, ap (λ (rs : List (List ℕ)). rs ++ later.0) is, no_call),
        )
    rest Stopped l = absurd (goes_on last.seen answered (going old) (talk last h.over) h.so_far.text h.so_far.replied refl l)

    pub tells_replies : Exchanges from left held holds (λ input text. RepliesUpToBad s.reads (IsReplyBy s.answers tells last.seen) (records_of s.marking input) old last text)
    tells_replies =
        let r = rest end h.last in
        (input, h.so_far.text, h.so_far.read, h.so_far.wrote, subst (λ (rs : List (List ℕ)). RepliesUpToBad s.reads (IsReplyBy s.answers tells last.seen) rs old last h.so_far.text) (sym r.1) (up_to s.reads (IsReplyBy s.answers tells last.seen) answered r.0 old last h.so_far.text r.2 replied))

    pub tells_count : Exchanges from left held holds (λ input text. answered_of s.reads (records_of s.marking input) < 2 ^ 64 → n ≡ answered_of s.reads (records_of s.marking input))
    tells_count =
        let r = rest end h.last in
        let count : answered_of s.reads (records_of s.marking input) ≡ length answered = ap (answered_of s.reads) r.1 ∙ counts_up_to s.reads (IsReplyBy s.answers tells last.seen) answered r.0 old last h.so_far.text r.2 replied in
        (input, h.so_far.text, h.so_far.read, h.so_far.wrote, λ lt. let e = h.so_far.counts (omega (arith, count, lt)) in omega (arith, count, e))

    pub tells_end : Exchanges from left held holds (λ input text. IsEnd s.marking s.reads end input left)
    tells_end = (input, h.so_far.text, h.so_far.read, h.so_far.wrote, of end h.last)
      where
        calls : (waiting : List (List ℕ)) → records_of s.marking input ≡ answered ++ waiting → waiting ≡ [] → AllCalls s.reads (records_of s.marking input)
        calls waiting is none =
            subst (AllCalls s.reads) (sym (is ∙ ap (λ (rs : List (List ℕ)). answered ++ rs) none ∙ append-nil answered)) (calls_all s.reads (IsReplyBy s.answers tells last.seen) answered old last h.so_far.text replied)

        of : (e : End) → IsLast s e left h.pending h.waiting h.over → IsEnd s.marking s.reads e input left
        of EndOfInput l =
            let is = quiet l.1 in
            (l.0, calls h.waiting.records (ap (λ (t : Stream). t.records) is) l.2, record { begun = ap (λ (t : Stream). t.begun) is ∙ l.3.begun; part = ap (λ (t : Stream). t.part) is ∙ l.3.part })
        of Truncated l =
            let is = quiet l.1 in (
              l.0,
              calls h.waiting.records (ap (λ (t : Stream). t.records) is) l.2,
              λ b. l.3 (record { begun = sym (ap (λ (t : Stream). t.begun) is) ∙ b.begun; part = sym (ap (λ (t : Stream). t.part) is) ∙ b.part }),
              λ long. l.4 (sym (ap (λ (t : Stream). t.part) is) ∙ long),
            )
        of BadRecord (inl l) = inl (ap (λ (t : Stream). t.part) (came ∙ sym (too_long_stays (behind answered h.waiting) h.pending l.1)) ∙ l.1)
        of BadRecord (inr (bad, more, is, no_call)) =
            let later = first_records (behind answered h.waiting) h.pending in
            inr (answered, bad, more ++ later.0, ap (λ (t : Stream). t.records) came ∙ later.1 ∙ append_assoc answered h.waiting.records later.0 ∙ ap (λ (rs : List (List ℕ)). answered ++ (rs ++ later.0)) is, no_call)
        of Stopped l = absurd (goes_on last.seen answered (going old) (talk last h.over) h.so_far.text h.so_far.replied refl l)

  -- one that was given up
  pub tells_beginning : (from left held holds : Option (List ℕ)) (old now : SessionState) → Fails s tells (starts from held old 0) left holds now
      → Exchanges from left held holds (λ input text. IsBefore now (λ l. IsBeginning s.reads (IsReplyBy s.does tells l.seen) (records_of s.marking input) old l text))
  tells_beginning from left held holds old now (last, more, k) =
      (k.input, k.text, k.read, k.wrote, (last, more, record { answered = k.answered; others = k.others; front = k.front; whole = k.whole; replied = k.replied; written = k.written }))
