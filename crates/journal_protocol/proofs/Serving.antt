-- A connection, a step after another.
use Rattle.std.proofs.Common.{◌≡◌, ◌≢◌, ℕ, zero, suc, ◌<◌, ◌≤◌, true, false, List, [], ◌∷◌, ◌++◌, Option, Some, None, length, take, refl, sym, ap, subst, ◌∙◌, append_assoc, arith}
use Rattle.std.proofs.lemmas.List.{append-nil}
use Rattle.std.specs.Io.KnownBytes.{Consumes, Keeps, IsAtEnd}
use Rattle.std.proofs.KnownBytes.{Consumes-nil, Appends-nil, Consumes-trans, Appends-trans}
use Rattle.journal_rpc.specs.declared.part.Part.TheVariants.{TooLong}
use Rattle.journal_rpc.specs.Stream.{Stream, fresh, after, waiting_limit, IsBetween}
use Rattle.journal_rpc.proofs.Streams.{after-append, after_none}
use Rattle.journal_history.specs.Tokens.{SessionState, OnlyExtends}
use Rattle.journal_inode.specs.declared.node.Time.{Time}
use Rattle.journal_protocol.specs.declared.connection.End.{End}
use Rattle.journal_protocol.specs.declared.connection.End.TheVariants.{EndOfInput, Truncated, BadRecord, Stopped}
use Rattle.journal_protocol.specs.declared.connection.Progress.{Progress}
use Rattle.journal_protocol.specs.declared.replying.Outcome.{Outcome}
use Rattle.journal_protocol.specs.declared.replying.Outcome.TheVariants as outcomes
use Rattle.journal_protocol.specs.declared.reply_batch.ReplyBatch.{ReplyBatch}
use Rattle.journal_protocol.specs.Protocols.{Service, Replacing, IsLawful}
use Rattle.journal_protocol.specs.Output.{IsReplyBy, AllReplies, Talk, talk, going, IsTold}
use Rattle.journal_protocol.specs.ReplyBatches.{Doing, doing, IsHeld, Settles, SendsSettled, SendsInPart}
use Rattle.journal_protocol.specs.Sending.{AppendsFront, IsEnding, is_over, Turned, Lost}
use Rattle.journal_protocol.specs.Serving.{Start, starts, SoFar, Pauses, IsLast, Finished, GivenUp, ComesTo, Closes, Progresses, IsFencedAsTold}
use Rattle.journal_protocol.proofs.Answering.{all_then}
use Rattle.journal_protocol.proofs.Behind.{behind, after_behind, first_records, is_fresh}
use Rattle.journal_protocol.proofs.Counting.{counts_more}
use Rattle.journal_protocol.proofs.Settling.{replies_stay, replies_done, told_grow, replies_later, replies_told}
use Rattle.journal_protocol.proofs.Staying.{all_grow}

pub Keeps-Consumes : (a b : Option (List ℕ)) → Keeps a b → Consumes a b []
Keeps-Consumes None b h = tt
Keeps-Consumes (Some x) None h = absurd h
Keeps-Consumes (Some x) (Some y) h = sym h

-- ---- what is taken of a piece

pub takes_some : (old new : Stream) (count : ℕ) (piece : List ℕ) → old.records ≡ [] → 0 < length piece → new ≡ after old (take count piece) → (count < length piece → waiting_limit ≤ length new.records) → 0 < count
takes_some old new zero piece none some is all =
    let few : length new.records ≡ 0 = ap (λ (s : Stream). length s.records) (is ∙ after_none old [] refl) ∙ ap (λ (rs : List (List ℕ)). length rs) none in
    absurd (omega (arith, few, all some))
takes_some old new (suc count) piece none some is all = omega arith

-- ---- a connection so far

pub comes_to : {C : Type 0} (s : Service C) (tells : Time → Type 0) (o p : Outcome) (start : Start) (left holds : Option (List ℕ)) (pending : List ℕ) (waiting : Stream) (now : SessionState) (n : ℕ) → o ≡ p → ComesTo s tells o start left holds pending waiting now n → ComesTo s tells p start left holds pending waiting now n
comes_to s tells o p start left holds pending waiting now n is h = subst (λ (x : Outcome). ComesTo s tells x start left holds pending waiting now n) is h

module _ {C : Type 0} (s : Service C) (tells : Time → Type 0) where
  -- nothing has come
  pub pauses_at_once : (from held : Option (List ℕ)) (session : SessionState) (count : ℕ) → Pauses s tells (starts from held session count) from held session count
  pauses_at_once from held session count =
      record { input = []; text = []; read = Consumes-nil from; wrote = Appends-nil held; answered = []; replied = (refl, refl); is = after_none (fresh s.marking) [] refl; counts = λ lt. omega arith }

  module _ (start : Start) (left holds : Option (List ℕ)) where
    -- of the same stream
    pub on_stream : (pending : List ℕ) (waiting other : Stream) (now : Talk) (n : ℕ) → waiting ≡ other → SoFar s tells start left holds pending waiting now n → SoFar s tells start left holds pending other now n
    on_stream pending waiting other now n is h = subst (λ (w : Stream). SoFar s tells start left holds pending w now n) is h

    -- a piece was read
    pub reads_piece : (left2 : Option (List ℕ)) (piece : List ℕ) (waiting : Stream) (now : Talk) (n : ℕ) → Consumes left left2 piece → SoFar s tells start left holds [] waiting now n → SoFar s tells start left2 holds piece waiting now n
    reads_piece left2 piece waiting now n c h = record {
      input = h.input;
      text = h.text;
      read = subst (λ (t : List ℕ). Consumes start.from left2 (t ++ piece)) (append-nil h.input) (Consumes-trans start.from left left2 (h.input ++ []) piece h.read c);
      wrote = h.wrote;
      answered = h.answered;
      replied = h.replied;
      is = h.is;
      counts = h.counts;
    }

    -- a front of what is not looked at fed to the stream
    pub feeds : (pending slice more : List ℕ) (waiting : Stream) (now : Talk) (n : ℕ) → pending ≡ slice ++ more → SoFar s tells start left holds pending waiting now n → SoFar s tells start left holds more (after waiting slice) now n
    feeds pending slice more waiting now n is h = record {
      input = h.input ++ slice;
      text = h.text;
      read = subst (Consumes start.from left) (ap (λ (p : List ℕ). h.input ++ p) is ∙ sym (append_assoc h.input slice more)) h.read;
      wrote = h.wrote;
      answered = h.answered;
      replied = h.replied;
      is = after-append (fresh s.marking) h.input slice ∙ ap (λ (t : Stream). after t slice) h.is ∙ after_behind h.answered waiting slice;
      counts = h.counts;
    }

    -- no record is begun, and none waits
    pub pauses_here : (waiting : Stream) (now : SessionState) (n : ℕ) → waiting.records ≡ [] → IsBetween waiting → SoFar s tells start left holds [] waiting (going now) n → Pauses s tells start left holds now n
    pauses_here waiting now n none between h = on_stream [] waiting (fresh s.marking) (going now) n (is_fresh s.marking h.input h.answered waiting h.is none between) h

    -- nothing was left to read
    pub ends_quiet : (end : End) (waiting : Stream) (now : SessionState) (n : ℕ) → Closes end waiting → IsAtEnd left → waiting.records ≡ [] → waiting.part ≢ TooLong → SoFar s tells start left holds [] waiting (going now) n → Finished s tells start left holds end now n
    ends_quiet end waiting now n closes quiet none short h = record { pending = []; waiting = waiting; over = false; so_far = h; last = of end closes }
      where
        of : (e : End) → Closes e waiting → IsLast s e left [] waiting false
        of EndOfInput b = (quiet, refl, none, b)
        of Truncated b = (quiet, refl, none, b, short)
        of BadRecord b = absurd b
        of Stopped b = absurd b

  -- ---- what is done of the records that wait

  module _ (laws : IsLawful s) (start : Start) (left half : Option (List ℕ)) (pending : List ℕ) (mid : Stream) (between : SessionState) (n : ℕ) (h : SoFar s tells start left half pending mid (going between) n) where
    -- a front of them was done, and their replies written in part
    breaks : (now : SessionState) (holds : Option (List ℕ)) (taken others : List (List ℕ)) (text : List ℕ) → mid.records ≡ taken ++ others → AllReplies s.reads (IsReplyBy s.does tells now.seen) taken between now text → AppendsFront half holds text
        → GivenUp s tells start left holds now
    breaks now holds taken others text is done sent =
        let more = first_records (after (fresh s.marking) h.input) pending in
        let grows = all_grow s tells laws now.seen taken between now text done in
        let before = replies_done s tells laws now.seen h.answered (going start.session) (going between) h.text (replies_stay s tells laws between.seen now.seen h.answered (going start.session) (going between) h.text grows h.replied) in
        record {
          input = h.input ++ pending;
          text = h.text ++ sent.front;
          read = h.read;
          wrote = Appends-trans start.held half holds h.text sent.front h.wrote sent.appends;
          answered = h.answered ++ taken;
          others = others ++ more.0;
          front = ap (λ (t : Stream). t.records) (after-append (fresh s.marking) h.input pending)
              ∙ more.1
              ∙ ap (λ (rs : List (List ℕ)). rs ++ more.0) (ap (λ (t : Stream). t.records) h.is ∙ ap (λ (rs : List (List ℕ)). h.answered ++ rs) is ∙ sym (append_assoc h.answered taken others))
              ∙ append_assoc (h.answered ++ taken) others more.0;
          whole = h.text ++ text;
          replied = all_then s.reads (IsReplyBy s.does tells now.seen) h.answered taken start.session between now h.text text before done;
          written = (sent.rest, append_assoc h.text sent.front sent.rest ∙ ap (λ (t : List ℕ). h.text ++ t) (sym sent.is));
        }

    -- none of them was
    pub gives_up : GivenUp s tells start left half between
    gives_up = breaks between half [] mid.records [] refl (refl, refl) (record { front = []; rest = []; is = refl; appends = Appends-nil half })

  -- some of a piece were, and a reply was lost
  pub turn_loses : (laws : IsLawful s) (start : Start) (left half : Option (List ℕ)) (piece : List ℕ) (old : Stream) (between : SessionState) (n : ℕ) → SoFar s tells start left half piece old (going between) n
      → (now : SessionState) → Lost s.reads (IsReplyBy s.does tells now.seen) piece old between now → GivenUp s tells start left half now
  turn_loses laws start left half piece old between n h now e =
      breaks laws start left half [] (after old piece) between n (feeds start left half piece piece [] old (going between) n (sym (append-nil piece)) h)
      now half e.answered e.left e.text e.records e.replied (record { front = []; rest = e.text; is = refl; appends = Appends-nil half })

  -- ---- a turn, whose replies are held and then sent

  module _ (laws : IsLawful s) {A R : Type 0} (replaces : Replacing A) (commits : R → ℕ) (start : Start) (left half : Option (List ℕ)) (piece rest : List ℕ) (outcome : Outcome) (old new : Stream) (between done now : SessionState) (held : ReplyBatch A R) (n m : ℕ)
      (come : Turned s.reads (IsHeld s replaces commits tells) outcome piece rest old new (doing (going between) held.replies.items) (doing (talk done (is_over outcome)) []) held.bytes n m)
      (more : OnlyExtends done now) (quiet : held.replies.items ≡ [] → now ≡ done) (h : SoFar s tells start left half piece old (going between) n) where
    fed : SoFar s tells start left half rest (after old come.taken) (going between) n
    fed = feeds start left half piece come.taken rest old (going between) n come.front h

    replied_so : (text : List ℕ) → AllReplies s.reads (IsTold s tells now.seen) come.answered (going between) (talk done (is_over outcome)) text → AllReplies s.reads (IsTold s tells now.seen) come.answered (going between) (talk now (is_over outcome)) text
    replied_so text told = replies_later s tells laws now.seen come.answered (going between) done now (is_over outcome) text more (λ none. quiet (empty come.answered come.replied none)) told
      where
        empty : (qs : List (List ℕ)) → AllReplies s.reads (IsHeld s replaces commits tells) qs (doing (going between) held.replies.items) (doing (talk done (is_over outcome)) []) held.bytes → qs ≡ [] → held.replies.items ≡ []
        empty [] k e = sym (ap (λ (d : Doing A). d.behind) k.0)
        empty (q ∷ qs) k e = absurd cc

    told_so : (text : List ℕ) → Settles replaces now.seen held.replies.items held.bytes text → AllReplies s.reads (IsTold s tells now.seen) come.answered (going between) (talk now (is_over outcome)) text
    told_so text settles = replied_so text (replies_told s replaces commits tells now.seen come.answered (doing (going between) held.replies.items) (doing (talk done (is_over outcome)) []) held.bytes text come.replied refl settles)

    -- they were not all sent
    pub turn_breaks : (holds : Option (List ℕ)) → SendsInPart replaces now.seen held half holds → GivenUp s tells start left holds now
    turn_breaks holds e =
        breaks laws start left half rest (after old come.taken) between n fed now holds come.answered come.left e.text (ap (λ (t : Stream). t.records) come.comes)
        (replies_done s tells laws now.seen come.answered (going between) (talk now (is_over outcome)) e.text (told_so e.text e.settles)) e.sent

    -- they were
    module _ (holds : Option (List ℕ)) (sent : SendsSettled replaces now.seen held half holds) where
      goes : SoFar s tells start left holds rest (record new { records = come.left }) (talk now (is_over outcome)) m
      goes =
          let told = told_so sent.text sent.settles in
          let grows = told_grow s tells laws now.seen come.answered (going between) (talk now (is_over outcome)) sent.text told in
          record {
            input = fed.input;
            text = fed.text ++ sent.text;
            read = fed.read;
            wrote = Appends-trans start.held half holds fed.text sent.text fed.wrote sent.sent;
            answered = fed.answered ++ come.answered;
            replied = all_then s.reads (IsTold s tells now.seen) fed.answered come.answered (going start.session) (going between) (talk now (is_over outcome)) fed.text sent.text
                (replies_stay s tells laws between.seen now.seen fed.answered (going start.session) (going between) fed.text grows fed.replied) told;
            is = fed.is ∙ ap (λ (t : Stream). behind fed.answered t) come.comes ∙ ap (λ (rs : List (List ℕ)). record new { records = rs }) (sym (append_assoc fed.answered come.answered come.left));
            counts = counts_more fed.answered come.answered start.count n m fed.counts come.counts;
          }

      at : (other : Outcome) → outcome ≡ other → SoFar s tells start left holds rest (record new { records = come.left }) (talk now (is_over other)) m × IsEnding s.reads other come.left new.part
      at other is = (
        subst (λ (x : Outcome). SoFar s tells start left holds rest (record new { records = come.left }) (talk now (is_over x)) m) is goes,
        subst (λ (x : Outcome). IsEnding s.reads x come.left new.part) is come.ending,
      )

      -- no record is left
      pub turn_goes_on : outcome ≡ outcomes.GoesOn → new.records ≡ [] → SoFar s tells start left holds rest new (going now) m
      turn_goes_on is none =
          let t = at outcomes.GoesOn is in
          on_stream start left holds rest (record new { records = come.left }) new (going now) m (ap (λ (rs : List (List ℕ)). record new { records = rs }) (t.1 ∙ sym none)) t.0

      pub turn_ends_bad : outcome ≡ outcomes.Bad → Finished s tells start left holds BadRecord now m
      turn_ends_bad is = let t = at outcomes.Bad is in record { pending = rest; waiting = record new { records = come.left }; over = false; so_far = t.0; last = t.1 }

      pub turn_ends_stopped : outcome ≡ outcomes.Ended → Finished s tells start left holds Stopped now m
      turn_ends_stopped is = let t = at outcomes.Ended is in record { pending = rest; waiting = record new { records = come.left }; over = true; so_far = t.0; last = refl }

-- ---- by how far a turn has come

pub progresses : {C : Type 0} (s : Service C) (tells : Time → Type 0) (o p : Progress) (start : Start) (left holds : Option (List ℕ)) (now : SessionState) (n : ℕ) → o ≡ p → Progresses s tells o start left holds now n → Progresses s tells p start left holds now n
progresses s tells o p start left holds now n is h = subst (λ (x : Progress). Progresses s tells x start left holds now n) is h

pub is_told : (o p : Progress) (session : SessionState) → o ≡ p → IsFencedAsTold o session → IsFencedAsTold p session
is_told o p session is h = subst (λ (x : Progress). IsFencedAsTold x session) is h
