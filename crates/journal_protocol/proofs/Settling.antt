-- What is told of replies that were held back.
use Rattle.std.proofs.Common.{◌≡◌, Bool, ℕ, ◌+◌, ◌≤◌, List, [], ◌∷◌, ◌++◌, Option, Some, None, Result, Ok, Err, OnOk, length, take, drop, refl, sym, ap, subst, ◌∙◌, append_assoc, inl, inr, arith, take-append-drop, length-append}
use Rattle.std.specs.Prelude.{IsTrue, IfSome, ◌⊎◌}
use Rattle.std.proofs.lemmas.List.{append-nil, append_cancel_left, length-take-le}
use Rattle.std.proofs.Math.Seq.{take-append_seam}
use Rattle.journal_world.specs.Histories.{Entry, floor}
use Rattle.journal_world.proofs.Marks.{floor-append-le}
use Rattle.journal_history.specs.Tokens.{SessionState, OnlyExtends}
use Rattle.journal_inode.specs.declared.node.Time.{Time}
use Rattle.journal_world.proofs.Prefixes.{IsPrefix-trans}
use Rattle.journal_protocol.specs.declared.held_reply.HeldWait.{HeldWait}
use Rattle.journal_protocol.specs.declared.held_reply.HeldReply.{HeldReply}
use Rattle.journal_protocol.specs.declared.reply_batch.BatchWait.{BatchWait}
use Rattle.journal_protocol.specs.declared.reply_batch.BatchEntry.{BatchEntry}
use Rattle.journal_protocol.specs.Protocols.{Service, Replacing, IsPaid, IsNoWaitReply, IsLawful, IsRefusable}
use Rattle.journal_protocol.specs.Output.{IsReplyBy, AllReplies, Talk, talk, IsTold}
use Rattle.journal_protocol.specs.ReplyBatches.{wait_of, held_of, Doing, doing, IsHeld, total, AreFree, IsCovered, AreCovered, SettlesOne, Settles}
use Rattle.journal_protocol.proofs.Answering.{all_so}
use Rattle.journal_protocol.proofs.Staying.{all_grow}

-- ---- lists

-- two ways to cut a list at one place
pub same_cut : {A : Type 0} (a b c d : List A) → a ++ b ≡ c ++ d → length a ≡ length c → (a ≡ c) × (b ≡ d)
same_cut a b c d is long =
    let front : a ≡ c = sym (take-append_seam a b) ∙ ap (take (length a)) is ∙ ap (λ (n : ℕ). take n (c ++ d)) long ∙ take-append_seam c d in
    (front, append_cancel_left a b d (is ∙ ap (λ (x : List _). x ++ d) (sym front)))

pub none_of_none : {A : Type 0} (l : List A) → 0 ≡ length l → l ≡ []
none_of_none [] e = refl
none_of_none (x ∷ xs) e = absurd (omega (arith, e))

-- ---- sessions

OnlyExtends-trans : (a b c : SessionState) → OnlyExtends a b → OnlyExtends b c → OnlyExtends a c
OnlyExtends-trans a b c first second = record { number = second.number ∙ first.number; mine = second.mine ∙ first.mine; seen = IsPrefix-trans a.seen b.seen c.seen first.seen second.seen }

-- ---- replies, one after another

module _ {C : Type 0} (s : Service C) (tells : Time → Type 0) (laws : IsLawful s) where
  -- marks only grow
  pub replies_stay : (history longer : List Entry) (rs : List (List ℕ)) (old new : Talk) (text : List ℕ) → floor history ≤ floor longer
      → AllReplies s.reads (IsTold s tells history) rs old new text → AllReplies s.reads (IsTold s tells longer) rs old new text
  replies_stay history longer rs old new text grows h = all_so s.reads (IsTold s tells history) (IsTold s tells longer) (λ (t : Talk). t) one rs old new text h
    where
      one : (call : C) (before after : Talk) (reply : List ℕ) → IsTold s tells history call before after reply → IsTold s tells longer call before after reply
      one call before after reply k =
          let r = k.reply in
          record {
            goes = k.goes;
            reply = record { moment = r.moment; told = r.told; done = r.done; answers = laws.stays r.moment call before.session r.done history longer reply r.answers grows; later = r.later };
            ends = k.ends;
          }

  -- what was answered was done
  pub replies_done : (history : List Entry) (rs : List (List ℕ)) (old new : Talk) (text : List ℕ) → AllReplies s.reads (IsTold s tells history) rs old new text → AllReplies s.reads (IsReplyBy s.does tells history) rs old.session new.session text
  replies_done history rs old new text h = all_so s.reads (IsTold s tells history) (IsReplyBy s.does tells history) (λ (t : Talk). t.session) one rs old new text h
    where
      one : (call : C) (before after : Talk) (reply : List ℕ) → IsTold s tells history call before after reply → IsReplyBy s.does tells history call before.session after.session reply
      one call before after reply k =
          let r = k.reply in
          record { moment = r.moment; told = r.told; done = r.done; answers = laws.done history r.moment call before.session r.done reply r.answers; later = r.later }

  -- the marks grow along them
  pub told_grow : (history : List Entry) (rs : List (List ℕ)) (old new : Talk) (text : List ℕ) → AllReplies s.reads (IsTold s tells history) rs old new text → floor old.session.seen ≤ floor new.session.seen
  told_grow history rs old new text h = all_grow s tells laws history rs old.session new.session text (replies_done history rs old new text h)

  -- the session has seen more after the last
  pub replies_later : (history : List Entry) (rs : List (List ℕ)) (old : Talk) (middle new : SessionState) (over : Bool) (text : List ℕ) → OnlyExtends middle new → (rs ≡ [] → new ≡ middle)
      → AllReplies s.reads (IsTold s tells history) rs old (talk middle over) text → AllReplies s.reads (IsTold s tells history) rs old (talk new over) text
  replies_later history [] old middle new over text more none h = (ap (λ (x : SessionState). talk x over) (none refl) ∙ h.0, h.1)
  replies_later history (r ∷ []) old middle new over text more none h =
      let k = h.2 in
      let last = k.3 in
      let reply = last.reply in
      let reach : OnlyExtends reply.done new = OnlyExtends-trans reply.done k.0.session new reply.later (subst (λ (t : Talk). OnlyExtends t.session new) k.4.0 more) in
      let told : IsTold s tells history h.0 old (talk new over) k.1 = record {
        goes = last.goes;
        reply = record { moment = reply.moment; told = reply.told; done = reply.done; answers = reply.answers; later = reach };
        ends = λ e. last.ends (subst (λ (t : Talk). IsTrue t.over) k.4.0 e);
      } in
      (h.0, h.1, (talk new over, k.1, k.2, told, (refl, k.4.1), k.5))
  replies_later history (r ∷ q ∷ rs) old middle new over text more none h =
      let k = h.2 in
      (h.0, h.1, (k.0, k.1, k.2, k.3, replies_later history (q ∷ rs) k.0 middle new over k.2 more (λ e. absurd cc) k.4, k.5))

-- ---- replies that are held

module _ {C A R : Type 0} (s : Service C) (replaces : Replacing A) (commits : R → ℕ) (tells : Time → Type 0) where
  abbrev pub with_behind : Doing A → BatchEntry A → Doing A
  with_behind d e = doing d.talk (d.behind ++ e ∷ [])

  -- what is known of one more stands behind
  pub one_behind : (e : BatchEntry A) (rs : List (List ℕ)) (old new : Doing A) (bytes : List ℕ) → AllReplies s.reads (IsHeld s replaces commits tells) rs old new bytes → AllReplies s.reads (IsHeld s replaces commits tells) rs (with_behind old e) (with_behind new e) bytes
  one_behind e rs old new bytes h = all_so s.reads (IsHeld s replaces commits tells) (IsHeld s replaces commits tells) (λ (d : Doing A). with_behind d e) one rs old new bytes h
    where
      one : (call : C) (before after : Doing A) (reply : List ℕ) → IsHeld s replaces commits tells call before after reply → IsHeld s replaces commits tells call (with_behind before e) (with_behind after e) reply
      one call before after reply k = record { goes = k.goes; soon = k.soon; done = k.done; ends = k.ends; known = ap (λ (b : List (BatchEntry A)). b ++ e ∷ []) k.known }

  -- a reply that is told
  reply_told : (history : List Entry) (call : C) (old new : SessionState) (soon : HeldReply A R) (bytes text : List ℕ) → IsNoWaitReply s replaces commits tells call old new soon bytes
      → SettlesOne replaces history (wait_of commits soon.wait) bytes text → IsReplyBy s.answers tells history call old new text
  reply_told history call old new soon bytes text h settles =
      record { moment = h.moment; told = h.told; done = new; answers = of soon.wait refl settles; later = record { number = refl; mine = refl; seen = ([], append-nil new.seen) } }
    where
      same : IsPaid commits (floor history) soon.wait → text ≡ bytes → s.answers history h.moment call old new text
      same paid is = subst (s.answers history h.moment call old new) (sym is) (h.held.paid history paid)

      waited : (w : HeldWait A R) → soon.wait ≡ Some w → ((commits w.receipt ≤ floor history) × (text ≡ bytes)) ⊎ replaces w.call text → s.answers history h.moment call old new text
      waited w e (inl s) = same (subst (IsPaid commits (floor history)) (sym e) s.0) s.1
      waited w e (inr place) =
          subst (λ (o : Option (HeldWait A R)). IfSome o (λ (v : HeldWait A R). (marks : List Entry) (other : List ℕ) → replaces v.call other → s.answers marks h.moment call old new other)) e h.held.replaced history text place

      of : (o : Option (HeldWait A R)) → soon.wait ≡ o → SettlesOne replaces history (wait_of commits o) bytes text → s.answers history h.moment call old new text
      of None e s = same (subst (IsPaid commits (floor history)) (sym e) tt) s
      of (Some w) e s = waited w e s

  -- and one that ends the connection is told as it is held
  talk_told : (history : List Entry) (call : C) (old new : Doing A) (bytes text : List ℕ) (k : IsHeld s replaces commits tells call old new bytes)
      → SettlesOne replaces history (wait_of commits k.soon.wait) bytes text → IsTold s tells history call old.talk new.talk text
  talk_told history call old new bytes text k settles = record {
    goes = k.goes;
    reply = reply_told history call old.talk.session new.talk.session k.soon bytes text k.done settles;
    ends = λ over.
        let free = k.done.held.ends (subst IsTrue k.ends over) in
        let same : text ≡ bytes = subst (λ (o : Option (HeldWait A R)). SettlesOne replaces history (wait_of commits o) bytes text) free.0 settles in
        subst s.stops (sym same) free.1;
  }

  -- the replies that are told
  pub replies_told : (history : List Entry) (rs : List (List ℕ)) (old new : Doing A) (bytes text : List ℕ) → AllReplies s.reads (IsHeld s replaces commits tells) rs old new bytes → new.behind ≡ []
      → Settles replaces history old.behind bytes text → AllReplies s.reads (IsTold s tells history) rs old.talk new.talk text
  replies_told history [] old new bytes text h none settles =
      let empty : old.behind ≡ [] = ap (λ (d : Doing A). d.behind) (sym h.0) ∙ none in
      let nothing : Settles replaces history [] bytes text = subst (λ (hs : List (BatchEntry A)). Settles replaces history hs bytes text) empty settles in
      (ap (λ (d : Doing A). d.talk) h.0, nothing.1)
  replies_told history (r ∷ rs) old new bytes text h none settles =
      let k = h.2 in
      let held = k.3 in
      let t : Settles replaces history (held_of commits held.soon k.1 ∷ k.0.behind) bytes text = subst (λ (hs : List (BatchEntry A)). Settles replaces history hs bytes text) held.known settles in
      let cut = same_cut t.0 t.1 k.1 k.2 (sym t.4 ∙ k.5) t.5 in
      let one : SettlesOne replaces history (wait_of commits held.soon.wait) k.1 t.2 = subst (λ (u : List ℕ). SettlesOne replaces history (wait_of commits held.soon.wait) u t.2) cut.0 t.6 in
      let rest : Settles replaces history k.0.behind k.2 t.3 = subst (λ (u : List ℕ). Settles replaces history k.0.behind u t.3) cut.1 t.7 in
      (h.0, h.1, (k.0.talk, t.2, t.3, talk_told history h.0 old k.0 k.1 t.2 held one, replies_told history rs k.0 new k.2 t.3 k.4 none rest, t.8))

-- ---- what is told of replies that are held

module _ {A : Type 0} (replaces : Replacing A) (history : List Entry) where
  -- a way to tell one more
  settles_more : (h : BatchEntry A) (hs : List (BatchEntry A)) (bytes : List ℕ) → total (h ∷ hs) ≡ length bytes → (length (take h.length bytes) ≡ h.length) × (total hs ≡ length (drop h.length bytes))
  settles_more h hs bytes fits =
      let front = length-take-le h.length bytes (omega (arith, fits)) in
      let all : length (take h.length bytes) + length (drop h.length bytes) ≡ length bytes = sym (length-append (take h.length bytes) (drop h.length bytes)) ∙ ap length (take-append-drop h.length bytes) in
      (front, omega (arith, front, all, fits))

  -- where each is covered by a mark, they are told as they are held
  pub settles_same : (hs : List (BatchEntry A)) (bytes : List ℕ) → AreCovered (floor history) hs → total hs ≡ length bytes → Settles replaces history hs bytes bytes
  settles_same [] bytes covered fits = let none = none_of_none bytes fits in (none, none)
  settles_same (h ∷ hs) bytes covered fits =
      let more = settles_more h hs bytes fits in
      let reply = take h.length bytes in
      let rest = drop h.length bytes in
      let whole = sym (take-append-drop h.length bytes) in
      (reply, rest, reply, rest, whole, more.0, one h.wait reply covered.0, settles_same hs rest covered.1 more.1, whole)
    where
      one : (wait : Option (BatchWait A)) (reply : List ℕ) → IsCovered (floor history) wait → SettlesOne replaces history wait reply reply
      one None reply c = refl
      one (Some wait) reply c = inl (c, refl)

  -- something can be told of replies for which nobody waited
  pub settles_somehow : IsRefusable replaces → (hs : List (BatchEntry A)) (bytes : List ℕ) → total hs ≡ length bytes → (text : List ℕ) × Settles replaces history hs bytes text
  settles_somehow refusable [] bytes fits = ([], (none_of_none bytes fits, refl))
  settles_somehow refusable (h ∷ hs) bytes fits =
      let more = settles_more h hs bytes fits in
      let reply = take h.length bytes in
      let rest = drop h.length bytes in
      let others = settles_somehow refusable hs rest more.1 in
      let first = one h.wait reply in
      (first.0 ++ others.0, (reply, rest, first.0, others.0, sym (take-append-drop h.length bytes), more.0, first.1, others.1, refl))
    where
      one : (wait : Option (BatchWait A)) (reply : List ℕ) → (text : List ℕ) × SettlesOne replaces history wait reply text
      one None reply = (reply, refl)
      one (Some wait) reply =
          let place = refusable wait.call in
          (place.0, inr place.1)

  -- Replies that are owed nothing are told as they are held
  pub front_kept : (front others : List (BatchEntry A)) (bytes text : List ℕ) → AreFree front → Settles replaces history (front ++ others) bytes text
      → (kept : List ℕ) × (more : List ℕ) × (rest : List ℕ) × (bytes ≡ kept ++ more) × (text ≡ kept ++ rest) × (length kept ≡ total front)
  front_kept [] others bytes text free s = ([], bytes, text, refl, refl, refl)
  front_kept (h ∷ front) others bytes text free s =
      let same : s.2 ≡ s.0 = subst (λ (o : Option (BatchWait A)). SettlesOne replaces history o s.0 s.2) free.0 s.6 in
      let k = front_kept front others s.1 s.3 free.1 s.7 in (
        s.0 ++ k.0,
        k.1,
        k.2,
        s.4 ∙ ap (λ (t : List ℕ). s.0 ++ t) k.3 ∙ sym (append_assoc s.0 k.0 k.1),
        s.8 ∙ ap (λ (t : List ℕ). t ++ s.3) same ∙ ap (λ (t : List ℕ). s.0 ++ t) k.4 ∙ sym (append_assoc s.0 k.0 k.2),
        length-append s.0 k.0 ∙ ap (λ (n : ℕ). n + length k.0) s.5 ∙ ap (λ (n : ℕ). h.length + n) k.5,
      )

pub total-append : {A : Type 0} (a b : List (BatchEntry A)) → total (a ++ b) ≡ total a + total b
total-append [] b = omega arith
total-append (h ∷ a) b = let s = total-append a b in omega (arith, s)

pub covered-append : {A : Type 0} (n : ℕ) (a b : List (BatchEntry A)) → AreCovered n a → AreCovered n b → AreCovered n (a ++ b)
covered-append n [] b p q = q
covered-append n (h ∷ a) b p q = (p.0, covered-append n a b p.1 q)

pub free_covered : {A : Type 0} (n : ℕ) (a : List (BatchEntry A)) → AreFree a → AreCovered n a
free_covered n [] free = tt
free_covered n (h ∷ a) free = (subst (IsCovered n) (sym free.0) tt, free_covered n a free.1)

pub covered_more : {A : Type 0} (n m : ℕ) (a : List (BatchEntry A)) → n ≤ m → AreCovered n a → AreCovered m a
covered_more n m [] low c = tt
covered_more {A = A} n m (h ∷ a) low c = (one h.wait c.0, covered_more n m a low c.1)
  where
    one : (o : Option (BatchWait A)) → IsCovered n o → IsCovered m o
    one None c = tt
    one (Some wait) c = omega (arith, low, c)

pub free-append : {A : Type 0} (a b : List (BatchEntry A)) → AreFree a → AreFree b → AreFree (a ++ b)
free-append [] b p q = q
free-append (h ∷ a) b p q = (p.0, free-append a b p.1 q)

-- marks only grow
pub settles_one_stays : {A : Type 0} (replaces : Replacing A) (history longer : List Entry) (wait : Option (BatchWait A)) (reply text : List ℕ) → floor history ≤ floor longer → SettlesOne replaces history wait reply text → SettlesOne replaces longer wait reply text
settles_one_stays replaces history longer None reply text grows s = s
settles_one_stays replaces history longer (Some wait) reply text grows (inl s) = inl (omega (arith, grows, s.0), s.1)
settles_one_stays replaces history longer (Some wait) reply text grows (inr place) = inr place

-- ---- one reply that is told

-- it is told as it is held
pub told_same : {T E A : Type 0} (replaces : Replacing A) (r : Result T E) (history : List Entry) (wait : Option (BatchWait A)) (o : BatchWait A) (reply old new : List ℕ) → wait ≡ Some o → o.commits ≤ floor history → OnOk r (new ≡ old ++ reply)
    → OnOk r ((text : List ℕ) × SettlesOne replaces history wait reply text × (new ≡ old ++ text))
told_same {A = A} replaces (Ok x) history wait o reply old new e low is = (reply, subst (λ (q : Option (BatchWait A)). SettlesOne replaces history q reply reply) (sym e) (inl (low, refl)), is)
told_same replaces (Err x) history wait o reply old new e low is = tt

-- its refusal is told
pub told_refusal : {T E A : Type 0} (replaces : Replacing A) (r : Result T E) (history : List Entry) (wait : Option (BatchWait A)) (o : BatchWait A) (reply old new : List ℕ) → wait ≡ Some o
    → OnOk r ((text : List ℕ) × replaces o.call text × (new ≡ old ++ text)) → OnOk r ((told : List ℕ) × SettlesOne replaces history wait reply told × (new ≡ old ++ told))
told_refusal {A = A} replaces (Ok x) history wait o reply old new e place =
    (place.0, subst (λ (q : Option (BatchWait A)). SettlesOne replaces history q reply place.0) (sym e) (inr place.1), place.2)
told_refusal replaces (Err x) history wait o reply old new e place = tt

-- ---- the replies that are told, one after another

-- What is told so far: whatever is told of the others goes on from there
abbrev pub ToldSoFar : {A : Type 0} → Replacing A → List (BatchEntry A) → List ℕ → SessionState → List (BatchEntry A) → List ℕ → List ℕ → Type 0
ToldSoFar replaces all bytes seen rest more told =
    (history : List Entry) (text : List ℕ) → floor seen.seen ≤ floor history → Settles replaces history rest more text → Settles replaces history all bytes (told ++ text)

pub told_one : {A : Type 0} (replaces : Replacing A) (all : List (BatchEntry A)) (bytes : List ℕ) (before after : SessionState) (h : BatchEntry A) (hs : List (BatchEntry A)) (reply rest told text : List ℕ) → length reply ≡ h.length → floor before.seen ≤ floor after.seen
    → SettlesOne replaces after.seen h.wait reply text → ToldSoFar replaces all bytes before (h ∷ hs) (reply ++ rest) told → ToldSoFar replaces all bytes after hs rest (told ++ text)
told_one replaces all bytes before after h hs reply rest told text long grows one so history more low s =
    subst (Settles replaces history all bytes) (sym (append_assoc told text more))
    (so history (text ++ more) (omega (arith, grows, low)) (reply, rest, text, more, refl, long, settles_one_stays replaces after.seen history h.wait reply text low one, s, refl))

pub tells_one : {A : Type 0} (replaces : Replacing A) (all : List (BatchEntry A)) (bytes : List ℕ) (start before after : SessionState) (h : BatchEntry A) (left hs : List (BatchEntry A)) (waiting reply rest told now : List ℕ) → left ≡ h ∷ hs
    → reply ≡ take h.length waiting → rest ≡ drop h.length waiting → OnlyExtends before after
    → ((text : List ℕ) × SettlesOne replaces after.seen h.wait reply text × (now ≡ told ++ text))
    → (total left ≡ length waiting) × OnlyExtends start before × ToldSoFar replaces all bytes before left waiting told
    → (total hs ≡ length rest) × OnlyExtends start after × ToldSoFar replaces all bytes after hs rest now
tells_one {A = A} replaces all bytes start before after h left hs waiting reply rest told now is front back more one so =
    let grows : floor before.seen ≤ floor after.seen = subst (λ (e : List Entry). floor before.seen ≤ floor e) more.seen.1 (floor-append-le before.seen more.seen.0) in
    let fits : total (h ∷ hs) ≡ length waiting = sym (ap total is) ∙ so.0 in
    let cut = settles_more replaces [] h hs waiting fits in
    let whole : waiting ≡ reply ++ rest = sym (take-append-drop h.length waiting) ∙ ap (λ (t : List ℕ). t ++ drop h.length waiting) (sym front) ∙ ap (λ (t : List ℕ). reply ++ t) (sym back) in
    let first : ToldSoFar replaces all bytes before (h ∷ hs) waiting told = subst (λ (rs : List (BatchEntry A)). ToldSoFar replaces all bytes before rs waiting told) is so.2 in
    let goes : ToldSoFar replaces all bytes before (h ∷ hs) (reply ++ rest) told = subst (λ (b : List ℕ). ToldSoFar replaces all bytes before (h ∷ hs) b told) whole first in (
      cut.1 ∙ ap length (sym back),
      OnlyExtends-trans start before after so.1 more,
      subst (ToldSoFar replaces all bytes after hs rest) (sym one.2) (told_one replaces all bytes before after h hs reply rest told one.0 (ap length front ∙ cut.0) grows one.1 goes),
    )

pub told_all : {A : Type 0} (replaces : Replacing A) (all : List (BatchEntry A)) (bytes : List ℕ) (seen : SessionState) (left : List (BatchEntry A)) (waiting told : List ℕ) → left ≡ [] → total left ≡ length waiting
    → ToldSoFar replaces all bytes seen left waiting told → Settles replaces seen.seen all bytes told
told_all {A = A} replaces all bytes seen left waiting told none fits so =
    let empty : waiting ≡ [] = none_of_none waiting (sym (ap total none) ∙ fits) in
    let nothing : Settles replaces seen.seen left waiting [] = subst (λ (rs : List (BatchEntry A)). Settles replaces seen.seen rs waiting []) (sym none) (empty, refl) in
    subst (Settles replaces seen.seen all bytes) (append-nil told) (so seen.seen [] (omega arith) nothing)
