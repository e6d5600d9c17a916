-- Replies that are held, in order, and sent.
use Rattle.std.proofs.Common.{◌≡◌, ◌≢◌, Bool, true, false, ℕ, ◌+◌, ◌≤◌, List, [], ◌∷◌, ◌++◌, Option, Some, None, length, take, drop, refl, sym, ap, subst, ◌∙◌, append_assoc, arith, length-append}
use Rattle.std.specs.Prelude.{is_some, not, IfSome}
use Rattle.std.proofs.lemmas.Bool.{false≢true}
use Rattle.std.proofs.lemmas.List.{append-nil}
use Rattle.std.proofs.Math.Seq.{take-append_seam, drop-append_seam}
use Rattle.std.specs.Io.KnownBytes.{Appends}
use Rattle.std.proofs.KnownBytes.{Appends-nil, Appends-trans}
use Rattle.journal_world.specs.Histories.{Entry, floor}
use Rattle.journal_history.specs.Tokens.{SessionState}
use Rattle.journal_inode.specs.declared.node.Time.{Time}
use Rattle.journal_protocol.specs.declared.held_reply.HeldReply.{HeldReply}
use Rattle.journal_protocol.specs.declared.reply_batch.BatchEntry.{BatchEntry}
use Rattle.journal_protocol.specs.declared.reply_batch.ReplyBatch.{ReplyBatch}
use Rattle.journal_protocol.specs.Protocols.{Service, Replacing, IsRefusable, IsNoWaitReply, IsAnswered}
use Rattle.journal_protocol.specs.Output.{AllReplies, Talk, talk, going, IsTold}
use Rattle.journal_protocol.specs.ReplyBatches.{doing, IsHeld, IsInOrder, total, AreFree, IsCovered, AreCovered, AreWaitedFor, held_of, Settles, SendsSettled, SendsInPart, SendsBehind, SendsBehindInPart}
use Rattle.journal_protocol.specs.Sending.{AppendsFront}
use Rattle.journal_protocol.proofs.Answering.{one_more}
use Rattle.journal_protocol.proofs.Settling.{one_behind, replies_told, settles_same, settles_somehow, front_kept, total-append, covered-append, free_covered, covered_more, free-append}

-- ---- what is held, in order

pub order_fits : {A R : Type 0} (commits : R → ℕ) (h : ReplyBatch A R) → IsInOrder commits h → h.free ≤ length h.bytes
order_fits commits h o =
    let all : total h.replies.items ≡ total o.front + total o.others = ap total o.is ∙ total-append o.front o.others in
    omega (arith, all, o.fits, o.free)

-- the same replies, in other room
pub order_same : {A R : Type 0} (commits : R → ℕ) (a b : ReplyBatch A R) → b.replies.items ≡ a.replies.items → b.bytes ≡ a.bytes → b.free ≡ a.free → b.latest ≡ a.latest → IsInOrder commits a → IsInOrder commits b
order_same {A = A} {R = R} commits a b replies bytes free latest o = record {
  front = o.front;
  others = o.others;
  is = replies ∙ o.is;
  fits = ap total replies ∙ o.fits ∙ sym (ap length bytes);
  is_free = o.is_free;
  free = free ∙ o.free;
  waited = subst (λ (l : Option R). AreWaitedFor commits l o.others) (sym latest) o.waited;
}

snoc_some : {A : Type 0} (a : List (BatchEntry A)) (e : BatchEntry A) → a ++ e ∷ [] ≢ []
snoc_some [] e = λ is. absurd cc
snoc_some (h ∷ a) e = λ is. absurd cc

-- One more is held
module _ {A R : Type 0} (commits : R → ℕ) (old new : ReplyBatch A R) (e : BatchEntry A) (reply : List ℕ) (o : IsInOrder commits old) (replies : new.replies.items ≡ old.replies.items ++ e ∷ []) (bytes : new.bytes ≡ old.bytes ++ reply) (long : e.length ≡ length reply) where
  fits_more : total new.replies.items ≡ length new.bytes
  fits_more =
      let one : total (e ∷ []) ≡ length reply = omega (arith, long) in
      omega (arith, ap total replies, total-append old.replies.items (e ∷ []), one, o.fits, ap length bytes, length-append old.bytes reply)

  -- it is owed nothing, and neither is any before it
  pub order_free : old.latest ≡ None → new.latest ≡ None → e.wait ≡ None → new.free ≡ length new.bytes → IsInOrder commits new
  order_free none still wait free =
      let empty : o.others ≡ [] = subst (λ (l : Option R). AreWaitedFor commits l o.others) none o.waited in
      let all : AreFree old.replies.items = subst AreFree (sym (o.is ∙ ap (λ (b : List (BatchEntry A)). o.front ++ b) empty ∙ append-nil o.front)) o.is_free in
      record {
        front = old.replies.items ++ e ∷ [];
        others = [];
        is = replies ∙ sym (append-nil (old.replies.items ++ e ∷ []));
        fits = fits_more;
        is_free = free-append old.replies.items (e ∷ []) all (wait, tt);
        free = free ∙ sym fits_more ∙ ap total replies;
        waited = subst (λ (l : Option R). AreWaitedFor {A = A} commits l []) (sym still) refl;
      }

  -- the receipt that is waited for covers it, and those before it
  pub order_waits : (receipt : R) → new.latest ≡ Some receipt → new.free ≡ old.free → IsCovered (commits receipt) e.wait → ((l : R) → old.latest ≡ Some l → commits l ≤ commits receipt) → IsInOrder commits new
  order_waits receipt waits free covered later = record {
    front = o.front;
    others = o.others ++ e ∷ [];
    is = replies ∙ ap (λ (b : List (BatchEntry A)). b ++ e ∷ []) o.is ∙ append_assoc o.front o.others (e ∷ []);
    fits = fits_more;
    is_free = o.is_free;
    free = free ∙ o.free;
    waited = subst (λ (l : Option R). AreWaitedFor commits l (o.others ++ e ∷ [])) (sym waits) (snoc_some o.others e, covered-append (commits receipt) o.others (e ∷ []) (before old.latest refl o.waited) (covered, tt));
  }
    where
      before : (l : Option R) → old.latest ≡ l → AreWaitedFor commits l o.others → AreCovered (commits receipt) o.others
      before None is w = subst (AreCovered (commits receipt)) (sym w) tt
      before (Some l) is w = covered_more (commits l) (commits receipt) o.others (later l is) w.1

-- ---- what is waited for

pub none_latest : {R : Type 0} (l : Option R) (none : Bool) → is_some l ≡ not none → none ≡ true → l ≡ None
none_latest None none is so = refl
none_latest (Some r) none is so = absurd (false≢true (sym (is ∙ ap not so)))

pub some_latest : {R : Type 0} (l : Option R) (none : Bool) → is_some l ≡ not none → none ≡ false → (r : R) × (l ≡ Some r)
some_latest None none is so = absurd (false≢true (is ∙ ap not so))
some_latest (Some r) none is so = (r, refl)

pub same_latest : {R : Type 0} (commits : R → ℕ) (l : Option R) (a b : R) → l ≡ Some a → l ≡ Some b → commits b ≤ commits a
same_latest commits l a b one two =
    let same : b ≡ a = cc in
    let counts : commits b ≡ commits a = ap commits same in
    omega (arith, counts)

pub latest_below : {R : Type 0} (commits : R → ℕ) (taken l : Option R) (n : ℕ) → taken ≡ l → IfSome taken (λ r. commits r ≤ n) → (r : R) → l ≡ Some r → commits r ≤ n
latest_below commits taken l n is below r some = subst (λ (o : Option _). IfSome o (λ r. commits r ≤ n)) (is ∙ some) below

-- ---- what is sent of it

module _ {A R : Type 0} (replaces : Replacing A) (commits : R → ℕ) (refusable : IsRefusable replaces) (history : List Entry) (h : ReplyBatch A R) (o : IsInOrder commits h) where
  -- each reply is covered by a mark
  pub covered_so : (receipt : R) → h.latest ≡ Some receipt → commits receipt ≤ floor history → Settles replaces history h.replies.items h.bytes h.bytes
  covered_so receipt waits low =
      let others : AreCovered (commits receipt) o.others = (subst (λ (l : Option R). AreWaitedFor commits l o.others) waits o.waited).1 in
      let all = covered-append (floor history) o.front o.others (free_covered (floor history) o.front o.is_free) (covered_more (commits receipt) (floor history) o.others low others) in
      settles_same replaces history h.replies.items h.bytes (subst (AreCovered (floor history)) (sym o.is) all) o.fits

  -- nothing is owed for any
  pub free_so : h.latest ≡ None → Settles replaces history h.replies.items h.bytes h.bytes × (take h.free h.bytes ≡ h.bytes)
  free_so none =
      let empty : o.others ≡ [] = subst (λ (l : Option R). AreWaitedFor commits l o.others) none o.waited in
      let front : h.replies.items ≡ o.front = o.is ∙ ap (λ (b : List (BatchEntry A)). o.front ++ b) empty ∙ append-nil o.front in
      let whole : h.free ≡ length h.bytes = o.free ∙ sym (ap total front) ∙ o.fits in
      (settles_same replaces history h.replies.items h.bytes (subst (AreCovered (floor history)) (sym front) (free_covered (floor history) o.front o.is_free)) o.fits, ap (λ (n : ℕ). take n h.bytes) whole ∙ take_length h.bytes)
    where
      take_length : (bs : List ℕ) → take (length bs) bs ≡ bs
      take_length bs = ap (take (length bs)) (sym (append-nil bs)) ∙ take-append_seam bs []

  -- the bytes of the first are the first of what is told
  module _ (text : List ℕ) (settles : Settles replaces history h.replies.items h.bytes text) where
    kept : (front : List ℕ) × (more : List ℕ) × (rest : List ℕ) × (h.bytes ≡ front ++ more) × (text ≡ front ++ rest) × (length front ≡ total o.front)
    kept = front_kept replaces history o.front o.others h.bytes text o.is_free (subst (λ (hs : List (BatchEntry A)). Settles replaces history hs h.bytes text) o.is settles)

    long : length kept.0 ≡ h.free
    long = kept.5 ∙ sym o.free

    first : take h.free h.bytes ≡ kept.0
    first = ap (λ (n : ℕ). take n h.bytes) (sym long) ∙ ap (take (length kept.0)) kept.3 ∙ take-append_seam kept.0 kept.1

    others : drop h.free text ≡ kept.2
    others = ap (λ (n : ℕ). drop n text) (sym long) ∙ ap (drop (length kept.0)) kept.4 ∙ drop-append_seam kept.0 kept.2

    pub whole_is : text ≡ take h.free h.bytes ++ drop h.free text
    whole_is = kept.4 ∙ ap (λ (t : List ℕ). t ++ kept.2) (sym first) ∙ ap (λ (t : List ℕ). take h.free h.bytes ++ t) (sym others)

    pub free_fits : h.free ≤ length text
    free_fits = let l = length-append kept.0 kept.2 in let e = ap length kept.4 in omega (arith, l, e, long)

    pub sends_whole : (a b c : Option (List ℕ)) → Appends a b (take h.free h.bytes) → Appends b c (drop h.free text) → SendsSettled replaces history h a c
    sends_whole a b c one two = record { text = text; settles = settles; sent = subst (Appends a c) (sym whole_is) (Appends-trans a b c (take h.free h.bytes) (drop h.free text) one two) }

    pub sends_front : (a b c : Option (List ℕ)) → Appends a b (take h.free h.bytes) → AppendsFront b c (drop h.free text) → SendsInPart replaces history h a c
    sends_front a b c one two = record {
      text = text;
      settles = settles;
      sent = record {
        front = take h.free h.bytes ++ two.front;
        rest = two.rest;
        is = whole_is ∙ ap (λ (t : List ℕ). take h.free h.bytes ++ t) two.is ∙ sym (append_assoc (take h.free h.bytes) two.front two.rest);
        appends = Appends-trans a b c (take h.free h.bytes) two.front one two.appends;
      };
    }

    pub sends_less : (a b : Option (List ℕ)) → AppendsFront a b (take h.free h.bytes) → SendsInPart replaces history h a b
    sends_less a b part = record {
      text = text;
      settles = settles;
      sent = record {
        front = part.front;
        rest = part.rest ++ drop h.free text;
        is = whole_is ∙ ap (λ (t : List ℕ). t ++ drop h.free text) part.is ∙ append_assoc part.front part.rest (drop h.free text);
        appends = part.appends;
      };
    }

  -- the first were not all written
  pub breaks_first : (a b : Option (List ℕ)) → AppendsFront a b (take h.free h.bytes) → SendsInPart replaces history h a b
  breaks_first a b part = let s = settles_somehow replaces history refusable h.replies.items h.bytes o.fits in sends_less s.0 s.1 a b part

  -- all were written
  pub sends_free : (a b : Option (List ℕ)) → h.latest ≡ None → Appends a b (take h.free h.bytes) → SendsSettled replaces history h a b
  sends_free a b none whole = let f = free_so none in record { text = h.bytes; settles = f.0; sent = subst (Appends a b) f.1 whole }

-- ---- in two pieces, the first of which goes out before the wait

module _ {A R : Type 0} (replaces : Replacing A) (commits : R → ℕ) (refusable : IsRefusable replaces) (h : ReplyBatch A R) (o : IsInOrder commits h) (front : List ℕ) (is : front ≡ take h.free h.bytes) where
  -- the first were not all written
  pub breaks_before : (history : List Entry) (a b : Option (List ℕ)) → AppendsFront a b front → SendsInPart replaces history h a b
  breaks_before history a b part = breaks_first replaces commits refusable history h o a b (record { front = part.front; rest = part.rest; is = sym is ∙ part.is; appends = part.appends })

  -- nothing is waited for
  pub sends_unwaited : (history : List Entry) (a b : Option (List ℕ)) → h.latest ≡ None → Appends a b front → SendsSettled replaces history h a b
  sends_unwaited history a b none whole = sends_free replaces commits refusable history h o a b none (subst (Appends a b) is whole)

  module _ (history : List Entry) (a b c : Option (List ℕ)) (one : Appends a b front) where
    first_sent : Appends a b (take h.free h.bytes)
    first_sent = subst (Appends a b) is one

    -- the wait ended with a mark: all are told as they are held
    module _ (receipt : R) (waits : h.latest ≡ Some receipt) (low : commits receipt ≤ floor history) (back : List ℕ) (behind : back ≡ drop h.free h.bytes) where
      pub waited_whole : Appends b c back → SendsSettled replaces history h a c
      waited_whole two = sends_whole replaces commits refusable history h o h.bytes (covered_so replaces commits refusable history h o receipt waits low) a b c first_sent (subst (Appends b c) behind two)

      pub waited_part : AppendsFront b c back → SendsInPart replaces history h a c
      waited_part two =
          sends_front replaces commits refusable history h o h.bytes (covered_so replaces commits refusable history h o receipt waits low) a b c first_sent
          (record { front = two.front; rest = two.rest; is = sym behind ∙ two.is; appends = two.appends })

    -- the wait was refused
    pub refused_whole : SendsBehind replaces history h b c → SendsSettled replaces history h a c
    refused_whole two = sends_whole replaces commits refusable history h o two.text two.settles a b c first_sent two.sent

    pub refused_part : SendsBehindInPart replaces history h b c → SendsInPart replaces history h a c
    refused_part two = sends_front replaces commits refusable history h o two.text two.settles a b c first_sent two.sent

-- memory was refused for what is told
pub sends_none_behind : {A R : Type 0} (replaces : Replacing A) (commits : R → ℕ) (refusable : IsRefusable replaces) (history : List Entry) (h : ReplyBatch A R) (b : Option (List ℕ)) → IsInOrder commits h → SendsBehindInPart replaces history h b b
sends_none_behind replaces commits refusable history h b o =
    let s = settles_somehow replaces history refusable h.replies.items h.bytes o.fits in
    record { text = s.0; settles = s.1; sent = record { front = []; rest = drop h.free s.0; is = refl; appends = Appends-nil b } }

-- ---- calls that are done, and held

module _ {C A R : Type 0} (s : Service C) (replaces : Replacing A) (commits : R → ℕ) (tells : Time → Type 0) (rs : List (List ℕ)) (start : SessionState) (hs : List (BatchEntry A)) (text : List ℕ) where
  -- one more
  pub holds_one : (middle now : SessionState) → AllReplies s.reads (IsHeld s replaces commits tells) rs (doing (going start) hs) (doing (going middle) []) text
      → (r : List ℕ) (call : C) (soon : HeldReply A R) (reply : List ℕ) (over : Bool) (all : List (BatchEntry A)) (whole : List ℕ) → s.reads r ≡ Some call → IsNoWaitReply s replaces commits tells call middle now soon reply → over ≡ soon.ends
      → all ≡ hs ++ held_of commits soon reply ∷ [] → whole ≡ text ++ reply
      → AllReplies s.reads (IsHeld s replaces commits tells) (rs ++ r ∷ []) (doing (going start) all) (doing (talk now over) []) whole
  holds_one middle now h r call soon reply over all whole is done ends e written =
      let known = held_of commits soon reply in
      let held : IsHeld s replaces commits tells call (doing (going middle) (known ∷ [])) (doing (talk now over) []) reply = record { goes = refl; soon = soon; done = done; ends = ends; known = refl } in
      subst (λ (b : List (BatchEntry A)). AllReplies s.reads (IsHeld s replaces commits tells) (rs ++ r ∷ []) (doing (going start) b) (doing (talk now over) []) whole) (sym e)
      (subst (λ (t : List ℕ). AllReplies s.reads (IsHeld s replaces commits tells) (rs ++ r ∷ []) (doing (going start) (hs ++ known ∷ [])) (doing (talk now over) []) t) (sym written)
      (one_more s.reads (IsHeld s replaces commits tells) rs r call (doing (going start) (hs ++ known ∷ [])) (doing (going middle) (known ∷ [])) (doing (talk now over) []) text reply
      (one_behind s replaces commits tells known rs (doing (going start) hs) (doing (going middle) []) text h) is held))

  -- nobody waited for them
  pub told_somehow : (now : Talk) → AllReplies s.reads (IsHeld s replaces commits tells) rs (doing (going start) hs) (doing now []) text
      → IsRefusable replaces → total hs ≡ length text → (history : List Entry) → (all : List ℕ) × AllReplies s.reads (IsTold s tells history) rs (going start) now all
  told_somehow now h refusable fits history =
      let t = settles_somehow replaces history refusable hs text fits in
      (t.0, replies_told s replaces commits tells history rs (doing (going start) hs) (doing now []) text t.0 h refl t.1)

-- the same replies, in other room
pub holds_same : {C A R : Type 0} (s : Service C) (replaces : Replacing A) (commits : R → ℕ) (tells : Time → Type 0) (rs : List (List ℕ)) (start middle now : SessionState) (hs all : List (BatchEntry A)) (text whole : List ℕ) → now ≡ middle → all ≡ hs → whole ≡ text
    → AllReplies s.reads (IsHeld s replaces commits tells) rs (doing (going start) hs) (doing (going middle) []) text → AllReplies s.reads (IsHeld s replaces commits tells) rs (doing (going start) all) (doing (going now) []) whole
holds_same {A = A} s replaces commits tells rs start middle now hs all text whole same known is h =
    subst (λ (x : SessionState). AllReplies s.reads (IsHeld s replaces commits tells) rs (doing (going start) all) (doing (going x) []) whole) (sym same)
    (subst (λ (b : List (BatchEntry A)). AllReplies s.reads (IsHeld s replaces commits tells) rs (doing (going start) b) (doing (going middle) []) whole) (sym known)
    (subst (λ (t : List ℕ). AllReplies s.reads (IsHeld s replaces commits tells) rs (doing (going start) hs) (doing (going middle) []) t) (sym is) h))

-- ---- a record that is answered

module _ {C A R : Type 0} (s : Service C) (replaces : Replacing A) (commits : R → ℕ) (tells : Time → Type 0) (bytes : List ℕ) (old new : SessionState) (wrote writes : List ℕ) (o : Option (HeldReply A R)) (h : IsAnswered s replaces commits tells bytes old new wrote writes o) where
  -- where it is a call
  pub answered_some : (soon : HeldReply A R) → o ≡ Some soon → IsAnswered s replaces commits tells bytes old new wrote writes (Some soon)
  answered_some soon is = subst (λ (p : Option (HeldReply A R)). IsAnswered s replaces commits tells bytes old new wrote writes p) is h

  -- and where it is none
  pub answered_none : o ≡ None → IsAnswered {A = A} {R = R} s replaces commits tells bytes old new wrote writes None
  answered_none is = subst (λ (p : Option (HeldReply A R)). IsAnswered s replaces commits tells bytes old new wrote writes p) is h

-- what was written before it, and after it
pub cut_behind : (wrote text writes : List ℕ) (n : ℕ) → n ≡ length wrote → writes ≡ wrote ++ text → (n ≤ length writes) × (take n writes ≡ wrote) × (drop n writes ≡ text)
cut_behind wrote text writes n long is = (
  omega (arith, long, ap (λ (t : List ℕ). length t) is, length-append wrote text),
  ap (λ (k : ℕ). take k writes) long ∙ ap (take (length wrote)) is ∙ take-append_seam wrote text,
  ap (λ (k : ℕ). drop k writes) long ∙ ap (drop (length wrote)) is ∙ drop-append_seam wrote text,
)
