-- Objects that are read ahead: their slots, what the transaction learns, and what is found.
use Rattle.std.proofs.Common.{◌≡◌, ◌⊎◌, inl, inr, ◌==◌, ◌||◌, ℕ, Bool, true, false, cond, IsTrue, List, [], ◌∷◌, ◌++◌, Option, Some, None, Result, Ok, Err, IfOk, IfSome, OnOk, OnErr, All, Contains, refl, sym, ap, subst, ◌∙◌, eqb-true}
use Rattle.std.specs.Result.{result_unwrap_or}
use Rattle.std.proofs.lemmas.List.Elements.{All-nil, All-head, All-tail, All-cons, All-append}
use Rattle.std.proofs.lemmas.List.Folds.{list_any-append}
use Rattle.journal_world.specs.declared.address.Addr.{Addr}
use Rattle.journal_world.specs.Addresses.{Value, is_same, slot_of, Shape}
use Rattle.journal_world.specs.Maps.{Pair, SamePairs, value_among, is_object}
use Rattle.journal_world.proofs.Lookups.{same_addr}
use Rattle.journal_world.proofs.Prefixes.{IsPrefix-refl, IsPrefix-trans}
use Rattle.journal_twophase.specs.declared.prefetch.Wanted.{Wanted}
use Rattle.journal_twophase.specs.Transactions.{TxnState, holding, holds, with_slot, Learns}
use Rattle.journal_twophase.specs.Prefetches.{onto, IsAmong, ReadsOnly, PassesOver, IsNew, IsReady, IsWanted, HoldsMore, LearnsAll}

-- ── slots ──

-- what is held stays held with one more slot
held_with : (held : List ℕ) (slot other : ℕ) → IsTrue (holds held other) → IsTrue (holds (with_slot held slot) other)
held_with held slot other is = by (holds held slot)
  where
    by : (b : Bool) → IsTrue (holds (cond b held (held ++ slot ∷ [])) other)
    by true = is
    by false = list_any-append (λ (h : ℕ). h == other) held (slot ∷ []) ∙ ap (λ b. b || holds (slot ∷ []) other) is

-- and nothing else is but that slot
held_by : (held : List ℕ) (slot other : ℕ) → IsTrue (holds (with_slot held slot) other) → IsTrue (holds held other) ⊎ (slot ≡ other)
held_by held slot other is = by (holds held slot) is
  where
    one : (b c : Bool) → holds held other ≡ b → (slot == other) ≡ c → IsTrue (b || (c || false)) → IsTrue (holds held other) ⊎ (slot ≡ other)
    one true c here own is = inl here
    one false true here own is = inr (eqb-true slot other own)
    one false false here own is = absurd (cc is)

    by : (b : Bool) → IsTrue (holds (cond b held (held ++ slot ∷ [])) other) → IsTrue (holds held other) ⊎ (slot ≡ other)
    by true is = inl is
    by false is = one (holds held other) (slot == other) refl refl (sym (list_any-append (λ (h : ℕ). h == other) held (slot ∷ [])) ∙ is)

pub holds_none : (layout : Shape) (addrs : List Addr) (held : List ℕ) → HoldsMore layout addrs held held
holds_none layout addrs held = record { before = λ slot is. is; asked = λ slot is. inl is }

pub holds_one : (layout : Shape) (addrs : List Addr) (a : Addr) (old mid new : List ℕ) → HoldsMore layout addrs old mid → Contains addrs a
    → (new ≡ mid) ⊎ (new ≡ with_slot mid (slot_of layout a)) → HoldsMore layout addrs old new
holds_one layout addrs a old mid new more asked (inl same) = subst (HoldsMore layout addrs old) (sym same) more
holds_one layout addrs a old mid new more asked (inr took) = subst (HoldsMore layout addrs old) (sym took) (record {
  before = λ slot is. held_with mid (slot_of layout a) slot (more.before slot is);
  asked = λ slot is. by slot (held_by mid (slot_of layout a) slot is);
})
  where
    by : (slot : ℕ) → IsTrue (holds mid slot) ⊎ (slot_of layout a ≡ slot) → IsTrue (holds old slot) ⊎ ((b : Addr) × Contains addrs b × (slot_of layout b ≡ slot))
    by slot (inl before) = more.asked slot before
    by slot (inr own) = inr (a, asked, own)

-- what is ready stays so
ready_more : (layout : Shape) (a : Addr) (mid new : List ℕ) (w : Wanted) → (new ≡ mid) ⊎ (new ≡ with_slot mid (slot_of layout a)) → IsReady layout mid w → IsReady layout new w
ready_more layout a mid new w (inl same) ready = subst (λ (held : List ℕ). IsReady layout held w) (sym same) ready
ready_more layout a mid new w (inr took) ready = record {
  size = ready.size;
  slot = subst (λ (held : List ℕ). IsTrue (holds held (slot_of layout w.addr))) (sym took) (held_with mid (slot_of layout a) (slot_of layout w.addr) ready.slot);
}

pub all_ready_more : (layout : Shape) (a : Addr) (mid new : List ℕ) (ws : List Wanted) → (new ≡ mid) ⊎ (new ≡ with_slot mid (slot_of layout a))
    → All (IsReady layout mid) ws → All (IsReady layout new) ws
all_ready_more layout a mid new ws took all = λ k d lt. ready_more layout a mid new _ took (all k d lt)

-- ── pairs that follow others ──

onto-last : (ps : List Pair) (p : Pair) (before : List Pair) → onto (ps ++ p ∷ []) before ≡ p ∷ onto ps before
onto-last [] p before = refl
onto-last (q ∷ qs) p before = onto-last qs p (q ∷ before)

same-cons : (p : Pair) (xs ys : List Pair) → SamePairs xs ys → SamePairs (p ∷ xs) (p ∷ ys)
same-cons p xs ys same = λ a. ap (λ (o : Option Value). cond (is_same a p.0) (Some p.1) o) (same a)

onto-same : (ps xs ys : List Pair) → SamePairs xs ys → SamePairs (onto ps xs) (onto ps ys)
onto-same [] xs ys same = same
onto-same (p ∷ ps) xs ys same = onto-same ps (p ∷ xs) (p ∷ ys) (same-cons p xs ys same)

among-cons : (p : Pair) (xs ys : List Pair) → IsAmong xs ys → IsAmong (p ∷ xs) (p ∷ ys)
among-cons p xs ys among = λ a v. by a v (is_same a p.0) (among a v)
  where
    by : (a : Addr) (v : Value) (b : Bool) → (value_among xs a ≡ Some v → value_among ys a ≡ Some v)
        → cond b (Some p.1) (value_among xs a) ≡ Some v → cond b (Some p.1) (value_among ys a) ≡ Some v
    by a v true go is = is
    by a v false go is = go is

-- what is found among what was read stays so, as both go on alike
pub onto-among : (ps xs ys : List Pair) → IsAmong xs ys → IsAmong (onto ps xs) (onto ps ys)
onto-among [] xs ys among = among
onto-among (p ∷ ps) xs ys among = onto-among ps (p ∷ xs) (p ∷ ys) (among-cons p xs ys among)

-- an address that has no value yet hides none
among-new : (p : Pair) (xs : List Pair) → value_among xs p.0 ≡ None → IsAmong xs (p ∷ xs)
among-new p xs absent = λ a v is. by a v (is_same a p.0) refl is
  where
    by : (a : Addr) (v : Value) (b : Bool) → is_same a p.0 ≡ b → value_among xs a ≡ Some v → cond b (Some p.1) (value_among xs a) ≡ Some v
    by a v true same is = absurd (cc (sym is ∙ ap (value_among xs) (same_addr a p.0 same) ∙ absent))
    by a v false other is = is

-- of an address that none of them has there is what there was before
onto-other : (P : Addr → Type 0) (ps before : List Pair) → All (λ (p : Pair). P p.0) ps → (a : Addr) → (value_among (onto ps before) a ≡ value_among before a) ⊎ P a
onto-other P [] before all a = inl refl
onto-other P (p ∷ ps) before all a = by (onto-other P ps (p ∷ before) (All-tail (λ (q : Pair). P q.0) p ps all) a)
  where
    here : (b : Bool) → is_same a p.0 ≡ b → value_among (onto ps (p ∷ before)) a ≡ cond b (Some p.1) (value_among before a)
        → (value_among (onto ps (p ∷ before)) a ≡ value_among before a) ⊎ P a
    here true same is = inr (subst P (sym (same_addr a p.0 same)) (All-head (λ (q : Pair). P q.0) p ps all))
    here false other is = inl is

    by : (value_among (onto ps (p ∷ before)) a ≡ value_among (p ∷ before) a) ⊎ P a → (value_among (onto ps (p ∷ before)) a ≡ value_among before a) ⊎ P a
    by (inl is) = here (is_same a p.0) refl is
    by (inr own) = inr own

-- ── what a transaction learns ──

-- what a look answers, and nothing where it is refused
pub found_or_none : {T E : Type 0} (P : T → Type 0) (answer : Result (Option T) E) (found : Option T) → found ≡ result_unwrap_or answer None
    → IfOk answer (λ o. IfSome o P) → IfSome found P
found_or_none P (Ok o) found is holds = subst (λ o. IfSome o P) (sym is) holds
found_or_none P (Err why) found is holds = subst (λ o. IfSome o P) (sym is) tt

pub learns_none : (layout : Shape) (t : TxnState) → LearnsAll layout t [] t
learns_none layout t = record {
  reads = λ a. refl;
  objects = All-nil (λ (p : Pair). IsTrue (is_object layout p));
  later = IsPrefix-refl t.seen;
  others = refl;
}

pub learns_more : (layout : Shape) (old mid new : TxnState) (ps after : List Pair) (a : Addr) (v : Value) → LearnsAll layout old ps mid → Learns mid a v new
    → IsTrue (is_object layout (a, v)) → after ≡ ps ++ (a, v) ∷ [] → LearnsAll layout old after new
learns_more layout old mid new ps after a v all one object is = subst (λ (qs : List Pair). LearnsAll layout old qs new) (sym is) (record {
  reads = λ b. one.reads b ∙ same-cons (a, v) mid.reads (onto ps old.reads) all.reads b ∙ ap (λ (qs : List Pair). value_among qs b) (sym (onto-last ps (a, v) old.reads));
  objects = All-append (λ (p : Pair). IsTrue (is_object layout p)) ps ((a, v) ∷ []) all.objects
      (All-cons (λ (p : Pair). IsTrue (is_object layout p)) (a, v) [] object (All-nil (λ (p : Pair). IsTrue (is_object layout p))));
  later = IsPrefix-trans old.seen mid.seen new.seen all.later one.later;
  others = one.others ∙ ap (λ (t : TxnState). record t { reads = new.reads; seen = new.seen }) all.others;
})

-- ── what is added ──

-- where the rest leads from here to what is found, it leads there from before one more was added
pub found_one : (p : Pair) (now next rest after : List Pair) {E : Type 0} (answer : Result (Unit {0}) E) → OnOk answer (SamePairs next (p ∷ now)) → OnErr answer (next ≡ now)
    → OnErr answer (value_among now p.0 ≡ None) → IsAmong after (onto rest next) → IsAmong after (onto (p ∷ rest) now)
found_one p now next rest after (Ok done) ok err absent go = λ a v is. sym (onto-same rest next (p ∷ now) ok a) ∙ go a v is
found_one p now next rest after (Err why) ok err absent go = λ a v is.
    onto-among rest now (p ∷ now) (among-new p now absent) a v (subst (λ (ps : List Pair). value_among (onto rest ps) a ≡ Some v) err (go a v is))

-- what was found before stays, since what is added is new
pub kept_one : (p : Pair) (old now next : List Pair) {E : Type 0} (answer : Result (Unit {0}) E) → OnOk answer (SamePairs next (p ∷ now)) → OnErr answer (next ≡ now)
    → value_among old p.0 ≡ None → IsAmong old now → IsAmong old next
kept_one p old now next (Ok done) ok err absent kept = λ a v is. ok a ∙ by a v (is_same a p.0) refl is
  where
    by : (a : Addr) (v : Value) (b : Bool) → is_same a p.0 ≡ b → value_among old a ≡ Some v → cond b (Some p.1) (value_among now a) ≡ Some v
    by a v true same is = absurd (cc (sym is ∙ ap (value_among old) (same_addr a p.0 same) ∙ absent))
    by a v false other is = kept a v is
kept_one p old now next (Err why) ok err absent kept = subst (IsAmong old) (sym err) kept

-- ── what a call that reads ahead does ──

module _ (layout : Shape) (addrs : List Addr) (old mid new : TxnState) (read before after : List Pair) (same : mid.reads ≡ old.reads) (learns : LearnsAll layout mid read new) where
  reads : SamePairs new.reads (onto read old.reads)
  reads = subst (λ (rs : List Pair). SamePairs new.reads (onto read rs)) same learns.reads

  pub found_read : IsAmong after (onto read before) → IsAmong before old.reads → IsAmong after new.reads
  found_read found among = λ a v is. reads a ∙ onto-among read before old.reads among a v (found a v is)

  module _ (all_new : All (λ (p : Pair). IsNew addrs before old.writes p.0) read) where
    pub reads_only : ReadsOnly addrs old.reads new.reads
    reads_only a = by (onto-other (IsNew addrs before old.writes) read old.reads all_new a)
      where
        by : (value_among (onto read old.reads) a ≡ value_among old.reads a) ⊎ IsNew addrs before old.writes a → (value_among new.reads a ≡ value_among old.reads a) ⊎ Contains addrs a
        by (inl is) = inl (reads a ∙ is)
        by (inr own) = inr own.asked

    not_read : (a : Addr) → (IsNew addrs before old.writes a → ⊥) → value_among new.reads a ≡ value_among old.reads a
    not_read a other = by (onto-other (IsNew addrs before old.writes) read old.reads all_new a)
      where
        by : (value_among (onto read old.reads) a ≡ value_among old.reads a) ⊎ IsNew addrs before old.writes a → value_among new.reads a ≡ value_among old.reads a
        by (inl same) = reads a ∙ same
        by (inr own) = absurd (other own)

    pub passes_found : PassesOver before old.reads new.reads
    passes_found a v is = not_read a (λ own. absurd (cc (sym is ∙ own.absent)))

    pub passes_written : PassesOver old.writes old.reads new.reads
    passes_written a v is = not_read a (λ own. absurd (cc (sym is ∙ own.unwritten)))

    pub adds_only : IsAmong after (onto read before) → IsAmong before after → ReadsOnly addrs before after
    adds_only found kept a = by (value_among before a) refl (value_among after a) refl
      where
        by : (b : Option Value) → value_among before a ≡ b → (f : Option Value) → value_among after a ≡ f → (value_among after a ≡ value_among before a) ⊎ Contains addrs a
        by (Some v) is f at = inl (kept a v is ∙ sym is)
        by None is None at = inl (at ∙ sym is)
        by None is (Some v) at = one (onto-other (IsNew addrs before old.writes) read before all_new a)
          where
            one : (value_among (onto read before) a ≡ value_among before a) ⊎ IsNew addrs before old.writes a → (value_among after a ≡ value_among before a) ⊎ Contains addrs a
            one (inl same) = absurd (cc (sym (found a v at) ∙ same ∙ is))
            one (inr own) = inr own.asked

-- ── one more of a list ──

pub all_pushed : {X : Type 0} (P : X → Type 0) (b : Bool) (xs now : List X) (x : X) → now ≡ cond b (xs ++ x ∷ []) xs → P x → All P xs → All P now
all_pushed P true xs now x is own all = subst (All P) (sym is) (All-append P xs (x ∷ []) all (All-cons P x [] own (All-nil P)))
all_pushed P false xs now x is own all = subst (All P) (sym is) all

pub first_of : {X : Type 0} (P : X → Type 0) (x : X) (all rest : List X) → all ≡ x ∷ rest → All P all → P x
first_of P x all rest is holds = All-head P x rest (subst (All P) is holds)

pub rest_of : {X : Type 0} (P : X → Type 0) (x : X) (all rest : List X) → all ≡ x ∷ rest → All P all → All P rest
rest_of P x all rest is holds = All-tail P x rest (subst (All P) is holds)

-- ── what is wanted ──

pub took_held : (layout : Shape) (a : Addr) (old new : TxnState) → (new ≡ old) ⊎ (new ≡ holding layout old a) → (new.held ≡ old.held) ⊎ (new.held ≡ with_slot old.held (slot_of layout a))
took_held layout a old new (inl same) = inl (ap (λ (t : TxnState). t.held) same)
took_held layout a old new (inr took) = inr (ap (λ (t : TxnState). t.held) took)

pub took_others : (layout : Shape) (a : Addr) (first old new : TxnState) → old ≡ record first { held = old.held } → (new ≡ old) ⊎ (new ≡ holding layout old a) → new ≡ record first { held = new.held }
took_others layout a first old new is (inl same) = subst (λ (t : TxnState). t ≡ record first { held = t.held }) (sym same) is
took_others layout a first old new is (inr took) =
    subst (λ (t : TxnState). t ≡ record first { held = t.held }) (sym took) (ap (λ (t : TxnState). record t { held = with_slot old.held (slot_of layout a) }) is)

pub new_one : (addrs : List Addr) (before : List Pair) (first mid : TxnState) (a : Addr) (w : Wanted) → w.addr ≡ a → mid ≡ record first { held = mid.held } → Contains addrs a
    → value_among before a ≡ None → value_among mid.writes a ≡ None → IsNew addrs before first.writes w.addr
new_one addrs before first mid a w own others asked absent unwritten = subst (IsNew addrs before first.writes) (sym own) (record {
  asked = asked;
  absent = absent;
  unwritten = subst (λ (ws : List Pair). value_among ws a ≡ None) (ap (λ (t : TxnState). t.writes) others) unwritten;
})

of_wanted : (P : Addr → Type 0) (ws : List Wanted) → All (λ (w : Wanted). P w.addr) ws → (a : Addr) → IsWanted ws a → P a
of_wanted P [] all a is = absurd is
of_wanted P (w ∷ ws) all a (inl same) = subst P same (All-head (λ (v : Wanted). P v.addr) w ws all)
of_wanted P (w ∷ ws) all a (inr more) = of_wanted P ws (All-tail (λ (v : Wanted). P v.addr) w ws all) a more

-- what holds of each that is wanted holds of each that was read
pub all_of_wanted : (P : Addr → Type 0) (ws : List Wanted) (ps : List Pair) → All (λ (w : Wanted). P w.addr) ws → All (λ (p : Pair). IsWanted ws p.0) ps → All (λ (p : Pair). P p.0) ps
all_of_wanted P ws ps all wanted = λ k d lt. of_wanted P ws all _ (wanted k d lt)
