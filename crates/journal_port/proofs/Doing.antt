-- What an open transaction did.
use Rattle.std.proofs.Common.{ℕ, ◌≡◌, ◌<◌, ◌+◌, length, take, get_or, add-one, IsTrue, List, [], ◌∷◌, ◌++◌, Option, Some, None, refl, sym, ap, subst, ◌∙◌}
use Rattle.std.specs.Prelude.{MatchOption}
use Rattle.std.proofs.Math.Seq.{take-suc}
use Rattle.std.proofs.lemmas.List.Elements.{All-nil, All-cons, All-append, All-weaker}
use Rattle.journal_world.proofs.Prefixes.{IsPrefix-refl, IsPrefix-trans}
use Rattle.journal_world.specs.Addresses.{Value, Shape}
use Rattle.journal_world.specs.Maps.{Agrees, value_among}
use Rattle.journal_world.specs.Histories.{is_trusted, latest}
use Rattle.journal_twophase.specs.Transactions.{TxnState, holding, Learns, ReadsValue}
use Rattle.journal_records.specs.declared.request.Action.TheVariants.{Compare}
use Rattle.journal_records.specs.declared.request.Part.{Part}
use Rattle.journal_port.specs.Requests.{if_compared, if_written, compared, written}
use Rattle.journal_port.specs.Parts.{Does, IsRead, IsReady}
use Rattle.journal_port.proofs.Lists.{compared_append, written_append, put_before}
use Rattle.journal_port.proofs.Keeping.{trusted_later, read_now, kept_reads}

-- what a read of an address told that the transaction did not overwrite
pub Learns-unwritten : (layout : Shape) (old new : TxnState) (p : Part) (v : Value) → p.action ≡ Compare → IsReady layout old p → ReadsValue (holding layout old p.addr) p.addr v new → Learns (holding layout old p.addr) p.addr v new
Learns-unwritten layout old new p v is ready reads = at (value_among old.writes p.addr) (ready.unwritten is) reads
  where
    at : (own : Option Value) → own ≡ None → MatchOption own (Learns (holding layout old p.addr) p.addr v new) (λ w. (v ≡ w) × (new ≡ holding layout old p.addr)) → Learns (holding layout old p.addr) p.addr v new
    at None none told = told
    at (Some w) none told = absurd (let e : Some w ≡ None = none in cc)

pub Does-compare : (layout : Shape) (old new : TxnState) (p : Part) → p.action ≡ Compare → Learns (holding layout old p.addr) p.addr p.value new
    → (IsTrue (is_trusted new.seen) → Agrees (latest new.seen) old.reads) → (IsTrue (is_trusted new.seen) → Agrees (latest new.seen) new.reads) → Does (p ∷ []) old new
Does-compare layout old new p is learns before after = record {
  reads = λ a. learns.reads a ∙ ap (λ pair. value_among (if_compared pair (p.addr, p.value) ++ old.reads) a) (sym is);
  writes = λ a. ap (λ (t : TxnState). value_among t.writes a) learns.others ∙ ap (λ pair. value_among (if_written pair (p.addr, p.value) ++ old.writes) a) (sym is);
  began = ap (λ (t : TxnState). t.began) learns.others;
  later = learns.later;
  kept = kept_reads layout old new p.addr p.value learns before after;
  matched = λ trusted. All-cons (IsRead new.reads) p [] (λ compares. read_now old.reads new.reads p.addr p.value learns.reads) (All-nil (IsRead new.reads));
}

-- the same, by what the read told
pub Does-matched : (layout : Shape) (old new : TxnState) (p : Part) (v : Value) → p.action ≡ Compare → IsReady layout old p → v ≡ p.value → ReadsValue (holding layout old p.addr) p.addr v new
    → (IsTrue (is_trusted new.seen) → Agrees (latest new.seen) old.reads) → (IsTrue (is_trusted new.seen) → Agrees (latest new.seen) new.reads) → Does (p ∷ []) old new
Does-matched layout old new p v is ready same reads before after =
    Does-compare layout old new p is (Learns-unwritten layout old new p p.value is ready (subst (λ (w : Value). ReadsValue (holding layout old p.addr) p.addr w new) same reads)) before after

-- one after another
pub Does-none : (t : TxnState) → Does [] t t
Does-none t = record {
  reads = λ a. refl;
  writes = λ a. refl;
  began = refl;
  later = IsPrefix-refl t.seen;
  kept = λ trusted a v found. found;
  matched = λ trusted. All-nil (IsRead t.reads);
}

pub Does-append : (old middle new : TxnState) (ps qs : List Part) → Does ps old middle → Does qs middle new → Does (ps ++ qs) old new
Does-append old middle new ps qs first last = record {
  reads = λ a. put_before new.reads middle.reads old.reads (compared ps) (compared qs) last.reads first.reads a ∙ ap (λ l. value_among (l ++ old.reads) a) (sym (compared_append ps qs));
  writes = λ a. put_before new.writes middle.writes old.writes (written ps) (written qs) last.writes first.writes a ∙ ap (λ l. value_among (l ++ old.writes) a) (sym (written_append ps qs));
  began = last.began ∙ first.began;
  later = IsPrefix-trans old.seen middle.seen new.seen first.later last.later;
  kept = λ trusted a v found. last.kept (still trusted) a v (first.kept trusted a v found);
  matched = λ trusted.
      All-append (IsRead new.reads) ps qs
      (All-weaker (IsRead middle.reads) (IsRead new.reads) (λ p has compares. last.kept (still trusted) p.addr p.value (has compares)) ps (first.matched trusted))
      (last.matched (still trusted));
}
  where
    still : IsTrue (is_trusted old.seen) → IsTrue (is_trusted middle.seen)
    still trusted = trusted_later old.seen middle.seen first.later trusted

-- the next of a list
pub Does-next : (parts : List Part) (i : ℕ) (x : Part) (old middle new : TxnState) → i < length parts → x ≡ get_or parts i x → Does (take i parts) old middle → Does (x ∷ []) middle new → Does (take (i + 1) parts) old new
Does-next parts i x old middle new low is before did =
    subst (λ ps. Does ps old new) (sym (ap (λ j. take j parts) (add-one i) ∙ take-suc parts i x low ∙ ap (λ y. take i parts ++ y ∷ []) (sym is)))
    (Does-append old middle new (take i parts) (x ∷ []) before did)
