-- What the core counts beside its history stays that of the history.
use Rattle.std.proofs.Common.{◌≡◌, ◌==◌, max, ◌+◌, ◌++◌, ℕ, zero, suc, Bool, true, false, cond, List, [], ◌∷◌, length, length-append, get_or, set, get_or-set_same, get_or-set_other, replicate, refl, sym, ap, subst, ◌∙◌, arith}
use Rattle.std.specs.Prelude.{slice_index}
use Rattle.std.proofs.lemmas.Bool.{eqb-true, eqb-false}
use Rattle.std.specs.List.{filter}
use Rattle.std.proofs.lemmas.List.{length-replicate, length-set, get_or-replicate}
use Rattle.std.proofs.lemmas.List.Elements.{filter-append}
use Rattle.journal_world.specs.Addresses.{Shape}
use Rattle.journal_world.specs.Maps.{Transaction}
use Rattle.journal_world.specs.Histories.{Entry, commits, commits_of, count, floor, is_fenced, writes_slot, touched}
use Rattle.journal_world.specs.Histories.Entry.{commit, stable}
use Rattle.journal_world.proofs.LongerHistories.{commits-commit}
use Rattle.journal_world.proofs.Marks.{commits-mark}
use Rattle.journal_world.proofs.Fences.{is_fenced-commit, is_fenced-mark}
use Rattle.journal_history.specs.Counts.{HasCount}
use Rattle.journal_memory.specs.declared.fenced_sessions.Run.{Run}
use Rattle.journal_memory.specs.Sessions.{CountsOne, AreSessionCounts}
use Rattle.journal_memory.specs.declared.marked_lengths.MarkedLengths.{MarkedLengths}
use Rattle.journal_memory.specs.MarkedLengths.{KeepsMarkedLengths}
use Rattle.journal_lockmap.specs.Numbers.{HeldState, Agree, CountsWrites}
use Rattle.journal_memory.specs.SlotCounts.{AreCounts, KeepsCounts, AgreeWith}
use Rattle.journal_memory.specs.Ledgers.{LedgerState, IsLedger}
use Rattle.journal_memory.proofs.Covering.{keeps_commit as covers_commit, keeps_cut as covers_cut, keeps_none as covers_none}
use Rattle.journal_memory.proofs.Committing.{commits_of-other, per_session_mark, per_session_commit}

-- nothing is counted yet
counts_none : (layout : Shape) (counts : List ℕ) (history : List Entry) → commits history ≡ [] → counts ≡ replicate layout.slots 0 → AreCounts layout counts history
counts_none layout counts history no_commits none = record {
  slots = ap length none ∙ length-replicate {A = ℕ} layout.slots 0;
  touched = λ slot lt.
      ap (λ (c : List ℕ). get_or c slot 0) none ∙ get_or-replicate {A = ℕ} layout.slots slot 0 0 lt
      ∙ sym (ap (λ (ts : List Transaction). length (filter (writes_slot layout slot) ts)) no_commits);
}

no_session : (history : List Entry) → commits history ≡ [] → (s : ℕ) → commits_of s history ≡ []
no_session history no_commits s = ap (λ (ts : List Transaction). filter (λ (t : Transaction). t.session == s) ts) no_commits

-- a mark is no commit
counts_mark : (layout : Shape) (c : List ℕ) (history : List Entry) (n : ℕ) → AreCounts layout c history → AreCounts layout c (history ++ stable n ∷ [])
counts_mark layout c history n counts = record {
  slots = counts.slots;
  touched = λ slot lt. counts.touched slot lt ∙ sym (ap (λ (ts : List Transaction). length (filter (writes_slot layout slot) ts)) (commits-mark history n));
}

-- a commit touches the slots that it writes
pub touched_commit : (layout : Shape) (history : List Entry) (t : Transaction) (slot : ℕ)
    → touched layout (history ++ commit t ∷ []) slot ≡ cond (writes_slot layout slot t) (touched layout history slot + 1) (touched layout history slot)
touched_commit layout history t slot =
    ap (λ (ts : List Transaction). length (filter (writes_slot layout slot) ts)) (commits-commit history t)
    ∙ ap length (filter-append (writes_slot layout slot) (commits history) (t ∷ []))
    ∙ length-append (filter (writes_slot layout slot) (commits history)) (filter (writes_slot layout slot) (t ∷ []))
    ∙ by (writes_slot layout slot t)
  where
    by : (b : Bool) → touched layout history slot + length (cond b (t ∷ []) []) ≡ cond b (touched layout history slot + 1) (touched layout history slot)
    by true = refl
    by false = omega arith

counts_commit : (layout : Shape) (old new : List ℕ) (history : List Entry) (t : Transaction) → CountsWrites layout t.writes old new → AreCounts layout old history
    → AreCounts layout new (history ++ commit t ∷ [])
counts_commit layout old new history t more counts = record {
  slots = more.slots ∙ counts.slots;
  touched = λ slot lt.
      more.touched slot lt
      ∙ ap (λ (n : ℕ). cond (writes_slot layout slot t) (n + 1) n) (counts.touched slot lt)
      ∙ sym (touched_commit layout history t slot);
}

-- a list of numbers is longer by zeros: each number that stands past its end reads as 0
pub get_or-zeros : (cs : List ℕ) (k s : ℕ) → get_or (cs ++ replicate k 0) s 0 ≡ get_or cs s 0
get_or-zeros [] zero s = refl
get_or-zeros [] (suc k) zero = refl
get_or-zeros [] (suc k) (suc s) = get_or-zeros [] k s
get_or-zeros (c ∷ cs) k zero = refl
get_or-zeros (c ∷ cs) k (suc s) = get_or-zeros cs k s

-- the numbers with one of them raised
pub counts_set : (old new : List ℕ) (session count : ℕ) → HasCount old session count → new ≡ set old session (count + 1) → CountsOne session old new
counts_set old new session count own is s = by (s == session) refl
  where
    by : (b : Bool) → (s == session) ≡ b → slice_index new s ≡ cond (s == session) (slice_index old s + 1) (slice_index old s)
    by true equal =
        ap (λ (cs : List ℕ). slice_index cs s) is
        ∙ ap (slice_index (set old session (count + 1))) (eqb-true s session equal)
        ∙ get_or-set_same old session (count + 1) 0 own.0
        ∙ ap (λ (n : ℕ). n + 1) (own.1 ∙ ap (slice_index old) (sym (eqb-true s session equal)))
        ∙ sym (ap (λ (b : Bool). cond b (slice_index old s + 1) (slice_index old s)) equal)
    by false differs =
        ap (λ (cs : List ℕ). slice_index cs s) is
        ∙ get_or-set_other old session s (count + 1) 0 (λ same. eqb-false s session differs same)
        ∙ sym (ap (λ (b : Bool). cond b (slice_index old s + 1) (slice_index old s)) differs)

-- the session's own count is the history's
pub own_commits : (sessions : List ℕ) (history : List Entry) (number count : ℕ) → AreSessionCounts sessions history → HasCount sessions number count
    → length (commits_of number history) ≡ count
own_commits sessions history number count per_session own = sym (own.1 ∙ per_session number)

-- what the memory part keeps at first
pub ledger_begun : (layout : Shape) (sessions slots : List ℕ) (lengths : MarkedLengths) (history : List Entry) → commits history ≡ [] → floor history ≡ 0
    → ((s : ℕ) → is_fenced s history ≡ false) → slots ≡ replicate layout.slots 0 → sessions ≡ []
    → lengths.marked ≡ length history → lengths.cut ≡ length history
    → IsLedger layout [] sessions slots lengths (record { history = history; cut = 0; next = 0; closed = false })
ledger_begun layout sessions slots lengths history no_commits unmarked free none nobody marked cut = record {
  counts = record {
    fences = λ s. sym (free s);
    per_session = λ s. ap (λ (cs : List ℕ). slice_index cs s) nobody ∙ sym (ap length (no_session history no_commits s));
    touched = counts_none layout slots history no_commits none;
  };
  given = ap length nobody;
  fronts = covers_none history no_commits unmarked lengths marked cut;
  fresh = λ s le. no_session history no_commits s;
  unfenced = λ s le. free s;
}

keeps_mark : (layout : Shape) (fenced : List Run) (sessions slots : List ℕ) (history : List Entry) (n : ℕ) → KeepsCounts layout fenced sessions slots history
    → KeepsCounts layout fenced sessions slots (history ++ stable n ∷ [])
keeps_mark layout fenced sessions slots history n kept = record {
  fences = λ s. kept.fences s ∙ sym (is_fenced-mark s history n);
  per_session = per_session_mark sessions history n kept.per_session;
  touched = counts_mark layout slots history n kept.touched;
}

keeps_commit : (layout : Shape) (fenced : List Run) (sessions counted slots more : List ℕ) (history later : List Entry) (t : Transaction) (session : ℕ) → later ≡ history ++ commit t ∷ []
    → session ≡ t.session → CountsOne session sessions counted → CountsWrites layout t.writes slots more → KeepsCounts layout fenced sessions slots history
    → KeepsCounts layout fenced counted more later
keeps_commit layout fenced sessions counted slots more history later t session added is counts writes kept = record {
  fences = λ s. kept.fences s ∙ sym (ap (is_fenced s) added ∙ is_fenced-commit s history t);
  per_session = per_session_commit sessions counted history later t session added is counts kept.per_session;
  touched = subst (AreCounts layout more) (sym added) (counts_commit layout slots more history t writes kept.touched);
}

-- what is held agrees with the history where it agrees with what is counted
pub agree_with : (layout : Shape) (slots : List ℕ) (history : List Entry) (held : List HeldState) → AreCounts layout slots history → Agree slots held
    → AgreeWith layout history held
agree_with layout slots history held kept agree = λ k d lt.
    let here = agree k d lt in
    here.1 ∙ kept.touched (get_or held k d).slot (omega (arith, here.0, kept.slots))

module _ (layout : Shape) (fenced : List Run) (sessions slots : List ℕ) (lengths : MarkedLengths) (m : LedgerState) (kept : IsLedger layout fenced sessions slots lengths m) where
  -- the same may be told otherwise
  pub ledger_same : (runs : List Run) (history : List Entry) → runs ≡ fenced → history ≡ m.history → IsLedger layout runs sessions slots lengths (record m { history = history })
  ledger_same runs history same is = subst (λ (x : List Run × List Entry). IsLedger layout x.0 sessions slots lengths (record m { history = x.1 })) (λ i. (sym same i, sym is i)) kept

  -- a mark
  pub ledger_marked : (n : ℕ) (now : MarkedLengths) → KeepsMarkedLengths now (m.history ++ stable n ∷ []) n
      → IsLedger layout fenced sessions slots now (record m { history = m.history ++ stable n ∷ []; cut = n })
  ledger_marked n now covers = record {
    counts = keeps_mark layout fenced sessions slots m.history n kept.counts;
    given = kept.given;
    fronts = covers;
    fresh = λ s le. ap (λ (ts : List Transaction). filter (λ (t : Transaction). t.session == s) ts) (commits-mark m.history n) ∙ kept.fresh s le;
    unfenced = λ s le. is_fenced-mark s m.history n ∙ kept.unfenced s le;
  }

  -- a cut
  pub ledger_cut : (now : MarkedLengths) (cut : ℕ) → now.marked ≡ lengths.marked → now.cut ≡ length m.history → cut ≡ count m.history
      → IsLedger layout fenced sessions slots now (record m { cut = cut })
  ledger_cut now cut marked whole all = subst (λ (n : ℕ). IsLedger layout fenced sessions slots now (record m { cut = n })) (sym all) (record {
    counts = kept.counts;
    given = kept.given;
    fronts = covers_cut lengths m.history m.cut kept.fronts now marked whole;
    fresh = kept.fresh;
    unfenced = kept.unfenced;
  })

  -- a further session
  pub ledger_joined : (joined : List ℕ) → joined ≡ sessions ++ 0 ∷ [] → IsLedger layout fenced joined slots lengths (record m { next = m.next + 1 })
  ledger_joined joined is = subst (λ (cs : List ℕ). IsLedger layout fenced cs slots lengths (record m { next = m.next + 1 })) (sym is) (record {
    counts = record {
      fences = kept.counts.fences;
      per_session = λ s. get_or-zeros sessions 1 s ∙ kept.counts.per_session s;
      touched = kept.counts.touched;
    };
    given = omega (arith, length-append sessions (0 ∷ []), kept.given);
    fronts = kept.fronts;
    fresh = λ s le. kept.fresh s (omega (arith, le));
    unfenced = λ s le. kept.unfenced s (omega (arith, le));
  })

  -- a commit
  pub ledger_committed : (counted more : List ℕ) (history : List Entry) (next : ℕ) (t : Transaction) (session made : ℕ)
      → history ≡ m.history ++ commit t ∷ [] → next ≡ max m.next (session + 1) → session ≡ t.session
      → HasCount sessions session made → counted ≡ set sessions session (made + 1) → CountsWrites layout t.writes slots more
      → IsLedger layout fenced counted more lengths (record m { history = history; next = next })
  ledger_committed counted more history next t session made added raised is own counts writes = record {
    counts = keeps_commit layout fenced sessions counted slots more m.history history t session added is (counts_set sessions counted session made own counts) writes kept.counts;
    given = omega (arith, ap length counts, length-set sessions session (made + 1), kept.given, raised, own.0);
    fronts = subst (λ (h : List Entry). KeepsMarkedLengths lengths h m.cut) (sym added) (covers_commit lengths m.history m.cut kept.fronts t);
    fresh = λ s le.
        ap (commits_of s) added
        ∙ commits_of-other m.history t s (λ equal. omega (arith, equal, is, raised, le))
        ∙ kept.fresh s (omega (arith, raised, le));
    unfenced = λ s le. ap (is_fenced s) added ∙ is_fenced-commit s m.history t ∙ kept.unfenced s (omega (arith, raised, le));
  }
