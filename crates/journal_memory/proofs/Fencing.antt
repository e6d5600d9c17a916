-- What a fence keeps: what is counted beside the history, what is in memory of it, and what ties
-- the two parts.
use Rattle.std.proofs.Math.Bool.{or-false}
use Rattle.std.proofs.lemmas.Bool.{or_right, eq-eqb, ne_eqb, eqb-true, eqb-false}
use Rattle.std.proofs.Common.{⊎_elim, ◌≡◌, ◌+◌, ◌-◌, ◌==◌, ◌||◌, ◌++◌, max, ℕ, Bool, true, false, cond, IsTrue, List, [], ◌∷◌, length, length-append, replicate, Result, Ok, Err, OnOk, OnErr, refl, sym, ap, subst, ◌∙◌, arith}
use Rattle.std.proofs.lemmas.List.{length-replicate}
use Rattle.std.specs.List.{filter}
use Rattle.journal_world.specs.Addresses.{Shape}
use Rattle.journal_world.specs.Maps.{Map, Transaction}
use Rattle.journal_world.specs.Histories.{Entry, is_fenced, writes_slot}
use Rattle.journal_world.specs.Histories.Entry.{fence}
use Rattle.journal_world.proofs.LongerHistories.{opened-append}
use Rattle.journal_world.proofs.MapsOfHistories.{is_trusted-append}
use Rattle.journal_world.proofs.Fences.{commits-fence, count-fence, floor-fence, is_fenced-fence}
use Rattle.journal_tail.specs.Tails.{known_blocks}
use Rattle.journal_memory.specs.declared.marked_lengths.MarkedLengths.{MarkedLengths}
use Rattle.journal_memory.specs.MarkedLengths.{Covers, KeepsMarkedLengths, with_non_commit}
use Rattle.journal_history.specs.Counts.{raised as given_to}
use Rattle.journal_memory.specs.declared.fenced_sessions.Run.{Run}
use Rattle.journal_memory.specs.Sessions.{NotesFence, is_in_runs}
use Rattle.journal_memory.specs.SlotCounts.{KeepsCounts}
use Rattle.journal_memory.specs.Ledgers.{LedgerState, IsLedger}
use Rattle.journal_memory.specs.Updates.{AreObjectsOf}
use Rattle.journal_memory.specs.Fences.{AddsFence, HasFence, SetsFence}
use Rattle.journal_memory.specs.Volatiles.{VolatileState, IsVolatile}
use Rattle.journal_memory.proofs.Counting.{get_or-zeros}
use Rattle.journal_memory.proofs.Covering.{covers_quiet}
use Rattle.journal_memory.proofs.Fronts.{append-some}
use Rattle.journal_memory.proofs.Latest.{latest_fence, since_fence}

-- the session's fence is kept, and no other
fenced_so : (old new : List Run) (history : List Entry) (session s : ℕ) → NotesFence session old new → is_in_runs old s ≡ is_fenced s history
    → is_in_runs new s ≡ is_fenced s (history ++ fence session ∷ [])
fenced_so old new history session s notes was = notes s ∙ by (s == session) refl ∙ sym (is_fenced-fence s session history)
  where
    by : (b : Bool) → (s == session) ≡ b → cond (s == session) true (is_in_runs old s) ≡ (is_fenced s history || (session == s))
    by true is =
        ap (λ (b : Bool). cond b true (is_in_runs old s)) is
        ∙ sym (or_right (is_fenced s history) (session == s) (eq-eqb session s (sym (eqb-true s session is))))
    by false is =
        ap (λ (b : Bool). cond b true (is_in_runs old s)) is
        ∙ was
        ∙ sym (ap (λ (b : Bool). is_fenced s history || b) (ne_eqb session s (λ e. eqb-false s session is (sym e))) ∙ or-false (is_fenced s history))

-- a fence is no commit
keeps_fence : (layout : Shape) (old new : List Run) (sessions slots : List ℕ) (history : List Entry) (session k : ℕ) → NotesFence session old new → KeepsCounts layout old sessions slots history
    → KeepsCounts layout new (sessions ++ replicate k 0) slots (history ++ fence session ∷ [])
keeps_fence layout old new sessions slots history session k notes kept = record {
  fences = λ s. fenced_so old new history session s notes (kept.fences s);
  per_session = λ s. get_or-zeros sessions k s ∙ kept.per_session s
      ∙ sym (ap (λ (ts : List Transaction). length (filter (λ (t : Transaction). t.session == s) ts)) (commits-fence history session));
  touched = record {
    slots = kept.touched.slots;
    touched = λ slot lt. kept.touched.touched slot lt ∙ sym (ap (λ (ts : List Transaction). length (filter (writes_slot layout slot) ts)) (commits-fence history session));
  };
}

covers_fence : (lengths now : MarkedLengths) (history : List Entry) (cut len session : ℕ) → len ≡ length history
    → now ≡ record { marked = with_non_commit len lengths.marked; cut = with_non_commit len lengths.cut } → KeepsMarkedLengths lengths history cut
    → KeepsMarkedLengths now (history ++ fence session ∷ []) cut
covers_fence lengths now history cut len session is longer kept =
    let same = count-fence history session in
    let floors = floor-fence history session in
    subst (λ (c : MarkedLengths). KeepsMarkedLengths c (history ++ fence session ∷ []) cut) (sym longer) (record {
      marked = subst (λ (n : ℕ). Covers (history ++ fence session ∷ []) n (with_non_commit len lengths.marked)) (sym floors)
          (covers_quiet history (fence session) _ lengths.marked len same is kept.marked);
      cut = covers_quiet history (fence session) cut lengths.cut len same is kept.cut;
      rises = omega (arith, floors, kept.rises);
      made = omega (arith, same, kept.made);
    })

-- what the memory part keeps
pub ledger_fenced : (layout : Shape) (fenced new : List Run) (sessions slots : List ℕ) (lengths now : MarkedLengths) (m : LedgerState) (history : List Entry) (len next session : ℕ)
    → IsLedger layout fenced sessions slots lengths m → history ≡ m.history ++ fence session ∷ [] → len ≡ length m.history → next ≡ max m.next (session + 1)
    → NotesFence session fenced new → now ≡ record { marked = with_non_commit len lengths.marked; cut = with_non_commit len lengths.cut }
    → IsLedger layout new (given_to sessions (session + 1)) slots now (record m { history = history; next = next })
ledger_fenced layout fenced new sessions slots lengths now m history len next session kept added is raised notes longer =
    subst (λ (h : List Entry). IsLedger layout new (given_to sessions (session + 1)) slots now (record m { history = h; next = next })) (sym added) (record {
      counts = keeps_fence layout fenced new sessions slots m.history session (session + 1 - length sessions) notes kept.counts;
      given = omega (arith, length-append sessions (replicate (session + 1 - length sessions) 0), length-replicate {A = ℕ} (session + 1 - length sessions) 0, kept.given, raised);
      fronts = covers_fence lengths now m.history m.cut len session is longer kept.fronts;
      fresh = λ s le.
          ap (λ (ts : List Transaction). filter (λ (t : Transaction). t.session == s) ts) (commits-fence m.history session)
          ∙ kept.fresh s (omega (arith, raised, le));
      unfenced = λ s le.
          is_fenced-fence s session m.history
          ∙ ap (λ (b : Bool). is_fenced s m.history || b) (ne_eqb session s (λ equal. omega (arith, equal, raised, le)))
          ∙ or-false (is_fenced s m.history)
          ∙ kept.unfenced s (omega (arith, raised, le));
    })

-- what the volatile part keeps
module _ (layout : Shape) (v : VolatileState) (kept : IsVolatile layout v) where
  pub volatile_fenced : (session next : ℕ) → IsVolatile layout (record v { ledger = record v.ledger { history = v.ledger.history ++ fence session ∷ []; next = next } })
  volatile_fenced session next = record {
    size = kept.size;
    begun = append-some v.ledger.history (fence session ∷ []) kept.begun;
    on_disk = ap (λ (m : Map). m.layout) (opened-append v.ledger.history (fence session ∷ []) kept.begun) ∙ kept.on_disk;
    made = omega (arith, kept.made, count-fence v.ledger.history session);
    cut_to_next = kept.cut_to_next;
    small = kept.small;
    cuts = λ k d lt. let was = kept.cuts k d lt in record { above = was.above; below = was.below; earlier = was.earlier };
    updates = λ trusted. let has = kept.updates (subst IsTrue (is_trusted-append v.ledger.history (fence session ∷ []) kept.begun) trusted) in record {
      since = λ k d lt. since_fence layout v.ledger.history session _ _ kept.begun (has.since k d lt);
      since_last = since_fence layout v.ledger.history session _ _ kept.begun has.since_last;
    };
    known = λ trusted. subst (λ (m : Map). AreObjectsOf layout m (known_blocks v.tail)) (sym (latest_fence v.ledger.history session kept.begun))
        (kept.known (subst IsTrue (is_trusted-append v.ledger.history (fence session ∷ []) kept.begun) trusted));
  }

  -- whatever is answered
  pub kept_fenced : {T E : Type 0} (session : ℕ) (new : LedgerState) (r : Result T E) → OnOk r (SetsFence session v.ledger new) → OnErr r (new ≡ v.ledger)
      → IsVolatile layout (record v { ledger = new })
  kept_fenced session new (Ok value) did same = ⊎_elim
      (λ (adds : AddsFence session v.ledger new).
      subst (λ (m : LedgerState). IsVolatile layout (record v { ledger = m })) (sym adds.fenced) (volatile_fenced session (max v.ledger.next (session + 1))))
      (λ (has : HasFence session v.ledger new). subst (λ (m : LedgerState). IsVolatile layout (record v { ledger = m })) (sym has.same) kept)
      did
  kept_fenced session new (Err why) did same = subst (λ (m : LedgerState). IsVolatile layout (record v { ledger = m })) (sym same) kept
