-- Each call keeps what the volatile part keeps.
use Rattle.std.proofs.Common.{◌≡◌, ◌≢◌, ◌⊎◌, ⊎_elim, ◌<◌, ◌≤◌, ◌-◌, ℕ, zero, suc, Some, List, [], ◌∷◌, ◌++◌, drop, IsTrue, Result, Ok, Err, OnOk, OnErr, All, sym, ap, subst, ◌∙◌, arith, length-drop}
use Rattle.std.specs.List.{slice_index_or}
use Rattle.std.proofs.lemmas.List.{drop_all}
use Rattle.std.proofs.lemmas.List.Elements.{All-head, All-tail, All-push}
use mathlib.Core.List.{IsPrefix}
use Rattle.journal_world.specs.declared.address.Addr.{Addr}
use Rattle.journal_world.specs.Addresses.{Value, is_valid, Shape}
use Rattle.journal_world.specs.Maps.{Map, Transaction, value_at, overwritten}
use Rattle.journal_world.specs.Histories.{Entry, opened, is_trusted, count, latest}
use Rattle.journal_world.specs.Histories.Entry.{commit, stable}
use Rattle.journal_world.proofs.LongerHistories.{opened-append, count-commit, latest-commit}
use Rattle.journal_world.proofs.MapsOfHistories.{is_trusted-append}
use Rattle.journal_world.proofs.Marks.{count-mark}
use Rattle.journal_block.specs.declared.update.Update.{Update}
use Rattle.journal_block.specs.Updates.{updates_block}
use Rattle.journal_memlog.specs.Logs.{LogState, next_position, tail_of, appended}
use Rattle.journal_memlog.specs.Laws.{next_of-appended, length-absorbed_ge}
use Rattle.journal_tail.specs.declared.tail.CutPoint.{CutPoint}
use Rattle.journal_tail.specs.Tails.{TailState, MakeTheSame, MakesNoOther, cut_points, known_blocks, updates_from, cut_after, DropsCuts, TakesUpdates}
use Rattle.journal_tail.proofs.Kept.{no_other_behind}
use Rattle.journal_tail.specs.Writes.{writes_block}
use Rattle.journal_memory.specs.Updates.{HaveAllSince, IsOrNone, AreObjectsOf}
use Rattle.journal_memory.specs.Fetches.{FetchedState, IsFetched}
use Rattle.journal_tail.specs.ObjectTails.{known_updates, known_at}
use Rattle.journal_memory.specs.Ledgers.{LedgerState}
use Rattle.journal_memory.specs.Volatiles.{VolatileState, IsCutOf, HasUpdates, IsVolatile}
use Rattle.journal_memory.proofs.Fronts.{append-some, trusted-longer}
use Rattle.journal_memory.proofs.Latest.{latest_mark, since_later, since_all, since_alike, since_mark, since_commit, latest_fetched, objects_no_other, objects_both, objects_kept, objects_commit, objects_appended}

-- what holds of each of some holds of each of the last of them
pub all_behind : {X : Type 0} (P : X → Type 0) (earlier xs : List X) → All P (earlier ++ xs) → All P xs
all_behind P [] xs all = all
all_behind P (e ∷ earlier) xs all = all_behind P earlier xs (All-tail P e (earlier ++ xs) all)

-- all updates in memory are those since the last cut whose updates were dropped
pub all_in_memory : (layout : Shape) (v : VolatileState) → HasUpdates layout v → HaveAllSince layout v.ledger.history v.tail.trimmed v.tail.log.updates
all_in_memory layout v has =
    let none : v.tail.log.start - v.tail.log.start ≡ 0 = omega arith in
    subst (λ (k : ℕ). HaveAllSince layout v.ledger.history v.tail.trimmed (drop k v.tail.log.updates)) none
    (All-head (λ c. HaveAllSince layout v.ledger.history c.commits (updates_from v.tail.log c.end)) (record { end = v.tail.log.start; commits = v.tail.trimmed }) v.tail.cuts has.since)

module _ (layout : Shape) (v : VolatileState) (kept : IsVolatile layout v) where
  -- n commits were marked, those at the last cut or more
  marked : (n : ℕ) → v.ledger.cut ≤ n → n ≤ count v.ledger.history
      → IsVolatile layout (record v { ledger = record v.ledger { history = v.ledger.history ++ stable n ∷ []; cut = n } })
  marked n rises made = record {
    size = kept.size;
    begun = append-some v.ledger.history (stable n ∷ []) kept.begun;
    on_disk = ap (λ (m : Map). m.layout) (opened-append v.ledger.history (stable n ∷ []) kept.begun) ∙ kept.on_disk;
    made = omega (arith, made, count-mark v.ledger.history n);
    cut_to_next = kept.cut_to_next;
    small = kept.small;
    cuts = λ k d lt. let was = kept.cuts k d lt in record { above = was.above; below = was.below; earlier = omega (arith, was.earlier, rises) };
    updates = λ trusted. let has = kept.updates (subst IsTrue (is_trusted-append v.ledger.history (stable n ∷ []) kept.begun) trusted) in record {
      since = λ k d lt. since_mark layout v.ledger.history n _ _ kept.begun (has.since k d lt);
      since_last = since_later layout (v.ledger.history ++ stable n ∷ []) v.ledger.cut n (tail_of v.tail.log) rises
          (since_mark layout v.ledger.history n v.ledger.cut (tail_of v.tail.log) kept.begun has.since_last);
    };
    known = λ trusted. subst (λ (m : Map). AreObjectsOf layout m (known_blocks v.tail)) (sym (latest_mark v.ledger.history n kept.begun))
        (kept.known (subst IsTrue (is_trusted-append v.ledger.history (stable n ∷ []) kept.begun) trusted));
  }

  pub kept_marked : {T E : Type 0} (n : ℕ) (new : LedgerState) (r : Result T E) → n ≤ count v.ledger.history
      → (n ≡ v.ledger.cut) ⊎ (n ≡ count v.ledger.history)
      → OnOk r (new ≡ record v.ledger { history = v.ledger.history ++ stable n ∷ []; cut = n }) → OnErr r (new ≡ v.ledger)
      → IsVolatile layout (record v { ledger = new })
  kept_marked n new (Ok value) made due added same =
      subst (λ (m : LedgerState). IsVolatile layout (record v { ledger = m })) (sym added) (marked n rises made)
    where
      rises : v.ledger.cut ≤ n
      rises = ⊎_elim (λ is. omega (arith, is)) (λ is. omega (arith, is, kept.made)) due
  kept_marked n new (Err why) made due added same =
      subst (λ (m : LedgerState). IsVolatile layout (record v { ledger = m })) (sym same) kept

  -- the tail was cut
  pub kept_cut : IsVolatile layout (record v { ledger = record v.ledger { cut = count v.ledger.history }; tail = cut_after v.tail (count v.ledger.history) })
  kept_cut = record {
    size = kept.size;
    begun = kept.begun;
    on_disk = kept.on_disk;
    made = omega arith;
    cut_to_next = omega arith;
    small = kept.small;
    cuts = All-push (IsCutOf later) (cut_points v.tail) p
        (λ k d lt. let was = kept.cuts k d lt in record { above = was.above; below = omega (arith, was.below, kept.cut_to_next); earlier = omega (arith, was.earlier, kept.made) })
        (record { above = omega arith; below = omega arith; earlier = omega arith });
    updates = λ trusted. let has = kept.updates trusted in record {
      since = All-push (λ c. HaveAllSince layout v.ledger.history c.commits (updates_from v.tail.log c.end)) (cut_points v.tail) p has.since none;
      since_last = none;
    };
    known = kept.known;
  }
    where
      p : CutPoint
      p = record { end = next_position v.tail.log; commits = count v.ledger.history }

      later : VolatileState
      later = record v { ledger = record v.ledger { cut = count v.ledger.history }; tail = cut_after v.tail (count v.ledger.history) }

      none : HaveAllSince layout v.ledger.history (count v.ledger.history) (drop (next_position v.tail.log - v.tail.log.start) v.tail.log.updates)
      none = subst (HaveAllSince layout v.ledger.history (count v.ledger.history))
          (sym (drop_all (next_position v.tail.log - v.tail.log.start) v.tail.log.updates (omega arith)))
          (since_all layout v.ledger.history (count v.ledger.history) (omega arith))

  -- the updates of some first cuts were dropped
  module _ (upto : ℕ) (new : TailState) (drops : DropsCuts v.tail upto new) (left : All (λ c. upto < c.end) new.cuts)
      (since : (from : ℕ) → new.log.start ≤ from → updates_from new.log from ≡ updates_from v.tail.log from)
      (fewer : MakesNoOther (known_blocks v.tail) (known_blocks new)) where
    were : All (IsCutOf v) (cut_points new)
    were = all_behind (IsCutOf v) drops.earlier (cut_points new) (subst (All (IsCutOf v)) drops.points kept.cuts)

    start_to_cut : new.log.start ≤ v.tail.log.cut
    start_to_cut = (were 0 (record { end = 0; commits = 0 }) (omega arith)).below

    same_cut : new.log.cut ≡ v.tail.log.cut
    same_cut = ap (λ (l : LogState). l.cut) drops.log

    -- those that are left end at the start or behind it
    are_above : All (λ c. new.log.start ≤ c.end) (cut_points new)
    are_above zero d lt = omega arith
    are_above (suc k) d lt = ⊎_elim
        (λ (is : new ≡ v.tail). subst (λ (t : TailState). t.log.start ≤ (slice_index_or new.cuts k d).end) (sym is) (were (suc k) d lt).above)
        (λ (le : new.log.start ≤ upto). omega (arith, le, left k d (omega (arith, lt))))
        drops.by

    pub kept_trim : IsVolatile layout (record v { tail = new })
    kept_trim = record {
      size = ap (λ (l : LogState). l.blocks) drops.log ∙ kept.size;
      begun = kept.begun;
      on_disk = kept.on_disk;
      made = kept.made;
      cut_to_next = omega (
        arith,
        same_cut,
        kept.cut_to_next,
        ap next_position drops.log,
        length-drop (new.log.start - v.tail.log.start) v.tail.log.updates,
        drops.above,
      );
      small = omega (
        arith,
        kept.small,
        start_to_cut,
        kept.cut_to_next,
        ap next_position drops.log,
        length-drop (new.log.start - v.tail.log.start) v.tail.log.updates,
        drops.above,
      );
      cuts = λ k d lt. let was = were k d lt in record { above = are_above k d lt; below = omega (arith, was.below, same_cut); earlier = was.earlier };
      updates = λ trusted. let has = kept.updates trusted in record {
        since = λ k d lt. subst (HaveAllSince layout v.ledger.history _) (sym (since _ (are_above k d lt)))
            (all_behind (λ c. HaveAllSince layout v.ledger.history c.commits (updates_from v.tail.log c.end)) drops.earlier (cut_points new)
            (subst (All (λ c. HaveAllSince layout v.ledger.history c.commits (updates_from v.tail.log c.end))) drops.points has.since) k d lt);
        since_last = subst (HaveAllSince layout v.ledger.history v.ledger.cut)
            (sym (since new.log.cut (omega (arith, start_to_cut, same_cut)) ∙ ap (λ (n : ℕ). drop (n - v.tail.log.start) v.tail.log.updates) same_cut))
            has.since_last;
      };
      known = λ trusted. objects_no_other layout (latest v.ledger.history) (known_blocks v.tail) (known_blocks new) fewer (kept.known trusted);
    }

  -- other copies of home blocks
  module _ (home : List Update) where
    pub kept_home : (IsTrue (is_trusted v.ledger.history) → AreObjectsOf layout (latest v.ledger.history) (home ++ v.tail.log.updates))
        → IsVolatile layout (record v { tail = record v.tail { cache = home } })
    kept_home are = record {
      size = kept.size;
      begun = kept.begun;
      on_disk = kept.on_disk;
      made = kept.made;
      cut_to_next = kept.cut_to_next;
      small = kept.small;
      cuts = λ k d lt. let was = kept.cuts k d lt in record { above = was.above; below = was.below; earlier = was.earlier };
      updates = λ trusted. let has = kept.updates trusted in record { since = has.since; since_last = has.since_last };
      known = are;
    }

    -- those that were, in another order
    pub kept_touched : MakeTheSame home v.tail.cache → IsVolatile layout (record v { tail = record v.tail { cache = home } })
    kept_touched same = kept_home (λ trusted.
        objects_no_other layout (latest v.ledger.history) (known_blocks v.tail) (home ++ v.tail.log.updates)
        (no_other_behind v.tail.cache home v.tail.log.updates
        (record { blocks = λ b named. sym (same.blocks b) ∙ named; content = λ b x named. same.content b x }))
        (kept.known trusted))

    -- those that were and what was fetched
    pub kept_copies : (fetched : List Update) → (IsTrue (is_trusted v.ledger.history) → AreObjectsOf layout (latest v.ledger.history) (fetched ++ v.tail.log.updates))
        → MakesNoOther (v.tail.cache ++ fetched) home → IsVolatile layout (record v { tail = record v.tail { cache = home } })
    kept_copies fetched are fewer = kept_home (λ trusted.
        objects_kept layout (latest v.ledger.history) v.tail.cache fetched home v.tail.log.updates (kept.known trusted) (are trusted) fewer)

-- what is read by updates that have the latest is the map's value
pub read_latest : (layout : Shape) (history : List Entry) (fetched : List Update) (t : TailState) (a : Addr) (value : Value)
    → AreObjectsOf layout (latest history) (known_updates fetched t) → IsTrue (is_valid layout a) → known_at layout fetched t a ≡ Some value → value ≡ value_at (latest history) a
read_latest layout history fetched t a value are valid known =
    subst (IsOrNone (value_at (latest history) a)) known (are.values a valid)

-- of the fetched blocks what is usable, without the copies of home blocks
pub fetched_alone : (layout : Shape) (v : VolatileState) (f : FetchedState) → IsVolatile layout v → IsFetched layout f → IsTrue (is_trusted v.ledger.history)
    → IsPrefix f.front v.ledger.history → v.tail.trimmed ≤ f.commits → AreObjectsOf layout (latest v.ledger.history) (f.updates ++ v.tail.log.updates)
fetched_alone layout v f kept is trusted begins fresh =
    latest_fetched layout v.ledger.history v.tail.trimmed v.tail.log.updates (all_in_memory layout v (kept.updates trusted)) f.front f.commits is.begun begins is.made fresh
    f.updates (is.objects (subst IsTrue (trusted-longer f.front v.ledger.history is.begun begins) trusted))

-- of the fetched blocks what is usable
pub usable_latest : (layout : Shape) (v : VolatileState) (f : FetchedState) → IsVolatile layout v → IsFetched layout f → IsTrue (is_trusted v.ledger.history)
    → IsPrefix f.front v.ledger.history → v.tail.trimmed ≤ f.commits → AreObjectsOf layout (latest v.ledger.history) (known_updates f.updates v.tail)
usable_latest layout v f kept is trusted begins fresh =
    objects_both layout (latest v.ledger.history) f.updates v.tail.cache v.tail.log.updates (fetched_alone layout v f kept is trusted begins fresh) (kept.known trusted)

-- memory alone
pub unfetched_latest : (layout : Shape) (v : VolatileState) → IsVolatile layout v → IsTrue (is_trusted v.ledger.history) → AreObjectsOf layout (latest v.ledger.history) (known_updates [] v.tail)
unfetched_latest layout v kept trusted = kept.known trusted

-- a commit, whose updates come behind
pub kept_added : (layout : Shape) (v : VolatileState) (t : Transaction) (prepared : List Update) (ledger : LedgerState) (new : TailState) → IsVolatile layout v
    → ledger.history ≡ v.ledger.history ++ commit t ∷ [] → ledger.cut ≡ v.ledger.cut → new ≡ record v.tail { log = appended v.tail.log prepared }
    → ((from : ℕ) → v.tail.log.start ≤ from → from ≤ v.tail.log.cut → MakeTheSame (updates_from new.log from) (updates_from v.tail.log from ++ prepared))
    → TakesUpdates v.tail.log prepared → ((b : ℕ) → updates_block prepared b ≡ writes_block t.writes b)
    → (IsTrue (is_trusted v.ledger.history) → AreObjectsOf layout (overwritten (latest v.ledger.history) t.writes) prepared)
    → IsVolatile layout (record v { ledger = ledger; tail = new })
kept_added layout v t prepared ledger new kept added cut appends since takes named written = record {
  size = ap (λ (s : TailState). s.log.blocks) appends ∙ kept.size;
  begun = subst (λ (h : List Entry). h ≢ []) (sym added) (append-some v.ledger.history (commit t ∷ []) kept.begun);
  on_disk = ap (λ (h : List Entry). (opened h).layout) added ∙ ap (λ (m : Map). m.layout) (opened-append v.ledger.history (commit t ∷ []) kept.begun) ∙ kept.on_disk;
  made = omega (arith, cut, kept.made, ap count added, count-commit v.ledger.history t);
  cut_to_next = omega (
    arith,
    ap (λ (s : TailState). s.log.cut) appends,
    ap (λ (s : TailState). next_position s.log) appends,
    kept.cut_to_next,
    next_of-appended v.tail.log prepared,
    length-absorbed_ge (tail_of v.tail.log) prepared,
  );
  small = omega (arith, ap (λ (s : TailState). next_position s.log) appends, takes.can.below);
  cuts = subst (All (IsCutOf (record v { ledger = ledger; tail = new }))) (sym points)
      (λ k d lt. let was = kept.cuts k d lt in record {
        above = omega (arith, was.above, ap (λ (s : TailState). s.log.start) appends);
        below = omega (arith, was.below, ap (λ (s : TailState). s.log.cut) appends);
        earlier = omega (arith, was.earlier, cut);
      });
  updates = λ trusted.
      let was : IsTrue (is_trusted v.ledger.history) = subst IsTrue (ap is_trusted added ∙ is_trusted-append v.ledger.history (commit t ∷ []) kept.begun) trusted in
      let has = kept.updates was in record {
        since = subst (All (λ c. HaveAllSince layout ledger.history c.commits (updates_from new.log c.end))) (sym points)
            (λ k d lt. let place = kept.cuts k d lt in after was _ _ place.above place.below (has.since k d lt));
        since_last = subst (λ (n : ℕ). HaveAllSince layout ledger.history n (tail_of new.log)) (sym cut)
            (subst (λ (n : ℕ). HaveAllSince layout ledger.history v.ledger.cut (drop (n - new.log.start) new.log.updates)) (sym (ap (λ (s : TailState). s.log.cut) appends))
            (after was v.ledger.cut v.tail.log.cut start_to_cut (omega arith) has.since_last));
      };
  known = λ trusted.
      let was : IsTrue (is_trusted v.ledger.history) = subst IsTrue (ap is_trusted added ∙ is_trusted-append v.ledger.history (commit t ∷ []) kept.begun) trusted in
      let m = overwritten (latest v.ledger.history) t.writes in
      subst (λ (s : TailState). AreObjectsOf layout (latest ledger.history) (known_blocks s)) (sym appends)
      (subst (λ (k : Map). AreObjectsOf layout k (v.tail.cache ++ (appended v.tail.log prepared).updates))
      (sym (ap latest added ∙ latest-commit v.ledger.history t kept.begun))
      (objects_appended layout m v.tail.cache v.tail.log prepared
      (objects_commit layout (latest v.ledger.history) t.writes (known_blocks v.tail) prepared named (written was) (kept.known was))));
}
  where
    points : cut_points new ≡ cut_points v.tail
    points = ap cut_points appends

    start_to_cut : v.tail.log.start ≤ v.tail.log.cut
    start_to_cut = (kept.cuts 0 (record { end = 0; commits = 0 }) (omega arith)).below

    after : IsTrue (is_trusted v.ledger.history) → (c from : ℕ) → v.tail.log.start ≤ from → from ≤ v.tail.log.cut
        → HaveAllSince layout v.ledger.history c (updates_from v.tail.log from) → HaveAllSince layout ledger.history c (updates_from new.log from)
    after trusted c from above below all =
        since_alike layout ledger.history c (updates_from new.log from) (updates_from v.tail.log from ++ prepared) (since from above below)
        (subst (λ (h : List Entry). HaveAllSince layout h c (updates_from v.tail.log from ++ prepared)) (sym added)
        (since_commit layout v.ledger.history t kept.begun prepared named (written trusted) c (updates_from v.tail.log from) all))
