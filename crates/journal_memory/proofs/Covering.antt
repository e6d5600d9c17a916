-- Which fronts have only marked commits, as the history grows.
use Rattle.std.proofs.Common.{◌≡◌, ◌<◌, ◌≤◌, ◌+◌, ◌==◌, ◌↔◌, ◌⊎◌, ⊎_elim, ℕ, Bool, true, false, cond, List, [], ◌∷◌, ◌++◌, length, length-append, take, drop, refl, sym, ap, subst, ◌∙◌, arith}
use Rattle.std.proofs.Math.Nat.{lt_of_not-le}
use Rattle.std.proofs.lemmas.Bool.{eqb-true, eqb-false}
use Rattle.std.proofs.lemmas.List.{take_all, take_at, take-append-le, take-append-drop}
use Rattle.std.proofs.lemmas.List.Elements.{filter_map-append}
use mathlib.Core.List.{IsPrefix}
use Rattle.journal_world.specs.Maps.{Transaction}
use Rattle.journal_world.specs.Histories.{Entry, committed, commits, count, floor}
use Rattle.journal_world.specs.Histories.Entry.{commit, stable}
use Rattle.journal_world.proofs.LongerHistories.{count-commit}
use Rattle.journal_world.proofs.Marks.{floor-mark, floor-commit, count-mark}
use Rattle.journal_memory.specs.declared.marked_lengths.MarkedLengths.{MarkedLengths}
use Rattle.journal_memory.specs.MarkedLengths.{Covers, KeepsMarkedLengths, with_non_commit}

-- a longer history has no fewer commits
count_append : (history more : List Entry) → count history ≤ count (history ++ more)
count_append history more = omega (arith, ap length (filter_map-append committed history more), length-append (commits history) (commits more))

count_front : (history : List Entry) (k : ℕ) → count (take k history) ≤ count history
count_front history k = subst (λ (h : List Entry). count (take k history) ≤ count h) (take-append-drop k history) (count_append (take k history) (drop k history))

-- all of it, where it has no more commits than that
pub covers_all : (history : List Entry) (n : ℕ) → count history ≤ n → Covers history n (length history)
covers_all history n few = record {
  within = omega arith;
  fronts = λ k le. (λ short. omega (arith, few, count_front history k), λ less. le);
}

-- one entry more, with which there are more commits than that
covers_more : (history : List Entry) (e : Entry) (n entries : ℕ) → n < count (history ++ e ∷ []) → Covers history n entries
    → Covers (history ++ e ∷ []) n entries
covers_more history e n entries more covers = record {
  within = omega (arith, covers.within, length-append history (e ∷ []));
  fronts = λ k le. by k le (k == length history + 1) refl;
}
  where
    whole : (k : ℕ) → k ≡ length history + 1 → take k (history ++ e ∷ []) ≡ history ++ e ∷ []
    whole k is = take_all k (history ++ e ∷ []) (omega (arith, is, length-append history (e ∷ [])))

    by : (k : ℕ) → k ≤ length (history ++ e ∷ []) → (b : Bool) → (k == length history + 1) ≡ b → (k ≤ entries) ↔ (count (take k (history ++ e ∷ [])) ≤ n)
    by k le true is = (
      λ short. absurd (omega (arith, short, covers.within, eqb-true k (length history + 1) is)),
      λ less. absurd (omega (arith, less, more, ap count (whole k (eqb-true k (length history + 1) is)))),
    )
    by k le false differ =
        let short : k ≤ length history = shorter k le (eqb-false k (length history + 1) differ) in
        subst (λ (h : List Entry). (k ≤ entries) ↔ (count h ≤ n)) (sym (take-append-le k history (e ∷ []) short)) (covers.fronts k short)
      where
        shorter : (k : ℕ) → k ≤ length (history ++ e ∷ []) → (k ≡ length history + 1 → ⊥) → k ≤ length history
        shorter k le differ = omega (arith, le, differ, length-append history (e ∷ []))

-- what a session has seen has only marked commits exactly where it is no longer
pub covers_seen : (history seen : List Entry) (n entries : ℕ) → Covers history n entries → IsPrefix seen history → (length seen ≤ entries) ↔ (count seen ≤ n)
covers_seen history seen n entries covers begins =
    subst (λ (h : List Entry). (length seen ≤ entries) ↔ (count h ≤ n))
    (ap (take (length seen)) (sym begins.1) ∙ take_at seen begins.0 (length seen) refl)
    (covers.fronts (length seen) (omega (arith, ap length (sym begins.1), length-append seen begins.0)))

-- one entry more that is no commit
pub covers_quiet : (history : List Entry) (e : Entry) (n entries len : ℕ) → count (history ++ e ∷ []) ≡ count history → len ≡ length history
    → Covers history n entries → Covers (history ++ e ∷ []) n (with_non_commit len entries)
covers_quiet history e n entries len quiet is covers = by (entries == len) refl
  where
    whole : length (history ++ e ∷ []) ≡ length history + 1
    whole = length-append history (e ∷ [])

    all : count (take (length history) history) ≡ count history
    all = ap count (take_all (length history) history (omega arith))

    by : (b : Bool) → (entries == len) ≡ b → Covers (history ++ e ∷ []) n (with_non_commit len entries)
    by true equal =
        let few : count history ≤ n = omega (arith, all, (covers.fronts (length history) (omega arith)).0 (omega (arith, eqb-true entries len equal, is))) in
        subst (Covers (history ++ e ∷ []) n) (omega (arith, whole, is) ∙ sym (ap (λ (b : Bool). cond b (len + 1) entries) equal))
        (covers_all (history ++ e ∷ []) n (omega (arith, few, quiet)))
    by false differs =
        let short : entries < length history = omega (arith, covers.within, is, eqb-false entries len differs) in
        subst (Covers (history ++ e ∷ []) n) (sym (ap (λ (b : Bool). cond b (len + 1) entries) differs))
        (covers_more history e n entries (omega (arith, quiet, all, more short)) covers)
      where
        more : entries < length history → n < count (take (length history) history)
        more short = lt_of_not-le (λ few. omega (arith, short, (covers.fronts (length history) (omega arith)).1 few))

-- at first no commit is there
pub keeps_none : (history : List Entry) → commits history ≡ [] → floor history ≡ 0 → (lengths : MarkedLengths) → lengths.marked ≡ length history → lengths.cut ≡ length history
    → KeepsMarkedLengths lengths history 0
keeps_none history none unmarked lengths marked cut = record {
  marked = subst (Covers history (floor history)) (sym marked) (covers_all history (floor history) (omega (arith, ap length none)));
  cut = subst (Covers history 0) (sym cut) (covers_all history 0 (omega (arith, ap length none)));
  rises = omega (arith, unmarked);
  made = omega arith;
}

module _ (lengths : MarkedLengths) (history : List Entry) (cut : ℕ) (kept : KeepsMarkedLengths lengths history cut) where
  -- a commit leaves these fronts as they were
  pub keeps_commit : (t : Transaction) → KeepsMarkedLengths lengths (history ++ commit t ∷ []) cut
  keeps_commit t =
      let one : count (history ++ commit t ∷ []) ≡ count history + 1 = count-commit history t in
      record {
        marked = subst (λ (n : ℕ). Covers (history ++ commit t ∷ []) n lengths.marked) (sym (floor-commit history t))
            (covers_more history (commit t) (floor history) lengths.marked (omega (arith, one, kept.rises, kept.made)) kept.marked);
        cut = covers_more history (commit t) cut lengths.cut (omega (arith, one, kept.made)) kept.cut;
        rises = omega (arith, floor-commit history t, kept.rises);
        made = omega (arith, one, kept.made);
      }

  -- a cut is of all
  pub keeps_cut : (now : MarkedLengths) → now.marked ≡ lengths.marked → now.cut ≡ length history → KeepsMarkedLengths now history (count history)
  keeps_cut now marked whole = record {
    marked = subst (Covers history (floor history)) (sym marked) kept.marked;
    cut = subst (Covers history (count history)) (sym whole) (covers_all history (count history) (omega arith));
    rises = omega (arith, kept.rises, kept.made);
    made = omega arith;
  }

  -- a mark of the commits at the cut is of the fronts of the cut, and a mark of all of all
  module _ (n : ℕ) (rises : floor history ≤ n) where
    marked_floor : floor (history ++ stable n ∷ []) ≡ n
    marked_floor = floor-mark history n rises

    marked_whole : length (history ++ stable n ∷ []) ≡ length history + 1
    marked_whole = length-append history (stable n ∷ [])

    keeps_both : (now : MarkedLengths) → now.marked ≡ now.cut → Covers (history ++ stable n ∷ []) n now.cut → n ≤ count history
        → KeepsMarkedLengths now (history ++ stable n ∷ []) n
    keeps_both now same covers made = record {
      marked = subst (λ (m : ℕ). Covers (history ++ stable n ∷ []) m now.marked) (sym marked_floor)
          (subst (Covers (history ++ stable n ∷ []) n) (sym same) covers);
      cut = covers;
      rises = omega (arith, marked_floor);
      made = omega (arith, made, count-mark history n);
    }

    pub keeps_mark_all : (now : MarkedLengths) → now.marked ≡ now.cut → now.cut ≡ length (history ++ stable n ∷ []) → n ≡ count history
        → KeepsMarkedLengths now (history ++ stable n ∷ []) n
    keeps_mark_all now same whole all = keeps_both now same
        (subst (Covers (history ++ stable n ∷ []) n) (sym whole) (covers_all (history ++ stable n ∷ []) n (omega (arith, all, count-mark history n))))
        (omega (arith, all))

    pub keeps_mark_cut : (now : MarkedLengths) → now.marked ≡ now.cut → now.cut ≡ lengths.cut → n ≤ count history → (n ≡ count history → ⊥)
        → (n ≡ cut) ⊎ (n ≡ count history) → KeepsMarkedLengths now (history ++ stable n ∷ []) n
    keeps_mark_cut now same front made fewer due = keeps_both now same
        (subst (Covers (history ++ stable n ∷ []) n) (sym front)
        (covers_more history (stable n) n lengths.cut (omega (arith, made, fewer, count-mark history n))
        (subst (λ (m : ℕ). Covers history m lengths.cut) (sym (⊎_elim (λ (is : n ≡ cut). is) (λ (all : n ≡ count history). absurd (fewer all)) due)) kept.cut)))
        made
