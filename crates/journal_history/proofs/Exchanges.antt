-- The exchanges keep the law of the book, whatever its words and its history are.
use Rattle.std.proofs.Common.{◌≡◌, ℕ, ◌+◌, ◌<◌, ◌≤◌, ◌==◌, Bool, true, false, List, [], ◌∷◌, ◌++◌, length, refl, ap, sym, ◌∙◌, subst, arith, inl, length-append, None}
use Rattle.std.proofs.lemmas.List.{append-nil}
use Rattle.std.proofs.lemmas.Bool.Decides.{nat_tests}
use mathlib.Core.List.{IsPrefix}
use prog.Atomic.{either}
use Rattle.logbook.specs.Pages.{Cell, View, cell, keeps, no_nib, step, Moves, Goes}
use Rattle.journal_world.specs.Maps.{Map}
use Rattle.journal_world.specs.Histories.{Entry, floor}
use Rattle.journal_world.proofs.Prefixes.{IsPrefix-whole, IsPrefix-length, IsPrefix-trans}
use Rattle.journal_world.proofs.Marks.{floor-append-le}
use Rattle.journal_history.specs.Soundness.{IsSound, MayAdd}
use Rattle.journal_history.specs.Steps.{IsLawful, ExchangesHead, ExchangesFloor}
use Rattle.journal_history.proofs.Growth.{IsSound-snoc}

abbrev shown : List Entry → List Entry
shown history = []

abbrev moved : List Entry → List Entry → ℕ → Type 0
moved before after answer = Unit {0}

-- a word that becomes the second number where it is the first
abbrev exchanged : ℕ → ℕ → ℕ → ℕ
exchanged old new n = either (n == old) new n

-- what a step knows before it, with no pen and an update that has not run
abbrev having_seen : List Entry → View Entry ℕ
having_seen seen = (seen, (no_nib, None))

module _ (rule : Map → Type 0) (seen mine : List Entry) (e : Entry) (old : ℕ) (len : length mine ≡ old) (may : MayAdd rule mine e) (begins : IsPrefix mine seen) where
  abbrev AddGoes : List Cell → List Entry → Type 0
  AddGoes cells history = Goes (IsLawful rule) shown moved 0 (having_seen seen) (exchanged old (old + 1)) (ExchangesHead rule (step 0 old (old + 1) e) (having_seen seen)) cells history

  module _ (history : List Entry) (published : ℕ) (sound : IsSound rule history) (marked : published ≤ floor history) (pre : IsPrefix seen history) where
    add_goes : (b : Bool) → (length history == old) ≡ b → AddGoes ((length history, true) ∷ (published, true) ∷ []) history
    add_goes true is =
        let here : length history ≡ old = grind (arith, nat_tests) in
        let same : mine ≡ history = IsPrefix-whole mine history (IsPrefix-trans mine seen history begins pre) (omega arith) in
        let longer = IsPrefix-length mine seen begins in
        let whole : seen ≡ history = IsPrefix-whole seen history pre (omega arith) in
        let sound' : IsSound rule (history ++ e ∷ []) = IsSound-snoc rule history e sound (subst (λ (h : List Entry). MayAdd rule h e) same may) in
        let grown = floor-append-le history (e ∷ []) in
        let n : exchanged old (old + 1) (length history) ≡ length (history ++ e ∷ []) = rw is (omega (arith, length-append history (e ∷ []))) in (
          keeps,
          e ∷ [],
          None,
          tt,
          record { published = published; words = ap (λ (k : ℕ). (k, true) ∷ (published, true) ∷ []) n; marked = omega arith; sound = sound' },
          inl (refl, refl),
          rw is (ap (λ h. h ++ e ∷ []) (sym whole), ap length whole ∙ here, sound'),
        )
    add_goes false is =
        let all : history ++ [] ≡ history = append-nil history in
        let sound' : IsSound rule (history ++ []) = subst (IsSound rule) (sym all) sound in
        let n : exchanged old (old + 1) (length history) ≡ length (history ++ []) = rw is (ap length (sym all)) in (
          keeps,
          [],
          None,
          tt,
          record { published = published; words = ap (λ (k : ℕ). (k, true) ∷ (published, true) ∷ []) n; marked = subst (λ (h : List Entry). published ≤ floor h) (sym all) marked; sound = sound' },
          inl (refl, refl),
          rw is (ap length (sym all), sound'),
        )

  -- the exchange of HEAD adds the entry to all that was seen, or finds that the history is longer
  pub add_moves : Moves (IsLawful rule) shown moved 0 (having_seen seen) (exchanged old (old + 1)) (ExchangesHead rule (step 0 old (old + 1) e) (having_seen seen))
  add_moves cells history kept pre away =
      let P : List Cell → Type 0 = λ cs. (0 < length cs) × ((cell cs 0).1 ≡ true) × AddGoes cs history in
      subst P (sym kept.words) (omega arith, refl, add_goes history kept.published kept.sound kept.marked pre (length history == old) refl)

either-le : (b : Bool) (m n k : ℕ) → m ≤ k → n ≤ k → either b m n ≤ k
either-le true m n k first second = first
either-le false m n k first second = second

-- the exchange of FLOOR to a number that is at most a mark that was seen
pub tell_moves : (rule : Map → Type 0) (seen : List Entry) (ask : Entry) (old new : ℕ) → new ≤ floor seen
    → Moves (IsLawful rule) shown moved 1 (having_seen seen) (exchanged old new) (ExchangesFloor rule (step 1 old new ask) (having_seen seen))
tell_moves rule seen ask old new covered cells history kept pre away =
    let all : history ++ [] ≡ history = append-nil history in
    let grown : floor seen ≤ floor history = subst (λ (h : List Entry). floor seen ≤ floor h) pre.1 (floor-append-le seen pre.0) in
    let below : exchanged old new kept.published ≤ floor history = either-le (kept.published == old) new kept.published (floor history) (omega arith) kept.marked in
    let sound' : IsSound rule (history ++ []) = subst (IsSound rule) (sym all) kept.sound in
    let P : List Cell → Type 0 =
    λ cs. (1 < length cs) × ((cell cs 1).1 ≡ true) × Goes (IsLawful rule) shown moved 1 (having_seen seen) (exchanged old new) (ExchangesFloor rule (step 1 old new ask) (having_seen seen)) cs history in
    subst P (sym kept.words) (
      omega arith,
      refl,
      (
        keeps,
        [],
        None,
        tt,
        record {
          published = exchanged old new kept.published;
          words = ap (λ (k : ℕ). (k, true) ∷ (exchanged old new kept.published, true) ∷ []) (ap length (sym all));
          marked = subst (λ (h : List Entry). exchanged old new kept.published ≤ floor h) (sym all) below;
          sound = sound';
        },
        inl (refl, refl),
        sound',
      ),
    )
