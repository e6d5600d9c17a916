-- A commit's writes are counted, one held slot after the other.
use Rattle.std.proofs.Common.{◌≡◌, ◌≢◌, ◌<◌, ◌≤◌, ◌+◌, ◌==◌, ◌||◌, ◌&&◌, ℕ, zero, suc, Bool, true, false, not, cond, IsTrue, List, [], ◌∷◌, length, get_or, set, take, eq-eqb, refl, sym, ap, subst, ◌∙◌, arith, get_or-set_same, get_or-set_other}
use Rattle.std.specs.Prelude.{slice_index, slice_set}
use Rattle.std.specs.List.{list_any}
use Rattle.std.proofs.lemmas.Bool.{ne_eqb, eqb-true, eqb-false, true≢false}
use Rattle.std.proofs.Math.Bool.{and-false, or-false}
use Rattle.std.proofs.lemmas.List.{length-map, length-set, get_or-map, get_or_default, set-get_or, take_all}
use Rattle.std.proofs.lemmas.List.Elements.{All-head, All-tail}
use Rattle.std.proofs.lemmas.List.Folds.{list_any_more}
use Rattle.std.proofs.lemmas.Grind.{get_or-set_at}
use Rattle.journal_world.specs.Addresses.{slot_of, Shape}
use Rattle.journal_world.specs.Maps.{Pair}
use Rattle.journal_lockmap.specs.Numbers.{HeldState, slots_of, is_held, HasNumber, AreApart, HoldsSlots, is_written, CountsWrites, is_in, AreNone, MarksWrites}

abbrev none : HeldState
none = record { slot = 0; count = 0 }

-- the slot is one of the first that are held
abbrev pub is_among : List HeldState → ℕ → ℕ → Bool
is_among held i slot = list_any (λ n. n == slot) (take i (slots_of held))

-- The writes to the first slots that are held are counted, and what is held of these agrees
pub record AreCountedTo (layout : Shape) (writes : List Pair) (i : ℕ) (held now : List HeldState) (old new : List ℕ) : Type 0 where
  pub same : slots_of now ≡ slots_of held
  pub long : length new ≡ length old
  pub agree : (k : ℕ) (d : HeldState) → k < i → HasNumber new (get_or now k d)
  pub counted : (slot : ℕ) → slot < layout.slots → slice_index new slot ≡ cond (is_among held i slot && is_written layout writes slot) (slice_index old slot + 1) (slice_index old slot)

-- The slots that are written and are none of the first that are held
pub record AreLeft (layout : Shape) (writes : List Pair) (i : ℕ) (held : List HeldState) (flags : List Bool) : Type 0 where
  pub room : length flags ≡ layout.slots
  pub those : (slot : ℕ) → is_in flags slot ≡ (not (is_among held i slot) && is_written layout writes slot)

pub left_all : (layout : Shape) (writes : List Pair) (held : List HeldState) (flags : List Bool) → length flags ≡ layout.slots → MarksWrites layout flags writes → AreLeft layout writes 0 held flags
left_all layout writes held flags room marks = record { room = room; those = marks }

not_either : (a b c : Bool) → (not a && (not b && c)) ≡ (not (b || a) && c)
not_either true true c = refl
not_either true false c = refl
not_either false true c = refl
not_either false false c = refl

pub counted_none : (layout : Shape) (writes : List Pair) (held : List HeldState) (old : List ℕ) → AreCountedTo layout writes 0 held held old old
counted_none layout writes held old = record { same = refl; long = refl; agree = λ k d lt. absurd (omega (arith, lt)); counted = λ slot lt. refl }

slots_set : (held : List HeldState) (i : ℕ) (x d : HeldState) → i < length held → x.slot ≡ (get_or held i d).slot → slots_of (set held i x) ≡ slots_of held
slots_set [] i x d lt is = absurd (omega (arith, lt))
slots_set (y ∷ ys) zero x d lt is = ap (λ n. n ∷ slots_of ys) is
slots_set (y ∷ ys) (suc i) x d lt is = ap (λ ns. y.slot ∷ ns) (slots_set ys i x d (omega (arith, lt)) is)

none_before : (slots : List ℕ) (i n : ℕ) → ((k : ℕ) → k < i → k < length slots → slice_index slots k ≢ n) → list_any (λ m. m == n) (take i slots) ≡ false
none_before [] zero n apart = refl
none_before [] (suc i) n apart = refl
none_before (x ∷ xs) zero n apart = refl
none_before (x ∷ xs) (suc i) n apart =
    ap (λ b. b || list_any (λ m. m == n) (take i xs)) (ne_eqb x n (apart 0 (omega arith) (omega arith)))
    ∙ none_before xs i n (λ k lt in_list. apart (suc k) (omega (arith, lt)) (omega (arith, in_list)))

module _ (layout : Shape) (writes : List Pair) (held now : List HeldState) (old new : List ℕ) (i : ℕ) (lt : i < length held) (apart : AreApart held) (was : AreCountedTo layout writes i held now old new)
    (slot : ℕ) (here : (get_or now i none).slot ≡ slot) (small : slot < layout.slots) where
  lengths : length now ≡ length held
  lengths = sym (length-map now (λ (h : HeldState). h.slot)) ∙ ap length was.same ∙ length-map held (λ (h : HeldState). h.slot)

  slot_at : (k : ℕ) (d : HeldState) → k < length held → (get_or now k d).slot ≡ slice_index (slots_of held) k
  slot_at k d below = sym (get_or-map (λ (h : HeldState). h.slot) now k d 0 (omega (arith, below, lengths))) ∙ ap (λ ns. slice_index ns k) was.same

  own : slice_index (slots_of held) i ≡ slot
  own = sym (slot_at i none lt) ∙ here

  -- it is none of those before
  before_others : (k : ℕ) → k < i → k < length held → slice_index (slots_of held) k ≢ slot
  before_others k less below same = let is = apart k i below lt (same ∙ sym own) in absurd (omega (arith, is, less))

  not_among : is_among held i slot ≡ false
  not_among = none_before (slots_of held) i slot (λ k less below. before_others k less (omega (arith, below, length-map held (λ (h : HeldState). h.slot))))

  more : (other : ℕ) → is_among held (i + 1) other ≡ (is_among held i other || (slot == other))
  more other = list_any_more (λ (n : ℕ). n == other) (slots_of held) i 0 (omega (arith, lt, length-map held (λ (h : HeldState). h.slot)))
      ∙ ap (λ n. is_among held i other || (n == other)) own

  among_own : is_among held (i + 1) slot ≡ true
  among_own = more slot ∙ ap (λ b. b || (slot == slot)) not_among ∙ eq-eqb slot slot refl

  among_other : (other : ℕ) → slot ≢ other → is_among held (i + 1) other ≡ is_among held i other
  among_other other differ = more other ∙ ap (λ b. is_among held i other || b) (ne_eqb slot other differ) ∙ or-false (is_among held i other)

  pub uncounted : slice_index new slot ≡ slice_index old slot
  uncounted = was.counted slot small ∙ ap (λ b. cond (b && is_written layout writes slot) (slice_index old slot + 1) (slice_index old slot)) not_among

  -- of the slots that are left, it is one where it is written
  left_here : (flags : List Bool) → AreLeft layout writes i held flags → is_in flags slot ≡ is_written layout writes slot
  left_here flags left = left.those slot ∙ ap (λ b. not b && is_written layout writes slot) not_among

  -- once it is taken out, those are left of which the next ones are held
  left_less : (flags later : List Bool) → length later ≡ length flags → ((other : ℕ) → is_in later other ≡ (not (slot == other) && is_in flags other))
      → AreLeft layout writes i held flags → AreLeft layout writes (i + 1) held later
  left_less flags later same less left = record {
    room = same ∙ left.room;
    those = λ other.
        less other
        ∙ ap (λ b. not (slot == other) && b) (left.those other)
        ∙ not_either (slot == other) (is_among held i other) (is_written layout writes other)
        ∙ sym (ap (λ b. not b && is_written layout writes other) (more other));
  }

  -- it is counted
  pub counted_one : is_written layout writes slot ≡ true → slot < length new
      → AreCountedTo layout writes (i + 1) held (set now i (record { slot = slot; count = slice_index new slot + 1 })) old (slice_set new slot (slice_index new slot + 1))
  counted_one wrote in_list = record {
    same = slots_set now i x none (omega (arith, lt, lengths)) (sym here) ∙ was.same;
    long = length-set new slot n ∙ was.long;
    agree = λ k d less. agrees k d less (k == i) refl;
    counted = λ other lt_other. counts other lt_other (slot == other) refl;
  }
    where
      n : ℕ
      n = slice_index new slot + 1

      x : HeldState
      x = record { slot = slot; count = n }

      agrees : (k : ℕ) (d : HeldState) → k < i + 1 → (b : Bool) → (k == i) ≡ b → HasNumber (set new slot n) (get_or (set now i x) k d)
      agrees k d less true is =
          subst (HasNumber (set new slot n)) (sym (get_or-set_at now i k x d (eqb-true k i is) (omega (arith, lt, lengths))))
          (omega (arith, in_list, length-set new slot n), sym (get_or-set_same new slot n 0 in_list))
      agrees k d less false is =
          let differ : k ≢ i = eqb-false k i is in
          let earlier : k < i = omega (arith, less, differ) in
          let apart_slot : slot ≢ (get_or now k d).slot = λ same. before_others k earlier (omega (arith, earlier, lt)) (sym (slot_at k d (omega (arith, earlier, lt))) ∙ sym same) in
          let here = was.agree k d earlier in
          subst (HasNumber (set new slot n)) (sym (get_or-set_other now i k x d differ))
          (omega (arith, here.0, length-set new slot n), here.1 ∙ sym (get_or-set_other new slot (get_or now k d).slot n 0 (λ same. apart_slot (sym same))))

      counts : (other : ℕ) → other < layout.slots → (b : Bool) → (slot == other) ≡ b
          → slice_index (set new slot n) other ≡ cond (is_among held (i + 1) other && is_written layout writes other) (slice_index old other + 1) (slice_index old other)
      counts other lt_other true is =
          let same : slot ≡ other = eqb-true slot other is in
          subst (λ (o : ℕ). slice_index (set new slot n) o ≡ cond (is_among held (i + 1) o && is_written layout writes o) (slice_index old o + 1) (slice_index old o)) same
          (get_or-set_same new slot n 0 in_list
          ∙ ap (λ m. m + 1) uncounted
          ∙ sym (ap (λ b. cond (b && is_written layout writes slot) (slice_index old slot + 1) (slice_index old slot)) among_own
          ∙ ap (λ b. cond b (slice_index old slot + 1) (slice_index old slot)) wrote))
      counts other lt_other false is =
          let differ : slot ≢ other = eqb-false slot other is in
          get_or-set_other new slot other n 0 (λ same. differ (sym same))
          ∙ was.counted other lt_other
          ∙ sym (ap (λ b. cond (b && is_written layout writes other) (slice_index old other + 1) (slice_index old other)) (among_other other differ))

  -- or nothing is written there, and the number stays
  pub counted_not : is_written layout writes slot ≡ false → HasNumber new (get_or now i none) → AreCountedTo layout writes (i + 1) held now old new
  counted_not not_wrote agrees_here = record {
    same = was.same;
    long = was.long;
    agree = λ k d less. agrees k d less (k == i) refl;
    counted = λ other lt_other. counts other lt_other (slot == other) refl;
  }
    where
      agrees : (k : ℕ) (d : HeldState) → k < i + 1 → (b : Bool) → (k == i) ≡ b → HasNumber new (get_or now k d)
      agrees k d less true is =
          subst (λ (j : ℕ). HasNumber new (get_or now j d)) (sym (eqb-true k i is))
          (subst (HasNumber new) (get_or_default now i none d (omega (arith, lt, lengths))) agrees_here)
      agrees k d less false is = let differ : k ≢ i = eqb-false k i is in was.agree k d (omega (arith, less, differ))

      counts : (other : ℕ) → other < layout.slots → (b : Bool) → (slot == other) ≡ b
          → slice_index new other ≡ cond (is_among held (i + 1) other && is_written layout writes other) (slice_index old other + 1) (slice_index old other)
      counts other lt_other true is =
          let same : slot ≡ other = eqb-true slot other is in
          subst (λ (o : ℕ). slice_index new o ≡ cond (is_among held (i + 1) o && is_written layout writes o) (slice_index old o + 1) (slice_index old o)) same
          (uncounted
          ∙ sym (ap (λ b. cond (is_among held (i + 1) slot && b) (slice_index old slot + 1) (slice_index old slot)) not_wrote
          ∙ ap (λ b. cond b (slice_index old slot + 1) (slice_index old slot)) (and-false (is_among held (i + 1) slot))))
      counts other lt_other false is =
          let differ : slot ≢ other = eqb-false slot other is in
          was.counted other lt_other
          ∙ sym (ap (λ b. cond (b && is_written layout writes other) (slice_index old other + 1) (slice_index old other)) (among_other other differ))

same_length : (held now : List HeldState) → slots_of now ≡ slots_of held → length now ≡ length held
same_length held now same = sym (length-map now (λ (h : HeldState). h.slot)) ∙ ap length same ∙ length-map held (λ (h : HeldState). h.slot)

slot_of_next : (held now : List HeldState) (i slot : ℕ) (d : HeldState) → i < length now → slot ≡ (get_or now i d).slot → (get_or now i none).slot ≡ slot
slot_of_next held now i slot d lt is = ap (λ (h : HeldState). h.slot) (get_or_default now i none d lt) ∙ sym is

-- what is told of the next one's slot, and what is left then
pub told_next : (layout : Shape) (writes : List Pair) (held now : List HeldState) (old new : List ℕ) (i slot : ℕ) (d : HeldState) (flags : List Bool)
    → i < length now → AreApart held → AreCountedTo layout writes i held now old new → slot ≡ (get_or now i d).slot → slot < layout.slots → AreLeft layout writes i held flags
    → is_in flags slot ≡ is_written layout writes slot
told_next layout writes held now old new i slot d flags lt apart was is small left =
    left_here layout writes held now old new i (omega (arith, lt, same_length held now was.same)) apart was slot (slot_of_next held now i slot d lt is) small flags left

pub left_next : (layout : Shape) (writes : List Pair) (held now : List HeldState) (old new : List ℕ) (i slot : ℕ) (d : HeldState) (flags later : List Bool)
    → i < length now → AreApart held → AreCountedTo layout writes i held now old new → slot ≡ (get_or now i d).slot → slot < layout.slots
    → length later ≡ length flags → ((other : ℕ) → is_in later other ≡ (not (slot == other) && is_in flags other))
    → AreLeft layout writes i held flags → AreLeft layout writes (i + 1) held later
left_next layout writes held now old new i slot d flags later lt apart was is small same less left =
    left_less layout writes held now old new i (omega (arith, lt, same_length held now was.same)) apart was slot (slot_of_next held now i slot d lt is) small flags later same less left

-- the next one that is held was touched, however its place is named
pub counted_touched : (layout : Shape) (writes : List Pair) (held now later : List HeldState) (old new more : List ℕ) (i slot : ℕ) (d e x : HeldState)
    → i < length now → AreApart held → AreCountedTo layout writes i held now old new → slot ≡ (get_or now i d).slot → slot < layout.slots → is_written layout writes slot ≡ true → length new ≡ layout.slots
    → later ≡ set now i x → x ≡ record { slot = (get_or now i e).slot; count = slice_index new (get_or now i e).slot + 1 }
    → more ≡ slice_set new (get_or now i e).slot (slice_index new (get_or now i e).slot + 1)
    → AreCountedTo layout writes (i + 1) held later old more
counted_touched layout writes held now later old new more i slot d e x lt apart was is small wrote long later_is x_is more_is =
    let here : (get_or now i none).slot ≡ slot = ap (λ (h : HeldState). h.slot) (get_or_default now i none d lt) ∙ sym is in
    let there : (get_or now i e).slot ≡ slot = ap (λ (h : HeldState). h.slot) (get_or_default now i e d lt) ∙ sym is in
    subst (λ (l : List HeldState). AreCountedTo layout writes (i + 1) held l old more)
    (sym (later_is ∙ ap (set now i) (x_is ∙ ap (λ (n : ℕ). record { slot = n; count = slice_index new n + 1 }) there)))
    (subst (λ (m : List ℕ). AreCountedTo layout writes (i + 1) held (set now i (record { slot = slot; count = slice_index new slot + 1 })) old m)
    (sym (more_is ∙ ap (λ (n : ℕ). slice_set new n (slice_index new n + 1)) there))
    (counted_one layout writes held now old new i (omega (arith, lt, same_length held now was.same)) apart was slot here small wrote (omega (arith, small, long))))

-- or only looked at
pub counted_checked : (layout : Shape) (writes : List Pair) (held now later : List HeldState) (old new more : List ℕ) (i slot : ℕ) (d e x : HeldState)
    → i < length now → AreApart held → AreCountedTo layout writes i held now old new → slot ≡ (get_or now i d).slot → slot < layout.slots → is_written layout writes slot ≡ false
    → later ≡ set now i x → x ≡ get_or now i e → more ≡ new → HasNumber new (get_or now i e)
    → AreCountedTo layout writes (i + 1) held later old more
counted_checked layout writes held now later old new more i slot d e x lt apart was is small not_wrote later_is x_is more_is agrees =
    let here : (get_or now i none).slot ≡ slot = ap (λ (h : HeldState). h.slot) (get_or_default now i none d lt) ∙ sym is in
    let agrees_here : HasNumber new (get_or now i none) = subst (HasNumber new) (get_or_default now i e none lt) agrees in
    subst (λ (l : List HeldState). AreCountedTo layout writes (i + 1) held l old more) (sym (later_is ∙ ap (set now i) x_is ∙ set-get_or now i e))
    (subst (λ (m : List ℕ). AreCountedTo layout writes (i + 1) held now old m) (sym more_is)
    (counted_not layout writes held now old new i (omega (arith, lt, same_length held now was.same)) apart was slot here small not_wrote agrees_here))

held_among : (held : List HeldState) (slot : ℕ) → list_any (λ n. n == slot) (slots_of held) ≡ is_held held slot
held_among [] slot = refl
held_among (h ∷ hs) slot = ap (λ b. (h.slot == slot) || b) (held_among hs slot)

covered_slot : (layout : Shape) (writes : List Pair) (held : List HeldState) (slot : ℕ) → HoldsSlots layout held writes → is_written layout writes slot ≡ true → is_held held slot ≡ true
covered_slot layout [] held slot all some = absurd (true≢false (sym some))
covered_slot layout (p ∷ ps) held slot all some = by (slot_of layout p.0 == slot) refl (covered_slot layout ps held slot (All-tail (λ (q : Pair). IsTrue (is_held held (slot_of layout q.0))) p ps all))
  where
    by : (b : Bool) → (slot_of layout p.0 == slot) ≡ b → (is_written layout ps slot ≡ true → is_held held slot ≡ true) → is_held held slot ≡ true
    by true is rest = subst (λ (n : ℕ). is_held held n ≡ true) (eqb-true (slot_of layout p.0) slot is) (All-head (λ (q : Pair). IsTrue (is_held held (slot_of layout q.0))) p ps all)
    by false is rest = rest (sym (ap (λ b. b || is_written layout ps slot) is) ∙ some)

-- once all that is held was gone through, none is left
pub left_none : (layout : Shape) (writes : List Pair) (i : ℕ) (held : List HeldState) (flags : List Bool) → length held ≤ i → HoldsSlots layout held writes
    → AreLeft layout writes i held flags → AreNone flags
left_none layout writes i held flags through covered left slot = left.those slot ∙ by (is_written layout writes slot) refl
  where
    among : is_among held i slot ≡ is_held held slot
    among = ap (list_any (λ n. n == slot)) (take_all i (slots_of held) (omega (arith, through, length-map held (λ (h : HeldState). h.slot)))) ∙ held_among held slot

    by : (b : Bool) → is_written layout writes slot ≡ b → (not (is_among held i slot) && is_written layout writes slot) ≡ false
    by true is = ap (λ b. not b && is_written layout writes slot) (among ∙ covered_slot layout writes held slot covered is)
    by false is = ap (λ b. not (is_among held i slot) && b) is ∙ and-false (not (is_among held i slot))

-- once all that is held was gone through, the commit is counted
pub counted_all : (layout : Shape) (writes : List Pair) (i : ℕ) (held now : List HeldState) (old new : List ℕ) → length held ≤ i → HoldsSlots layout held writes
    → AreCountedTo layout writes i held now old new → CountsWrites layout writes old new
counted_all layout writes i held now old new through covered was = record {
  slots = was.long;
  touched = λ slot lt. was.counted slot lt ∙ by slot (is_written layout writes slot) refl;
}
  where
    among : (slot : ℕ) → is_among held i slot ≡ is_held held slot
    among slot = ap (list_any (λ n. n == slot)) (take_all i (slots_of held) (omega (arith, through, length-map held (λ (h : HeldState). h.slot)))) ∙ held_among held slot

    by : (slot : ℕ) (b : Bool) → is_written layout writes slot ≡ b
        → cond (is_among held i slot && is_written layout writes slot) (slice_index old slot + 1) (slice_index old slot)
        ≡ cond (is_written layout writes slot) (slice_index old slot + 1) (slice_index old slot)
    by slot true is = ap (λ b. cond (b && is_written layout writes slot) (slice_index old slot + 1) (slice_index old slot)) (among slot ∙ covered_slot layout writes held slot covered is)
    by slot false is = ap (λ b. cond (is_among held i slot && b) (slice_index old slot + 1) (slice_index old slot)) is
        ∙ ap (λ b. cond b (slice_index old slot + 1) (slice_index old slot)) (and-false (is_among held i slot))
        ∙ sym (ap (λ b. cond b (slice_index old slot + 1) (slice_index old slot)) is)
