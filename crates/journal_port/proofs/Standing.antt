-- The records of a connection stand after their lengths.
use Rattle.std.proofs.Common.{◌≡◌, ◌≢◌, ℕ, ◌+◌, ◌-◌, ◌^◌, ◌<◌, ◌≤◌, nat_le, Bool, true, false, inl, inr, List, [], ◌∷◌, ◌++◌, length, refl, sym, ap, subst, ◌∙◌, append_assoc, arith}
use Rattle.std.specs.Prelude.{map}
use Rattle.std.specs.List.{flat_map, AllByRecursion}
use Rattle.journal_xdr.specs.Items.{Spelled}
use Rattle.journal_xdr.specs.Basic.{word}
use Rattle.journal_rpc.specs.declared.marking.Marking.{Marking}
use Rattle.journal_rpc.specs.declared.part.Part.{Part}
use Rattle.journal_rpc.specs.declared.part.Part.TheVariants.{Start, First, Second, Third, Body, TooLong}
use Rattle.journal_rpc.specs.Markings.{whole_records}
use Rattle.journal_rpc.specs.Stream.{Stream, fresh, after, size_of, IsBetween}
use Rattle.journal_rpc.specs.Cuts.{header, fragment, AreInner, Cut, together, spelled, record_of, cut_text, IsRecord, IsBegun, SpellsStream}
use Rattle.journal_records.specs.declared.limits.TheConstants.{RECORD_BYTES}
use Rattle.journal_records.specs.Frames.{framed, frames, IsShort, IsPartial, BeginsTooLong, HasNoRecord, IsStream}
use Rattle.journal_protocol.proofs.Behind.{marking_stays}

abbrev m : Marking
m = whole_records RECORD_BYTES

is_word : (n : ℕ) → n < 2 ^ 32 → word.Has n
unfolding word
is_word n lt = lt

-- no fragment stands before the last
none_inner : (before : List (List ℕ)) → AreInner m before → before ≡ []
none_inner [] inner = refl
none_inner (f ∷ before) inner = absurd (omega (arith, inner.0))

one_framed : (c : Cut) → IsRecord m c → (cut_text m c ≡ framed (record_of c)) × IsShort (record_of c)
one_framed c is =
    let none = none_inner c.before is.1 in
    let size : 0 + length c.last ≡ length c.last = omega arith in (
      ap (λ (b : List (List ℕ)). spelled m b ++ fragment m true c.last) none
          ∙ ap (λ (n : ℕ). word.spelling n ++ c.last) size
          ∙ ap (λ (b : List (List ℕ)). framed (together b ++ c.last)) (sym none),
      is.0,
    )

all_framed : (cuts : List Cut) → AllByRecursion (IsRecord m) cuts → (flat_map (cut_text m) cuts ≡ frames (map record_of cuts)) × AllByRecursion IsShort (map record_of cuts)
all_framed [] each = (refl, tt)
all_framed (c ∷ cuts) each =
    let one = one_framed c each.0 in
    let others = all_framed cuts each.1 in
    (ap (λ (t : List ℕ). t ++ flat_map (cut_text m) cuts) one.0 ∙ ap (λ (t : List ℕ). framed (record_of c) ++ t) others.0, (one.1, others.1))

-- ---- what has come of the next

few : (part : Part) (tail : List ℕ) → length tail < 4 → part ≢ TooLong → HasNoRecord tail × (part ≢ TooLong → IsPartial tail) × (part ≡ TooLong → BeginsTooLong tail)
few part tail lt short = (inl (inl lt), λ s. inl lt, λ long. absurd (short long))

rest_is : (part : Part) (begun tail : List ℕ) → IsBegun m part [] begun tail → HasNoRecord tail × (part ≢ TooLong → IsPartial tail) × (part ≡ TooLong → BeginsTooLong tail)
rest_is Start begun tail r = few Start tail (omega (arith, ap (λ (t : List ℕ). length t) r.1)) (λ e. absurd cc)
rest_is (First a) begun tail r = few (First a) tail (omega (arith, ap (λ (t : List ℕ). length t) r.1)) (λ e. absurd cc)
rest_is (Second a b) begun tail r = few (Second a b) tail (omega (arith, ap (λ (t : List ℕ). length t) r.1)) (λ e. absurd cc)
rest_is (Third a b c) begun tail r = few (Third a b c) tail (omega (arith, ap (λ (t : List ℕ). length t) r.1)) (λ e. absurd cc)
rest_is (Body last left) begun tail (got, is, text, some, fits, marked) = (inl partial, λ s. partial, λ long. absurd cc)
  where
    size : 0 + (length got + left) ≡ length got + left
    size = omega arith

    same : (l : Bool) → word.spelling (header m l (length got + left)) ++ got ≡ word.spelling (length got + left) ++ got
    same true = ap (λ (n : ℕ). word.spelling n ++ got) size
    same false = ap (λ (n : ℕ). word.spelling n ++ got) size

    partial : IsPartial tail
    partial = inr (length got + left, got, record { has = is_word (length got + left) (omega (arith, fits)); parts = text ∙ same last }, omega (arith, fits), omega (arith, some))
rest_is TooLong begun tail (head, more, is, text, lt, above) = (inr long, λ short. absurd (short refl), λ e. long)
  where
    size : (b : Bool) → size_of m b head ≡ head
    size true = omega arith
    size false = refl

    long : BeginsTooLong tail
    long = (head, more, record { has = is_word head lt; parts = text }, omega (arith, above, size (nat_le 0 head)))

-- a stream by this marking
stands : (bytes : List ℕ) (s : Stream) → s.marking ≡ m → SpellsStream bytes s
    → (rest : List ℕ) × IsStream bytes s.records rest × (IsBetween s → rest ≡ []) × (s.part ≢ TooLong → IsPartial rest) × (s.part ≡ TooLong → BeginsTooLong rest)
stands bytes s e h =
    let each = subst (λ (k : Marking). AllByRecursion (IsRecord k) h.cuts) e h.each in
    let none = none_inner h.before (subst (λ (k : Marking). AreInner k h.before) e h.inner) in
    let all = all_framed h.cuts each in
    let begun : IsBegun m s.part [] s.begun h.tail = subst (λ (b : List (List ℕ)). IsBegun m s.part (together b) s.begun h.tail) none (subst (λ (k : Marking). IsBegun k s.part (together h.before) s.begun h.tail) e h.rest) in
    let rest = rest_is s.part s.begun h.tail begun in (
      h.tail,
      record {
        is = h.is
            ∙ ap (λ (k : Marking). flat_map (cut_text k) h.cuts ++ (spelled k h.before ++ h.tail)) e
            ∙ ap (λ (b : List (List ℕ)). flat_map (cut_text m) h.cuts ++ (spelled m b ++ h.tail)) none
            ∙ ap (λ (t : List ℕ). t ++ h.tail) (all.0 ∙ ap (λ (rs : List (List ℕ)). frames rs) (sym h.records));
        each = subst (AllByRecursion IsShort) (sym h.records) all.1;
        ends = rest.0;
      },
      λ between. between_none between.part begun,
      rest.1,
      rest.2,
    )
  where
    between_none : s.part ≡ Start → IsBegun m s.part [] s.begun h.tail → h.tail ≡ []
    between_none start r = (subst (λ (p : Part). IsBegun m p [] s.begun h.tail) start r).1

pub records_stand : (bytes : List ℕ) → SpellsStream bytes (after (fresh m) bytes)
    → (rest : List ℕ) × IsStream bytes (after (fresh m) bytes).records rest × (IsBetween (after (fresh m) bytes) → rest ≡ []) × ((after (fresh m) bytes).part ≢ TooLong → IsPartial rest) × ((after (fresh m) bytes).part ≡ TooLong → BeginsTooLong rest)
records_stand bytes h = stands bytes (after (fresh m) bytes) (marking_stays (fresh m) bytes) h
