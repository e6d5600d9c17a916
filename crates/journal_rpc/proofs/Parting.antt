-- What has come of a stream is spelled in its bytes.
use Rattle.std.proofs.Common.{◌≡◌, ℕ, zero, suc, ◌+◌, ◌-◌, ◌^◌, ◌<◌, ◌≤◌, Bool, true, false, List, [], ◌∷◌, ◌++◌, length, take, get_or, refl, sym, ap, subst, ◌∙◌, append_assoc, arith, ◌⊎◌, inl, inr}
use Rattle.std.specs.Prelude.{◌≢◌, nat_le, nat_lt, ◌==◌, if◌then◌else◌, map}
use Rattle.std.specs.List.{flat_map, AllByRecursion}
use Rattle.std.specs.Int.{w32, from_be_bytes}
use Rattle.std.proofs.lemmas.Bool.{ltb-true, ltb-false, eqb-true, eqb-false}
use Rattle.std.proofs.lemmas.Bool.Decides.{eqb_tells, leb_tells}
use Rattle.std.proofs.lemmas.List.{append-nil, length-append}
use Rattle.std.proofs.lemmas.Nat.{be_bytes_4}
use Rattle.journal_xdr.specs.Basic.{word}
use Rattle.journal_rpc.specs.declared.marking.Marking.{Marking}
use Rattle.journal_rpc.specs.declared.part.Part.{Part}
use Rattle.journal_rpc.specs.declared.part.Part.TheVariants.{Start, First, Second, Third, Body, TooLong}
use Rattle.journal_rpc.specs.Stream.{Stream, fresh, size_of, stream_ended, byte_came, after}
use Rattle.journal_rpc.specs.Cuts.{header, fragment, IsMarked, AreInner, Cut, together, spelled, record_of, cut_text, IsRecord, IsBegun, SpellsStream}
use Rattle.journal_rpc.proofs.Streams.{stream}

-- the bytes are the spellings of whole records and of whole fragments, and then these
abbrev parts : Marking → List Cut → List (List ℕ) → List ℕ → List ℕ
parts m cuts before tail = flat_map (cut_text m) cuts ++ (spelled m before ++ tail)

longer : (m : Marking) (bytes : List ℕ) (b : ℕ) (cuts : List Cut) (before : List (List ℕ)) (tail : List ℕ) → bytes ≡ parts m cuts before tail → bytes ++ b ∷ [] ≡ parts m cuts before (tail ++ b ∷ [])
longer m bytes b cuts before tail e =
    ap (λ (x : List ℕ). x ++ b ∷ []) e ∙ append_assoc (flat_map (cut_text m) cuts) (spelled m before ++ tail) (b ∷ []) ∙ ap (λ (x : List ℕ). flat_map (cut_text m) cuts ++ x) (append_assoc (spelled m before) tail (b ∷ []))

spelled-last : (m : Marking) (before : List (List ℕ)) (f : List ℕ) → spelled m (before ++ f ∷ []) ≡ spelled m before ++ fragment m false f
spelled-last m [] f = append-nil (fragment m false f)
spelled-last m (x ∷ before) f = ap (λ (r : List ℕ). fragment m false x ++ r) (spelled-last m before f) ∙ sym (append_assoc (fragment m false x) (spelled m before) (fragment m false f))

together-last : (before : List (List ℕ)) (f : List ℕ) → together (before ++ f ∷ []) ≡ together before ++ f
together-last [] f = append-nil f
together-last (x ∷ before) f = ap (λ (r : List ℕ). x ++ r) (together-last before f) ∙ sym (append_assoc x (together before) f)

texts-last : (m : Marking) (cuts : List Cut) (c : Cut) → flat_map (cut_text m) (cuts ++ c ∷ []) ≡ flat_map (cut_text m) cuts ++ cut_text m c
texts-last m [] c = append-nil (cut_text m c)
texts-last m (x ∷ cuts) c = ap (λ (r : List ℕ). cut_text m x ++ r) (texts-last m cuts c) ∙ sym (append_assoc (cut_text m x) (flat_map (cut_text m) cuts) (cut_text m c))

records-last : (cuts : List Cut) (c : Cut) → map record_of (cuts ++ c ∷ []) ≡ map record_of cuts ++ record_of c ∷ []
records-last [] c = refl
records-last (x ∷ cuts) c = ap (λ (rs : List (List ℕ)). record_of x ∷ rs) (records-last cuts c)

each-last : (m : Marking) (cuts : List Cut) (c : Cut) → AllByRecursion (IsRecord m) cuts → IsRecord m c → AllByRecursion (IsRecord m) (cuts ++ c ∷ [])
each-last m [] c h f = (f, tt)
each-last m (x ∷ cuts) c h f = (h.0, each-last m cuts c h.1 f)

inner-last : (m : Marking) (before : List (List ℕ)) (f : List ℕ) → AreInner m before → IsMarked m false (length f) → AreInner m (before ++ f ∷ [])
inner-last m [] f h marked = (marked, tt)
inner-last m (x ∷ before) f h marked = (h.0, inner-last m before f h.1 marked)

-- a fragment is whole
whole : (m : Marking) (bytes : List ℕ) (records : List (List ℕ)) (begun got : List ℕ) (last : Bool) (cuts : List Cut) (before : List (List ℕ))
    → bytes ≡ parts m cuts before (fragment m last got) → AllByRecursion (IsRecord m) cuts → records ≡ map record_of cuts → begun ≡ together before ++ got → length (together before) + length got ≤ m.most_bytes
    → AreInner m before → IsMarked m last (length got) → SpellsStream bytes (stream_ended m records begun last)
whole m bytes records begun got true cuts before e each rs is fits inner marked =
    let c : Cut = record { before = before; last = got } in
    record {
      cuts = cuts ++ c ∷ [];
      before = [];
      tail = [];
      is = e ∙ sym (texts-last m cuts c) ∙ sym (append-nil (flat_map (cut_text m) (cuts ++ c ∷ [])));
      each = each-last m cuts c each (omega (arith, fits, length-append (together before) got), inner);
      records = ap (λ (x : List (List ℕ)). x ++ begun ∷ []) rs ∙ ap (λ (x : List ℕ). map record_of cuts ++ x ∷ []) is ∙ sym (records-last cuts c);
      fits = omega arith;
      inner = tt;
      rest = (refl, refl);
    }
whole m bytes records begun got false cuts before e each rs is fits inner marked =
    record {
      cuts = cuts;
      before = before ++ got ∷ [];
      tail = [];
      is = e ∙ ap (λ (x : List ℕ). flat_map (cut_text m) cuts ++ x) (sym (spelled-last m before got) ∙ sym (append-nil (spelled m (before ++ got ∷ []))));
      each = each;
      records = rs;
      fits = rw (together-last before got) (omega (arith, fits, length-append (together before) got));
      inner = inner-last m before got inner marked;
      rest = (is ∙ sym (together-last before got), refl);
    }

some_left : (n : ℕ) → (n ≡ 0 → ⊥) → 0 < n
some_left zero h = absurd (h refl)
some_left (suc n) h = omega arith

more_left : (n : ℕ) → 0 < n → (n ≡ 1 → ⊥) → 1 < n
more_left zero some h = absurd (omega arith)
more_left (suc zero) some h = absurd (h refl)
more_left (suc (suc n)) some h = omega arith

-- what a header says
abbrev last_of : Marking → ℕ → Bool
last_of m n = nat_le m.last n

abbrev size : Marking → ℕ → ℕ
size m n = size_of m (nat_le m.last n) n

-- a header is whole
whole_header : (m : Marking) (bytes : List ℕ) (records : List (List ℕ)) (begun : List ℕ) (n : ℕ) (cuts : List Cut) (before : List (List ℕ)) (big none : Bool)
    → n < 2 ^ 32 → length (together before) ≤ m.most_bytes → nat_lt m.most_bytes (length begun + size m n) ≡ big → (size m n == 0) ≡ none → header m (last_of m n) (size m n) ≡ n → IsMarked m (last_of m n) (size m n) → AreInner m before
    → bytes ≡ parts m cuts before (word.spelling n) → AllByRecursion (IsRecord m) cuts → records ≡ map record_of cuts → begun ≡ together before
    → SpellsStream bytes (if big then stream m records begun TooLong else (if none then stream_ended m records begun (last_of m n) else stream m records begun (Body (last_of m n) (size m n))))
whole_header m bytes records begun n cuts before true none lt fits tb tn h marked inner e each rs is =
    record {
      cuts = cuts;
      before = before;
      tail = word.spelling n;
      is = e;
      each = each;
      records = rs;
      fits = fits;
      inner = inner;
      rest = (n, [], is, sym (append-nil (word.spelling n)), lt, omega (arith, ltb-true _ _ tb, ap (λ (x : List ℕ). length x) is));
    }
whole_header m bytes records begun n cuts before false true lt fits tb tn h marked inner e each rs is =
    let empty : size m n ≡ 0 = eqb-true _ _ tn in
    let text : word.spelling n ≡ fragment m (last_of m n) [] =
    ap (λ k. word.spelling k) (sym h ∙ ap (header m (last_of m n)) empty) ∙ sym (append-nil (word.spelling (header m (last_of m n) 0))) in
    whole m bytes records begun [] (last_of m n) cuts before (e ∙ ap (parts m cuts before) text) each rs (is ∙ sym (append-nil (together before)))
    (omega (arith, ltb-false _ _ tb, ap (λ (x : List ℕ). length x) is)) inner (subst (IsMarked m (last_of m n)) empty marked)
whole_header m bytes records begun n cuts before false false lt fits tb tn h marked inner e each rs is =
    record {
      cuts = cuts;
      before = before;
      tail = word.spelling n;
      is = e;
      each = each;
      records = rs;
      fits = fits;
      inner = inner;
      rest = (
        [],
        is ∙ sym (append-nil (together before)),
        ap (λ k. word.spelling k) (sym h ∙ ap (header m (last_of m n)) (omega arith)) ∙ sym (append-nil (word.spelling (header m (last_of m n) (0 + size m n)))),
        some_left (size m n) (eqb-false _ _ tn),
        omega (arith, ltb-false _ _ tb, ap (λ (x : List ℕ). length x) is),
        subst (IsMarked m (last_of m n)) (omega arith) marked,
      );
    }

-- what a header says is spelled as the header
header_at : (m : Marking) (n : ℕ) (last : Bool) → ((last ≡ true) × (m.last ≤ n)) ⊎ ((last ≡ false) × (n < m.last)) → (header m last (size_of m last n) ≡ n) × IsMarked m last (size_of m last n)
header_at m n true (inl h) = (omega (arith, h.1), tt)
header_at m n true (inr h) = absurd cc
header_at m n false (inl h) = absurd cc
header_at m n false (inr h) = (omega arith, h.1)

are_bytes : (a b c d : ℕ) → a < 256 → b < 256 → c < 256 → d < 256 → (i : ℕ) → get_or (a ∷ b ∷ c ∷ d ∷ []) i 0 < 256
are_bytes a b c d p q r s zero = p
are_bytes a b c d p q r s (suc zero) = q
are_bytes a b c d p q r s (suc (suc zero)) = r
are_bytes a b c d p q r s (suc (suc (suc zero))) = s
are_bytes a b c d p q r s (suc (suc (suc (suc i)))) = omega arith

header_text : (a b c d : ℕ) → a < 256 → b < 256 → c < 256 → d < 256 → word.spelling (from_be_bytes w32 (a ∷ b ∷ c ∷ d ∷ [])) ≡ a ∷ b ∷ c ∷ d ∷ []
unfolding word
header_text a b c d p q r s = be_bytes_4 (a ∷ b ∷ c ∷ d ∷ []) (from_be_bytes w32 (a ∷ b ∷ c ∷ d ∷ [])) refl (are_bytes a b c d p q r s) refl

-- the same fragments are whole, and more has come of the next
grows : (bytes : List ℕ) (s : Stream) (b : ℕ) (begun tail : List ℕ) (p : Part) (h : SpellsStream bytes s) → h.tail ++ b ∷ [] ≡ tail → IsBegun s.marking p (together h.before) begun tail → SpellsStream (bytes ++ b ∷ []) (stream s.marking s.records begun p)
grows bytes s b begun tail p h e rest =
    record { cuts = h.cuts; before = h.before; tail = tail; is = longer s.marking bytes b h.cuts h.before h.tail h.is ∙ ap (parts s.marking h.cuts h.before) e; each = h.each; records = h.records; fits = h.fits; inner = h.inner; rest = rest }

body_grows : (bytes : List ℕ) (s : Stream) (b : ℕ) (last : Bool) (left : ℕ) (h : SpellsStream bytes s) → IsBegun s.marking (Body last left) (together h.before) s.begun h.tail
    → (done : Bool) → ((done ≡ true) × (left ≡ 1)) ⊎ ((done ≡ false) × (left ≢ 1))
    → SpellsStream (bytes ++ b ∷ []) (if done then stream_ended s.marking s.records (s.begun ++ b ∷ []) last else stream s.marking s.records (s.begun ++ b ∷ []) (Body last (left - 1)))
body_grows bytes s b last left h r done is =
    let front = together h.before in
    let got = r.0 ++ b ∷ [] in
    let len = length-append r.0 (b ∷ []) in
    let begun : s.begun ++ b ∷ [] ≡ front ++ got = ap (λ (x : List ℕ). x ++ b ∷ []) r.1 ∙ append_assoc front r.0 (b ∷ []) in
    let tail : h.tail ++ b ∷ [] ≡ word.spelling (header s.marking last (length r.0 + left)) ++ got = ap (λ (x : List ℕ). x ++ b ∷ []) r.2 ∙ append_assoc (word.spelling (header s.marking last (length r.0 + left))) r.0 (b ∷ []) in
    at got front len begun tail done is
  where
    at : (got front : List ℕ) → length got ≡ length r.0 + 1 → s.begun ++ b ∷ [] ≡ together h.before ++ got → h.tail ++ b ∷ [] ≡ word.spelling (header s.marking last (length r.0 + left)) ++ got
        → (done : Bool) → ((done ≡ true) × (left ≡ 1)) ⊎ ((done ≡ false) × (left ≢ 1))
        → SpellsStream (bytes ++ b ∷ []) (if done then stream_ended s.marking s.records (s.begun ++ b ∷ []) last else stream s.marking s.records (s.begun ++ b ∷ []) (Body last (left - 1)))
    at got front len begun tail true (inl is) =
        let text : word.spelling (header s.marking last (length r.0 + left)) ++ got ≡ fragment s.marking last got = ap (λ k. word.spelling (header s.marking last k) ++ got) (omega (arith, len, is.1)) in
        whole s.marking (bytes ++ b ∷ []) s.records (s.begun ++ b ∷ []) got last h.cuts h.before (longer s.marking bytes b h.cuts h.before h.tail h.is ∙ ap (parts s.marking h.cuts h.before) (tail ∙ text)) h.each h.records begun (omega (arith, r.4, len, is.1)) h.inner (subst (IsMarked s.marking last) (omega (arith, len, is.1)) r.5)
    at got front len begun tail true (inr is) = absurd cc
    at got front len begun tail false (inl is) = absurd cc
    at got front len begun tail false (inr is) =
        let more : 1 < left = more_left left r.3 is.1 in
        grows bytes s b (s.begun ++ b ∷ []) (word.spelling (header s.marking last (length r.0 + left)) ++ got) (Body last (left - 1)) h tail
        (got, begun, ap (λ k. word.spelling (header s.marking last k) ++ got) (omega (arith, len, more)), omega (arith, more), omega (arith, r.4, len, more), subst (IsMarked s.marking last) (omega (arith, len, more)) r.5)

-- one more byte
byte_parts : (bytes : List ℕ) (s : Stream) (b : ℕ) → b < 256 → SpellsStream bytes s → SpellsStream (bytes ++ b ∷ []) (byte_came s.marking s.records s.begun s.part b)
byte_parts bytes s b fits h = came s.part h.rest
  where
    came : (p : Part) → IsBegun s.marking p (together h.before) s.begun h.tail → SpellsStream (bytes ++ b ∷ []) (byte_came s.marking s.records s.begun p b)
    came Start r = grows bytes s b s.begun (b ∷ []) (First b) h (ap (λ (t : List ℕ). t ++ b ∷ []) r.1) (r.0, refl, fits)
    came (First x) r = grows bytes s b s.begun (x ∷ b ∷ []) (Second x b) h (ap (λ (t : List ℕ). t ++ b ∷ []) r.1) (r.0, refl, r.2, fits)
    came (Second x y) r = grows bytes s b s.begun (x ∷ y ∷ b ∷ []) (Third x y b) h (ap (λ (t : List ℕ). t ++ b ∷ []) r.1) (r.0, refl, r.2, r.3, fits)
    came (Third x y z) r =
        let n = from_be_bytes w32 (x ∷ y ∷ z ∷ b ∷ []) in
        let text : h.tail ++ b ∷ [] ≡ word.spelling n = ap (λ (t : List ℕ). t ++ b ∷ []) r.1 ∙ sym (header_text x y z b r.2 r.3 r.4 fits) in
        let lt : n < 2 ^ 32 = omega (arith, r.2, r.3, r.4, fits) in
        let said = header_at s.marking n (last_of s.marking n) (leb_tells s.marking.last n) in
        whole_header s.marking (bytes ++ b ∷ []) s.records s.begun n h.cuts h.before (nat_lt s.marking.most_bytes (length s.begun + size s.marking n)) (size s.marking n == 0) lt h.fits refl refl said.0 said.1 h.inner
        (longer s.marking bytes b h.cuts h.before h.tail h.is ∙ ap (parts s.marking h.cuts h.before) text) h.each h.records r.0
    came (Body last left) r = body_grows bytes s b last left h r (left == 1) (eqb_tells left 1)
    came TooLong r =
        grows bytes s b s.begun (word.spelling r.0 ++ (r.1 ++ b ∷ [])) TooLong h (ap (λ (t : List ℕ). t ++ b ∷ []) r.3 ∙ append_assoc (word.spelling r.0) r.1 (b ∷ [])) (r.0, r.1 ++ b ∷ [], r.2, refl, r.4, r.5)

pub all_parts : (bytes : List ℕ) (s : Stream) (more : List ℕ) → ((i : ℕ) → get_or more i 0 < 256) → SpellsStream bytes s → SpellsStream (bytes ++ more) (after s more)
unfolding after
all_parts bytes s [] fits h = subst (λ (x : List ℕ). SpellsStream x s) (sym (append-nil bytes)) h
all_parts bytes s (b ∷ more) fits h =
    subst (λ (x : List ℕ). SpellsStream x (after (byte_came s.marking s.records s.begun s.part b) more)) (append_assoc bytes (b ∷ []) more)
    (all_parts (bytes ++ b ∷ []) (byte_came s.marking s.records s.begun s.part b) more (λ i. fits (suc i)) (byte_parts bytes s b (fits 0) h))

-- the bytes of a front are bytes
pub front_fits : (n : ℕ) (bytes : List ℕ) → ((i : ℕ) → get_or bytes i 0 < 256) → (i : ℕ) → get_or (take n bytes) i 0 < 256
front_fits zero bytes fits i = omega arith
front_fits (suc n) [] fits i = omega arith
front_fits (suc n) (b ∷ bytes) fits zero = fits 0
front_fits (suc n) (b ∷ bytes) fits (suc i) = front_fits n bytes (λ j. fits (suc j)) i

nothing : (m : Marking) → SpellsStream [] (fresh m)
nothing m = record { cuts = []; before = []; tail = []; is = refl; each = tt; records = refl; fits = omega arith; inner = tt; rest = (refl, refl) }

pub is_spelled : (m : Marking) (bytes : List ℕ) → ((i : ℕ) → get_or bytes i 0 < 256) → SpellsStream bytes (after (fresh m) bytes)
is_spelled m bytes fits = all_parts [] (fresh m) bytes fits (nothing m)
