-- The records of a stream.
use Rattle.std.proofs.Common.{◌≡◌, ℕ, ◌+◌, ◌<◌, ◌≤◌, inl, inr, List, [], ◌∷◌, ◌++◌, length, take, drop, Some, refl, sym, ap, ◌∙◌, append_assoc, arith}
use Rattle.std.specs.List.{AllByRecursion}
use Rattle.std.proofs.lemmas.List.{length-append, take_at, drop_at}
use Rattle.journal_xdr.specs.Items.{Spelled}
use Rattle.journal_xdr.specs.ItemLaws.{some_is}
use Rattle.journal_xdr.specs.Basic.{word}
use Rattle.journal_xdr.specs.BasicLaws.{word_laws, length-word}
use Rattle.journal_records.specs.declared.limits.TheConstants.{RECORD_BYTES}
use Rattle.journal_records.specs.Frames.{framed, frames, IsShort, BeginsTooLong, IsPartial, HasNoRecord, IsStream}

pub word_has : (n : ℕ) → n ≤ RECORD_BYTES → word.Has n
unfolding word
word_has n le = omega (arith, le)

reads_word : (bytes : List ℕ) (n : ℕ) (rest : List ℕ) → Spelled word bytes n rest → word.reading bytes ≡ Some (n, rest)
reads_word bytes n rest s = ap word.reading s.parts ∙ word_laws.again n rest s.has

reads_framed : (bytes found more : List ℕ) → IsShort found → bytes ≡ framed found ++ more → word.reading bytes ≡ Some (length found, found ++ more)
reads_framed bytes found more short is =
    reads_word bytes (length found) (found ++ more) (record { has = word_has (length found) short; parts = is ∙ append_assoc (word.spelling (length found)) found more })

-- ---- where no record is at the front

not_partial : (bytes found more : List ℕ) → IsShort found → bytes ≡ framed found ++ more → IsPartial bytes → ⊥
not_partial bytes found more short is (inl few) =
    let long : length bytes ≡ length (framed found) + length more = ap (λ (b : List ℕ). length b) is ∙ length-append (framed found) more in
    absurd (omega (arith, few, long, length-append (word.spelling (length found)) found, length-word (length found)))
not_partial bytes found more short is (inr rest) =
    let same = some_is (rest.0, rest.1) (length found, found ++ more) (sym (reads_word bytes rest.0 rest.1 rest.2) ∙ reads_framed bytes found more short is) in
    let size : rest.0 ≡ length found = ap (λ (p : ℕ × List ℕ). p.0) same in
    let left : length rest.1 ≡ length (found ++ more) = ap (λ (p : ℕ × List ℕ). length p.1) same in
    absurd (omega (arith, size, left, length-append found more, rest.4))

not_too_long : (bytes found more : List ℕ) → IsShort found → bytes ≡ framed found ++ more → BeginsTooLong bytes → ⊥
not_too_long bytes found more short is rest =
    let same = some_is (rest.0, rest.1) (length found, found ++ more) (sym (reads_word bytes rest.0 rest.1 rest.2) ∙ reads_framed bytes found more short is) in
    let size : rest.0 ≡ length found = ap (λ (p : ℕ × List ℕ). p.0) same in
    absurd (omega (arith, size, short, rest.3))

no_record : (bytes found more : List ℕ) → IsShort found → bytes ≡ framed found ++ more → HasNoRecord bytes → ⊥
no_record bytes found more short is (inl partial) = not_partial bytes found more short is partial
no_record bytes found more short is (inr long) = not_too_long bytes found more short is long

-- ---- one way

same_front : (xs ys more others : List ℕ) → length xs ≡ length ys → xs ++ more ≡ ys ++ others → (xs ≡ ys) × (more ≡ others)
same_front xs ys more others size is = (
  sym (take_at xs more (length xs) refl) ∙ ap (take (length xs)) is ∙ take_at ys others (length xs) (sym size),
  sym (drop_at xs more (length xs) refl) ∙ ap (drop (length xs)) is ∙ drop_at ys others (length xs) (sym size),
)

same_record : (bytes x y more others : List ℕ) → IsShort x → IsShort y → bytes ≡ framed x ++ more → bytes ≡ framed y ++ others → (x ≡ y) × (more ≡ others)
same_record bytes x y more others sx sy one other =
    let same = some_is (length x, x ++ more) (length y, y ++ others) (sym (reads_framed bytes x more sx one) ∙ reads_framed bytes y others sy other) in
    same_front x y more others (ap (λ (p : ℕ × List ℕ). p.0) same) (ap (λ (p : ℕ × List ℕ). p.1) same)

one_way : (rs qs : List (List ℕ)) (bytes rest more : List ℕ) → AllByRecursion IsShort rs → AllByRecursion IsShort qs → HasNoRecord rest → HasNoRecord more
    → bytes ≡ frames rs ++ rest → bytes ≡ frames qs ++ more → (rs ≡ qs) × (rest ≡ more)
one_way [] [] bytes rest more short others ends later one other = (refl, sym one ∙ other)
one_way [] (q ∷ qs) bytes rest more short others ends later one other =
    absurd (no_record rest q (frames qs ++ more) others.0 (sym one ∙ other ∙ append_assoc (framed q) (frames qs) more) ends)
one_way (r ∷ rs) [] bytes rest more short others ends later one other =
    absurd (no_record more r (frames rs ++ rest) short.0 (sym other ∙ one ∙ append_assoc (framed r) (frames rs) rest) later)
one_way (r ∷ rs) (q ∷ qs) bytes rest more short others ends later one other =
    let same = same_record bytes r q (frames rs ++ rest) (frames qs ++ more) short.0 others.0 (one ∙ append_assoc (framed r) (frames rs) rest) (other ∙ append_assoc (framed q) (frames qs) more) in
    let tail = one_way rs qs (frames rs ++ rest) rest more short.1 others.1 ends later refl same.1 in
    (ap (λ (x : List ℕ). x ∷ rs) same.0 ∙ ap (λ (xs : List (List ℕ)). q ∷ xs) tail.0, tail.1)

pub single : (bytes rest more : List ℕ) (rs qs : List (List ℕ)) → IsStream bytes rs rest → IsStream bytes qs more → (rs ≡ qs) × (rest ≡ more)
single bytes rest more rs qs one other = one_way rs qs bytes rest more one.each other.each one.ends other.ends one.is other.is

-- ---- in pieces

frames-append : (rs qs : List (List ℕ)) → frames (rs ++ qs) ≡ frames rs ++ frames qs
frames-append [] qs = refl
frames-append (r ∷ rs) qs = ap (λ (x : List ℕ). framed r ++ x) (frames-append rs qs) ∙ sym (append_assoc (framed r) (frames rs) (frames qs))

each_append : (rs qs : List (List ℕ)) → AllByRecursion IsShort rs → AllByRecursion IsShort qs → AllByRecursion IsShort (rs ++ qs)
each_append [] qs all more = more
each_append (r ∷ rs) qs all more = (all.0, each_append rs qs all.1 more)

pub pieces : (bytes piece rest more : List ℕ) (rs qs : List (List ℕ)) → IsStream bytes rs rest → IsStream (rest ++ piece) qs more → IsStream (bytes ++ piece) (rs ++ qs) more
pieces bytes piece rest more rs qs one later = record {
  is = ap (λ (b : List ℕ). b ++ piece) one.is ∙ append_assoc (frames rs) rest piece ∙ ap (λ (b : List ℕ). frames rs ++ b) later.is
      ∙ sym (append_assoc (frames rs) (frames qs) more) ∙ ap (λ (b : List ℕ). b ++ more) (sym (frames-append rs qs));
  each = each_append rs qs one.each later.each;
  ends = later.ends;
}

-- ---- the room for a record's length

pub room_length : (before writer found : List ℕ) (begun : ℕ) → length before ≡ begun → writer ≡ before ++ word.spelling 0 ++ found → length writer ≡ begun + (4 + length found)
room_length before writer found begun long is =
    let room : length (before ++ word.spelling 0) ≡ begun + 4 = omega (arith, length-append before (word.spelling 0), length-word 0, long) in
    ap (λ (w : List ℕ). length w) is ∙ omega (arith, length-append (before ++ word.spelling 0) found, room)

pub room_filled : (before writer found new : List ℕ) (begun n : ℕ) → length before ≡ begun → writer ≡ before ++ word.spelling 0 ++ found → n ≡ length found → new ≡ take begun writer ++ word.spelling n ++ drop (begun + 4) writer → new ≡ before ++ framed found
room_filled before writer found new begun n long is size put =
    let room : length (before ++ word.spelling 0) ≡ begun + 4 = omega (arith, length-append before (word.spelling 0), length-word 0, long) in
    put
    ∙ ap (λ (k : ℕ). take begun writer ++ word.spelling k ++ drop (begun + 4) writer) size
    ∙ ap (λ (r : List ℕ). r ++ word.spelling (length found) ++ drop (begun + 4) writer) (ap (take begun) (is ∙ append_assoc before (word.spelling 0) found) ∙ take_at before (word.spelling 0 ++ found) begun long)
    ∙ ap (λ (r : List ℕ). before ++ word.spelling (length found) ++ r) (ap (drop (begun + 4)) is ∙ drop_at (before ++ word.spelling 0) found (begun + 4) room)
    ∙ append_assoc before (word.spelling (length found)) found
