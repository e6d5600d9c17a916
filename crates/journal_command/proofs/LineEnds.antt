-- Where a line ends, in what was taken of the input piece by piece.
use Rattle.std.proofs.Common.{◌≡◌, ◌≢◌, ℕ, zero, suc, ◌+◌, ◌-◌, ◌<◌, ◌≤◌, Bool, true, false, cond, not, List, [], ◌∷◌, ◌++◌, length, Option, Some, None, refl, sym, ap, ◌∙◌, arith, take, drop, subst, get_or, append_assoc, append-nil, length-append, take-append-drop}
use Rattle.std.specs.Prelude.{if◌then◌else◌}
use Rattle.std.specs.Prelude.{◌==◌, IfSome, nat_lt, min, position}
use Rattle.std.specs.List.{position_or_len}
use Rattle.std.specs.Io.BufRead.{drop_through}
use Rattle.std.specs.Io.KnownBytes.{Keeps, Consumes, IsAtEnd, prepend_known}
use Rattle.std.proofs.KnownBytes.{Consumes-nil, Consumes-trans}
use Rattle.std.proofs.lemmas.Bool.Decides.{nat_tests}
use Rattle.std.proofs.lemmas.List.{take_all, take_more, take_min, length-take, get_or-take}
use Rattle.std.proofs.lemmas.List.Elements.{recursion_from_All}
use Rattle.std.proofs.lemmas.List.Quantifiers.{position-Some}
use Rattle.std.proofs.lemmas.List.Sums.{fails_before_first}
use Rattle.journal_command.specs.declared.line.Piece.{Piece}
use Rattle.journal_command.specs.declared.line.Piece.TheVariants as pieces
use Rattle.journal_command.specs.Lines.{LinesState, first_line, kept, TakesLine, Advances, NoBreak, TakesBytes, TakesPiece, ShowsPiece}

-- ---- what is shown of the input

abbrev pub is_break : ℕ → Bool
is_break b = b == 10

other : (x : ℕ) → x ≢ 10 → is_break x ≡ false
other x h = grind (arith, nat_tests)

unbroken : (xs : List ℕ) → ((k d : ℕ) → k < length xs → is_break (get_or xs k d) ≡ false) → NoBreak xs
unbroken xs h = recursion_from_All (λ b. b ≢ 10) xs (λ k d lt is. let none = h k d lt in grind (arith, nat_tests))

pub shows_whole : (xs : List ℕ) (n : ℕ) → position is_break xs ≡ Some n → ShowsPiece xs n pieces.Whole
shows_whole xs n is =
    let (low, here, before) = position-Some is_break xs n 0 is in
    let newline : get_or xs n 0 ≡ 10 = grind (arith, nat_tests) in (
      take_more xs n 0 low ∙ ap (λ b. take n xs ++ b ∷ []) newline,
      unbroken (take n xs) (λ k d lt.
          let below : k < n = omega (arith, lt, length-take n xs) in
          ap is_break (get_or-take n xs k d below) ∙ (position-Some is_break xs n d is).2 k below),
    )

pub shows_part : (xs : List ℕ) → position is_break xs ≡ None → 0 < length xs → ShowsPiece xs (length xs) pieces.Part
shows_part xs is some = (some, refl, unbroken xs (λ k d lt. fails_before_first is_break xs k d (omega (arith, lt, late (nat_lt (position_or_len is_break xs) (length xs)) refl is))))
  where
    late : (t : Bool) → nat_lt (position_or_len is_break xs) (length xs) ≡ t → cond t (Some (position_or_len is_break xs)) None ≡ None → length xs ≤ position_or_len is_break xs
    late true e h = cc h
    late false e h = grind (arith, nat_tests)

-- where a read showed nothing, there was no more
pub end_from_shown : (old mid : Option (List ℕ)) (shown buffer : List ℕ) → Keeps old mid → IfSome mid (λ xs. length shown ≡ 0 → xs ≡ []) → IfSome mid (λ _. length shown ≤ length buffer)
    → buffer ≡ [] → IsAtEnd old
end_from_shown None mid shown buffer kept end fits none = tt
end_from_shown (Some xs) None shown buffer kept end fits none = absurd kept
end_from_shown (Some xs) (Some ys) shown buffer kept end fits none = sym kept ∙ end (omega (arith, fits, ap length none))

-- ---- pieces of a line

line_before : (xs ys : List ℕ) → NoBreak xs → first_line (xs ++ 10 ∷ ys) ≡ xs
line_before [] ys h = refl
line_before (x ∷ xs) ys h = ap (λ t. cond t [] (x ∷ first_line (xs ++ 10 ∷ ys))) (other x h.0) ∙ ap (λ l. x ∷ l) (line_before xs ys h.1)

rest_behind : (xs ys : List ℕ) → NoBreak xs → drop_through 10 (xs ++ 10 ∷ ys) ≡ ys
rest_behind [] ys h = refl
rest_behind (x ∷ xs) ys h = ap (λ t. cond t (xs ++ 10 ∷ ys) (drop_through 10 (xs ++ 10 ∷ ys))) (other x h.0) ∙ rest_behind xs ys h.1

last_line : (xs : List ℕ) → NoBreak xs → (first_line xs ≡ xs) × (drop_through 10 xs ≡ [])
last_line [] h = (refl, refl)
last_line (x ∷ xs) h =
    let (line, rest) = last_line xs h.1 in
    (ap (λ t. cond t [] (x ∷ first_line xs)) (other x h.0) ∙ ap (λ l. x ∷ l) line, ap (λ t. cond t xs (drop_through 10 xs)) (other x h.0) ∙ rest)

no_break_join : (xs ys : List ℕ) → NoBreak xs → NoBreak ys → NoBreak (xs ++ ys)
no_break_join [] ys p q = q
no_break_join (x ∷ xs) ys p q = (p.0, no_break_join xs ys p.1 q)

take-join : (n : ℕ) (xs ys : List ℕ) → take n (take n xs ++ ys) ≡ take n (xs ++ ys)
take-join zero xs ys = refl
take-join (suc n) [] ys = refl
take-join (suc n) (x ∷ xs) ys = ap (λ l. x ∷ l) (take-join n xs ys)

kept-join : (line xs ys now : List ℕ) → line ≡ kept xs → now ≡ kept (line ++ ys) → now ≡ kept (xs ++ ys)
unfolding kept
kept-join line xs ys now was is = is ∙ ap (λ l. take 20001 (l ++ ys)) was ∙ take-join 20001 xs ys

kept_none : (xs : List ℕ) → length (kept xs) ≡ 0 → xs ≡ []
unfolding kept
kept_none [] h = refl
kept_none (x ∷ xs) h = absurd (omega (arith, h, length-take 20001 (x ∷ xs)))

kept_some : (xs : List ℕ) → 0 < length (kept xs) → 0 < length xs
unfolding kept
kept_some xs h = omega (arith, h, length-take 20001 xs)

-- Bytes of the line were taken since old
pub record HasTaken (old new : LinesState) : Type 0 where
  pub taken : List ℕ
  pub so_far : TakesBytes taken taken (record { left = old.left; line = [] }) new

pub none_taken : (old new : LinesState) → new.line ≡ [] → new.left ≡ old.left → HasTaken old new
unfolding kept
none_taken old new empty same = record {
  taken = [];
  so_far = record { unbroken = tt; line = empty; left = subst (λ (o : Option (List ℕ)). Consumes old.left o []) (sym same) (Consumes-nil old.left) };
}

pieces_join : (a b c : LinesState) (xs ys all : List ℕ) → TakesBytes xs xs a b → TakesBytes ys all b c → TakesBytes (xs ++ ys) (xs ++ all) a c
pieces_join a b c xs ys all p q = record {
  unbroken = no_break_join xs ys p.unbroken q.unbroken;
  line = kept-join b.line (a.line ++ xs) ys c.line p.line q.line ∙ ap kept (append_assoc a.line xs ys);
  left = Consumes-trans a.left b.left c.left xs all p.left q.left;
}

pub taken_more : (old mid new : LinesState) → HasTaken old mid → TakesPiece mid new pieces.Part → HasTaken old new
taken_more old mid new h (bytes, some, piece) = record { taken = h.taken ++ bytes; so_far = pieces_join _ mid new h.taken bytes bytes h.so_far piece }

pub taken_whole : (old mid new : LinesState) → HasTaken old mid → TakesPiece mid new pieces.Whole → Advances old new true
taken_whole old mid new h (bytes, piece) = by_case old.left new.left whole.left
  where
    line : List ℕ
    line = h.taken ++ bytes

    whole : TakesBytes line (h.taken ++ (bytes ++ 10 ∷ [])) (record { left = old.left; line = [] }) new
    whole = pieces_join _ mid new h.taken bytes (bytes ++ 10 ∷ []) h.so_far piece

    by_case : (a b : Option (List ℕ)) → Consumes a b (h.taken ++ (bytes ++ 10 ∷ [])) → IfSome a (λ xs. TakesLine xs new.line b)
    by_case None b left = tt
    by_case (Some xs) None left = absurd left
    by_case (Some xs) (Some ys) left =
        let all : xs ≡ line ++ 10 ∷ ys = left ∙ rw (append_assoc, append_assoc, append_assoc) refl in
        record {
          some = omega (arith, ap length all, length-append line (10 ∷ ys));
          line = whole.line ∙ ap kept (sym (ap first_line all ∙ line_before line ys whole.unbroken));
          left = ap (λ l. Some l) (sym (ap (drop_through 10) all ∙ rest_behind line ys whole.unbroken));
        }

-- the input ended: there was a line where bytes were taken
pub taken_end : (old mid new : LinesState) (is_empty : Bool) → HasTaken old mid → TakesPiece mid new pieces.End → is_empty ≡ (length new.line == 0) → Advances old new (not is_empty)
taken_end old mid new is_empty start (piece, end) test = by_test is_empty test
  where
    taken : List ℕ
    taken = start.taken

    h : TakesBytes taken taken (record { left = old.left; line = [] }) mid
    h = start.so_far

    is_kept : new.line ≡ kept taken
    is_kept = kept-join mid.line taken [] new.line h.line piece.line ∙ ap kept (append-nil taken)

    all : (a b c : Option (List ℕ)) → Consumes a b taken → IsAtEnd b → Consumes b c [] → IfSome a (λ xs. (xs ≡ taken) × (c ≡ Some []))
    all None b c p e q = tt
    all (Some xs) None c p e q = absurd p
    all (Some xs) (Some ys) None p e q = absurd q
    all (Some xs) (Some ys) (Some zs) p e q = (p ∙ ap (λ l. taken ++ l) e ∙ append-nil taken, ap (λ l. Some l) (sym q ∙ e))

    told : (a : Option (List ℕ)) (P : List ℕ → Type 0) → ((xs : List ℕ) → xs ≡ taken → new.left ≡ Some [] → P xs) → IfSome a (λ xs. (xs ≡ taken) × (new.left ≡ Some [])) → IfSome a P
    told None P f h = tt
    told (Some xs) P f h = f xs h.0 h.1

    by_test : (t : Bool) → t ≡ (length new.line == 0) → Advances old new (not t)
    by_test true is =
        let none : taken ≡ [] = kept_none taken (sym (ap length is_kept) ∙ grind (arith, nat_tests)) in
        told old.left _ (λ xs same rest. (same ∙ none, rest)) (all old.left mid.left new.left h.left end piece.left)
    by_test false is =
        let (line, behind) = last_line taken h.unbroken in
        told old.left _ (λ xs same rest. record {
          some = omega (arith, kept_some taken (grind (arith, nat_tests, ap length is_kept)), ap length same);
          line = is_kept ∙ ap kept (sym (ap first_line same ∙ line));
          left = rest ∙ ap (λ l. Some l) (sym (ap (drop_through 10) same ∙ behind));
        }) (all old.left mid.left new.left h.left end piece.left)

-- ---- a piece, from what was shown

kept_more : (n : ℕ) (l p : List ℕ) → length l ≤ n → l ++ take (n - length l) p ≡ take n (l ++ p)
kept_more n [] p fits = let all : n - 0 ≡ n = omega arith in ap (λ k. take k p) all
kept_more zero (x ∷ l) p fits = absurd (omega arith)
kept_more (suc n) (x ∷ l) p fits =
    let less : suc n - suc (length l) ≡ n - length l = omega arith in
    ap (λ k. x ∷ (l ++ take k p)) less ∙ ap (λ t. x ∷ t) (kept_more n l p (omega arith))

consumes_kept : (a b c : Option (List ℕ)) (bs : List ℕ) → Keeps a b → Consumes b c bs → Consumes a c bs
consumes_kept None b c bs k p = tt
consumes_kept (Some x) None c bs k p = absurd k
consumes_kept (Some x) (Some y) None bs k p = absurd p
consumes_kept (Some x) (Some y) (Some z) bs k p = sym k ∙ p

-- what a reader has left, behind bytes that its buffer lost
pub consumed : (known later : Option (List ℕ)) (size size' n : ℕ) (shown rest : List ℕ) → later ≡ known → size' ≡ size → rest ≡ drop n shown
    → Consumes (if size == 0 then None else prepend_known shown known) (if size' == 0 then None else prepend_known rest later) (take n shown)
consumed known later size size' n shown rest same sized left = rw (same, sized, left) (by_test (size == 0) known)
  where
    by_test : (t : Bool) (o : Option (List ℕ)) → Consumes (cond t None (prepend_known shown o)) (cond t None (prepend_known (drop n shown) o)) (take n shown)
    by_test true o = tt
    by_test false None = tt
    by_test false (Some ys) = ap (λ l. l ++ ys) (sym (take-append-drop n shown)) ∙ append_assoc (take n shown) (drop n shown) ys

pub takes_piece : (piece : Piece) (before mid after : Option (List ℕ)) (shown line now : List ℕ) (n room : ℕ) → Keeps before mid → (shown ≡ [] → IsAtEnd before)
    → Consumes mid after (take (n + 1) shown) → ShowsPiece shown n piece → length line ≤ 20001 → room ≡ 20001 - length line
    → now ≡ line ++ take (min room (length (take n shown))) (take n shown)
    → TakesPiece (record { left = before; line = line }) (record { left = after; line = now }) piece
unfolding kept
takes_piece piece before mid after shown line now n room keeps end consumes shows fits free is = by_piece piece shows
  where
    all : Consumes before after (take (n + 1) shown)
    all = consumes_kept before mid after _ keeps consumes

    is_kept : now ≡ take 20001 (line ++ take n shown)
    is_kept = is ∙ ap (λ l. line ++ l) (take_min room (take n shown)) ∙ ap (λ k. line ++ take k (take n shown)) free ∙ kept_more 20001 line (take n shown) fits

    none : n ≡ 0 → shown ≡ [] → take n shown ≡ []
    none e h = ap (λ k. take k shown) e

    by_piece : (p : Piece) → ShowsPiece shown n p → TakesPiece (record { left = before; line = line }) (record { left = after; line = now }) p
    by_piece pieces.Part (some, whole, none_in) =
        let here : take n shown ≡ shown = take_all n shown (omega (arith, whole)) in
        let beyond : take (n + 1) shown ≡ shown = take_all (n + 1) shown (omega (arith, whole)) in
        (shown, omega (arith, whole, some), record { unbroken = none_in; line = is_kept ∙ ap (λ l. take 20001 (line ++ l)) here; left = subst (Consumes before after) beyond all })
    by_piece pieces.Whole (newline, none_in) =
        (take n shown, record { unbroken = none_in; line = is_kept; left = subst (Consumes before after) newline all })
    by_piece pieces.End (zero', nothing) =
        (record { unbroken = tt; line = is_kept ∙ ap (λ l. take 20001 (line ++ l)) (none zero' nothing); left = subst (Consumes before after) (ap (take (n + 1)) nothing ∙ take_all (n + 1) [] (omega arith)) all }, end nothing)
