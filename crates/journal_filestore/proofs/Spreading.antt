-- Bytes that lie in blocks one behind another.
use Rattle.std.proofs.Common.{ℕ, ◌≡◌, ◌≤◌, ◌+◌, ◌-◌, ◌⊎◌, inl, inr, List, [], ◌++◌, length, take, drop, replicate, slice_range, sym, ap, subst, ◌∙◌, arith, rules, append_assoc, length-append}
use Rattle.std.proofs.lemmas.List.{same_lists, places, append-nil, length-take-le, length-replicate}
use Rattle.journal_filestore.specs.Operations.{placed, with_data}
use Rattle.journal_filestore.proofs.Placing.{with_data-placed, length-placed}

-- a list is its beginning, a piece and its end
pub in_three : (xs : List ℕ) (from to : ℕ) → from ≤ to → to ≤ length xs → take from xs ++ slice_range xs from to ++ drop to xs ≡ xs
in_three xs from to less fits = same_lists _ _ (search (rules, places)) (λ i d h. grind (arith, places))

-- a piece of what begins a list
pub piece_of_front : (xs ys : List ℕ) (from to : ℕ) → to ≤ length xs → slice_range (xs ++ ys) from to ≡ slice_range xs from to
piece_of_front xs ys from to fits = same_lists _ _ (search (rules, places)) (λ i d h. grind (arith, places))

-- a piece that reaches the end
pub piece_to_end : (xs : List ℕ) (from to : ℕ) → from ≤ length xs → to ≡ length xs → slice_range xs from to ≡ drop from xs
piece_to_end xs from to low is = same_lists _ _ (search (rules, places)) (λ i d h. grind (arith, places))

-- a piece of the middle of three lists
pub piece_of_middle : (xs ys zs : List ℕ) (k from to : ℕ) → length xs ≡ k → to ≤ length ys → slice_range ys from to ≡ slice_range (xs ++ ys ++ zs) (k + from) (k + to)
piece_of_middle xs ys zs k from to whole fits = same_lists _ _ (search (rules, places)) (λ i d h. grind (arith, places))

front_of : (xs ys zs : List ℕ) (k offset : ℕ) → length xs ≡ k → offset ≤ length ys → take (k + offset) (xs ++ ys ++ zs) ≡ xs ++ take offset ys
front_of xs ys zs k offset whole fits = same_lists _ _ (search (rules, places)) (λ i d h. grind (arith, places))

back_of : (xs ys zs : List ℕ) (k end : ℕ) → length xs ≡ k → end ≤ length ys → drop (k + end) (xs ++ ys ++ zs) ≡ drop end ys ++ zs
back_of xs ys zs k end whole fits = same_lists _ _ (search (rules, places)) (λ i d h. grind (arith, places))

-- data placed in the middle of three lists are placed in all
pub with_data-middle : (xs ys zs bs : List ℕ) (k offset : ℕ) → length xs ≡ k → offset + length bs ≤ length ys
    → xs ++ with_data ys offset bs ++ zs ≡ with_data (xs ++ ys ++ zs) (k + offset) bs
with_data-middle xs ys zs bs k offset whole fits =
    ap (λ v. v ++ zs) (sym (append_assoc xs (take offset ys ++ bs) (drop (offset + length bs) ys)))
    ∙ append_assoc (xs ++ (take offset ys ++ bs)) (drop (offset + length bs) ys) zs
    ∙ ap (λ v. v ++ (drop (offset + length bs) ys ++ zs)) (sym (append_assoc xs (take offset ys) bs))
    ∙ ap (λ v. v ++ bs ++ (drop (offset + length bs) ys ++ zs)) (sym (front_of xs ys zs k offset whole (omega (arith, fits))))
    ∙ ap (λ v. take (k + offset) (xs ++ ys ++ zs) ++ bs ++ v) (sym (back_of xs ys zs k (offset + length bs) whole fits))
    ∙ ap (λ n. take (k + offset) (xs ++ ys ++ zs) ++ bs ++ drop n (xs ++ ys ++ zs)) (let e : k + (offset + length bs) ≡ k + offset + length bs = omega arith in e)

-- a list that was cut off in its middle
cut_front : (xs ys zs : List ℕ) (k size : ℕ) → length xs ≡ k → k ≤ size → size ≤ k + length ys → take size (xs ++ ys ++ zs) ≡ xs ++ take (size - k) ys
cut_front xs ys zs k size whole from to = same_lists _ _ (search (rules, places)) (λ i d h. grind (arith, places))

cut_content : (c : List ℕ) (n size : ℕ) → size ≤ length c → take size (c ++ replicate n 0) ≡ take size c
cut_content c n size less = same_lists _ _ (search (rules, places)) (λ i d h. grind (arith, places))

pub cut_off : (xs ys zs c : List ℕ) (k n b size : ℕ) → length xs ≡ k → length ys ≡ b → k ≤ size → size ≤ k + b → size ≤ length c → xs ++ ys ++ zs ≡ c ++ replicate n 0
    → xs ++ (take (size - k) ys ++ replicate (length ys - (size - k)) 0) ++ [] ≡ take size c ++ replicate (k + b - length (take size c)) 0
cut_off xs ys zs c k n b size whole one from to less is =
    append-nil (xs ++ (take (size - k) ys ++ replicate (length ys - (size - k)) 0))
    ∙ sym (append_assoc xs (take (size - k) ys) (replicate (length ys - (size - k)) 0))
    ∙ ap (λ v. v ++ replicate (length ys - (size - k)) 0) (sym (cut_front xs ys zs k size whole from (omega (arith, to, one))) ∙ ap (take size) is ∙ cut_content c n size less)
    ∙ ap (λ r. take size c ++ replicate r 0) (let front : length (take size c) ≡ size = length-take-le size c less in let e : length ys - (size - k) ≡ k + b - length (take size c) = omega (arith, one, from, to, front) in e)

-- zeros behind what ends with zeros
pub more_zeros : (c : List ℕ) (room more size : ℕ) → length c ≤ room → length c ≤ size → size ≤ room + more
    → (c ++ replicate (room - length c) 0) ++ replicate more 0 ++ [] ≡ (c ++ replicate (size - length c) 0) ++ replicate (room + more - length (c ++ replicate (size - length c) 0)) 0
more_zeros c room more size small grows fits = same_lists _ _ (search (rules, places)) (λ i d h. grind (arith, places))

-- the blocks in the middle, and zeros behind them where they are the last
pub spread : (xs ys zs c : List ℕ) (room more : ℕ) → xs ++ ys ++ zs ≡ c ++ replicate (room - length c) 0 → length c ≤ room → (zs ≡ []) ⊎ (more ≡ 0)
    → xs ++ (ys ++ replicate more 0) ++ zs ≡ c ++ replicate (room + more - length c) 0
spread xs ys zs c room more is small (inl last) =
    ap (λ v. xs ++ (ys ++ replicate more 0) ++ v) last
    ∙ append-nil (xs ++ (ys ++ replicate more 0))
    ∙ sym (append_assoc xs ys (replicate more 0))
    ∙ ap (λ v. v ++ replicate more 0) (sym (append-nil (xs ++ ys)) ∙ ap (λ v. xs ++ ys ++ v) (sym last) ∙ is)
    ∙ behind c (room - length c) more (room + more - length c) (omega (arith, small))
  where
    behind : (c : List ℕ) (a b k : ℕ) → a + b ≡ k → (c ++ replicate a 0) ++ replicate b 0 ≡ c ++ replicate k 0
    behind c a b k same = same_lists _ _ (search (rules, places)) (λ i d h. grind (arith, places))
spread xs ys zs c room more is small (inr none) =
    ap (λ k. xs ++ (ys ++ replicate k 0) ++ zs) none
    ∙ ap (λ v. xs ++ v ++ zs) (append-nil ys)
    ∙ is
    ∙ ap (λ k. c ++ replicate (k - length c) 0) (let e : room ≡ room + more = omega (arith, none) in e)

-- data placed in blocks in the middle are placed in the bytes that all hold
pub spread-placed : (xs ys zs c bs bytes : List ℕ) (k room more offset : ℕ) → length xs ≡ k → xs ++ ys ++ zs ≡ c ++ replicate (room - length c) 0 → length c ≤ room → (zs ≡ []) ⊎ (more ≡ 0)
    → k ≤ offset → offset - k + length bs ≤ length ys + more → offset + length bs ≤ room + more → bytes ≡ with_data (ys ++ replicate more 0) (offset - k) bs
    → xs ++ bytes ++ zs ≡ placed c offset bs ++ replicate (room + more - length (placed c offset bs)) 0
spread-placed xs ys zs c bs bytes k room more offset whole is small last from fits ends are =
    ap (λ v. xs ++ v ++ zs) are
    ∙ with_data-middle xs (ys ++ replicate more 0) zs bs k (offset - k) whole (subst (λ n. offset - k + length bs ≤ n) (sym (length-append ys (replicate more 0) ∙ ap (λ n. length ys + n) (length-replicate {A = ℕ} more 0))) fits)
    ∙ ap (λ v. with_data v (k + (offset - k)) bs) (spread xs ys zs c room more is small last)
    ∙ ap (λ o. with_data (c ++ replicate (room + more - length c) 0) o bs) (let e : k + (offset - k) ≡ offset = omega (arith, from) in e)
    ∙ with_data-placed (room + more) c offset bs (omega (arith, small)) ends
    ∙ ap (λ n. placed c offset bs ++ replicate (room + more - n) 0) (sym (length-placed c offset bs))
