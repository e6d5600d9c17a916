-- Groups that are read one after another over a caller's own.
use Rattle.std.proofs.Common.{◌≡◌, ℕ, zero, suc, ◌+◌, ◌-◌, ◌<◌, ◌≤◌, List, [], ◌∷◌, ◌++◌, length, take, Option, Some, None, refl, sym, ap, ◌∙◌, append_assoc, append-nil, arith}
use Rattle.std.specs.Prelude.{replicate, set}
use Rattle.std.proofs.lemmas.List.{length-append, set_at, take_at}
use Rattle.journal_xdr.specs.Items.{◌>>=◌}
use Rattle.journal_xdr.specs.Basic.{word}
use Rattle.journal_xdr.specs.Lists.{read_run}

-- what was read after other values
abbrev pub after : List ℕ → Option (List ℕ × List ℕ) → Option (List ℕ × List ℕ)
after xs None = None
after xs (Some p) = Some (xs ++ p.0, p.1)

after-after : (xs ys : List ℕ) (o : Option (List ℕ × List ℕ)) → after xs (after ys o) ≡ after (xs ++ ys) o
after-after xs ys None = refl
after-after xs ys (Some p) = ap (λ (l : List ℕ). Some (l, p.1)) (sym (append_assoc xs ys p.0))

after-one : (x : ℕ) (o : Option (List ℕ × List ℕ)) → (o >>= λ xs. Some (x ∷ xs.0, xs.1)) ≡ after (x ∷ []) o
after-one x None = refl
after-one x (Some p) = refl

-- Some of the groups were read: they stand in front, and the caller's own in the rest
pub record Reading (own count at : ℕ) (first now groups : List ℕ) : Type 0 where
  pub gids : List ℕ
  pub long : length gids ≡ at
  pub all : groups ≡ gids ++ replicate (16 - at) own
  pub so_far : read_run word count first ≡ after gids (read_run word (count - at) now)

module _ (own count at : ℕ) (first now groups : List ℕ) (few : count ≤ 16) (more : at < count) (r : Reading own count at first now groups) where
  left : count - at ≡ suc (count - (at + 1))
  left = omega (arith, more)

  pub goes_on : (x : ℕ) (next : List ℕ) → word.reading now ≡ Some (x, next) → Reading own count (at + 1) first next (set groups at x)
  goes_on x next read =
      let rest = replicate (16 - (at + 1)) own in
      let room : 16 - at ≡ suc (16 - (at + 1)) = omega (arith, few, more) in
      let whole : groups ≡ r.gids ++ own ∷ rest = r.all ∙ ap (λ n. r.gids ++ replicate n own) room in
      let here : read_run word (count - at) now ≡ after (x ∷ []) (read_run word (count - (at + 1)) next) =
      ap (λ n. read_run word n now) left ∙ ap (λ (o : Option (ℕ × List ℕ)). o >>= λ x. read_run word (count - (at + 1)) x.1 >>= λ xs. Some (x.0 ∷ xs.0, xs.1)) read ∙ after-one x (read_run word (count - (at + 1)) next) in
      record {
        gids = r.gids ++ x ∷ [];
        long = omega (arith, length-append r.gids (x ∷ []), r.long);
        all = ap (λ (l : List ℕ). set l at x) whole ∙ set_at r.gids own rest x at r.long ∙ sym (append_assoc r.gids (x ∷ []) rest);
        so_far = r.so_far ∙ ap (after r.gids) here ∙ after-after r.gids (x ∷ []) (read_run word (count - (at + 1)) next);
      }

  pub is_cut : word.reading now ≡ None → read_run word count first ≡ None
  is_cut none =
      r.so_far ∙ ap (after r.gids) (ap (λ n. read_run word n now) left ∙ ap (λ (o : Option (ℕ × List ℕ)). o >>= λ x. read_run word (count - (at + 1)) x.1 >>= λ xs. Some (x.0 ∷ xs.0, xs.1)) none)

module _ (own count : ℕ) (first now groups : List ℕ) (few : count ≤ 16) (r : Reading own count count first now groups) where
  pub are_taken : take count groups ≡ r.gids
  are_taken = ap (take count) r.all ∙ take_at r.gids (replicate (16 - count) own) count r.long

  pub is_read : read_run word count first ≡ Some (take count groups, now)
  is_read =
      let none : count - count ≡ zero = omega arith in
      r.so_far ∙ ap (λ n. after r.gids (read_run word n now)) none ∙ ap (λ (l : List ℕ). Some (l, now)) (append-nil r.gids ∙ sym are_taken)

  pub is_filled : groups ≡ take count groups ++ replicate (16 - length (take count groups)) own
  is_filled = rw are_taken (rw r.long r.all)
