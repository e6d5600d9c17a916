-- Which entries are at the homes of their nodes, and where the second ones are.
use Rattle.std.proofs.Common.{ℕ, zero, suc, ◌≡◌, ◌≢◌, ◌<◌, ◌≤◌, ◌==◌, List, cond, if◌then◌else◌, Option, Some, None, refl, sym, ap, subst, ◌⊎◌, inl, inr, ◌∙◌, arith}
use Rattle.std.proofs.lemmas.Bool.{cases_eq, cases_lt, eq-eqb, ne_eqb}
use Rattle.journal_tree.specs.Trees.{Home}
use Rattle.journal_treestore.specs.Levels.{level_block, IsBlockFor}
use Rattle.journal_treestore.specs.Levels.IsBlockFor.{any_name, in_level}
use Rattle.journal_treestore.specs.Views.{View, entry_at, homes}
use Rattle.journal_treestore.proofs.Leveling.{not-for}
use Rattle.journal_treerule.specs.Directories.{own_entries}
use Rattle.journal_treerule.specs.Walks.{named_number, own_number, number_at}

-- ── numbers at homes ──

-- The entry at the home of a node of this number
pub record IsOwnNumber (V : View) (d place n : ℕ) : Type 0 where
  pub number : (entry_at V d place).number ≡ n
  pub some : n ≢ 0
  pub home : Home
  pub is : homes V n ≡ Some home
  pub at : home.place ≡ place

named-some : (n k : ℕ) → named_number n ≡ Some k → (n ≡ k) × (n ≢ 0)
named-some n k is = by (cases_eq n 0)
  where
    by : (n ≡ 0) ⊎ (n ≡ 0 → ⊥) → (n ≡ k) × (n ≢ 0)
    by (inl none) = absurd (let e : None ≡ Some k = sym (ap (λ b. cond b None (Some n)) (eq-eqb n 0 none)) ∙ is in cc)
    by (inr some) = let e : Some n ≡ Some k = sym (ap (λ b. cond b None (Some n)) (ne_eqb n 0 some)) ∙ is in (cc, some)

pub own-number : (V : View) (d place n : ℕ) → number_at V d place ≡ Some n → IsOwnNumber V d place n
own-number V d place n is = by (homes V k) refl is
  where
    k : ℕ
    k = (entry_at V d place).number

    by_place : (home : Home) → homes V k ≡ Some home → own_number k (Some home) place ≡ Some n → (home.place ≡ place) ⊎ (home.place ≡ place → ⊥) → IsOwnNumber V d place n
    by_place home there stands (inl at) =
        let number = named-some k n (sym (ap (λ b. cond b (named_number k) None) (eq-eqb home.place place at)) ∙ stands) in
        record { number = number.0; some = λ e. number.1 (number.0 ∙ e); home = home; is = ap (homes V) (sym number.0) ∙ there; at = at }
    by_place home there stands (inr other) = absurd (let e : None ≡ Some n = sym (ap (λ b. cond b (named_number k) None) (ne_eqb home.place place other)) ∙ stands in cc)

    by : (o : Option Home) → homes V k ≡ o → own_number k o place ≡ Some n → IsOwnNumber V d place n
    by None there stands = absurd (let e : None ≡ Some n = stands in cc)
    by (Some home) there stands = by_place home there stands (cases_eq home.place place)

-- and the other way round
pub own-at : (V : View) (d place : ℕ) (name : List ℕ) → own_entries V d place name → number_at V d place ≡ Some (entry_at V d place).number
own-at V d place name own =
    ap (λ o. own_number k o place) own.names.is
    ∙ ap (λ b. cond b (named_number k) None) (eq-eqb own.names.home.place place own.at)
    ∙ ap (λ b. cond b None (Some k)) (ne_eqb k 0 own.names.some)
  where
    k : ℕ
    k = (entry_at V d place).number

-- ── second entries ──

-- the last of the first places, other than this one, at which the directory has an entry of the
-- number
unfoldable pub find_second : View → ℕ → ℕ → ℕ → ℕ → Option ℕ
find_second V d n home zero = None
find_second V d n home (suc k) = if (entry_at V d k).number == n then (if k == home then find_second V d n home k else Some k) else find_second V d n home k

-- where the second entry of a node is
abbrev second_by : View → ℕ → Option Home → Option ℕ
second_by V n None = None
second_by V n (Some home) = find_second V home.directory n home.place 198656

unfoldable pub second_at : View → ℕ → Option ℕ
second_at V n = second_by V n (homes V n)

pub second-is : (V : View) (n : ℕ) (home : Home) → homes V n ≡ Some home → second_at V n ≡ find_second V home.directory n home.place 198656
unfolding second_at
second-is V n home is = ap (second_by V n) is

-- The directory has a further entry of the number at this place
pub record IsFound (V : View) (d n home to p : ℕ) : Type 0 where
  pub low : p < to
  pub number : (entry_at V d p).number ≡ n
  pub apart : p ≢ home

module _ (V : View) (d n home : ℕ) where
  -- one more place
  find-here : (k : ℕ) → (entry_at V d k).number ≡ n → k ≢ home → find_second V d n home (suc k) ≡ Some k
  unfolding find_second
  find-here k is other =
      ap (λ b. cond b (cond (k == home) (find_second V d n home k) (Some k)) (find_second V d n home k)) (eq-eqb (entry_at V d k).number n is)
      ∙ ap (λ b. cond b (find_second V d n home k) (Some k)) (ne_eqb k home other)

  find-home : (k : ℕ) → (entry_at V d k).number ≡ n → k ≡ home → find_second V d n home (suc k) ≡ find_second V d n home k
  unfolding find_second
  find-home k is at =
      ap (λ b. cond b (cond (k == home) (find_second V d n home k) (Some k)) (find_second V d n home k)) (eq-eqb (entry_at V d k).number n is)
      ∙ ap (λ b. cond b (find_second V d n home k) (Some k)) (eq-eqb k home at)

  find-other : (k : ℕ) → ((entry_at V d k).number ≢ n) → find_second V d n home (suc k) ≡ find_second V d n home k
  unfolding find_second
  find-other k other = ap (λ b. cond b (cond (k == home) (find_second V d n home k) (Some k)) (find_second V d n home k)) (ne_eqb (entry_at V d k).number n other)

  find-zero : find_second V d n home 0 ≡ None
  unfolding find_second
  find-zero = refl

  -- The kinds of a place
  data Further (k : ℕ) : Type 0 where
    further : (entry_at V d k).number ≡ n → k ≢ home → Further k
    no_further : find_second V d n home (suc k) ≡ find_second V d n home k → ((entry_at V d k).number ≡ n → k ≢ home → ⊥) → Further k

  further-cases : (k : ℕ) → Further k
  further-cases k = by (cases_eq (entry_at V d k).number n) (cases_eq k home)
    where
      by : ((entry_at V d k).number ≡ n) ⊎ ((entry_at V d k).number ≡ n → ⊥) → (k ≡ home) ⊎ (k ≡ home → ⊥) → Further k
      by (inr other) _ = Further.no_further (find-other k other) (λ is apart. other is)
      by (inl is) (inl at) = Further.no_further (find-home k is at) (λ is apart. apart at)
      by (inl is) (inr apart) = Further.further is apart

  pub found-is : (to p : ℕ) → find_second V d n home to ≡ Some p → IsFound V d n home to p
  found-is zero p is = absurd (let e : None ≡ Some p = sym find-zero ∙ is in cc)
  found-is (suc k) p is = by (further-cases k) (found-is k p)
    where
      by : Further k → (find_second V d n home k ≡ Some p → IsFound V d n home k p) → IsFound V d n home (suc k) p
      by (Further.further number apart) before =
          let e : Some k ≡ Some p = sym (find-here k number apart) ∙ is in
          let same : k ≡ p = cc in
          record { low = omega (arith, same); number = ap (λ i. (entry_at V d i).number) (sym same) ∙ number; apart = λ at. apart (same ∙ at) }
      by (Further.no_further rest none) before =
          let f = before (sym rest ∙ is) in
          record { low = let l = f.low in omega (arith, l); number = f.number; apart = f.apart }

  pub found-none : (to : ℕ) → find_second V d n home to ≡ None → (p : ℕ) → p < to → (entry_at V d p).number ≡ n → p ≢ home → ⊥
  found-none zero is p low number apart = absurd (omega (arith, low))
  found-none (suc k) is p low number apart = by (further-cases k) (cases_eq p k) (λ none inside. found-none k none p inside number apart)
    where
      by : Further k → (p ≡ k) ⊎ (p ≡ k → ⊥) → (find_second V d n home k ≡ None → p < k → ⊥) → ⊥
      by (Further.further number_k apart_k) _ _ = let e : None ≡ Some k = sym is ∙ find-here k number_k apart_k in cc
      by (Further.no_further rest none) (inl same) _ = none (ap (λ i. (entry_at V d i).number) (sym same) ∙ number) (λ e. apart (same ∙ e))
      by (Further.no_further rest none) (inr before) not_before = not_before (sym rest ∙ is) (omega (arith, low, before))

  pub found-one : (to p : ℕ) → p < to → (entry_at V d p).number ≡ n → p ≢ home → ((q : ℕ) → q < to → (entry_at V d q).number ≡ n → q ≢ home → q ≡ p) → find_second V d n home to ≡ Some p
  found-one to p low number apart once = by (find_second V d n home to) refl
    where
      by : (o : Option ℕ) → find_second V d n home to ≡ o → find_second V d n home to ≡ Some p
      by None is = absurd (found-none to is p low number apart)
      by (Some q) is = let f = found-is to q is in is ∙ ap Some (once q f.low f.number f.apart)

-- ── blocks for a name ──

pub cases_block : (tag j : ℕ) → IsBlockFor tag j ⊎ (IsBlockFor tag j → ⊥)
cases_block tag j = by (cases_lt j 48) (cases_eq (level_block tag 0) j) (cases_eq (level_block tag 1) j) (cases_eq (level_block tag 2) j) (cases_eq (level_block tag 3) j)
  where
    none : ((level_block tag 0 ≡ j) → ⊥) → ((level_block tag 1 ≡ j) → ⊥) → ((level_block tag 2 ≡ j) → ⊥) → ((level_block tag 3 ≡ j) → ⊥) → (l : ℕ) → l < 4 → level_block tag l ≡ j → ⊥
    none a b c d zero low = a
    none a b c d (suc zero) low = b
    none a b c d (suc (suc zero)) low = c
    none a b c d (suc (suc (suc zero))) low = d
    none a b c d (suc (suc (suc (suc l)))) low = absurd (omega (arith, low))

    by : (j < 48) ⊎ (48 ≤ j) → (level_block tag 0 ≡ j) ⊎ (level_block tag 0 ≡ j → ⊥) → (level_block tag 1 ≡ j) ⊎ (level_block tag 1 ≡ j → ⊥) → (level_block tag 2 ≡ j) ⊎ (level_block tag 2 ≡ j → ⊥)
        → (level_block tag 3 ≡ j) ⊎ (level_block tag 3 ≡ j → ⊥) → IsBlockFor tag j ⊎ (IsBlockFor tag j → ⊥)
    by (inl low) _ _ _ _ = inl (any_name low)
    by _ (inl is) _ _ _ = inl (in_level 0 (omega arith) (sym is))
    by _ _ (inl is) _ _ = inl (in_level 1 (omega arith) (sym is))
    by _ _ _ (inl is) _ = inl (in_level 2 (omega arith) (sym is))
    by _ _ _ _ (inl is) = inl (in_level 3 (omega arith) (sym is))
    by (inr past) (inr a) (inr b) (inr c) (inr d) = inr (not-for tag j past (none a b c d))
