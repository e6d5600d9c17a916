-- Lists of values that are read and written one by one.
use Rattle.std.proofs.Common.{◌≡◌, ℕ, zero, suc, ◌+◌, ◌-◌, ◌<◌, ◌≤◌, Bool, true, false, ◌&&◌, IsTrue, List, [], ◌∷◌, ◌++◌, length, Option, Some, None, refl, sym, ap, subst, ◌∙◌, append_assoc, arith, rules}
use Rattle.std.specs.List.{flat_map, list_all, AllByRecursion}
use Rattle.std.proofs.lemmas.List.{append-nil}
use Rattle.journal_xdr.specs.Items.{Item, ◌>>=◌, such_that, Spelled, IsGrammar, AddsItem}
use Rattle.journal_xdr.specs.ItemLaws.{bind_some, some_is, tagged_laws, such_that_laws}
use Rattle.journal_xdr.specs.Basic.{word}
use Rattle.journal_xdr.specs.BasicLaws.{word_laws}
use Rattle.journal_records.specs.Arrays.{read_several, several, array}

-- ---- reading one by one

-- what was read before is in front of what is read
abbrev pub joined : {T : Type 0} → List T → Option (List T × List ℕ) → Option (List T × List ℕ)
joined done found = found >>= λ x. Some (done ++ x.0, x.1)

abbrev pair_of : {T : Type 0} → List T → List ℕ → Option (List T × List ℕ)
pair_of xs bytes = Some (xs, bytes)

-- one more is read
pub joined_more : {T : Type 0} (done : List T) (n : ℕ) (a : Item T) (bytes rest : List ℕ) (x : T) → a.reading bytes ≡ Some (x, rest)
    → joined done (read_several (suc n) a bytes) ≡ joined (done ++ x ∷ []) (read_several n a rest)
joined_more {T} done n a bytes rest x is =
    ap (λ (o : Option (T × List ℕ)). joined done (o >>= λ y. read_several n a y.1 >>= λ more. Some (y.0 ∷ more.0, more.1))) is ∙ at (read_several n a rest)
  where
    at : (found : Option (List T × List ℕ)) → joined done (found >>= λ more. Some (x ∷ more.0, more.1)) ≡ joined (done ++ x ∷ []) found
    at None = refl
    at (Some more) = ap (λ xs. pair_of xs more.1) (sym (append_assoc done (x ∷ []) more.0))

-- the next is none
pub joined_fault : {T : Type 0} (done : List T) (n : ℕ) (a : Item T) (bytes : List ℕ) → a.reading bytes ≡ None → joined done (read_several (suc n) a bytes) ≡ None
joined_fault {T} done n a bytes is = ap (λ (o : Option (T × List ℕ)). joined done (o >>= λ y. read_several n a y.1 >>= λ more. Some (y.0 ∷ more.0, more.1))) is

-- the same where some of count were read
pub next_read : {T : Type 0} (done : List T) (count i : ℕ) (a : Item T) (first bytes rest : List ℕ) (x : T) → i < count
    → read_several count a first ≡ joined done (read_several (count - i) a bytes) → a.reading bytes ≡ Some (x, rest)
    → read_several count a first ≡ joined (done ++ x ∷ []) (read_several (count - (i + 1)) a rest)
next_read done count i a first bytes rest x low before is =
    before ∙ ap (λ n. joined done (read_several n a bytes)) (let e : count - i ≡ suc (count - (i + 1)) = omega (arith, low) in e) ∙ joined_more done (count - (i + 1)) a bytes rest x is

pub next_fault : {T : Type 0} (done : List T) (count i : ℕ) (a : Item T) (first bytes : List ℕ) → i < count
    → read_several count a first ≡ joined done (read_several (count - i) a bytes) → a.reading bytes ≡ None → read_several count a first ≡ None
next_fault done count i a first bytes low before is =
    before ∙ ap (λ n. joined done (read_several n a bytes)) (let e : count - i ≡ suc (count - (i + 1)) = omega (arith, low) in e) ∙ joined_fault done (count - (i + 1)) a bytes is

pub all_read : {T : Type 0} (done : List T) (count i : ℕ) (a : Item T) (first bytes : List ℕ) → count ≤ i
    → read_several count a first ≡ joined done (read_several (count - i) a bytes) → read_several count a first ≡ Some (done, bytes)
all_read done count i a first bytes all before =
    before ∙ ap (λ n. joined done (read_several n a bytes)) (let e : count - i ≡ 0 = omega (arith, all) in e) ∙ ap (λ xs. pair_of xs bytes) (append-nil done)

pub several_none : {T : Type 0} (n : ℕ) (a : Item T) (bytes : List ℕ) → read_several n a bytes ≡ None → (several n a).reading bytes ≡ None
unfolding several
several_none n a bytes none = none

pub several_some : {T : Type 0} (n : ℕ) (a : Item T) (bytes : List ℕ) (xs : List T) (rest : List ℕ) → read_several n a bytes ≡ Some (xs, rest) → (several n a).reading bytes ≡ Some (xs, rest)
unfolding several
several_some n a bytes xs rest some = some

-- ---- the laws

several_takes : {T : Type 0} (a : Item T) → IsGrammar a → (n : ℕ) (bytes : List ℕ) (x : List T × List ℕ) → read_several n a bytes ≡ Some x → Spelled (several n a) bytes x.0 x.1
unfolding several
several_takes {T} a laws zero bytes x e =
    subst (λ (y : List T × List ℕ). Spelled (several 0 a) bytes y.0 y.1) (some_is ([], bytes) x e) (record { has = (refl, tt); parts = refl })
several_takes {T} a laws (suc n) bytes x e =
    let p = bind_some (a.reading bytes) (λ y. read_several n a y.1 >>= λ more. Some (y.0 ∷ more.0, more.1)) x e in
    let q = bind_some (read_several n a p.0.1) (λ more. Some (p.0.0 ∷ more.0, more.1)) x p.2 in
    let s = laws.takes bytes p.0 p.1 in
    let t = several_takes a laws n p.0.1 q.0 q.1 in
    subst (λ (y : List T × List ℕ). Spelled (several (suc n) a) bytes y.0 y.1) (some_is (p.0.0 ∷ q.0.0, q.0.1) x q.2)
    (record {
      has = (ap (λ k. suc k) t.has.0, (s.has, t.has.1));
      parts = s.parts ∙ ap (λ (r : List ℕ). a.spelling p.0.0 ++ r) t.parts ∙ sym (append_assoc (a.spelling p.0.0) (flat_map a.spelling q.0.0) q.0.1);
    })

several_again : {T : Type 0} (a : Item T) → IsGrammar a → (xs : List T) (rest : List ℕ) → AllByRecursion a.Has xs → read_several (length xs) a (flat_map a.spelling xs ++ rest) ≡ Some (xs, rest)
several_again a laws [] rest all = refl
several_again {T} a laws (x ∷ xs) rest all =
    ap (λ (o : Option (T × List ℕ)). o >>= λ y. read_several (length xs) a y.1 >>= λ more. Some (y.0 ∷ more.0, more.1))
    (ap a.reading (append_assoc (a.spelling x) (flat_map a.spelling xs) rest) ∙ laws.again x (flat_map a.spelling xs ++ rest) all.0)
    ∙ ap (λ (o : Option (List T × List ℕ)). o >>= λ more. Some (x ∷ more.0, more.1)) (several_again a laws xs rest all.1)

pub several_laws : {T : Type 0} (n : ℕ) (a : Item T) → IsGrammar a → IsGrammar (several n a)
unfolding several
several_laws n a laws = record {
  takes = several_takes a laws n;
  again = λ xs rest has. ap (λ k. read_several k a (flat_map a.spelling xs ++ rest)) (sym has.0) ∙ several_again a laws xs rest has.1;
}

several_count : {T : Type 0} (a : Item T) (n : ℕ) (xs : List T) → (several n a).Has xs → length xs ≡ n
unfolding several
several_count a n xs has = has.0

pub array_laws : {T : Type 0} (limit : ℕ) (a : Item T) → IsGrammar a → IsGrammar (array limit a)
unfolding array
array_laws limit a laws = tagged_laws (such_that _ word) (λ n. several n a) length (such_that_laws _ word word_laws) (λ n. several_laws n a laws) (several_count a)

-- ---- values that are short

and_both : (b c : Bool) → b ≡ true → c ≡ true → (b && c) ≡ true
and_both true c is more = more
and_both false c is more = absurd cc

all_short : {T : Type 0} (a : Item T) (is_short : T → Bool) → ((x : T) → a.Has x → IsTrue (is_short x)) → (xs : List T) → AllByRecursion a.Has xs → list_all is_short xs ≡ true
all_short a is_short law [] all = refl
all_short a is_short law (x ∷ xs) all = and_both (is_short x) (list_all is_short xs) (law x all.0) (all_short a is_short law xs all.1)

-- a list that the item has is few short values
pub has_few : {T : Type 0} (limit : ℕ) (a : Item T) (is_short : T → Bool) → ((x : T) → a.Has x → IsTrue (is_short x)) → (xs : List T) → (array limit a).Has xs
    → (length xs ≤ limit) × (list_all is_short xs ≡ true)
unfolding array several
has_few limit a is_short law xs has = (let le : length xs ≤ limit = search (rules, has.0.1) in le, all_short a is_short law xs has.1.1)

-- ---- writing one by one

pub adds_several : {T : Type 0} (a : Item T) (xs : List T) (old new : List ℕ) → new ≡ old ++ flat_map a.spelling xs → AllByRecursion a.Has xs → AddsItem (several (length xs) a) xs old new
unfolding several
adds_several a xs old new is all = record { has = (refl, all); parts = is }
